use Rattle.std.proofs.Common.{◌≡◌, ℕ, ◌+◌, ◌<◌, ◌∷◌, drop, get_or, sym, subst, ◌∙◌}
use Rattle.std.proofs.lemmas.List.{drop_more}
use Rattle.script_lines.specs.declared.lines.Line.{Line}
use Rattle.script_lines.specs.declared.lines.Line.TheVariants as line
use Rattle.script_asks.specs.Plays as plays
use Rattle.script_play.specs.Along.{after_lines, histories}
use Rattle.script_play.specs.Crews.{crew_meant}
use Rattle.script_play.proofs.Fronts.{lines-front, on_err}
use Rattle.script_play.specs.Callbacks.{AreBehind}
use Rattle.script_play.specs.View.{Start, playing}
use Rattle.script_play.proofs.Along.{line-on, to-part}
use Rattle.script_play.proofs.Handing.{goes-on, leads-on, registered-before}
use Rattle.script_play.proofs.blocks.play_lines.Goals as goal

-- the ears are behind by this line alone
pub hear-requires : goal.hear-requires
hear-requires g c =
    let old = c.loop-place.player in
    let before = c.loop-place.invariant in
    let counts = c.counts-before in
    let ls = c.args.block.now in
    let l : Line = get_or ls c.loop-place.place line.Register in
    let next : drop c.loop-place.place ls ≡ l ∷ drop (c.loop-place.place + 1) ls = drop_more ls c.loop-place.place line.Register (subst (λ (n : ℕ). c.loop-place.place < n) c.len-place-end.ensures c.loop-place-test.true) in
    let goes = c.in_ok-play_at.ensures l (drop (c.loop-place.place + 1) ls) next in
    subst (λ (start : Start). AreBehind g.B.Callback.counted g.B.Callback.told start.callbacks counts.result.entries counts.result.changes c.play_at.new.player.ledger c.loop-place.ears) (sym goes.start)
    (record {
      before = old.ledger;
      current = before.current;
      registered = registered-before old.ledger old.start old.attempts counts.ensures.legal before.noted;
      goes = goes-on c.args.script.now (crew_meant c.args.crew) old c.play_at.new.player l before.noted goes;
      entries_are = counts.ensures.entries;
      changes_are = counts.ensures.changes;
    })

pub loop-place-preserved : goal.loop-place-preserved
loop-place-preserved g c =
    let first = c.args.player.now in
    let s = c.args.script.now in
    let crew : plays.Crew = crew_meant c.args.crew in
    let ls = c.args.block.now in
    let l : Line = get_or ls c.loop-place.place line.Register in
    let next : drop c.loop-place.place ls ≡ l ∷ drop (c.loop-place.place + 1) ls = drop_more ls c.loop-place.place line.Register (subst (λ (n : ℕ). c.loop-place.place < n) c.len-place-end.ensures c.loop-place-test.true) in
    let goes = c.in_ok-play_at.ensures l (drop (c.loop-place.place + 1) ls) next in
    let leads = leads-on s crew first c.loop-place.player c.play_at.new.player ls c.loop-place.place l next c.loop-place.invariant.played c.loop-place.invariant.config c.loop-place.invariant.start goes in
    record {
      played = leads.played;
      config = leads.config;
      start = leads.start;
      noted = leads.noted;
      current = c.hear.ensures.current;
      begun = c.hear.ensures.begun ∙ c.loop-place.invariant.begun;
      along = line-on g.B.Callback.counted g.B.Callback.told first.start first.ledger.config s crew (histories first.start.entries (after_lines s crew (playing first) ls)) c.loop-place.player c.play_at.new.player ls
          c.loop-place.place l c.args.ears.now c.loop-place.ears c.hear.new.ears next leads.config leads.start goes c.loop-place.invariant.along
          c.hear.ensures.begun c.hear.ensures.further c.hear.ensures.current;
    }

-- the ears have all of the lines before this one
pub returns-in_err-play_at-clause-front : goal.returns-in_err-play_at-clause-front
returns-in_err-play_at-clause-front g c =
    let before = c.loop-place.invariant in
    on_err c.from_residual.result _ (lines-front g.B.Callback.counted g.B.Callback.told c.args.script.now (crew_meant c.args.crew) c.args.player.now c.loop-place.player c.args.block.now (drop c.loop-place.place c.args.block.now) c.loop-place.ears
    before.played before.config before.start before.noted before.current)

pub returns-in_err-play_at-clause-part : goal.returns-in_err-play_at-clause-part
returns-in_err-play_at-clause-part g c =
    let first = c.args.player.now in
    let s = c.args.script.now in
    let crew : plays.Crew = crew_meant c.args.crew in
    on_err c.from_residual.result _ (to-part g.B.Callback.counted g.B.Callback.told first.start.callbacks first.ledger.config (histories first.start.entries (after_lines s crew (playing first) c.args.block.now))
    (histories first.start.entries (after_lines s crew (playing c.loop-place.player) (drop c.loop-place.place c.args.block.now))) c.args.ears.now c.loop-place.ears c.loop-place.invariant.along)
