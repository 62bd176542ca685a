use Rattle.std.proofs.Common.{◌≡◌, ℕ, ◌+◌, suc, List, ◌∷◌, length, drop, sym, ap, ◌∙◌, drop-cons}
use Rattle.script_lines.specs.declared.lines.Line.{Line}
use Rattle.script_asks.specs.Plays as plays
use Rattle.script_play.specs.Crews.{crew_meant}
use Rattle.script_play.specs.Along.{after_client_lines, histories}
use Rattle.script_play.specs.View.{playing}
use Rattle.script_play.proofs.Along.{next-block, blocks-on, client-on, client-part}
use Rattle.script_play.proofs.Fronts.{client-front, on_err}
use Rattle.script_play.proofs.blocks.play_clients.Goals as goal

-- the ears have all of a beginning of this block, and so of all blocks
pub returns-in_err-play_client-clause-front : goal.returns-in_err-play_client-clause-front
returns-in_err-play_client-clause-front g c =
    let blocks = c.as_slice-blocks.result.now in
    let rest : List (List Line) = drop (suc c.loop-block.block-index) blocks in
    let left : drop c.loop-block.block-index blocks ≡ c.block-item.result ∷ rest =
    drop-cons blocks c.loop-block.block-index c.block-item.result c.loop-block-test.true ∙ ap (λ (x : List Line). x ∷ rest) (sym c.block-item.is) in
    let who : crew_meant c.crew_of.result ≡ plays.crew_of (length c.args.script.now.clients) c.loop-block.number = cc in
    on_err c.from_residual.result _ (client-front g.B.Callback.counted g.B.Callback.told c.args.script.now c.args.names.now c.args.player.now c.loop-block.player c.loop-block.number (crew_meant c.crew_of.result)
    (drop c.loop-block.block-index blocks) c.block-item.result rest c.play_client.new.ears who left c.loop-block.invariant.played c.loop-block.invariant.config c.loop-block.invariant.start c.in_err-play_client.ensures.front)

-- so along the lines of one block more
pub loop-block-preserved : goal.loop-block-preserved
loop-block-preserved g c =
    let s = c.args.script.now in
    let first = c.args.player.now in
    let old = c.loop-block.player in
    let new = c.play_client.new.player in
    let before = c.loop-block.invariant in
    let goes = c.in_ok-play_client.ensures.played in
    let blocks = c.as_slice-blocks.result.now in
    let rest : List (List Line) = drop (c.loop-block.block-index + 1) blocks in
    let left : drop c.loop-block.block-index blocks ≡ c.block-item.result ∷ rest =
    next-block blocks c.loop-block.block-index c.block-item.result
    (drop-cons blocks c.loop-block.block-index c.block-item.result c.loop-block-test.true ∙ ap (λ (x : List Line). x ∷ drop (suc c.loop-block.block-index) blocks) (sym c.block-item.is)) in
    let who : crew_meant c.crew_of.result ≡ plays.crew_of (length s.clients) c.loop-block.number = cc in
    let on = blocks-on g.B.Callback.counted g.B.Callback.told s c.args.names.now c.loop-block.number (crew_meant c.crew_of.result) first old new (drop c.loop-block.block-index blocks) c.block-item.result rest who left
    before.played before.config before.start goes in
    record {
      played = on.played;
      number = ap (λ (k : ℕ). k + 1) before.number;
      config = on.config;
      start = on.start;
      noted = on.noted;
      current = c.in_ok-play_client.ensures.current;
      begun = c.in_ok-play_client.ensures.begun ∙ before.begun;
      along = client-on g.B.Callback.counted g.B.Callback.told first.start first.ledger.config s c.args.names.now (histories first.start.entries (after_client_lines s c.args.names.now 1 (playing first) s.clients)) old c.loop-block.number
          (crew_meant c.crew_of.result) (drop c.loop-block.block-index blocks) c.block-item.result rest c.args.ears.now c.loop-block.ears c.play_client.new.ears who left before.along new before.start before.config goes
          c.in_ok-play_client.ensures.along;
    }

pub returns-in_err-play_client-clause-part : goal.returns-in_err-play_client-clause-part
returns-in_err-play_client-clause-part g c =
    let s = c.args.script.now in
    let first = c.args.player.now in
    let old = c.loop-block.player in
    let before = c.loop-block.invariant in
    let blocks = c.as_slice-blocks.result.now in
    let rest : List (List Line) = drop (suc c.loop-block.block-index) blocks in
    let left : drop c.loop-block.block-index blocks ≡ c.block-item.result ∷ rest =
    drop-cons blocks c.loop-block.block-index c.block-item.result c.loop-block-test.true ∙ ap (λ (x : List Line). x ∷ rest) (sym c.block-item.is) in
    let who : crew_meant c.crew_of.result ≡ plays.crew_of (length s.clients) c.loop-block.number = cc in
    on_err c.from_residual.result _ (client-part g.B.Callback.counted g.B.Callback.told first.start first.ledger.config s c.args.names.now (histories first.start.entries (after_client_lines s c.args.names.now 1 (playing first) s.clients)) old
    c.loop-block.number (crew_meant c.crew_of.result) (drop c.loop-block.block-index blocks) c.block-item.result rest c.args.ears.now c.loop-block.ears c.play_client.new.ears who left before.along before.start before.config
    c.in_err-play_client.ensures.part)
