use Rattle.std.proofs.Common.{length, sym, subst, ◌∙◌}
use Rattle.std.proofs.lemmas.Result.{on_err_weaker, on_ok_weaker}
use Rattle.script_text.specs.Follows.{lines_of}
use Rattle.script_asks.specs.Plays as plays
use Rattle.script_play.specs.View.{playing}
use Rattle.script_play.proofs.Along.{setup-part, setup-whole, blocks-along, blocks-part}
use Rattle.script_play.proofs.Fronts.{Begins, clients-begin, front-of, front-on, on_err}
use Rattle.script_play.proofs.blocks.play_blocks.Goals as goal

-- what the setup block makes is a beginning of all
pub returns-in_err-play_setup-clause-front : goal.returns-in_err-play_setup-clause-front
returns-in_err-play_setup-clause-front g c =
    let s = c.args.script.now in
    let first : plays.Playing = plays.play_lines s (plays.crew_of (length s.clients) 0) (playing c.args.player.now) (lines_of s.setup) in
    on_err c.from_residual.result _ (front-on g.B.Callback.counted g.B.Callback.told c.args.player.now.ledger.config c.args.player.now.start first.entries (plays.play_clients s first.names 1 first s.clients).entries c.play_setup.new.ears
    c.in_err-play_setup.ensures.front (clients-begin s first.names 1 first s.clients))

pub returns-in_err-names-clause-front : goal.returns-in_err-names-clause-front
returns-in_err-names-clause-front g c =
    let s = c.args.script.now in
    let first : plays.Playing = plays.play_lines s (plays.crew_of (length s.clients) 0) (playing c.args.player.now) (lines_of s.setup) in
    let all : plays.Playing = plays.play_clients s first.names 1 first s.clients in
    let setup = c.in_ok-play_setup.ensures in
    on_err c.from_residual-in_err-names.result _ (front-of g.B.Callback.counted g.B.Callback.told c.play_setup.new.player c.args.player.now.ledger.config c.args.player.now.start all.entries c.play_setup.new.ears setup.played.noted setup.current setup.played.config setup.played.start
    (subst (λ (p : plays.Playing). Begins p.entries all.entries) (sym setup.played.played) (clients-begin s first.names 1 first s.clients)))

pub returns-in_err-play_setup-clause-part : goal.returns-in_err-play_setup-clause-part
returns-in_err-play_setup-clause-part g c =
    let first = c.args.player.now in
    on_err c.from_residual.result _ (setup-part g.B.Callback.counted g.B.Callback.told first.start.callbacks first.ledger.config first.start.entries c.args.script.now (playing first) c.args.ears.now c.play_setup.new.ears
    c.in_err-play_setup.ensures.part)

pub returns-in_err-names-clause-part : goal.returns-in_err-names-clause-part
returns-in_err-names-clause-part g c =
    let first = c.args.player.now in
    on_err c.from_residual-in_err-names.result _ (setup-whole g.B.Callback.counted g.B.Callback.told first.start.callbacks first.ledger.config first.start.entries c.args.script.now (playing first) c.args.ears.now c.play_setup.new.ears
    c.in_ok-play_setup.ensures.along)

pub returns-clause-along : goal.returns-clause-along
returns-clause-along g c =
    let setup = c.in_ok-play_setup.ensures in
    on_ok_weaker c.play_clients.result (blocks-along g.B.Callback.counted g.B.Callback.told c.args.script.now c.args.player.now c.play_setup.new.player c.in_ok-names.names c.args.ears.now c.play_setup.new.ears c.play_clients.new.ears
    setup.played (c.in_ok-names.ensures ∙ c.names.ensures) setup.along) c.play_clients.ensures.along

pub returns-clause-part : goal.returns-clause-part
returns-clause-part g c =
    let setup = c.in_ok-play_setup.ensures in
    on_err_weaker c.play_clients.result (blocks-part g.B.Callback.counted g.B.Callback.told c.args.script.now c.args.player.now c.play_setup.new.player c.in_ok-names.names c.args.ears.now c.play_setup.new.ears c.play_clients.new.ears
    setup.played (c.in_ok-names.ensures ∙ c.names.ensures) setup.along) c.play_clients.ensures.part
