use Rattle.std.proofs.Common.{subst}
use Rattle.call_history.specs.Clients.{seen_of, mine_of}
use Rattle.thread_play.specs.Stages.{PlaysOn}
use Rattle.thread_play.proofs.Blocks.{Names, plays-on, ends-well, ends-early}
use Rattle.thread_play.proofs.workers.play_lines.Goals as goal
use Rattle.thread_play.proofs.workers.play_lines.Goals.{in-Ok-play_block, in-Err}

pub returns-clause-played : goal.returns-clause-played
returns-clause-played g c none =
    let config = c.args.desk.now.shared.now.fixed in
    let s = c.args.script.now in
    let own = mine_of c.play_block.new.desk.client in
    let seen = seen_of c.play_block.new.desk.client in
    let early = g.C.Clock.given c.args.desk.now.clock in
    let given = g.C.Clock.given c.play_block.new.desk.clock in
    let named = c.in-Ok.ensures in
    let on : PlaysOn config s c.in-Ok.names c.args.block.now own seen given c.play_block.result =
    plays-on config s c.in-Ok.names c.args.block.now c.args.desk.now.client c.play_block.new.desk.client early given _ c.play_block.result none c.play_block.ensures.ok c.play_block.ensures.err in
    let here : PlaysOn config s c.args.names.now c.args.block.now own seen given c.play_block.result = subst (λ (n : Names). PlaysOn config s n c.args.block.now own seen given c.play_block.result) named on in
    elim c.match-play_block.branch [
      | in-Ok-play_block w ↦ ends-well Names (Unit {0}) config s c.args.names.now c.args.block.now own seen given c.play_block.result c.match-play_block.result w.in-Ok-play_block.field-0 tt w.in-Ok-play_block.is w.result-is here
      | in-Err w ↦ ends-early Names (Unit {0}) config s c.args.names.now c.args.block.now own seen given c.play_block.result c.match-play_block.result w.in-Err.why w.in-Err.is w.result-is here
    ]
