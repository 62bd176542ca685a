use Rattle.std.proofs.Common.{◌≡◌, ap, subst, ◌∙◌}
use Rattle.std.specs.Prelude.{◌↔◌, IsTrue}
use Rattle.drmaa_model.specs.Effects.{not_yet}
use Rattle.drmaa_model.specs.History.{now_of}
use Rattle.drmaa_model.specs.Steps.{answer}
use Rattle.drmaa_model.specs.World.{World}
use Rattle.machine_readings.specs.Stores.{world_of}
use Rattle.drmaa_machine.specs.View.{View}
use Rattle.drmaa_machine.specs.Waits.{call_of}
use Rattle.drmaa_machine.proofs.machines.Machine.must_wait.Goals as goal

pub returns : goal.returns
returns c =
    let now : world_of c.self.inside.store ≡ now_of c.args.self.now.ledger = c.self.invariant.replayed ∙ ap (λ (v : View). now_of v.ledger) c.self.view_is in
    subst (λ (w : World). IsTrue c.must_wait_in.result ↔ (answer w c.args.at (call_of c.args.awaited.now) ≡ not_yet)) now c.must_wait_in.ensures
