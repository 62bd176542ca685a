use Rattle.std.proofs.Common.{ℕ, ◌+◌, ◌∙◌, ap}
use Rattle.drmaa_model.specs.History.{now_of}
use Rattle.drmaa_model.specs.Size.{size}
use Rattle.drmaa_model.specs.World.{World}
use Rattle.drmaa_machine.specs.View.{View}
use Rattle.drmaa_machine.proofs.machines.Machine.size.Goals as goal

pub returns : goal.returns
returns c = ap (λ (n : ℕ). c.self.inside.store.entries + n) c.size.ensures.value ∙ ap (λ (w : World). size w) (c.self.invariant.replayed ∙ ap (λ (v : View). now_of v.ledger) c.self.view_is)
