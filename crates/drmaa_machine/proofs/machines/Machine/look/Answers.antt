use Rattle.std.proofs.Common.{◌∙◌, ap, subst}
use Rattle.drmaa_model.specs.History.{now_of}
use Rattle.drmaa_model.specs.Time.{advance}
use Rattle.drmaa_model.specs.World.{World}
use Rattle.drmaa_machine.specs.Looks.{IsAnswer}
use Rattle.drmaa_machine.specs.View.{View}
use Rattle.drmaa_machine.proofs.machines.Machine.look.Goals as goal

pub returns : goal.returns
returns c =
    subst (λ (w : World). IsAnswer (advance w c.args.at) w c.args.question c.look_in.result) (c.self.invariant.replayed ∙ ap (λ (v : View). now_of v.ledger) c.self.view_is) c.look_in.ensures
