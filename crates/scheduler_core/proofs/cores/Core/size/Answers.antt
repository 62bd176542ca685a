use Rattle.std.proofs.Common.{subst}
use Rattle.drmaa_model.specs.Fit.{IsFit}
use Rattle.scheduler_core.specs.View.{View}
use Rattle.scheduler_core.proofs.cores.Core.size.Goals as goal

pub returns-clause-fit : goal.returns-clause-fit
returns-clause-fit c = subst (λ (v : View). IsFit v.plan) c.self.view_is c.self.invariant.fit
