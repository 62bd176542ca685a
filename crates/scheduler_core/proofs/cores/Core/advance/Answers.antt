use Rattle.std.proofs.Common.{◌∙◌, ap}
use Rattle.drmaa_model.specs.Size.{weight}
use Rattle.drmaa_model.specs.Time.{advance_plan}
use Rattle.scheduler_core.specs.View.{View}
use Rattle.scheduler_core.proofs.cores.Core.advance.Goals as goal

pub returns-clause-plan : goal.returns-clause-plan
returns-clause-plan c = c.pass_time.ensures.plan ∙ ap (λ (v : View). advance_plan c.args.entry c.args.at v.plan) c.self.view_is

pub returns-clause-size : goal.returns-clause-size
returns-clause-size c = c.pass_time.ensures.size ∙ ap (λ (v : View). weight v.plan) c.self.view_is
