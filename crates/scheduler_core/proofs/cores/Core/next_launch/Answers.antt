use Rattle.std.proofs.Common.{◌≡◌, ◌∙◌, ap, subst}
use Rattle.std.proofs.lemmas.Result.{IfOk-weaker}
use Rattle.std.specs.Prelude.{IfOk, Option}
use Rattle.std.specs.Option.{option_map}
use Rattle.drmaa_model.specs.Launching.{launch}
use Rattle.drmaa_model.specs.NextLaunch.{next_launch}
use Rattle.drmaa_model.specs.Time.{advance_plan}
use Rattle.plan_book.specs.Book.{plan_of}
use Rattle.scheduler_core.specs.declared.launches.NextLaunch.{NextLaunch}
use Rattle.scheduler_core.specs.Launches.{IsNextIn, handed_out}
use Rattle.scheduler_core.specs.View.{View}
use Rattle.scheduler_core.proofs.LaunchSteps.{next-told}
use Rattle.scheduler_core.proofs.cores.Core.next_launch.Goals as goal

pub returns-clause-next : goal.returns-clause-next
returns-clause-next c = subst (λ (v : View). IfOk c.next_launch.result (IsNextIn (advance_plan 0 c.args.at v.plan))) c.self.view_is c.next_launch.ensures.next

pub returns-clause-told : goal.returns-clause-told
returns-clause-told c =
    subst (λ (v : View). IfOk c.next_launch.result (λ (o : Option NextLaunch). option_map handed_out o ≡ launch.told (advance_plan 0 c.args.at v.plan))) c.self.view_is
    (IfOk-weaker c.next_launch.result (IsNextIn (advance_plan 0 c.args.at (plan_of c.self.inside.book))) _ (next-told (advance_plan 0 c.args.at (plan_of c.self.inside.book))) c.next_launch.ensures.next)

pub returns-clause-nothing : goal.returns-clause-nothing
returns-clause-nothing c = λ none. c.next_launch.ensures.some (ap (λ (v : View). next_launch (advance_plan 0 c.args.at v.plan)) c.self.view_is ∙ none)
