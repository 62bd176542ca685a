use Rattle.std.proofs.Common.{◌∙◌, ap, subst}
use Rattle.drmaa_model.specs.Launching.{signal}
use Rattle.drmaa_model.specs.Time.{advance_plan}
use Rattle.plan_book.specs.Book.{plan_of}
use Rattle.scheduler_core.specs.Signals.{IsNextIn}
use Rattle.scheduler_core.specs.View.{View}
use Rattle.scheduler_core.proofs.SignalLaws.{signal-told}
use Rattle.scheduler_core.proofs.cores.Core.next_signal.Goals as goal

pub returns-clause-next : goal.returns-clause-next
returns-clause-next c = subst (λ (v : View). IsNextIn (advance_plan 0 c.args.at v.plan) c.next_of.result) c.self.view_is c.next_of.ensures

pub returns-clause-told : goal.returns-clause-told
returns-clause-told c =
    signal-told (advance_plan 0 c.args.at (plan_of c.self.inside.book)) c.next_of.result c.next_of.ensures ∙ ap (λ (v : View). signal.told (advance_plan 0 c.args.at v.plan)) c.self.view_is
