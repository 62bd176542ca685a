use Rattle.std.proofs.Common.{arith, ◌∙◌, ap}
use Rattle.std.specs.Option.{option_copied}
use Rattle.drmaa_model.specs.NextLaunch.{settled}
use Rattle.drmaa_model.specs.Time.{advance_plan}
use Rattle.plan_book.specs.Book.{plan_of}
use Rattle.scheduler_core.specs.View.{View}
use Rattle.scheduler_core.proofs.SettledSteps.{settled-look, settled-busy, none-copied}
use Rattle.scheduler_core.proofs.cores.Core.settled.Goals as goal

pub returns : goal.returns
returns c =
    let p = plan_of c.self.inside.book in
    none-copied c.first_ready_at.result c.is_none.result c.is_none.ensures
    ∙ settled-look c.args.at c.moment_at-moment.result p (option_copied c.first_ready_at.result) c.self.invariant.fit c.moment_at-moment.ensures (omega arith) c.first_ready_at.ensures
    ∙ ap (λ (v : View). settled (advance_plan 0 c.args.at v.plan)) c.self.view_is

pub returns-then-used-gt0 : goal.returns-then-used-gt0
returns-then-used-gt0 c =
    let p = plan_of c.self.inside.book in
    settled-busy c.args.at p c.self.invariant.fit (omega arith) ∙ ap (λ (v : View). settled (advance_plan 0 c.args.at v.plan)) c.self.view_is
