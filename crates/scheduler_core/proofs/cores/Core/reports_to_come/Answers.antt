use Rattle.std.proofs.Common.{ap, arith}
use Rattle.drmaa_model.specs.Size.{promised, weight}
use Rattle.plan_book.specs.Book.{plan_of}
use Rattle.scheduler_core.specs.View.{View}
use Rattle.scheduler_core.proofs.PhaseSteps.{reports-promised, reports-room}
use Rattle.scheduler_core.proofs.cores.Core.reports_to_come.Goals as goal

pub reports_to_come-requires : goal.reports_to_come-requires
reports_to_come-requires c =
    let room = reports-room (plan_of c.self.inside.book) c.self.invariant.fit in
    let light = c.self.invariant.light in
    omega arith

pub returns-clause-room : goal.returns-clause-room
returns-clause-room c =
    let room = reports-room (plan_of c.self.inside.book) c.self.invariant.fit in
    let seen = ap (λ (v : View). weight v.plan) c.self.view_is in
    omega arith

pub returns-clause-promised : goal.returns-clause-promised
returns-clause-promised c =
    let within = reports-promised (plan_of c.self.inside.book) c.self.invariant.fit in
    let seen = ap (λ (v : View). promised v.plan.rows) c.self.view_is in
    omega arith
