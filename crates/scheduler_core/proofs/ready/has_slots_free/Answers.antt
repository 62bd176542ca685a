use Rattle.std.proofs.Common.{Bool, ◌&&◌, sym, ◌∙◌, ap}
use Rattle.drmaa_model.specs.Courses.{planned_end}
use Rattle.drmaa_model.specs.Load.{fits}
use Rattle.plan_book.specs.Book.{plan_of}
use Rattle.scheduler_core.specs.Launches.{room_of, seen}
use Rattle.scheduler_core.proofs.LaunchSteps.{and-not, and-true}
use Rattle.scheduler_core.proofs.ready.has_slots_free.Goals as goal

pub returns-then-not-has_room-clause-value : goal.returns-then-not-has_room-clause-value
returns-then-not-has_room-clause-value c =
    let p = plan_of c.args.book.now in
    let m = c.args.moment in
    sym (and-not (fits (seen m p) c.args.slots m (planned_end c.args.wants.now m)) (room_of p c.args.slots c.args.wants.now) (sym c.has_room.ensures.value ∙ c.if-not-has_room.true))

pub returns-clause-value : goal.returns-clause-value
returns-clause-value c =
    let p = plan_of c.args.book.now in
    let m = c.args.moment in
    let q = seen m p in
    let free = fits q c.args.slots m (planned_end c.args.wants.now m) in
    c.is_met.ensures.value
    ∙ ap (fits q c.args.slots m) c.planned_end-until.ensures
    ∙ sym (ap (λ (b : Bool). free && b) (sym c.has_room.ensures.value ∙ c.if-not-has_room.false) ∙ and-true free)
