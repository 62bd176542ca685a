use Rattle.std.proofs.Common.{◌≡◌, ◌≤◌, rules, get_or, ap, ◌∙◌, refl, arith}
use Rattle.std.proofs.lemmas.List.{get_or_default}
use Rattle.drmaa_types.specs.Moments.{greatest}
use Rattle.reservation_calendar.specs.declared.boundaries.Boundary.{Boundary}
use Rattle.reservation_calendar.specs.Timelines.{load_at, nowhere}
use Rattle.reservation_calendar.proofs.Places.{load_there}
use Rattle.reservation_calendar.proofs.Opening.{set_loads, inserted_loads, gap_place, opened_sound}
use Rattle.reservation_calendar.proofs.timeline.Timeline.open.Goals as goal

pub invariant_of-self-in-Err : goal.invariant_of-self-in-Err
invariant_of-self-in-Err c =
    let moment : c.args.x ≤ greatest = search rules in
    rw c.insert.ensures.items
    (opened_sound c.self.inside.steps.items c.args.x c.in-Err.place _ refl moment (omega arith) (rw c.deref.ensures.value at c.in-Err.ensures.absent) c.self.invariant)

pub returns-in-Ok-clause-loads : goal.returns-in-Ok-clause-loads
returns-in-Ok-clause-loads c y =
    let steps = c.self.inside.steps.items in
    let at = rw c.deref.ensures.value at c.in-Ok.ensures.found in
    let read : c.index_mut.result.now ≡ get_or steps c.in-Ok.place nowhere = c.index_mut.ensures.value ∙ get_or_default steps c.in-Ok.place c.index_mut.result.now nowhere at.inside in
    rw (← c.self.view_is) (set_loads 0 steps c.in-Ok.place _ y (ap (λ (b : Boundary). b.moment) read) (ap (λ (b : Boundary). b.load) read))

pub returns-in-Err-clause-loads : goal.returns-in-Err-clause-loads
returns-in-Err-clause-loads c y =
    let steps = c.self.inside.steps.items in
    let gap = rw c.deref.ensures.value at c.in-Err.ensures.absent in
    let load : c.load_before-load.result ≡ load_at steps c.args.x = (rw c.deref-in-Err.ensures.value at c.load_before-load.ensures) ∙ load_there steps c.args.x c.in-Err.place (gap_place steps c.args.x c.in-Err.place gap) in
    rw (c.insert.ensures.items, ← c.self.view_is) (inserted_loads 0 steps c.args.x c.in-Err.place _ y refl gap load)
