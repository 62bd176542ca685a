use Rattle.std.proofs.Common.{◌≡◌, get_or, sym, ap, ◌∙◌, arith}
use Rattle.std.proofs.lemmas.List.{get_or_default}
use Rattle.reservation_calendar.specs.declared.boundaries.Boundary.{Boundary}
use Rattle.reservation_calendar.specs.Timelines.{edges_at, nowhere}
use Rattle.reservation_calendar.proofs.Opening.{set_loads, shut_loads, edges_found, gap_edges}
use Rattle.reservation_calendar.proofs.timeline.Timeline.shut.Goals as goal

pub unreachable-requires : goal.unreachable-requires
unreachable-requires c =
    let none = gap_edges c.self.inside.steps.items c.args.x _ (rw c.deref.ensures.value at c.in_default.ensures.absent) in
    let some = rw (← c.self.view_is) at c.requires.some in
    omega arith

pub returns-then-index-eq1-clause-loads : goal.returns-then-index-eq1-clause-loads
returns-then-index-eq1-clause-loads c y =
    let steps = c.self.inside.steps.items in
    let at = rw c.deref.ensures.value at c.in-Ok.ensures.found in
    let read : c.index.result.now ≡ get_or steps c.in-Ok.place nowhere = c.index.ensures ∙ get_or_default steps c.in-Ok.place c.index.result.now nowhere at.inside in
    let one : edges_at steps c.args.x ≡ 1 = edges_found steps c.args.x c.in-Ok.place c.self.invariant.rising at ∙ (sym (ap (λ (b : Boundary). b.edges) read) ∙ c.if-index-eq1.true) in
    let level = (rw (← c.self.view_is) at c.requires.level) one in
    rw (c.remove.ensures.items, ← c.self.view_is) (shut_loads steps c.args.x c.in-Ok.place y c.self.invariant.rising at level)

pub returns-else-index-eq1-clause-loads : goal.returns-else-index-eq1-clause-loads
returns-else-index-eq1-clause-loads c y =
    let steps = c.self.inside.steps.items in
    let at = rw c.deref.ensures.value at c.in-Ok.ensures.found in
    let read : c.index_mut.result.now ≡ get_or steps c.in-Ok.place nowhere = c.index_mut.ensures.value ∙ get_or_default steps c.in-Ok.place c.index_mut.result.now nowhere at.inside in
    rw (← c.self.view_is) (set_loads 0 steps c.in-Ok.place _ y (ap (λ (b : Boundary). b.moment) read) (ap (λ (b : Boundary). b.load) read))
