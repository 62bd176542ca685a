use Rattle.std.proofs.Common.{◌+◌, ◌∷◌, [], take, sym, subst, arith}
use Rattle.std.specs.List.{AllByRecursion}
use Rattle.drmaa_types.specs.declared.moments.End.{End}
use Rattle.drmaa_types.specs.declared.moments.End.TheVariants.{At}
use Rattle.drmaa_model.specs.Courses.{lesser_end}
use Rattle.plan_book.specs.Quiet.{LastsUntil}
use Rattle.plan_book.proofs.QuietLaws.{all-more, lasting-first, lasting-second, lasts-until}
use Rattle.plan_book.proofs.alarms.first_end.Goals as goal

pub loop-r-preserved : goal.loop-r-preserved
loop-r-preserved c =
    let xs = c.deref-r-items.result.now in
    let i = c.loop-r.r-index in
    let r = c.r-item.result in
    let was = c.loop-r.first in
    subst (λ (e : End). AllByRecursion (LastsUntil e) (take (i + 1) xs)) (sym c.lesser_end-first.ensures)
    (all-more (LastsUntil (lesser_end was (At r.until))) xs i r (omega arith) c.r-item.is
    (lasting-first was (At r.until) (take i xs) c.loop-r.invariant)
    (lasting-second was (At r.until) (r ∷ []) (lasts-until r, tt)).0)
