use Rattle.std.proofs.Common.{◌≡◌, ◌+◌, ◌++◌, true, false, not, List, drop, map, filter, refl, sym, ◌∙◌, ap, subst, to_z, of_z, w32, rules, arith}
use Rattle.std.specs.Prelude.{ℤ, int_lt}
use Rattle.std.proofs.lemmas.Int.{to_z-of_z}
use Rattle.std.specs.Option.{option_copied, option_map, option_map_or}
use Rattle.drmaa_model.specs.declared.rows.Row.{Row}
use Rattle.drmaa_model.specs.NextLaunch.{best_of}
use Rattle.drmaa_model.specs.Time.{lasts}
use Rattle.drmaa_model.specs.TimeLaws.{timed-wants}
use Rattle.plan_book.specs.BlockWalks.{back-more, back-none}
use Rattle.plan_book.specs.Blocks.{rows_in}
use Rattle.plan_book.specs.Book.{plan_of}
use Rattle.plan_book.specs.Open.{IsPriorityBound}
use Rattle.scheduler_core.specs.Firsts.{first_of}
use Rattle.scheduler_core.specs.Launches.{seen_row, may_launch}
use Rattle.scheduler_core.proofs.LaunchSteps.{none-free}
use Rattle.scheduler_core.proofs.OpenLaws.{greatest-open, greatest-back, greatest-block, none-better, none-left, open-launches}
use Rattle.scheduler_core.proofs.ready.first_ready_at.Goals as goal

pub returns-then-used-total : goal.returns-then-used-total
returns-then-used-total c =
    let p = plan_of c.args.book.now in
    sym (ap best_of (none-free c.args.moment p p.rows (omega (arith, c.requires.used, c.total.ensures, c.if-used-total.true)) c.requires.book.fit.sound))

pub loop-block-init : goal.loop-block-init
loop-block-init c = (refl, c.new-known.ensures (plan_of c.args.book.now).rows, tt)

pub best_among-best-requires-clause-bound : goal.best_among-best-requires-clause-bound
best_among-best-requires-clause-bound c =
    let p = plan_of c.args.book.now in
    let bs = c.open_blocks-block-items.result.now in
    let greatest = c.priority_bound-greatest.result in
    let same : to_z w32 (of_z w32 greatest) ≡ greatest = to_z-of_z w32 greatest (search rules) in
    let most : IsPriorityBound (rows_in bs) greatest = greatest-open greatest p.rows (rows_in bs) c.priority_bound-greatest.ensures c.open_blocks-block-items.ensures in
    subst (IsPriorityBound c.deref.result.now) (sym same)
    (greatest-block greatest bs c.loop-block.block-index c.block-item.result c.deref.result.now c.loop-block-test.true c.block-item.is c.deref.ensures.value most)

pub loop-block-preserved : goal.loop-block-preserved
loop-block-preserved c =
    let p = plan_of c.args.book.now in
    let at = seen_row c.args.moment p in
    let test = may_launch c.args.moment p in
    let bs = c.open_blocks-block-items.result.now in
    let i = c.loop-block.block-index in
    let greatest = c.priority_bound-greatest.result in
    let rest = rows_in (drop (i + 1) bs) in
    let same : to_z w32 (of_z w32 greatest) ≡ greatest = to_z-of_z w32 greatest (search rules) in
    let most : IsPriorityBound (rows_in bs) greatest = greatest-open greatest p.rows (rows_in bs) c.priority_bound-greatest.ensures c.open_blocks-block-items.ensures in
    let behind : rows_in (drop i bs) ≡ c.deref.result.now ++ rest =
    back-more bs i c.block-item.result c.loop-block-test.true c.block-item.is ∙ ap (λ (rs : List Row). rs ++ rest) (sym c.deref.ensures.value) in (
      c.best_among-best.ensures.value rest (subst (IsPriorityBound rest) (sym same) (greatest-back greatest bs (i + 1) most))
          ∙ ap (λ (rs : List Row). first_of (option_map at (option_copied c.loop-block.best)) (best_of (filter test (map at rs)))) (sym behind) ∙ c.loop-block.invariant.0,
      c.best_among-best.ensures.known,
      c.best_among-best.ensures.unmet,
    )

-- no job that is left has a greater priority
pub returns-then-has_priority : goal.returns-then-has_priority
returns-then-has_priority c =
    let p = plan_of c.args.book.now in
    let bs = c.open_blocks-block-items.result.now in
    let greatest = c.priority_bound-greatest.result in
    let same : to_z w32 (of_z w32 greatest) ≡ greatest = to_z-of_z w32 greatest (search rules) in
    let high : option_map_or (λ (first : Row). not (int_lt first.wants.priority greatest)) (option_copied c.loop-block.best) false ≡ true =
    subst (λ (least : ℤ). option_map_or (λ (first : Row). not (int_lt first.wants.priority least)) (option_copied c.loop-block.best) false ≡ true) same
    (sym c.has_priority.ensures ∙ c.if-has_priority.true) in
    let most : IsPriorityBound (rows_in bs) greatest = greatest-open greatest p.rows (rows_in bs) c.priority_bound-greatest.ensures c.open_blocks-block-items.ensures in
    none-better (seen_row c.args.moment p) (timed-wants c.args.moment (filter (lasts c.args.moment) p.reservations)) (may_launch c.args.moment p) (option_copied c.loop-block.best) greatest
    high (rows_in (drop c.loop-block.block-index bs)) (greatest-back greatest bs c.loop-block.block-index most)
    ∙ c.loop-block.invariant.0 ∙ open-launches c.args.moment p (rows_in bs) c.open_blocks-block-items.ensures

pub returns : goal.returns
returns c =
    let p = plan_of c.args.book.now in
    let bs = c.open_blocks-block-items.result.now in
    let i = c.loop-block.block-index in
    none-left (seen_row c.args.moment p) (may_launch c.args.moment p) (option_copied c.loop-block.best) (rows_in (drop i bs)) (back-none bs i c.loop-block-test.false)
    ∙ c.loop-block.invariant.0 ∙ open-launches c.args.moment p (rows_in bs) c.open_blocks-block-items.ensures
