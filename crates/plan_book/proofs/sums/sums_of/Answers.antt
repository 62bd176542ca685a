use Rattle.std.proofs.Common.{◌≡◌, ◌+◌, ◌++◌, ◌∷◌, [], List, take, ap, sym, ◌∙◌, subst, arith, length-take}
use Rattle.std.proofs.lemmas.List.{take_more}
use Rattle.drmaa_model.specs.declared.rows.Row.{Row}
use Rattle.plan_book.specs.declared.sums.Sums.{Sums}
use Rattle.plan_book.specs.Sums.{AreSums}
use Rattle.plan_book.proofs.SumLaws.{sums-few, sums-push}
use Rattle.plan_book.proofs.sums.sums_of.Goals as goal

pub with_job-sums-requires : goal.with_job-sums-requires
with_job-sums-requires c =
    let xs = c.args.rows.now in
    let i = c.loop-row.row-index in
    record { few = sums-few (take i xs) c.loop-row.sums (omega (arith, length-take i xs, c.requires.few)) c.loop-row.invariant }

pub loop-row-preserved : goal.loop-row-preserved
loop-row-preserved c =
    let xs = c.args.rows.now in
    let i = c.loop-row.row-index in
    let row = c.row-item.result in
    let front : take (i + 1) xs ≡ take i xs ++ row ∷ [] =
    take_more xs i row (omega arith) ∙ ap (λ (r : Row). take i xs ++ r ∷ []) (sym c.row-item.is) in
    subst (λ (rows : List Row). AreSums rows c.with_job-sums.result) (sym front)
    (subst (λ (sums : Sums). AreSums (take i xs ++ row ∷ []) sums) (sym c.with_job-sums.ensures.value)
    (sums-push (take i xs) row c.loop-row.sums c.with_job-sums.ensures.small c.loop-row.invariant))
