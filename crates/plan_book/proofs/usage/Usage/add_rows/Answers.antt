use Rattle.std.proofs.Common.{◌≡◌, ◌+◌, ◌++◌, ◌∷◌, ◌∙◌, [], List, take, append_assoc, ap, sym, subst, arith}
use Rattle.std.proofs.lemmas.List.{take_all, take_more}
use Rattle.drmaa_model.specs.declared.rows.Row.{Row}
use Rattle.plan_book.specs.Usage.{AreUsed}
use Rattle.plan_book.proofs.UsageLaws.{used-push}
use Rattle.plan_book.proofs.usage.Usage.add_rows.Goals as goal

pub loop-row-preserved : goal.loop-row-preserved
loop-row-preserved c = λ rows are.
    (let xs = c.args.more.now in
    let i = c.loop-row.row-index in
    let row = c.row-item.result in
    let front : rows ++ take (i + 1) xs ≡ (rows ++ take i xs) ++ row ∷ [] =
    ap (λ (rs : List Row). rows ++ rs) (take_more xs i row (omega arith) ∙ ap (λ (r : Row). take i xs ++ r ∷ []) (sym c.row-item.is)) ∙ sym (append_assoc rows (take i xs) (row ∷ [])) in
    subst (λ (rs : List Row). AreUsed rs c.exchange.new.self) (sym front) (used-push (rows ++ take i xs) row c.loop-row.self c.exchange.new.self c.exchange.ensures (c.loop-row.invariant rows are)))

pub returns : goal.returns
returns c = λ rows are.
    (let xs = c.args.more.now in
    let i = c.loop-row.row-index in
    let all : take i xs ≡ xs = take_all i xs (omega (arith, c.loop-row-test.false)) in
    subst (λ (rs : List Row). AreUsed (rows ++ rs) c.loop-row.self) all (c.loop-row.invariant rows are))
