use Rattle.std.proofs.Common.{◌≡◌, suc, ◌+◌, ◌<◌, ◌∷◌, [], List, drop, length, sym, ◌∙◌, ap, arith, drop-cons}
use Rattle.std.proofs.Math.ListN.{drop_of_length-le}
use Rattle.drmaa_model.specs.declared.reservations.Accepted.{Accepted}
use Rattle.plan_book.specs.Ties.{let_go_of}
use Rattle.plan_book.specs.TieLaws.{go-step, go-none}
use Rattle.plan_book.proofs.time.cancel_ended.Goals as goal

pub loop-r-preserved : goal.loop-r-preserved
loop-r-preserved c =
    let m = c.args.moment in
    let xs = c.deref-r-items.result.now in
    let i = c.loop-r.r-index in
    let r = c.r-item.result in
    let within : i < length xs = omega arith in
    let front : drop i xs ≡ r ∷ drop (i + 1) xs =
    (let e : suc i ≡ i + 1 = omega arith in drop-cons xs i r within ∙ ap (λ (x : Accepted). x ∷ drop (suc i) xs) (sym c.r-item.is) ∙ ap (λ n. r ∷ drop n xs) e) in
    ap (let_go_of m (drop (i + 1) xs)) c.cancel_if_ended.ensures ∙ go-step m r (drop (i + 1) xs) c.loop-r.calendar
    ∙ ap (λ (ys : List Accepted). let_go_of m ys c.loop-r.calendar) (sym front) ∙ c.loop-r.invariant

pub returns : goal.returns
returns c =
    let m = c.args.moment in
    let none : drop c.loop-r.r-index c.deref-r-items.result.now ≡ [] = drop_of_length-le c.deref-r-items.result.now c.loop-r-test.false in
    sym (go-none m c.loop-r.calendar) ∙ ap (λ (ys : List Accepted). let_go_of m ys c.loop-r.calendar) (sym none) ∙ c.loop-r.invariant
    ∙ ap (λ (ys : List Accepted). let_go_of m ys c.args.calendar.now) c.deref-r-items.ensures.value
