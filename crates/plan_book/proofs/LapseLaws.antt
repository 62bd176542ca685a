-- The walk over all jobs, element by element.
use Rattle.std.proofs.Common.{◌≡◌, ℕ, ◌+◌, ◌<◌, ◌^◌, Bool, true, false, cond, List, [], ◌∷◌, ◌++◌, map, filter, take, drop, length, get_or, refl, sym, ◌∙◌, ap, subst, arith, length-take}
use Rattle.std.specs.List.{AllByRecursion, flat_map}
use Rattle.std.proofs.lemmas.List.{drop_more, map_more, length-map, get_or_at}
use Rattle.drmaa_types.specs.declared.moments.End.{End}
use Rattle.drmaa_model.specs.declared.courses.Order.{Order}
use Rattle.drmaa_model.specs.declared.reservations.Accepted.{Accepted}
use Rattle.drmaa_model.specs.declared.rows.Row.{Row}
use Rattle.drmaa_model.specs.RowLaws.{all-implied, all-push}
use Rattle.drmaa_model.specs.Time.{lapsed, is_due, kill_order}
use Rattle.plan_book.specs.declared.sums.Sums.{Sums}
use Rattle.plan_book.specs.Lapses.{kills_then}
use Rattle.plan_book.specs.Quiet.{block_of, IsAlarmed, acts_at}
use Rattle.plan_book.specs.Sums.{AreSums, with_job}
use Rattle.plan_book.proofs.BlockLaws.{lowered, lowered-alarmed, lowered-here}
use Rattle.plan_book.proofs.QuietLaws.{acts-left}
use Rattle.plan_book.proofs.SumLaws.{sums-push}

-- the walk has not come to the element before it reads it
pub read-more : {X : Type 0} (f : X → X) (xs ys : List X) (i : ℕ) (x : X) → i < length xs → ys ≡ map f (take i xs) ++ drop i xs → x ≡ get_or ys i x → x ≡ get_or xs i x
read-more f xs ys i x within are is =
    let front = map f (take i xs) in
    let long : length front ≡ i = length-map (take i xs) f ∙ omega (arith, length-take i xs) in
    let parts : ys ≡ front ++ get_or xs i x ∷ drop (i + 1) xs = are ∙ ap (λ l. front ++ l) (drop_more xs i x within) in
    is ∙ ap (λ l. get_or l i x) parts ∙ get_or_at front _ _ x i long

front-more : (f : Row → Row) (rows : List Row) (i : ℕ) (row : Row) → i < length rows → row ≡ get_or rows i row → map f (take (i + 1) rows) ≡ map f (take i rows) ++ f row ∷ []
front-more f rows i row within is = map_more f rows i row within ∙ ap (λ (r : Row). map f (take i rows) ++ f r ∷ []) (sym is)

pub sums-more : (f : Row → Row) (rows : List Row) (i : ℕ) (row : Row) (sums : Sums) → i < length rows → row ≡ get_or rows i row → (f row).course.held < 2 ^ 32
    → AreSums (map f (take i rows)) sums → AreSums (map f (take (i + 1) rows)) (with_job sums (f row).course)
sums-more f rows i row sums within is small are =
    subst (λ (rs : List Row). AreSums rs (with_job sums (f row).course)) (sym (front-more f rows i row within is)) (sums-push (map f (take i rows)) (f row) sums small are)

-- the blocks of the jobs that it has come past have ends
pub alarmed-more : (f : Row → Row) (rs : List Accepted) (rows : List Row) (i : ℕ) (row : Row) (es : List End) → i < length rows → row ≡ get_or rows i row → block_of (f row).job.0 < length es
    → AllByRecursion (IsAlarmed es rs) (map f (take i rows)) → AllByRecursion (IsAlarmed (lowered es (f row).job.0 (acts_at rs (f row))) rs) (map f (take (i + 1) rows))
alarmed-more f rs rows i row es within is covered all =
    let n = (f row).job.0 in
    let next = lowered es n (acts_at rs (f row)) in
    subst (AllByRecursion (IsAlarmed next rs)) (sym (front-more f rows i row within is))
    (all-push (IsAlarmed next rs) (map f (take i rows)) (f row)
    (all-implied (IsAlarmed es rs) (IsAlarmed next rs) (lowered-alarmed es n (acts_at rs (f row)) covered rs) (map f (take i rows)) all)
    (lowered-here es n (acts_at rs (f row)) covered rs (f row) refl (acts-left rs (f row))))

-- what is added for each that passes a test, and for no other
pub filter-flat : {Y : Type 0} (test : Row → Bool) (f : Row → Y) (rows : List Row) → flat_map (λ (r : Row). cond (test r) (f r ∷ []) []) rows ≡ map f (filter test rows)
filter-flat test f [] = refl
filter-flat test f (r ∷ rows) =
    ap (λ ys. cond (test r) (f r ∷ []) [] ++ ys) (filter-flat test f rows)
    ∙ (elim (test r) as (λ b. cond b (f r ∷ []) [] ++ map f (filter test rows) ≡ map f (cond b (r ∷ filter test rows) (filter test rows))) [ true ↦ refl | false ↦ refl ])

pub kills-flat : (m : ℕ) (rs : List Accepted) (rows : List Row) → flat_map (kills_then m rs) rows ≡ map kill_order (filter (is_due m rs) (map (lapsed m rs) rows))
kills-flat m rs [] = refl
kills-flat m rs (r ∷ rows) =
    let next = lapsed m rs r in
    let others = filter (is_due m rs) (map (lapsed m rs) rows) in
    ap (λ (ys : List Order). cond (is_due m rs next) (kill_order next ∷ []) [] ++ ys) (kills-flat m rs rows)
    ∙ (elim (is_due m rs next) as (λ b. cond b (kill_order next ∷ []) [] ++ map kill_order others ≡ map kill_order (cond b (next ∷ others) others)) [ true ↦ refl | false ↦ refl ])
