-- The rows block by block: what is done to one block is done to all rows.
use Rattle.std.proofs.Common.{◌≡◌, ◌⊎◌, inl, inr, ⊎_elim, length-set, length-take, get_or-set_other, get_or-set_same, ℕ, zero, suc, ◌+◌, ◌-◌, ◌*◌, ◌<◌, ◌≤◌, Bool, true, false, cond, eqb, not, ◌&&◌, List, [], ◌∷◌, ◌++◌, map, filter, find, length, length-append, take, drop, sum_by, set, get_or, Option, Some, None, refl, sym, ◌∙◌, ap, subst, arith, append_assoc, append-nil}
use Rattle.std.specs.Prelude.{vec_capacity}
use Rattle.std.specs.Global.{Vec}
use Rattle.std.specs.List.{AllByRecursion, flat_map, remove}
use Rattle.std.specs.Vec.{with_items}
use Rattle.std.proofs.lemmas.Bool.{cases_eq, cases_lt, eqb-true}
use Rattle.std.proofs.Math.ListN.{drop_of_length-le}
use Rattle.std.proofs.lemmas.List.{take-take, drop-drop, get_or-append_right, get_or-drop, get_or-take, get_or_append_left, get_or_default, length-drop, take_all, with_items_is}
use Rattle.std.proofs.lemmas.List.Sums.{sum_by-append}
use Rattle.std.proofs.lemmas.Grind.{flat_map-append}
use Rattle.std.proofs.lemmas.List.Concat.{flat_map_single}
use Rattle.drmaa_types.specs.declared.identifiers.JobId.{JobId}
use Rattle.drmaa_model.specs.declared.calls.Target.{Target}
use Rattle.drmaa_model.specs.declared.calls.Target.TheVariants as target
use Rattle.drmaa_model.specs.declared.courses.Course.{Course}
use Rattle.drmaa_model.specs.declared.rows.Row.{Row}
use Rattle.drmaa_model.specs.Fit.{IsRising, number_of}
use Rattle.drmaa_model.specs.RowLaws.{all-implied, all-both, all-filter, all-map}
use Rattle.drmaa_model.specs.Rows.{is_of, row_of, with_course}
use Rattle.drmaa_model.specs.Targets.{is_meant}
use Rattle.plan_book.specs.Meant.{HasAllMeant}
use Rattle.plan_book.specs.Places.{IsAt}
use Rattle.plan_book.specs.Quiet.{block_of, IsOutside}
use Rattle.plan_book.specs.Settled.{is_settled}
use Rattle.plan_book.specs.declared.rows.Places.{Places}
use Rattle.plan_book.specs.Blocks.{AreBlocks, AreFrontSettled, IsBlock, rows_in}
use Rattle.plan_book.specs.BlockWalks.{back-more, both-parts, front-whole}
use Rattle.plan_book.proofs.Searched.{removed-at, others-all, rising-filter, rising-mapped}
use Rattle.plan_book.proofs.PartLaws.{all-left, all-right}
use Rattle.plan_book.proofs.SpanLaws.{with-job}
use Rattle.plan_book.proofs.SumLaws.{all-append}

-- ---- the blocks by their places

pub block-at : {seat : ℕ} → (k : ℕ) (blocks : List (Vec Row)) (i : ℕ) (d : Vec Row) → AreBlocks seat k blocks → i < length blocks → IsBlock seat (k + i) (get_or blocks i d)
block-at {seat} k [] i d are within = absurd (omega (arith, within))
block-at {seat} k (block ∷ blocks) zero d are within = subst (λ n. IsBlock seat n block) (omega arith) are.0
block-at {seat} k (block ∷ blocks) (suc i) d are within =
    subst (λ n. IsBlock seat n (get_or blocks i d)) (omega arith) (block-at (suc k) blocks i d are.1 (omega (arith, within)))

pub blocks-set : {seat : ℕ} → (k : ℕ) (blocks : List (Vec Row)) (i : ℕ) (b : Vec Row) → AreBlocks seat k blocks → IsBlock seat (k + i) b → AreBlocks seat k (set blocks i b)
blocks-set {seat} k [] i b are is = tt
blocks-set {seat} k (block ∷ blocks) zero b are is = (subst (λ n. IsBlock seat n b) (omega arith) is, are.1)
blocks-set {seat} k (block ∷ blocks) (suc i) b are is = (are.0, blocks-set (suc k) blocks i b are.1 (subst (λ n. IsBlock seat n b) (omega arith) is))

pub blocks-push : {seat : ℕ} → (k : ℕ) (blocks : List (Vec Row)) (b : Vec Row) → AreBlocks seat k blocks → IsBlock seat (k + length blocks) b → AreBlocks seat k (blocks ++ b ∷ [])
blocks-push {seat} k [] b are is = (subst (λ n. IsBlock seat n b) (omega arith) is, tt)
blocks-push {seat} k (block ∷ blocks) b are is = (are.0, blocks-push (suc k) blocks b are.1 (subst (λ n. IsBlock seat n b) (omega arith) is))

-- where fewer blocks are to have room, less is asked
block-later : {seat other k : ℕ} {block : Vec Row} → IsBlock seat k block → (other ≤ k → seat ≤ k) → IsBlock other k block
block-later is less = record { own = is.own; rising = is.rising; room = λ low. is.room (less low) }

pub blocks-later : {seat : ℕ} (other k : ℕ) (blocks : List (Vec Row)) → AreBlocks seat k blocks → seat ≤ other → AreBlocks other k blocks
blocks-later other k [] are less = tt
blocks-later other k (block ∷ blocks) are less = (block-later are.0 (λ low. omega (arith, low, less)), blocks-later other (suc k) blocks are.1 less)

-- where none is to have room, nothing is
pub blocks-any : (seat other k : ℕ) (blocks : List (Vec Row)) → AreBlocks seat k blocks → k + length blocks ≤ other → AreBlocks other k blocks
blocks-any seat other k [] are beyond = tt
blocks-any seat other k (block ∷ blocks) are beyond = (block-later are.0 (λ low. absurd (omega (arith, low, beyond))), blocks-any seat other (suc k) blocks are.1 (omega (arith, beyond)))

-- the rows behind a block are of later ones
later : (seat : ℕ) → (k : ℕ) (blocks : List (Vec Row)) → AreBlocks seat k blocks → AllByRecursion (λ (row : Row). k ≤ block_of row.job.0) (rows_in blocks)
later seat k [] are = tt
later seat k (block ∷ blocks) are =
    all-append (λ (row : Row). k ≤ block_of row.job.0) block.items (rows_in blocks)
    (all-implied (λ (row : Row). block_of row.job.0 ≡ k) (λ (row : Row). k ≤ block_of row.job.0) (λ row own. omega (arith, own)) block.items are.0.own)
    (all-implied (λ (row : Row). suc k ≤ block_of row.job.0) (λ (row : Row). k ≤ block_of row.job.0) (λ row more. omega (arith, more)) (rows_in blocks) (later seat (suc k) blocks are.1))

-- what is said of all is said of those of the first n blocks
pub front-all : (P : Row → Type 0) (n : ℕ) (blocks : List (Vec Row)) → AllByRecursion P (rows_in blocks) → AllByRecursion P (rows_in (take n blocks))
front-all P zero blocks all = tt
front-all P (suc n) [] all = tt
front-all P (suc n) (block ∷ blocks) all =
    all-append P block.items (rows_in (take n blocks)) (all-left P block.items (rows_in blocks) all) (front-all P n blocks (all-right P block.items (rows_in blocks) all))

-- ---- what is done to each row, and leaves those of other blocks

flat-same : (f : Row → List Row) (rows : List Row) → AllByRecursion (λ (row : Row). f row ≡ row ∷ []) rows → flat_map f rows ≡ rows
flat-same f [] all = refl
flat-same f (row ∷ rows) all = ap (λ (xs : List Row). xs ++ flat_map f rows) all.0 ∙ ap (λ (xs : List Row). row ∷ xs) (flat-same f rows all.1)

-- whatever is done to the rows of each block is done to those of the first n
pub each-done : (f : Row → List Row) (n : ℕ) (old new : List (Vec Row)) → length new ≡ length old → ((j : ℕ) (d : Vec Row) → j < length old → (get_or new j d).items ≡ flat_map f (get_or old j d).items)
    → rows_in (take n new) ≡ flat_map f (rows_in (take n old))
each-done f zero old new same done = refl
each-done f (suc n) [] [] same done = refl
each-done f (suc n) [] (b ∷ new) same done = absurd (omega (arith, same))
each-done f (suc n) (o ∷ old) [] same done = absurd (omega (arith, same))
each-done f (suc n) (o ∷ old) (b ∷ new) same done =
    ap (λ (xs : List Row). xs ++ rows_in (take n new)) (done zero o (omega arith))
    ∙ ap (λ (xs : List Row). flat_map f o.items ++ xs) (each-done f n old new (omega (arith, same)) (λ j d within. done (suc j) d (omega (arith, within))))
    ∙ sym (flat_map-append f o.items (rows_in (take n old)))

-- one block is another, and the rows of the others are left
pub done-in : (seat : ℕ) → (f : Row → List Row) (i : ℕ) (blocks : List (Vec Row)) (b d : Vec Row) → AreBlocks seat 0 blocks → i < length blocks → ((row : Row) → (block_of row.job.0 ≡ i → ⊥) → f row ≡ row ∷ [])
    → b.items ≡ flat_map f (get_or blocks i d).items → (n : ℕ) → rows_in (take n (set blocks i b)) ≡ flat_map f (rows_in (take n blocks))
done-in seat f i blocks b d are within same is n =
    each-done f n blocks (set blocks i b) (length-set blocks i b)
    (λ j e inside.
    ⊎_elim
    (λ (own : j ≡ i).
    ap (λ (k : ℕ). (get_or (set blocks i b) k e).items) own ∙ ap (λ (v : Vec Row). v.items) (get_or-set_same blocks i b e within) ∙ is
    ∙ ap (λ (v : Vec Row). flat_map f v.items) (get_or_default blocks i d e within) ∙ ap (λ (k : ℕ). flat_map f (get_or blocks k e).items) (sym own))
    (λ (other : j ≡ i → ⊥).
    ap (λ (v : Vec Row). v.items) (get_or-set_other blocks i j b e other)
    ∙ sym (flat-same f (get_or blocks j e).items (all-implied (λ (row : Row). block_of row.job.0 ≡ 0 + j) (λ (row : Row). f row ≡ row ∷ []) (λ row of. same row (λ own. other (omega (arith, own, of)))) (get_or blocks j e).items
    (block-at 0 blocks j e are inside).own)))
    (cases_eq j i))

-- each row goes on, those of other blocks as they are
pub mapped-in : (seat : ℕ) → (g : Row → Row) (n : ℕ) (blocks : List (Vec Row)) (b d : Vec Row) → AreBlocks seat 0 blocks → n < length blocks
    → ((row : Row) → (block_of row.job.0 ≡ n → ⊥) → g row ≡ row) → b.items ≡ map g (get_or blocks n d).items → (m : ℕ) → rows_in (take m (set blocks n b)) ≡ map g (rows_in (take m blocks))
mapped-in seat g n blocks b d are within same is m =
    done-in seat (λ (row : Row). g row ∷ []) n blocks b d are within (λ row other. ap (λ (x : Row). x ∷ []) (same row other)) (is ∙ sym (flat_map_single g (get_or blocks n d).items)) m
    ∙ flat_map_single g (rows_in (take m blocks))

-- some stay, and those of other blocks all do
pub filter-flat : (test : Row → Bool) (rows : List Row) → flat_map (λ (row : Row). cond (test row) (row ∷ []) []) rows ≡ filter test rows
filter-flat test [] = refl
filter-flat test (row ∷ rows) =
    (elim (test row) as (λ b. cond b (row ∷ []) [] ++ flat_map (λ (x : Row). cond (test x) (x ∷ []) []) rows ≡ cond b (row ∷ filter test rows) (filter test rows)) [
      | true ↦ ap (λ (xs : List Row). row ∷ xs) (filter-flat test rows)
      | false ↦ filter-flat test rows
    ])

pub kept-in : (seat : ℕ) → (test : Row → Bool) (n : ℕ) (blocks : List (Vec Row)) (b d : Vec Row) → AreBlocks seat 0 blocks → n < length blocks
    → ((row : Row) → (block_of row.job.0 ≡ n → ⊥) → test row ≡ true) → b.items ≡ filter test (get_or blocks n d).items → (m : ℕ) → rows_in (take m (set blocks n b)) ≡ filter test (rows_in (take m blocks))
kept-in seat test n blocks b d are within stays is m =
    done-in seat (λ (row : Row). cond (test row) (row ∷ []) []) n blocks b d are within (λ row other. ap (λ t. cond t (row ∷ []) []) (stays row other)) (is ∙ sym (filter-flat test (get_or blocks n d).items)) m
    ∙ filter-flat test (rows_in (take m blocks))

-- ---- a job's row is in the block of its number

pub other-of : (job : JobId) (row : Row) → (block_of row.job.0 ≡ block_of job.0 → ⊥) → is_of job row ≡ false
other-of job row other =
    (elim (eqb row.job.0 job.0) as (λ b. eqb row.job.0 job.0 ≡ b → b ≡ false) [
      | false ↦ λ e. refl
      | true ↦ λ e. absurd (other (ap block_of (eqb-true row.job.0 job.0 e)))
    ]) refl

find-none : (test : Row → Bool) (rows : List Row) → AllByRecursion (λ (row : Row). test row ≡ false) rows → find test rows ≡ None
find-none test [] all = refl
find-none test (row ∷ rows) all = ap (λ b. cond b (Some row) (find test rows)) all.0 ∙ find-none test rows all.1

find-front : (test : Row → Bool) (front rows : List Row) → AllByRecursion (λ (row : Row). test row ≡ false) rows → find test (front ++ rows) ≡ find test front
find-front test [] rows none = find-none test rows none
find-front test (row ∷ front) rows none = ap (λ (o : Option Row). cond (test row) (Some row) o) (find-front test front rows none)

find-back : (test : Row → Bool) (front rows : List Row) → AllByRecursion (λ (row : Row). test row ≡ false) front → find test (front ++ rows) ≡ find test rows
find-back test [] rows none = refl
find-back test (row ∷ front) rows none = ap (λ b. cond b (Some row) (find test (front ++ rows))) none.0 ∙ find-back test front rows none.1

pub found-in : (seat : ℕ) → (job : JobId) (k : ℕ) (blocks : List (Vec Row)) (i : ℕ) (d : Vec Row) → AreBlocks seat k blocks → i < length blocks → block_of job.0 ≡ k + i
    → row_of job (get_or blocks i d).items ≡ row_of job (rows_in blocks)
found-in seat job k [] i d are within own = absurd (omega (arith, within))
found-in seat job k (block ∷ blocks) zero d are within own =
    sym (find-front (is_of job) block.items (rows_in blocks) (all-implied (λ (row : Row). suc k ≤ block_of row.job.0) (λ (row : Row). is_of job row ≡ false)
    (λ row more. other-of job row (λ e. omega (arith, e, own, more))) (rows_in blocks) (later seat (suc k) blocks are.1)))
found-in seat job k (block ∷ blocks) (suc i) d are within own =
    found-in seat job (suc k) blocks i d are.1 (omega (arith, within)) (omega (arith, own))
    ∙ sym (find-back (is_of job) block.items (rows_in blocks) (all-implied (λ (row : Row). block_of row.job.0 ≡ k) (λ (row : Row). is_of job row ≡ false)
    (λ row first. other-of job row (λ e. omega (arith, e, own, first))) block.items are.0.own))

-- where there is no such block, all are others
pub none-in : (seat : ℕ) → (job : JobId) (k : ℕ) (blocks : List (Vec Row)) → AreBlocks seat k blocks → k + length blocks ≤ block_of job.0 → AllByRecursion (λ (row : Row). is_of job row ≡ false) (rows_in blocks)
none-in seat job k [] are beyond = tt
none-in seat job k (block ∷ blocks) are beyond =
    all-append (λ (row : Row). is_of job row ≡ false) block.items (rows_in blocks)
    (all-implied (λ (row : Row). block_of row.job.0 ≡ k) (λ (row : Row). is_of job row ≡ false) (λ row first. other-of job row (λ e. omega (arith, e, first, beyond))) block.items are.0.own)
    (none-in seat job (suc k) blocks are.1 (omega (arith, beyond)))

pub absent-in : (seat : ℕ) → (job : JobId) (blocks : List (Vec Row)) → AreBlocks seat 0 blocks → length blocks ≤ block_of job.0 → row_of job (rows_in blocks) ≡ None
absent-in seat job blocks are beyond = find-none (is_of job) (rows_in blocks) (none-in seat job 0 blocks are (omega (arith, beyond)))

pub map-others : (job : JobId) (course : Course) (rows : List Row) → AllByRecursion (λ (row : Row). is_of job row ≡ false) rows → map (with_course job course) rows ≡ rows
map-others job course [] all = refl
map-others job course (row ∷ rows) all =
    ap (λ b. cond b (record row { course = course }) row ∷ map (with_course job course) rows) all.0 ∙ ap (λ (xs : List Row). row ∷ xs) (map-others job course rows all.1)

pub filter-others : (job : JobId) (rows : List Row) → AllByRecursion (λ (row : Row). is_of job row ≡ false) rows → filter (λ (row : Row). not (is_of job row)) rows ≡ rows
filter-others job [] all = refl
filter-others job (row ∷ rows) all =
    ap (λ b. cond (not b) (row ∷ filter (λ (x : Row). not (is_of job x)) rows) (filter (λ (x : Row). not (is_of job x)) rows)) all.0 ∙ ap (λ (xs : List Row). row ∷ xs) (filter-others job rows all.1)

-- ---- one row leaves its block

filter-each : (p q : Row → Bool) → ((row : Row) → p row ≡ q row) → (rows : List Row) → filter p rows ≡ filter q rows
filter-each p q same [] = refl
filter-each p q same (row ∷ rows) =
    ap (λ b. cond b (row ∷ filter p rows) (filter p rows)) (same row) ∙ ap (λ (xs : List Row). cond (q row) (row ∷ xs) xs) (filter-each p q same rows)

and-yes : (b : Bool) → not (b && true) ≡ not b
and-yes true = refl
and-yes false = refl

pub removed-is : (job : JobId) (rows : List Row) (place : ℕ) (d : Row) → IsRising number_of rows → IsAt number_of job.0 rows place → remove rows place ≡ filter (λ (row : Row). not (is_of job row)) rows
removed-is job rows place d rising at =
    removed-at number_of job.0 (λ row. true) rows place d rising at refl
    ∙ filter-each (λ (row : Row). not (is_of job row && true)) (λ (row : Row). not (is_of job row)) (λ row. and-yes (is_of job row)) rows

pub all-others : (job : JobId) (rows : List Row) → row_of job rows ≡ None → AllByRecursion (λ (row : Row). is_of job row ≡ false) rows
all-others job rows none = others-all number_of job.0 rows none

-- ---- one row comes in

none-of : (P : Row → Type 0) (rows : List Row) → ((row : Row) → P row → ⊥) → AllByRecursion P rows → rows ≡ []
none-of P [] never all = refl
none-of P (row ∷ rows) never all = absurd (never row all.0)

lower : (row other : Row) → other.job.0 < row.job.0 → block_of other.job.0 ≤ block_of row.job.0
lower row other less = omega (arith, less)

pub pushed-in : (seat : ℕ) → (row : Row) (k : ℕ) (blocks : List (Vec Row)) (i : ℕ) (b d : Vec Row) → AreBlocks seat k blocks → i < length blocks → block_of row.job.0 ≡ k + i
    → AllByRecursion (λ (other : Row). other.job.0 < row.job.0) (rows_in blocks) → b.items ≡ (get_or blocks i d).items ++ row ∷ []
    → rows_in (set blocks i b) ≡ rows_in blocks ++ row ∷ []
pushed-in seat row k [] i b d are within own above is = absurd (omega (arith, within))
pushed-in seat row k (block ∷ blocks) zero b d are within own above is =
    let P : Row → Type 0 = λ other. (other.job.0 < row.job.0) × (suc k ≤ block_of other.job.0) in
    let behind : rows_in blocks ≡ [] =
    none-of P (rows_in blocks) (λ other both. (let low = lower row other both.0 in let high = both.1 in omega (arith, low, high, own)))
    (all-both (λ (other : Row). other.job.0 < row.job.0) (λ (other : Row). suc k ≤ block_of other.job.0) (rows_in blocks) (all-right (λ (other : Row). other.job.0 < row.job.0) block.items (rows_in blocks) above) (later seat (suc k) blocks are.1)) in
    ap (λ (xs : List Row). xs ++ rows_in blocks) is ∙ ap (λ (xs : List Row). (block.items ++ row ∷ []) ++ xs) behind ∙ append-nil (block.items ++ row ∷ [])
    ∙ ap (λ (xs : List Row). xs ++ row ∷ []) (sym (append-nil block.items) ∙ ap (λ (xs : List Row). block.items ++ xs) (sym behind))
pushed-in seat row k (block ∷ blocks) (suc i) b d are within own above is =
    ap (λ (xs : List Row). block.items ++ xs) (pushed-in seat row (suc k) blocks i b d are.1 (omega (arith, within)) (omega (arith, own)) (all-right (λ (other : Row). other.job.0 < row.job.0) block.items (rows_in blocks) above) is)
    ∙ sym (append_assoc block.items (rows_in blocks) (row ∷ []))

-- those of its block are below it too
pub above-in : (P : Row → Type 0) (blocks : List (Vec Row)) (i : ℕ) (d : Vec Row) → i < length blocks → AllByRecursion P (rows_in blocks) → AllByRecursion P (get_or blocks i d).items
above-in P [] i d within all = absurd (omega (arith, within))
above-in P (block ∷ blocks) zero d within all = all-left P block.items (rows_in blocks) all
above-in P (block ∷ blocks) (suc i) d within all = above-in P blocks i d (omega (arith, within)) (all-right P block.items (rows_in blocks) all)

-- ---- a block has no more rows than numbers

rising-few : (rows : List Row) (low high : ℕ) → IsRising number_of rows → AllByRecursion (λ (row : Row). low ≤ row.job.0) rows → AllByRecursion (λ (row : Row). row.job.0 < high) rows → length rows ≤ high - low
rising-few [] low high rising from until = omega arith
rising-few (row ∷ rows) low high rising from until =
    let rest = rising-few rows (suc row.job.0) high rising.1 (all-implied (λ (other : Row). row.job.0 < other.job.0) (λ (other : Row). suc row.job.0 ≤ other.job.0) (λ other less. omega (arith, less)) rows rising.0) until.1 in
    omega (arith, rest, from.0, until.0)

last-number : (k number : ℕ) → block_of number ≡ k → number < 64 * k + 64
last-number k number own = omega (arith, own)

first-number : (k number : ℕ) → block_of number ≡ k → 64 * k ≤ number
first-number k number own = omega (arith, own)

-- where another number of the block is above all, one is free
pub has-room : {seat : ℕ} → (k : ℕ) (block : Vec Row) (row : Row) → IsBlock seat k block → block_of row.job.0 ≡ k → AllByRecursion (λ (other : Row). other.job.0 < row.job.0) block.items → length block.items < 64
has-room k block row is own above =
    let few = rising-few block.items (64 * k) row.job.0 is.rising (all-implied (λ (other : Row). block_of other.job.0 ≡ k) (λ (other : Row). 64 * k ≤ other.job.0) (λ other of. first-number k other.job.0 of) block.items is.own) above in
    omega (arith, few, own)

-- ---- all rows rise

rising-append : (front rows : List Row) → IsRising number_of front → IsRising number_of rows → AllByRecursion (λ (row : Row). AllByRecursion (λ (other : Row). row.job.0 < other.job.0) rows) front → IsRising number_of (front ++ rows)
rising-append [] rows first second less = second
rising-append (row ∷ front) rows first second less = (all-append (λ (other : Row). row.job.0 < other.job.0) front rows first.0 less.0, rising-append front rows first.1 second less.1)

before-later : (k a b : ℕ) → block_of a ≡ k → suc k ≤ block_of b → a < b
before-later k a b own more = omega (arith, own, more)

pub rising-in : (seat : ℕ) → (k : ℕ) (blocks : List (Vec Row)) → AreBlocks seat k blocks → IsRising number_of (rows_in blocks)
rising-in seat k [] are = tt
rising-in seat k (block ∷ blocks) are =
    rising-append block.items (rows_in blocks) are.0.rising (rising-in seat (suc k) blocks are.1)
    (all-implied (λ (row : Row). block_of row.job.0 ≡ k) (λ (row : Row). AllByRecursion (λ (other : Row). row.job.0 < other.job.0) (rows_in blocks))
    (λ row own. all-implied (λ (other : Row). suc k ≤ block_of other.job.0) (λ (other : Row). row.job.0 < other.job.0) (λ other more. before-later k row.job.0 other.job.0 own more) (rows_in blocks) (later seat (suc k) blocks are.1)) block.items are.0.own)

-- ---- a block stays one

-- its rows go on with their numbers
rising-with : (job : JobId) (course : Course) (rows : List Row) → IsRising number_of rows → IsRising number_of (map (with_course job course) rows)
rising-with job course rows rising = rising-mapped number_of (with_course job course) (λ row. ap (λ (j : JobId). j.0) (with-job job course row)) rows rising

pub block-gone-on : {seat : ℕ} → (k : ℕ) (job : JobId) (course : Course) (old new : Vec Row) → IsBlock seat k old → new.items ≡ map (with_course job course) old.items → vec_capacity new ≡ vec_capacity old → IsBlock seat k new
block-gone-on k job course old new is items room = record {
  own = subst (AllByRecursion (λ (row : Row). block_of row.job.0 ≡ k)) (sym items)
      (all-map (λ (row : Row). block_of row.job.0 ≡ k) (with_course job course) old.items
      (all-implied (λ (row : Row). block_of row.job.0 ≡ k) (λ (row : Row). block_of (with_course job course row).job.0 ≡ k) (λ row own. ap (λ (j : JobId). block_of j.0) (with-job job course row) ∙ own) old.items is.own));
  rising = subst (IsRising number_of) (sym items) (rising-with job course old.items is.rising);
  room = λ low. omega (arith, is.room low, room);
}

-- some of them stay
pub block-fewer : {seat : ℕ} → (k : ℕ) (test : Row → Bool) (old new : Vec Row) → IsBlock seat k old → new.items ≡ filter test old.items → vec_capacity new ≡ vec_capacity old → IsBlock seat k new
block-fewer k test old new is items room = record {
  own = subst (AllByRecursion (λ (row : Row). block_of row.job.0 ≡ k)) (sym items) (all-filter (λ (row : Row). block_of row.job.0 ≡ k) test old.items is.own);
  rising = subst (IsRising number_of) (sym items) (rising-filter number_of test old.items is.rising);
  room = λ low. omega (arith, is.room low, room);
}

-- ---- block after block

get_or-beyond : (blocks : List (Vec Row)) (j : ℕ) (d : Vec Row) → length blocks ≤ j → get_or blocks j d ≡ d
get_or-beyond [] j d beyond = refl
get_or-beyond (b ∷ blocks) zero d beyond = absurd (omega (arith, beyond))
get_or-beyond (b ∷ blocks) (suc j) d beyond = get_or-beyond blocks j d (omega (arith, beyond))

-- those from one up to another are done, and the others are as they were
pub record Upto (F : List Row → List Row) (from k : ℕ) (old new : List (Vec Row)) : Type 0 where
  pub len : length new ≡ length old
  pub done : (j : ℕ) (d : Vec Row) → from ≤ j → j < k → j < length old → (get_or new j d).items ≡ F (get_or old j d).items
  pub front : (j : ℕ) (d : Vec Row) → j < from → get_or new j d ≡ get_or old j d
  pub rest : (j : ℕ) (d : Vec Row) → k ≤ j → get_or new j d ≡ get_or old j d

pub upto-more : (F : List Row → List Row) (from k : ℕ) (old new : List (Vec Row)) (b d : Vec Row) → Upto F from k old new → from ≤ k → k < length new → d ≡ get_or new k d → b.items ≡ F d.items
    → Upto F from (k + 1) old (set new k b)
upto-more F from k old new b d upto order within is here = record {
  len = length-set new k b ∙ upto.len;
  done = λ j e low high inside.
      ⊎_elim
      (λ (same : j ≡ k).
      ap (λ (i : ℕ). (get_or (set new k b) i e).items) same ∙ ap (λ (v : Vec Row). v.items) (get_or-set_same new k b e within) ∙ here ∙ ap (λ (v : Vec Row). F v.items) (is ∙ get_or_default new k d e within ∙ upto.rest k e (omega arith))
      ∙ ap (λ (i : ℕ). F (get_or old i e).items) (sym same))
      (λ (other : j ≡ k → ⊥). ap (λ (v : Vec Row). v.items) (get_or-set_other new k j b e other) ∙ upto.done j e low (omega (arith, high, other)) inside)
      (cases_eq j k);
  front = λ j e low. get_or-set_other new k j b e (λ same. omega (arith, low, order, same)) ∙ upto.front j e low;
  rest = λ j e high. get_or-set_other new k j b e (λ same. omega (arith, high, same)) ∙ upto.rest j e (omega (arith, high));
}

pub upto-whole : (F : List Row → List Row) (k : ℕ) (old new : List (Vec Row)) → length old ≤ k → Upto F 0 k old new → Upto F 0 (length old) old new
upto-whole F k old new all upto = record {
  len = upto.len;
  done = λ j d low high within. upto.done j d low (omega (arith, all, high)) within;
  front = upto.front;
  rest = λ j d high. get_or-beyond new j d (omega (arith, upto.len, high)) ∙ sym (get_or-beyond old j d high);
}

-- rows that keep their numbers
pub block-mapped : {seat : ℕ} → (k : ℕ) (g : Row → Row) → ((row : Row) → (g row).job ≡ row.job) → (old new : Vec Row) → IsBlock seat k old → new.items ≡ map g old.items → vec_capacity new ≡ vec_capacity old → IsBlock seat k new
block-mapped k g same old new is items room = record {
  own = subst (AllByRecursion (λ (row : Row). block_of row.job.0 ≡ k)) (sym items)
      (all-map (λ (row : Row). block_of row.job.0 ≡ k) g old.items
      (all-implied (λ (row : Row). block_of row.job.0 ≡ k) (λ (row : Row). block_of (g row).job.0 ≡ k) (λ row own. ap (λ (j : JobId). block_of j.0) (same row) ∙ own) old.items is.own));
  rising = subst (IsRising number_of) (sym items) (rising-mapped number_of g (λ row. ap (λ (j : JobId). j.0) (same row)) old.items is.rising);
  room = λ low. omega (arith, is.room low, room);
}

-- ---- walks over blocks

pub front-sum : (f : Row → ℕ) (blocks : List (Vec Row)) (i : ℕ) → sum_by f (rows_in (take i blocks)) ≤ sum_by f (rows_in blocks)
front-sum f blocks i = omega (arith, ap (sum_by f) (both-parts blocks i), sum_by-append f (rows_in (take i blocks)) (rows_in (drop i blocks)))

pub front-few : (blocks : List (Vec Row)) (i : ℕ) → length (rows_in (take i blocks)) ≤ length (rows_in blocks)
front-few blocks i = omega (arith, ap (λ (xs : List Row). length xs) (both-parts blocks i), length-append (rows_in (take i blocks)) (rows_in (drop i blocks)))

-- ---- rows come in, in order

pub rising-above : (front : List Row) (row : Row) (rest : List Row) → IsRising number_of (front ++ row ∷ rest) → AllByRecursion (λ (other : Row). other.job.0 < row.job.0) front
rising-above [] row rest rising = tt
rising-above (first ∷ front) row rest rising =
    ((all-right (λ (other : Row). first.job.0 < other.job.0) front (row ∷ rest) rising.0).0, rising-above front row rest rising.1)

-- ---- some blocks in place of others

-- whatever is done to all is done to the rows of all
pub whole-mapped : (g : Row → Row) (old new : List (Vec Row)) → length new ≡ length old → ((n : ℕ) → rows_in (take n new) ≡ map g (rows_in (take n old))) → rows_in new ≡ map g (rows_in old)
whole-mapped g old new same each =
    sym (front-whole new (length old) (omega (arith, same))) ∙ each (length old) ∙ ap (map g) (front-whole old (length old) (omega arith))

pub whole-kept : (test : Row → Bool) (old new : List (Vec Row)) → length new ≡ length old → ((n : ℕ) → rows_in (take n new) ≡ filter test (rows_in (take n old))) → rows_in new ≡ filter test (rows_in old)
whole-kept test old new same each =
    sym (front-whole new (length old) (omega (arith, same))) ∙ each (length old) ∙ ap (filter test) (front-whole old (length old) (omega arith))

pub blocks-append : (seat : ℕ) → (k : ℕ) (xs ys : List (Vec Row)) → AreBlocks seat k xs → AreBlocks seat (k + length xs) ys → AreBlocks seat k (xs ++ ys)
blocks-append seat k [] ys first second = subst (λ n. AreBlocks seat n ys) (omega arith) second
blocks-append seat k (x ∷ xs) ys first second = (first.0, blocks-append seat (suc k) xs ys first.1 (subst (λ n. AreBlocks seat n ys) (omega arith) second))

pub blocks-front : (seat : ℕ) → (k n : ℕ) (xs : List (Vec Row)) → AreBlocks seat k xs → AreBlocks seat k (take n xs)
blocks-front seat k zero xs are = tt
blocks-front seat k (suc n) [] are = tt
blocks-front seat k (suc n) (x ∷ xs) are = (are.0, blocks-front seat (suc k) n xs are.1)

pub blocks-back : (seat : ℕ) → (k n : ℕ) (xs : List (Vec Row)) → n ≤ length xs → AreBlocks seat k xs → AreBlocks seat (k + n) (drop n xs)
blocks-back seat k zero xs within are = subst (λ m. AreBlocks seat m xs) (omega arith) are
blocks-back seat k (suc n) [] within are = absurd (omega (arith, within))
blocks-back seat k (suc n) (x ∷ xs) within are = subst (λ m. AreBlocks seat m (drop n xs)) (omega arith) (blocks-back seat (suc k) n xs (omega (arith, within)) are.1)

-- a part of them is done, and the rows of the others are left
module _ (f : Row → List Row) (old part : List (Vec Row)) (from until : ℕ) (order : from ≤ until) (within : until ≤ length old) (long : length part ≡ until - from) where
  abbrev pub new : List (Vec Row)
  new = take from old ++ (part ++ drop until old)

  pub spliced-length : length new ≡ length old
  spliced-length = omega (arith, length-append (take from old) (part ++ drop until old), length-append part (drop until old), length-take from old, length-drop until old, long, order, within)

  pub spliced-are : (seat : ℕ) → AreBlocks seat 0 old → ((k : ℕ) → AreBlocks seat k (take (until - from) (drop from old)) → AreBlocks seat k part) → AreBlocks seat 0 new
  spliced-are seat are stays =
      let low : length (take from old) ≡ from = omega (arith, length-take from old, order, within) in
      let middle : AreBlocks seat from part = stays from (blocks-front seat from (until - from) (drop from old) (subst (λ m. AreBlocks seat m (drop from old)) (omega arith) (blocks-back seat 0 from old (omega (arith, order, within)) are))) in
      let back : AreBlocks seat until (drop until old) = subst (λ m. AreBlocks seat m (drop until old)) (omega arith) (blocks-back seat 0 until old within are) in
      blocks-append seat 0 (take from old) (part ++ drop until old) (blocks-front seat 0 from old are)
      (subst (λ m. AreBlocks seat m (part ++ drop until old)) (omega (arith, low)) (blocks-append seat from part (drop until old) middle (subst (λ m. AreBlocks seat m (drop until old)) (omega (arith, long, order)) back)))

  module _ (each : (j : ℕ) (d : Vec Row) → j < until - from → (get_or part j d).items ≡ flat_map f (get_or (take (until - from) (drop from old)) j d).items)
      (outside : (j : ℕ) (d : Vec Row) → j < length old → (j < from) ⊎ (until ≤ j) → flat_map f (get_or old j d).items ≡ (get_or old j d).items) where
    at : (j : ℕ) (d : Vec Row) → j < length old → (get_or new j d).items ≡ flat_map f (get_or old j d).items
    at j d inside =
        let low : length (take from old) ≡ from = omega (arith, length-take from old, order, within) in
        ⊎_elim
        (λ (less : j < from). ap (λ (v : Vec Row). v.items) (get_or_append_left (take from old) (part ++ drop until old) d j (omega (arith, less, low)) ∙ get_or-take from old j d less) ∙ sym (outside j d inside (inl less)))
        (λ (more : from ≤ j).
        ⊎_elim
        (λ (less : j < until).
        let k = j - from in
        ap (λ (v : Vec Row). v.items) (get_or-append_right (take from old) (part ++ drop until old) from j d low more ∙ get_or_append_left part (drop until old) d k (omega (arith, long, less, more)))
        ∙ each k d (omega (arith, less, more)) ∙ ap (λ (v : Vec Row). flat_map f v.items) (get_or-take (until - from) (drop from old) k d (omega (arith, less, more)) ∙ get_or-drop from old k d ∙ ap (λ (i : ℕ). get_or old i d) (omega (arith, more))))
        (λ (beyond : until ≤ j).
        ap (λ (v : Vec Row). v.items) (get_or-append_right (take from old) (part ++ drop until old) from j d low more
        ∙ get_or-append_right part (drop until old) (until - from) (j - from) d long (omega (arith, beyond, more)) ∙ get_or-drop until old (j - from - (until - from)) d ∙ ap (λ (i : ℕ). get_or old i d) (omega (arith, beyond, more, order)))
        ∙ sym (outside j d inside (inr beyond)))
        (cases_lt j until))
        (cases_lt j from)

    pub spliced-done : (n : ℕ) → rows_in (take n new) ≡ flat_map f (rows_in (take n old))
    spliced-done n = each-done f n old new spliced-length at

-- ---- there are few

few-in : {seat : ℕ} → (k : ℕ) (block : Vec Row) → IsBlock seat k block → length block.items ≤ 64
few-in k block is =
    let few = rising-few block.items (64 * k) (64 * k + 64) is.rising
    (all-implied (λ (row : Row). block_of row.job.0 ≡ k) (λ (row : Row). 64 * k ≤ row.job.0) (λ row of. first-number k row.job.0 of) block.items is.own)
    (all-implied (λ (row : Row). block_of row.job.0 ≡ k) (λ (row : Row). row.job.0 < 64 * k + 64) (λ row of. last-number k row.job.0 of) block.items is.own) in
    omega (arith, few)

pub blocks-few : (seat : ℕ) → (k : ℕ) (blocks : List (Vec Row)) → AreBlocks seat k blocks → length (rows_in blocks) ≤ 64 * length blocks
blocks-few seat k [] are = omega arith
blocks-few seat k (block ∷ blocks) are = omega (arith, few-in k block are.0, blocks-few seat (suc k) blocks are.1, length-append block.items (rows_in blocks))

-- ---- where a job's row stands among all

pub record Found (job : JobId) (rows : List Row) (row : Row) : Type 0 where
  pub place : ℕ
  pub at : IsAt number_of job.0 rows place
  pub is : row ≡ get_or rows place row

pub found-at : (job : JobId) (rows : List Row) (row : Row) → row_of job rows ≡ Some row → Found job rows row
found-at job [] row found = absurd (cc)
found-at job (x ∷ rows) row found =
    (elim (eqb x.job.0 job.0) as (λ b. eqb x.job.0 job.0 ≡ b → cond b (Some x) (row_of job rows) ≡ Some row → Found job (x ∷ rows) row) [
      | true ↦ λ e some. (let same : x ≡ row = cc in record { place = 0; at = record { within = omega arith; there = λ d. eqb-true x.job.0 job.0 e }; is = sym same })
      | false ↦ λ e some.
          (let rest = found-at job rows row some in
          record { place = suc rest.place; at = record { within = omega (arith, rest.at.within); there = rest.at.there }; is = rest.is })
    ]) refl found

-- the jobs of the blocks before its own are others
pub front-others : (seat : ℕ) → (job : JobId) (n k : ℕ) (blocks : List (Vec Row)) → AreBlocks seat k blocks → k + n ≤ block_of job.0 → AllByRecursion (λ (row : Row). is_of job row ≡ false) (rows_in (take n blocks))
front-others seat job zero k blocks are less = tt
front-others seat job (suc n) k [] are less = tt
front-others seat job (suc n) k (block ∷ blocks) are less =
    all-append (λ (row : Row). is_of job row ≡ false) block.items (rows_in (take n blocks))
    (all-implied (λ (row : Row). block_of row.job.0 ≡ k) (λ (row : Row). is_of job row ≡ false) (λ row own. other-of job row (λ e. omega (arith, e, own, less))) block.items are.0.own)
    (front-others seat job n (suc k) blocks are.1 (omega (arith, less)))

-- those that are meant of one block are all, where the others have none
pub alone-in : (seat : ℕ) → (job : JobId) (blocks : List (Vec Row)) (i : ℕ) (d : Vec Row) (part : List Row) → AreBlocks seat 0 blocks → i < length blocks → block_of job.0 ≡ i → HasAllMeant (target.Job job) (get_or blocks i d).items part
    → HasAllMeant (target.Job job) (rows_in blocks) part
alone-in seat job blocks i d part are within own all =
    let NotIt : Row → Type 0 = λ row. is_of job row ≡ false in
    let front = rows_in (take i blocks) in
    let back = rows_in (drop (i + 1) blocks) in
    let is : IsBlock seat (0 + i) (get_or blocks i d) = block-at 0 blocks i d are within in
    let behind_are : AreBlocks seat (0 + (i + 1)) (drop (i + 1) blocks) = blocks-back seat 0 (i + 1) blocks (omega (arith, within)) are in
    let others : AllByRecursion NotIt back =
    all-implied (λ (row : Row). 0 + (i + 1) ≤ block_of row.job.0) NotIt (λ row more. other-of job row (λ e. omega (arith, e, own, more))) back (later seat (0 + (i + 1)) (drop (i + 1) blocks) behind_are) in
    record {
      before = front ++ all.before;
      behind = all.behind ++ back;
      none_before = all-append NotIt front all.before (front-others seat job i 0 blocks are (omega (arith, own))) all.none_before;
      none_behind = all-append NotIt all.behind back all.none_behind others;
      parts = both-parts blocks i ∙ ap (λ (xs : List Row). front ++ xs) (back-more blocks i (get_or blocks i d) within (get_or_default blocks i d (get_or blocks i d) within) ∙ ap (λ (xs : List Row). xs ++ back) all.parts
          ∙ append_assoc all.before (part ++ all.behind) back ∙ ap (λ (xs : List Row). all.before ++ xs) (append_assoc part all.behind back)) ∙ sym (append_assoc front all.before (part ++ (all.behind ++ back)));
    }

-- ---- each block is done

pub each-mapped : (g : Row → Row) (old new : List (Vec Row)) → length new ≡ length old → ((j : ℕ) (d : Vec Row) → j < length old → (get_or new j d).items ≡ map g (get_or old j d).items) → (n : ℕ) → rows_in (take n new) ≡ map g (rows_in (take n old))
each-mapped g old new same each n =
    each-done (λ (row : Row). g row ∷ []) n old new same (λ j d within. each j d within ∙ sym (flat_map_single g (get_or old j d).items)) ∙ flat_map_single g (rows_in (take n old))

pub each-kept : (test : Row → Bool) (old new : List (Vec Row)) → length new ≡ length old → ((j : ℕ) (d : Vec Row) → j < length old → (get_or new j d).items ≡ filter test (get_or old j d).items) → (n : ℕ) → rows_in (take n new) ≡ filter test (rows_in (take n old))
each-kept test old new same each n =
    each-done (λ (row : Row). cond (test row) (row ∷ []) []) n old new same (λ j d within. each j d within ∙ sym (filter-flat test (get_or old j d).items)) ∙ filter-flat test (rows_in (take n old))

-- what stays settled
pub settled-mapped : (g : Row → Row) (n : ℕ) (old new : List (Vec Row)) → ((row : Row) → is_settled row ≡ true → is_settled (g row) ≡ true) → length new ≡ length old → rows_in (take n new) ≡ map g (rows_in (take n old)) → AreFrontSettled n old → AreFrontSettled n new
settled-mapped g n old new stays same rows are = record {
  within = omega (arith, same, are.within);
  settled = subst (AllByRecursion (λ (row : Row). is_settled row ≡ true)) (sym rows)
      (all-map (λ (row : Row). is_settled row ≡ true) g (rows_in (take n old)) (all-implied (λ (row : Row). is_settled row ≡ true) (λ (row : Row). is_settled (g row) ≡ true) stays (rows_in (take n old)) are.settled));
}

pub settled-kept : (test : Row → Bool) (n : ℕ) (old new : List (Vec Row)) → length new ≡ length old → rows_in (take n new) ≡ filter test (rows_in (take n old)) → AreFrontSettled n old → AreFrontSettled n new
settled-kept test n old new same rows are = record {
  within = omega (arith, same, are.within);
  settled = subst (AllByRecursion (λ (row : Row). is_settled row ≡ true)) (sym rows) (all-filter (λ (row : Row). is_settled row ≡ true) test (rows_in (take n old)) are.settled);
}

-- ---- the rows before a block, and those from it on

pub front-below : (seat : ℕ) → (n k : ℕ) (blocks : List (Vec Row)) → AreBlocks seat k blocks → AllByRecursion (λ (row : Row). block_of row.job.0 < k + n) (rows_in (take n blocks))
front-below seat zero k blocks are = tt
front-below seat (suc n) k [] are = tt
front-below seat (suc n) k (block ∷ blocks) are =
    all-append (λ (row : Row). block_of row.job.0 < k + suc n) block.items (rows_in (take n blocks))
    (all-implied (λ (row : Row). block_of row.job.0 ≡ k) (λ (row : Row). block_of row.job.0 < k + suc n) (λ row own. omega (arith, own)) block.items are.0.own)
    (all-implied (λ (row : Row). block_of row.job.0 < suc k + n) (λ (row : Row). block_of row.job.0 < k + suc n) (λ row less. omega (arith, less)) (rows_in (take n blocks)) (front-below seat n (suc k) blocks are.1))

pub all-below : (seat : ℕ) → (blocks : List (Vec Row)) → AreBlocks seat 0 blocks → AllByRecursion (λ (row : Row). block_of row.job.0 < length blocks) (rows_in blocks)
all-below seat blocks are =
    all-implied (λ (row : Row). block_of row.job.0 < 0 + length blocks) (λ (row : Row). block_of row.job.0 < length blocks) (λ row less. omega (arith, less)) (rows_in blocks)
    (subst (AllByRecursion (λ (row : Row). block_of row.job.0 < 0 + length blocks)) (front-whole blocks (length blocks) (omega arith)) (front-below seat (length blocks) 0 blocks are))

pub back-from : (seat : ℕ) → (n : ℕ) (blocks : List (Vec Row)) → n ≤ length blocks → AreBlocks seat 0 blocks → AllByRecursion (λ (row : Row). n ≤ block_of row.job.0) (rows_in (drop n blocks))
back-from seat n blocks within are = later seat n (drop n blocks) (subst (λ m. AreBlocks seat m (drop n blocks)) (omega arith) (blocks-back seat 0 n blocks within are))

pub back-below : (seat : ℕ) → (n : ℕ) (blocks : List (Vec Row)) → AreBlocks seat 0 blocks → AllByRecursion (λ (row : Row). block_of row.job.0 < length blocks) (rows_in (drop n blocks))
back-below seat n blocks are =
    all-right (λ (row : Row). block_of row.job.0 < length blocks) (rows_in (take n blocks)) (rows_in (drop n blocks)) (subst (AllByRecursion (λ (row : Row). block_of row.job.0 < length blocks)) (both-parts blocks n) (all-below seat blocks are))

-- three parts
pub three-parts : (blocks : List (Vec Row)) (from until : ℕ) → from ≤ until → rows_in blocks ≡ rows_in (take from blocks) ++ (rows_in (take (until - from) (drop from blocks)) ++ rows_in (drop until blocks))
three-parts blocks from until order =
    both-parts blocks from ∙ ap (λ (xs : List Row). rows_in (take from blocks) ++ xs) (both-parts (drop from blocks) (until - from)
    ∙ ap (λ (bs : List (Vec Row)). rows_in (take (until - from) (drop from blocks)) ++ rows_in bs) (drop-drop (until - from) from blocks ∙ ap (λ (n : ℕ). drop n blocks) (omega (arith, order))))

-- what is true of the rows outside of some blocks
pub outside-both : (seat : ℕ) → (P : Row → Type 0) (blocks : List (Vec Row)) (places : Places) → places.from ≤ places.until → places.until ≤ length blocks → AreBlocks seat 0 blocks
    → AllByRecursion (λ (row : Row). IsOutside places (block_of row.job.0) → P row) (rows_in blocks)
    → AllByRecursion P (rows_in (take places.from blocks)) × AllByRecursion P (rows_in (drop places.until blocks))
outside-both seat P blocks places order within are outside =
    let Q : Row → Type 0 = λ row. IsOutside places (block_of row.job.0) → P row in
    let front = rows_in (take places.from blocks) in
    let back = rows_in (drop places.until blocks) in (
      all-implied (λ (row : Row). Q row × (block_of row.job.0 < 0 + places.from)) P (λ row both. (let less = both.1 in both.0 (inl (omega (arith, less))))) front
          (all-both Q (λ (row : Row). block_of row.job.0 < 0 + places.from) front (front-all Q places.from blocks outside) (front-below seat places.from 0 blocks are)),
      all-implied (λ (row : Row). Q row × (places.until ≤ block_of row.job.0)) P (λ row both. both.0 (inr both.1)) back
          (all-both Q (λ (row : Row). places.until ≤ block_of row.job.0) back
          (all-right Q (rows_in (take places.until blocks)) back (subst (AllByRecursion Q) (both-parts blocks places.until) outside)) (back-from seat places.until blocks within are)),
    )

pub meant-between : (seat : ℕ) → (t : Target) (blocks : List (Vec Row)) (places : Places) → places.from ≤ places.until → places.until ≤ length blocks → AreBlocks seat 0 blocks
    → AllByRecursion (λ (row : Row). IsOutside places (block_of row.job.0) → is_meant t row ≡ false) (rows_in blocks)
    → HasAllMeant t (rows_in blocks) (rows_in (take (places.until - places.from) (drop places.from blocks)))
meant-between seat t blocks places order within are outside =
    let both = outside-both seat (λ (row : Row). is_meant t row ≡ false) blocks places order within are outside in
    record {
      before = rows_in (take places.from blocks);
      behind = rows_in (drop places.until blocks);
      none_before = both.0;
      none_behind = both.1;
      parts = three-parts blocks places.from places.until order;
    }

-- ---- a vector that is written over

pub written-all : (v : Vec (Vec Row)) (new : List (Vec Row)) → length new ≡ length v.items → take v.len (new ++ drop (length new) v.items) ≡ new
written-all v new long =
    ap (λ (bs : List (Vec Row)). take v.len (new ++ bs)) (drop_of_length-le v.items (omega (arith, long))) ∙ ap (take v.len) (append-nil new) ∙ take_all v.len new (omega (arith, long, v.ok.0))

pub front-fewer : (blocks : List (Vec Row)) (n m : ℕ) → m ≤ n → AreFrontSettled n blocks → AreFrontSettled m blocks
front-fewer blocks n m less are = record {
  within = omega (arith, less, are.within);
  settled = subst (λ (bs : List (Vec Row)). AllByRecursion (λ (row : Row). is_settled row ≡ true) (rows_in bs)) (take-take m n blocks less)
      (front-all (λ (row : Row). is_settled row ≡ true) m (take n blocks) are.settled);
}

-- ---- some blocks of a vector are written over

pub blocks-written : (v : Vec (Vec Row)) (list written : List (Vec Row)) (from until : ℕ) → list ≡ v.items → from ≤ until → until ≤ length v.items → length written ≡ until - from
    → (with_items v (take from list ++ (written ++ drop (until - from) (drop from list)))).items ≡ take from v.items ++ (written ++ drop until v.items)
blocks-written v list written from until same order within long =
    let all = take from list ++ (written ++ drop (until - from) (drop from list)) in
    let end : from + (until - from) ≡ until = omega (arith, order) in
    let is : all ≡ take from v.items ++ (written ++ drop until v.items) =
    ap (λ (bs : List (Vec Row)). take from bs ++ (written ++ drop (until - from) (drop from bs))) same
    ∙ ap (λ (bs : List (Vec Row)). take from v.items ++ (written ++ bs)) (drop-drop (until - from) from v.items ∙ ap (λ (n : ℕ). drop n v.items) end) in
    let count : length all ≡ v.len =
    omega (arith, ap (λ (bs : List (Vec Row)). length bs) is, length-append (take from v.items) (written ++ drop until v.items), length-append written (drop until v.items), length-take from v.items, length-drop until v.items, long, order, within, v.ok.0) in
    with_items_is v all count ∙ is

-- the rows of a block that stands outside of some
block-outside : (seat : ℕ) → (P : Row → Type 0) (blocks : List (Vec Row)) (places : Places) (j : ℕ) (d : Vec Row) → AreBlocks seat 0 blocks → j < length blocks → (j < places.from) ⊎ (places.until ≤ j)
    → AllByRecursion (λ (row : Row). IsOutside places (block_of row.job.0) → P row) (rows_in blocks) → AllByRecursion P (get_or blocks j d).items
block-outside seat P blocks places j d are within out all =
    let Q : Row → Type 0 = λ row. IsOutside places (block_of row.job.0) → P row in
    all-implied (λ (row : Row). Q row × (block_of row.job.0 ≡ 0 + j)) P
    (λ row both. (let own = both.1 in both.0 (⊎_elim (λ (low : j < places.from). inl (omega (arith, low, own))) (λ (high : places.until ≤ j). inr (omega (arith, high, own))) out))) (get_or blocks j d).items
    (all-both Q (λ (row : Row). block_of row.job.0 ≡ 0 + j) (get_or blocks j d).items (above-in Q blocks j d within all) (block-at 0 blocks j d are within).own)

-- a part of the blocks in place of these, each block of which is done; the jobs of the others are left
module _ (seat : ℕ) (f : Row → List Row) (old part : List (Vec Row)) (places : Places) (order : places.from ≤ places.until) (within : places.until ≤ length old) (long : length part ≡ places.until - places.from) (are : AreBlocks seat 0 old)
    (each : (j : ℕ) (d : Vec Row) → j < places.until - places.from → (get_or part j d).items ≡ flat_map f (get_or (take (places.until - places.from) (drop places.from old)) j d).items)
    (outside : AllByRecursion (λ (row : Row). IsOutside places (block_of row.job.0) → f row ≡ row ∷ []) (rows_in old)) where
  pub placed-done : (n : ℕ) → rows_in (take n (take places.from old ++ (part ++ drop places.until old))) ≡ flat_map f (rows_in (take n old))
  placed-done = spliced-done f old part places.from places.until order within long each
      (λ j d inside out. flat-same f (get_or old j d).items (block-outside seat (λ (row : Row). f row ≡ row ∷ []) old places j d are inside out outside))
