-- The jobs of some blocks: in order of number, and found behind those that the book leaves out.
use Rattle.std.proofs.Common.{◌≡◌, ◌∙◌, ℕ, ◌+◌, ◌<◌, Bool, true, false, cond, ◌&&◌, nat_le, List, [], ◌∷◌, ◌++◌, Some, find, length, take, drop, get_or, refl, ap, sym, subst, arith}
use Rattle.std.specs.Global.{Vec}
use Rattle.std.specs.List.{AllByRecursion}
use Rattle.std.proofs.lemmas.Bool.Decides.{nat_tests}
use Rattle.drmaa_model.specs.declared.rows.Row.{Row}
use Rattle.drmaa_types.specs.States.{is_started}
use Rattle.drmaa_model.specs.Events.{is_started_from}
use Rattle.drmaa_model.specs.Fit.{IsRising, number_of}
use Rattle.plan_book.specs.BlockWalks.{back-more, both-parts}
use Rattle.plan_book.specs.Blocks.{rows_in}
use Rattle.plan_book.specs.Numbers.{HasAllFrom}

-- ---- in order of number

rising-behind : (front rows : List Row) → IsRising number_of (front ++ rows) → IsRising number_of rows
rising-behind [] rows rising = rising
rising-behind (row ∷ front) rows rising = rising-behind front rows rising.1

pub all-front : (P : Row → Type 0) (front rows : List Row) → AllByRecursion P (front ++ rows) → AllByRecursion P front
all-front P [] rows all = tt
all-front P (row ∷ front) rows all = (all.0, all-front P front rows all.1)

rising-front : (front rows : List Row) → IsRising number_of (front ++ rows) → IsRising number_of front
rising-front [] rows rising = tt
rising-front (row ∷ front) rows rising = (all-front (λ (other : Row). row.job.0 < other.job.0) front rows rising.0, rising-front front rows rising.1)

-- each block of jobs that are in order is so
pub rising-block : (blocks : List (Vec Row)) (i : ℕ) (b : Vec Row) (rows : List Row) → i < length blocks → b ≡ get_or blocks i b → rows ≡ b.items → IsRising number_of (rows_in blocks) → IsRising number_of rows
rising-block blocks i b rows within is same rising =
    let behind : IsRising number_of (rows_in (drop i blocks)) = rising-behind (rows_in (take i blocks)) (rows_in (drop i blocks)) (subst (IsRising number_of) (both-parts blocks i) rising) in
    subst (IsRising number_of) (sym same) (rising-front b.items (rows_in (drop (i + 1) blocks)) (subst (IsRising number_of) (back-more blocks i b within is) behind))

-- ---- from a number on

module _ (n : ℕ) (rows part : List Row) (all : HasAllFrom n rows part) where
  pub rising-from : IsRising number_of rows → IsRising number_of part
  rising-from rising = rising-behind all.front part (subst (IsRising number_of) all.parts rising)

  -- a test that no lesser number passes
  behind-front : (test : Row → Bool) → ((row : Row) → row.job.0 < n → test row ≡ false) → (front : List Row) → AllByRecursion (λ (row : Row). row.job.0 < n) front → find test (front ++ part) ≡ find test part
  behind-front test none [] lower = refl
  behind-front test none (row ∷ front) lower = ap (λ b. cond b (Some row) (find test (front ++ part))) (none row lower.0) ∙ behind-front test none front lower.1

  pub find-from : (test : Row → Bool) → ((row : Row) → row.job.0 < n → test row ≡ false) → find test part ≡ find test rows
  find-from test none = sym (ap (find test) all.parts ∙ behind-front test none all.front all.lower)

-- a lesser number is not from it on
pub too-low : (n m : ℕ) → m < n → nat_le n m ≡ false
too-low n m less = grind (arith, nat_tests)

pub not-started_from : (n : ℕ) (row : Row) → row.job.0 < n → is_started_from n row ≡ false
not-started_from n row less =
    ap (λ (b : Bool). is_started row.course.state && b) (too-low n row.job.0 less)
    ∙ (elim (is_started row.course.state) as (λ (b : Bool). (b && false) ≡ false) [ true ↦ refl | false ↦ refl ])
