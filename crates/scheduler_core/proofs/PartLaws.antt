-- What the jobs hold, where some are left out that hold nothing: those outside of an array's members, and those at the front that are over.
use Rattle.std.proofs.Common.{◌≡◌, ℕ, ltb, Bool, true, false, cond, ◌&&◌, List, [], ◌∷◌, ◌++◌, sum_by, Option, refl, ◌∙◌, ap, subst, arith}
use Rattle.std.specs.List.{AllByRecursion, list_any}
use Rattle.std.proofs.lemmas.List.Sums.{sum_by-append}
use Rattle.drmaa_types.specs.declared.identifiers.ArrayId.{ArrayId}
use Rattle.drmaa_types.specs.declared.identifiers.ReservationId.{ReservationId}
use Rattle.drmaa_model.specs.declared.calls.Target.TheVariants as target
use Rattle.drmaa_model.specs.declared.rows.Row.{Row}
use Rattle.drmaa_model.specs.Fit.{IsSound}
use Rattle.drmaa_model.specs.Homes.{is_same_home}
use Rattle.drmaa_model.specs.Load.{held_in_queue, held_inside, holds_in, in_array, in_queue, in_reservation, is_in_queue, is_member, names}
use Rattle.drmaa_model.specs.RowLaws.{all-implied}
use Rattle.drmaa_model.specs.SumLaws.{sum-each, sum-zero}
use Rattle.plan_book.specs.Meant.{NoneMeant, HasAllMeant}
use Rattle.plan_book.specs.Open.{AreOpen, is_over}
use Rattle.scheduler_core.specs.Facts.{is_own_member}
use Rattle.scheduler_core.proofs.Among.{any-among}
use Rattle.scheduler_core.proofs.OpenLaws.{over-facts}

-- ---- outside of an array's members

module _ (array : ArrayId) where
  abbrev Outside : List Row → Type 0
  Outside rows = NoneMeant (target.Array array) rows

  none-hold : (rows : List Row) → Outside rows → in_array array rows ≡ 0
  none-hold rows none =
      sum-each (holds_in array) (λ (row : Row). 0) rows
      (all-implied (λ (row : Row). is_member array row ≡ false) (λ (row : Row). holds_in array row ≡ 0) (λ row out. ap (λ (b : Bool). cond {A = ℕ} (b && ltb 0 row.course.held) 1 0) out) rows none)
      ∙ sum-zero rows

  pub members-part : (rows part : List Row) → HasAllMeant (target.Array array) rows part → in_array array part ≡ in_array array rows
  members-part rows part all =
      omega (
        arith,
        ap (in_array array) all.parts,
        sum_by-append (holds_in array) all.before (part ++ all.behind),
        sum_by-append (holds_in array) part all.behind,
        none-hold all.before all.none_before,
        none-hold all.behind all.none_behind,
      )

  module _ (home : Option ℕ) where
    abbrev own : Row → Bool
    own row = is_own_member home array row

    not-own : (row : Row) → is_member array row ≡ false → own row ≡ false
    not-own row out =
        ap (λ (b : Bool). is_same_home home row.home && b) out ∙ elim (is_same_home home row.home) as (λ (b : Bool). (b && false) ≡ false) [ true ↦ refl | false ↦ refl ]

    pub own-part : (rows part : List Row) → HasAllMeant (target.Array array) rows part → list_any own part ≡ list_any own rows
    own-part rows part all = any-among own (target.Array array) not-own rows part all

-- ---- at the front that is over

abbrev Sound : Row → Type 0
Sound row = IsSound row.wants row.course

over-holds : (row : Row) → Sound row → is_over row ≡ true → row.course.held ≡ 0
over-holds row sound over = (sound.idle (over-facts row over).still).1

module _ (f : Row → ℕ) (nothing : (row : Row) → row.course.held ≡ 0 → f row ≡ 0) where
  front-counts : (front rest : List Row) → AllByRecursion Sound (front ++ rest) → AllByRecursion (λ (row : Row). is_over row ≡ true) front → AllByRecursion (λ (row : Row). f row ≡ 0) front
  front-counts [] rest sound over = tt
  front-counts (row ∷ front) rest sound over = (nothing row (over-holds row sound.0 over.0), front-counts front rest sound.1 over.1)

  open-sum : (rows rest : List Row) → AllByRecursion Sound rows → AreOpen rows rest → sum_by f rest ≡ sum_by f rows
  open-sum rows rest sound are =
      omega (
        arith,
        ap (sum_by f) are.parts,
        sum_by-append f are.front rest,
        sum-each f (λ (row : Row). 0) are.front (front-counts are.front rest (subst (AllByRecursion Sound) are.parts sound) are.over) ∙ sum-zero are.front,
      )

-- of a job that holds nothing, whether or not it counts
counts-none : (counts : Bool) (n : ℕ) → n ≡ 0 → cond {A = ℕ} counts n 0 ≡ 0
counts-none true n none = none
counts-none false n none = refl

pub queue-open : (place : ℕ) (rows rest : List Row) → AllByRecursion Sound rows → AreOpen rows rest → in_queue place rest ≡ in_queue place rows
queue-open place rows rest sound are = open-sum (held_in_queue place) (λ row none. counts-none (is_in_queue place row) row.course.held none) rows rest sound are

pub inside-open : (number : ReservationId) (rows rest : List Row) → AllByRecursion Sound rows → AreOpen rows rest → in_reservation number rest ≡ in_reservation number rows
inside-open number rows rest sound are = open-sum (held_inside number) (λ row none. counts-none (names number row) row.course.held none) rows rest sound are
