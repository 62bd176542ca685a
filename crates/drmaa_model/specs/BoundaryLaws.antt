-- Laws of the load: it rises only where a reservation starts, so that an interval fits where its start and the starts inside it do.
use Rattle.std.proofs.Common.{◌≡◌, ◌≢◌, ℕ, zero, suc, ◌+◌, ◌-◌, ◌<◌, ◌≤◌, ◌==◌, Bool, true, false, cond, leb, ltb, ◌&&◌, ◌||◌, List, [], ◌∷◌, Option, Some, None, refl, sym, ◌∙◌, ap, subst, arith}
use Rattle.std.specs.List.{AllByRecursion, list_any}
use Rattle.std.specs.Option.{option_map_or}
use Rattle.std.proofs.lemmas.Bool.{and_parts, eqb-false, leb-true, ltb-true, le-leb, lt-ltb}
use Rattle.drmaa_types.specs.declared.moments.End.{End}
use Rattle.drmaa_types.specs.declared.moments.End.TheVariants.{At, Never}
use Rattle.drmaa_model.specs.declared.reservations.Accepted.{Accepted}
use Rattle.drmaa_model.specs.declared.rows.Row.{Row}
use Rattle.drmaa_model.specs.Load.{ends_after, covers, slots_at, booked, is_using, uses_at, used, load, bound_of, fits}
use Rattle.drmaa_model.specs.MomentLaws.{fits-at, fits-from}
use Rattle.drmaa_model.specs.Plan.{Plan}
use Rattle.drmaa_model.specs.SumLaws.{sum-le}

-- a reservation starts at this moment
abbrev pub starts_at : ℕ → Accepted → Bool
starts_at x a = a.from == x

-- some accepted reservation starts at this moment
abbrev pub is_start : Plan → ℕ → Bool
is_start p x = list_any (starts_at x) p.reservations

ends-later : (x : ℕ) (e : End) → ends_after (suc x) e ≡ true → ends_after x e ≡ true
ends-later x (At m) h = lt-ltb x m (let low = ltb-true (suc x) m h in omega (arith, low))
ends-later x Never h = refl

cond-le : (n : ℕ) (b c : Bool) → (b ≡ true → c ≡ true) → cond b n 0 ≤ cond c n 0
cond-le n true c h = subst (λ t. n ≤ cond t n 0) (sym (h refl)) (omega arith)
cond-le n false c h = omega arith

-- a started job takes no more later on
uses-falls : (x : ℕ) (r : Row) → uses_at (suc x) r ≤ uses_at x r
uses-falls x r =
    cond-le r.course.held (is_using r && option_map_or (ends_after (suc x)) r.course.planned false) (is_using r && option_map_or (ends_after x) r.course.planned false)
    (λ h. both (is_using r) r.course.planned (and_parts (is_using r) (option_map_or (ends_after (suc x)) r.course.planned false) h)) where
      both : (b : Bool) (o : Option End) → (b ≡ true) × (option_map_or (ends_after (suc x)) o false ≡ true) → (b && option_map_or (ends_after x) o false) ≡ true
      both b None h = absurd (cc)
      both b (Some e) h = ap (λ t. t && ends_after x e) h.0 ∙ ends-later x e h.1

used-falls : (x : ℕ) (rows : List Row) → used rows (suc x) ≤ used rows x
used-falls x rows = sum-le (uses_at (suc x)) (uses_at x) rows (each rows) where
  each : (rs : List Row) → AllByRecursion (λ (r : Row). uses_at (suc x) r ≤ uses_at x r) rs
  each [] = tt
  each (r ∷ rs) = (uses-falls x r, each rs)

-- a reservation that does not start at a moment takes no more then than before
slots-fall : (x : ℕ) (a : Accepted) → starts_at (suc x) a ≡ false → slots_at (suc x) a ≤ slots_at x a
slots-fall x a other =
    cond-le a.slots (covers (suc x) a) (covers x a)
    (λ h.
    (let parts = and_parts (leb a.from (suc x)) (ltb (suc x) a.until) h in
    let low : a.from ≤ suc x = leb-true a.from (suc x) parts.0 in
    let high : suc x < a.until = ltb-true (suc x) a.until parts.1 in
    let apart : a.from ≢ suc x = eqb-false a.from (suc x) other in
    let lower : a.from ≤ x = le-but a.from x low apart in
    ap (λ t. t && ltb x a.until) (le-leb a.from x lower) ∙ lt-ltb x a.until (omega (arith, high)))) where
      le-but : (m n : ℕ) → m ≤ suc n → m ≢ suc n → m ≤ n
      le-but m n le ne = omega (arith, le, ne)

booked-falls : (x : ℕ) (rs : List Accepted) → list_any (starts_at (suc x)) rs ≡ false → booked rs (suc x) ≤ booked rs x
booked-falls x rs none = sum-le (slots_at (suc x)) (slots_at x) rs (each rs none) where
  each : (bs : List Accepted) → list_any (starts_at (suc x)) bs ≡ false → AllByRecursion (λ (a : Accepted). slots_at (suc x) a ≤ slots_at x a) bs
  each [] h = tt
  each (a ∷ bs) h =
      (elim (starts_at (suc x) a) as (λ b. starts_at (suc x) a ≡ b → (b || list_any (starts_at (suc x)) bs) ≡ false → AllByRecursion (λ (c : Accepted). slots_at (suc x) c ≤ slots_at x c) (a ∷ bs)) [
        | true ↦ λ e f. absurd (cc)
        | false ↦ λ e f. (slots-fall x a e, each bs f)
      ]) refl h

-- The load does not rise where no reservation starts.
pub load-falls : (p : Plan) (x : ℕ) → is_start p (suc x) ≡ false → load p (suc x) ≤ load p x
load-falls p x none = let b = booked-falls x p.reservations none in let u = used-falls x p.rows in omega (arith, b, u)

-- so many slots fit the start, and each start of a reservation inside
pub record FitsStarts (p : Plan) (slots from : ℕ) (until : End) : Type 0 where
  pub first : from < bound_of until → load p from + slots ≤ p.total
  pub starts : (x : ℕ) → from < x → x < bound_of until → is_start p x ≡ true → load p x + slots ≤ p.total

module _ (p : Plan) (slots from : ℕ) (until : End) (starts : FitsStarts p slots from until) where
  each : (more : ℕ) → from + more < bound_of until → load p (from + more) + slots ≤ p.total
  each zero inside = subst (λ n. load p n + slots ≤ p.total) (omega arith) (starts.first (omega (arith, inside)))
  each (suc more) inside =
      let next : suc (from + more) ≡ from + suc more = omega arith in
      let before : load p (from + more) + slots ≤ p.total = each more (omega (arith, inside)) in
      subst (λ n. load p n + slots ≤ p.total) next
      ((elim (is_start p (suc (from + more))) as (λ b. is_start p (suc (from + more)) ≡ b → load p (suc (from + more)) + slots ≤ p.total) [
        | true ↦ λ e. starts.starts (suc (from + more)) (omega arith) (omega (arith, inside)) e
        | false ↦ λ e. (let low = load-falls p (from + more) e in omega (arith, low, before))
      ]) refl)

  pub fits-from-starts : fits p slots from until ≡ true
  fits-from-starts = fits-from p slots from until
      (λ x low high. (let same : from + (x - from) ≡ x = omega (arith, low) in subst (λ n. load p n + slots ≤ p.total) same (each (x - from) (subst (λ n. n < bound_of until) (sym same) high))))

pub starts-from-fits : (p : Plan) (slots from : ℕ) (until : End) → fits p slots from until ≡ true → FitsStarts p slots from until
starts-from-fits p slots from until is = record {
  first = λ inside. fits-at p slots from until is from (omega arith) inside;
  starts = λ x low high start. fits-at p slots from until is x (omega (arith, low)) high;
}
