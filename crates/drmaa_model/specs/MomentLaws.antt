-- The first and the greatest number of a range, and what fits at every moment.
use Rattle.std.proofs.Common.{ltb, ◌≡◌, ℕ, zero, suc, ◌+◌, ◌-◌, ◌<◌, ◌≤◌, inl, inr, Bool, true, false, cond, not, Option, Some, None, refl, sym, ◌∙◌, ap, arith}
use Rattle.std.specs.Prelude.{is_some}
use Rattle.std.proofs.lemmas.Bool.{cases_eq, cases_lt, ltb-true, ltb-false, lt-ltb, le-ltb}
use Rattle.drmaa_types.specs.Moments.{greatest}
use Rattle.drmaa_types.specs.declared.moments.End.{End}
use Rattle.drmaa_types.specs.declared.moments.End.TheVariants.{At, Never}
use Rattle.drmaa_model.specs.Load.{ends_after, load, first_from, bound_of, is_overfull, first_overfull, fits, earliest}
use Rattle.drmaa_model.specs.NextLaunch.{greatest_from}
use Rattle.drmaa_model.specs.NextLaunchLaws.{greatest_from-least, greatest_from-most, greatest_from-no_more}
use Rattle.drmaa_model.specs.Plan.{Plan}

module _ (test : ℕ → Bool) where
  -- none of so many numbers meets the test
  pub first-none : (from count : ℕ) → first_from from count test ≡ None → (x : ℕ) → from ≤ x → x < from + count → test x ≡ false
  unfolding first_from
  first-none from zero none x low high = absurd (omega arith)
  first-none from (suc count) none x low high =
      (elim (test from) as (λ b. test from ≡ b → cond b (Some from) (first_from (suc from) count test) ≡ None → test x ≡ false) [
        | true ↦ λ here e. absurd (cc)
        | false ↦ λ here e. elim (cases_eq x from) [ inl same ↦ ap test same ∙ here | inr other ↦ first-none (suc from) count e x (omega (arith, other)) (omega arith) ]
      ]) refl none

  -- the first that meets it
  pub record IsFirst (from count m : ℕ) : Type 0 where
    pub meets : test m ≡ true
    pub low : from ≤ m
    pub high : m < from + count
    pub least : (x : ℕ) → from ≤ x → x < m → test x ≡ false

  pub first-some : (from count m : ℕ) → first_from from count test ≡ Some m → IsFirst from count m
  unfolding first_from
  first-some from zero m found = absurd (cc)
  first-some from (suc count) m found =
      (elim (test from) as (λ b. test from ≡ b → cond b (Some from) (first_from (suc from) count test) ≡ Some m → IsFirst from (suc count) m) [
        | true ↦ λ here e. (let same : from ≡ m = cc in record { meets = ap test (sym same) ∙ here; low = omega arith; high = omega arith; least = λ x low high. absurd (omega arith) })
        | false ↦ λ here e. (let first = first-some (suc from) count m e in record {
          meets = first.meets;
          low = omega (arith, first.low);
          high = omega (arith, first.high);
          least = λ x low high. elim (cases_eq x from) [ inl same ↦ ap test same ∙ here | inr other ↦ first.least x (omega (arith, other)) high ];
        })
      ]) refl found

  -- where none meets the test there is no first, and a first is the one that was found
  pub none-first : (from count : ℕ) → ((x : ℕ) → from ≤ x → x < from + count → test x ≡ false) → first_from from count test ≡ None
  none-first from count all =
      (elim (first_from from count test) as (λ o. first_from from count test ≡ o → o ≡ None) [
        | None ↦ λ e. refl
        | Some m ↦ λ e. (let first = first-some from count m e in let yes = first.meets in let no = all m first.low first.high in absurd (cc))
      ]) refl

  pub some-first : (from count m : ℕ) → IsFirst from count m → first_from from count test ≡ Some m
  some-first from count m first =
      (elim (first_from from count test) as (λ o. first_from from count test ≡ o → o ≡ Some m) [
        | None ↦ λ e. (let yes = first.meets in let no = first-none from count e m first.low first.high in absurd (cc))
        | Some n ↦ λ e.
            (let other = first-some from count n e in
            let yes = first.meets in
            let yes' = other.meets in
            let a : n ≤ m = elim (cases_lt m n) [ inl lt ↦ (let no = other.least m first.low lt in absurd (cc)) | inr le ↦ le ] in
            let b : m ≤ n = elim (cases_lt n m) [ inl lt ↦ (let no = first.least n other.low lt in absurd (cc)) | inr le ↦ le ] in
            let same : n ≡ m = omega arith in
            ap (λ k. Some k) same)
      ]) refl

-- a greater number than the least one meets it
greatest-meets : (least more : ℕ) (test : ℕ → Bool) → least < greatest_from least more test → test (greatest_from least more test) ≡ true
greatest-meets least zero test above = absurd (omega arith)
greatest-meets least (suc more) test above =
    (elim (test (least + suc more)) as (λ b. test (least + suc more) ≡ b → least < cond b (least + suc more) (greatest_from least more test) → test (cond b (least + suc more) (greatest_from least more test)) ≡ true) [
      | true ↦ λ e above. e
      | false ↦ λ e above. greatest-meets least more test above
    ]) refl above

-- the greatest number that was found is the one of the definition
pub greatest-is : (least more n : ℕ) (test : ℕ → Bool) → least ≤ n → n ≤ least + more → test n ≡ true
    → ((m : ℕ) → n < m → m ≤ least + more → test m ≡ false) → greatest_from least more test ≡ n
greatest-is least more n test low high meets above =
    let g = greatest_from least more test in
    let low' = greatest_from-least least more test in
    let high' = greatest_from-most least more test in
    let a : n ≤ g = elim (cases_lt g n) [ inl lt ↦ (let no = greatest_from-no_more least more test n lt high in absurd (cc)) | inr le ↦ le ] in
    elim (cases_eq g n) [
      | inl same ↦ same
      | inr other ↦
          (let lt : n < g = omega (arith, other) in
          let no = above g lt high' in
          let yes : test g ≡ true = greatest-meets least more test (omega (arith, lt, low)) in
          absurd (cc))
    ]

-- ---- what fits

-- an end that comes after a moment bounds it
pub ends-before : (e : End) (x : ℕ) → x ≤ greatest → ends_after x e ≡ true → x < bound_of e
ends-before (At m) x le h = (let lt = ltb-true x m h in omega arith)
ends-before Never x le h = omega arith

pub before-ends : (e : End) (x : ℕ) → x < bound_of e → ends_after x e ≡ true
before-ends (At m) x lt = lt-ltb x m (omega arith)
before-ends Never x lt = refl

pub before-greatest : (e : End) (x : ℕ) → x < bound_of e → x ≤ greatest
before-greatest (At m) x lt = omega arith
before-greatest Never x lt = omega arith

-- tests that agree find the same
pub first_from-same : (from count : ℕ) (test other : ℕ → Bool) → ((x : ℕ) → from ≤ x → test x ≡ other x) → first_from from count test ≡ first_from from count other
unfolding first_from
first_from-same from zero test other same = refl
first_from-same from (suc count) test other same =
    ap (λ (b : Bool). cond b (Some from) (first_from (suc from) count test)) (same from (omega arith))
    ∙ ap (λ (o : Option ℕ). cond (other from) (Some from) o) (first_from-same (suc from) count test other (λ x low. same x (omega arith)))

pub greatest_from-same : (least more : ℕ) (test other : ℕ → Bool) → ((x : ℕ) → test x ≡ other x) → greatest_from least more test ≡ greatest_from least more other
greatest_from-same least zero test other same = refl
greatest_from-same least (suc more) test other same =
    ap (λ (b : Bool). cond b (least + suc more) (greatest_from least more test)) (same (least + suc more))
    ∙ ap (λ (n : ℕ). cond (other (least + suc more)) (least + suc more) n) (greatest_from-same least more test other same)

-- plans of one load from a moment on, and of one total
pub record LoadsAlike (p q : Plan) (m : ℕ) : Type 0 where
  pub total : p.total ≡ q.total
  pub loads : (x : ℕ) → m ≤ x → load p x ≡ load q x

pub overfull-same : (p q : Plan) (m slots : ℕ) → LoadsAlike p q m → (x : ℕ) → m ≤ x → is_overfull p slots x ≡ is_overfull q slots x
overfull-same p q m slots alike x later = ap (λ (n : ℕ). ltb n (load p x + slots)) alike.total ∙ ap (λ (n : ℕ). ltb q.total (n + slots)) (alike.loads x later)

pub first_overfull-same : (p q : Plan) (slots from : ℕ) (until : End) (m : ℕ) → LoadsAlike p q m → m ≤ from → first_overfull p slots from until ≡ first_overfull q slots from until
first_overfull-same p q slots from until m alike later =
    first_from-same from (bound_of until - from) (is_overfull p slots) (is_overfull q slots) (λ x low. overfull-same p q m slots alike x (omega arith))

pub fits-same : (p q : Plan) (slots from : ℕ) (until : End) (m : ℕ) → LoadsAlike p q m → m ≤ from → fits p slots from until ≡ fits q slots from until
fits-same p q slots from until m alike later = ap (λ (o : Option ℕ). not (is_some o)) (first_overfull-same p q slots from until m alike later)

pub earliest-same : (p q : Plan) (slots from until span m : ℕ) → LoadsAlike p q m → m ≤ from → earliest p slots from until span ≡ earliest q slots from until span
earliest-same p q slots from until span m alike later =
    first_from-same from (suc until - span - from) (λ x. fits p slots x (At (x + span))) (λ x. fits q slots x (At (x + span))) (λ x low. fits-same p q slots x (At (x + span)) m alike (omega arith))

-- the slots fit at each moment of the interval
pub fits-at : (p : Plan) (slots from : ℕ) (until : End) → fits p slots from until ≡ true → (x : ℕ) → from ≤ x → x < bound_of until → load p x + slots ≤ p.total
fits-at p slots from until fit x low high =
    (elim (first_overfull p slots from until) as (λ o. first_overfull p slots from until ≡ o → not (is_some o) ≡ true → load p x + slots ≤ p.total) [
      | None ↦ λ none h. ltb-false p.total (load p x + slots) (first-none (is_overfull p slots) from (bound_of until - from) none x low (omega arith))
      | Some m ↦ λ some h. absurd (cc)
    ]) refl fit

-- and only where they do at each
pub fits-from : (p : Plan) (slots from : ℕ) (until : End) → ((x : ℕ) → from ≤ x → x < bound_of until → load p x + slots ≤ p.total) → fits p slots from until ≡ true
fits-from p slots from until all =
    ap (λ (o : Option ℕ). not (is_some o)) (none-first (is_overfull p slots) from (bound_of until - from) (λ x low high. le-ltb p.total (load p x + slots) (all x low (omega arith))))
