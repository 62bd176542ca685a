-- What is true of the job that is launched next.
use Rattle.std.proofs.Common.{◌≡◌, ℕ, zero, suc, ◌+◌, ◌-◌, ◌<◌, ◌≤◌, Bool, true, false, cond, eqb, leb, ltb, not, ◌&&◌, List, [], ◌∷◌, filter, Some, None, refl, sym, ◌∙◌, ap, subst, arith}
use Rattle.std.specs.Prelude.{int_lt, IsTrue, ℤ, pos, negsuc}
use Rattle.std.specs.List.{AllByRecursion}
use Rattle.std.specs.Option.{option_map, option_map_or}
use Rattle.std.proofs.lemmas.Bool.{and_parts, and_from, eqb-true, eqb-false, leb-true, ltb-true, ltb-false, le-leb, not-true, false≢true}
use Rattle.drmaa_types.specs.States.{is_started, is_waiting, may}
use Rattle.drmaa_types.specs.declared.states.JobState.{JobState}
use Rattle.drmaa_types.specs.declared.states.JobState.TheVariants.{Queued, Running, Requeued}
use Rattle.drmaa_model.specs.declared.rows.Row.{Row}
use Rattle.drmaa_model.specs.Fit.{IsRising, IsSound, IsFit, number_of}
use Rattle.drmaa_model.specs.NextLaunch.{held, is_queued, is_reached, is_within_bound, has_slots, may_come, is_ready, IsReady, better, stands_before, best_of, greatest_from, slots_for, next_launch}
use Rattle.drmaa_model.specs.Rows.{row_of}
use Rattle.drmaa_model.specs.RowLaws.{all-filter, all-passes, all-both, all-implied, row_of-all, rising-found}
use Rattle.drmaa_model.specs.Plan.{Plan}

-- what holds of each row holds of the first in order
pub best_of-all : (P : Row → Type 0) (rows : List Row) (row : Row) → AllByRecursion P rows → best_of rows ≡ Some row → P row
best_of-all P [] row all first = absurd (cc)
best_of-all P (r ∷ rows) row all first =
    (elim (best_of rows) as (λ o. best_of rows ≡ o → Some (option_map_or (better r) o r) ≡ Some row → P row) [
      | None ↦ λ is same. (let e : r ≡ row = cc in subst P e all.0)
      | Some b ↦ λ is same.
          (elim (int_lt r.wants.priority b.wants.priority) as (λ t. Some (cond t b r) ≡ Some row → P row) [
            | true ↦ λ same. (let e : b ≡ row = cc in subst P e (best_of-all P rows b all.1 is))
            | false ↦ λ same. (let e : r ≡ row = cc in subst P e all.0)
          ]) same
    ]) refl first

-- the greatest number is one of those, and it meets the test where the least one does
pub greatest_from-least : (least more : ℕ) (test : ℕ → Bool) → least ≤ greatest_from least more test
greatest_from-least least zero test = omega arith
greatest_from-least least (suc more) test =
    elim (test (least + suc more)) as (λ b. least ≤ cond b (least + suc more) (greatest_from least more test)) [
      | true ↦ omega arith
      | false ↦ greatest_from-least least more test
    ]

pub greatest_from-most : (least more : ℕ) (test : ℕ → Bool) → greatest_from least more test ≤ least + more
greatest_from-most least zero test = omega arith
greatest_from-most least (suc more) test =
    elim (test (least + suc more)) as (λ b. cond b (least + suc more) (greatest_from least more test) ≤ least + suc more) [
      | true ↦ omega arith
      | false ↦ (let below = greatest_from-most least more test in omega arith)
    ]

pub greatest_from-meets : (least more : ℕ) (test : ℕ → Bool) → test least ≡ true → test (greatest_from least more test) ≡ true
greatest_from-meets least zero test meets = meets
greatest_from-meets least (suc more) test meets =
    (elim (test (least + suc more)) as (λ b. test (least + suc more) ≡ b → test (cond b (least + suc more) (greatest_from least more test)) ≡ true) [
      | true ↦ λ e. e
      | false ↦ λ e. greatest_from-meets least more test meets
    ]) refl

-- no greater number meets it
pub greatest_from-no_more : (least more : ℕ) (test : ℕ → Bool) (n : ℕ) → greatest_from least more test < n → n ≤ least + more → test n ≡ false
greatest_from-no_more least zero test n above within = absurd (omega arith)
greatest_from-no_more least (suc more) test n above within =
    (elim (test (least + suc more)) as (λ b. test (least + suc more) ≡ b → cond b (least + suc more) (greatest_from least more test) < n → test n ≡ false) [
      | true ↦ λ e above. absurd (omega arith)
      | false ↦ λ e above.
          (elim (eqb n (least + suc more)) as (λ t. eqb n (least + suc more) ≡ t → test n ≡ false) [
            | true ↦ λ same. (let at : n ≡ least + suc more = eqb-true n (least + suc more) same in ap test at ∙ e)
            | false ↦ λ other. greatest_from-no_more least more test n above
                (let apart = eqb-false n (least + suc more) other in omega arith)
          ]) refl
    ]) refl above

-- a job that may be launched waits, and may become a running one
pub record MayLaunch (s : JobState) : Type 0 where
  pub idle : is_started s ≡ false
  pub waits : is_waiting s ≡ true
  pub edge : may s Running ≡ true

pub queued-may_launch : (s : JobState) → is_queued s ≡ true → MayLaunch s
queued-may_launch Queued h = record { idle = refl; waits = refl; edge = refl }
queued-may_launch Requeued h = record { idle = refl; waits = refl; edge = refl }
queued-may_launch _ h = absurd (cc)

-- what readiness says of the slots and of the state
pub record ReadyParts (w : Plan) (slots : ℕ) (row : Row) : Type 0 where
  pub queued : is_queued row.course.state ≡ true
  pub reached : is_reached w.moment row.wants.start ≡ true
  pub in_bound : is_within_bound w.rows row.wants ≡ true
  pub free : held w.rows + slots ≤ w.total
  pub has : has_slots w slots row ≡ true

pub ready-parts : (w : Plan) (slots : ℕ) (row : Row) → is_ready w slots row ≡ true → ReadyParts w slots row
ready-parts w slots row ready =
    let a = and_parts (may_come w row) (leb (held w.rows + slots) w.total && has_slots w slots row) ready in
    let b = and_parts (is_queued row.course.state && is_reached w.moment row.wants.start) (is_within_bound w.rows row.wants) a.0 in
    let c = and_parts (is_queued row.course.state) (is_reached w.moment row.wants.start) b.0 in
    let d = and_parts (leb (held w.rows + slots) w.total) (has_slots w slots row) a.1 in
    record { queued = c.0; reached = c.1; in_bound = b.1; free = leb-true (held w.rows + slots) w.total d.0; has = d.1 }

pub ready-from : (w : Plan) (slots : ℕ) (row : Row) → may_come w row ≡ true → held w.rows + slots ≤ w.total → has_slots w slots row ≡ true → is_ready w slots row ≡ true
ready-from w slots row come free has =
    and_from (may_come w row) (leb (held w.rows + slots) w.total && has_slots w slots row) come
    (and_from (leb (held w.rows + slots) w.total) (has_slots w slots row) (le-leb (held w.rows + slots) w.total free) has)

some-injective : {X : Type 0} (x y : X) → Some x ≡ Some y → x ≡ y
some-injective x y same = cc

-- what is true of the row that is launched next, and of its slots
pub record IsNextLaunch (w : Plan) (row : Row) (slots : ℕ) : Type 0 where
  pub kept : row_of row.job w.rows ≡ Some row
  pub state : MayLaunch row.course.state
  pub ready : is_ready w row.wants.min row ≡ true
  pub ready_at : is_ready w slots row ≡ true
  pub fits : held w.rows + slots ≤ w.total
  pub least : row.wants.min ≤ slots
  pub most : row.wants.min ≤ row.wants.max → slots ≤ row.wants.max

pub next_launch-is : (w : Plan) (next : Row × ℕ) → IsRising number_of w.rows → next_launch w ≡ Some next → IsNextLaunch w next.0 next.1
next_launch-is w next rising is =
    (elim (best_of (filter (λ (row : Row). is_ready w row.wants.min row) w.rows)) as
    (λ o. best_of (filter (λ (row : Row). is_ready w row.wants.min row) w.rows) ≡ o → option_map (λ (row : Row). (row, slots_for w row)) o ≡ Some next → IsNextLaunch w next.0 next.1) [
      | None ↦ λ first same. absurd (cc)
      | Some row ↦ λ first same.
          (let e : (row, slots_for w row) ≡ next = some-injective (row, slots_for w row) next same in
          let both = best_of-all (λ r. (is_ready w r.wants.min r ≡ true) × (row_of r.job w.rows ≡ Some r)) (filter (λ (r : Row). is_ready w r.wants.min r) w.rows) row
          (all-both (λ r. is_ready w r.wants.min r ≡ true) (λ r. row_of r.job w.rows ≡ Some r) (filter (λ (r : Row). is_ready w r.wants.min r) w.rows)
          (all-passes (λ (r : Row). is_ready w r.wants.min r) w.rows)
          (all-filter (λ r. row_of r.job w.rows ≡ Some r) (λ (r : Row). is_ready w r.wants.min r) w.rows (rising-found w.rows rising))) first in
          let min = row.wants.min in
          let more = row.wants.max - row.wants.min in
          let test : ℕ → Bool = λ slots. is_ready w slots row in
          let fact : IsNextLaunch w row (slots_for w row) = record {
            kept = both.1;
            state = queued-may_launch row.course.state (ready-parts w min row both.0).queued;
            ready = both.0;
            ready_at = greatest_from-meets min more test both.0;
            fits = (ready-parts w (slots_for w row) row (greatest_from-meets min more test both.0)).free;
            least = greatest_from-least min more test;
            most = λ order. (let most = greatest_from-most min more test in omega arith);
          } in
          subst (λ (p : Row × ℕ). IsNextLaunch w p.0 p.1) e fact)
    ]) refl is

-- the order of numbers, as the order of priorities tests it

ge-ltb : (a b : ℕ) → b ≤ a → ltb a b ≡ false
ge-ltb a b h = (elim (ltb a b) as (λ t. ltb a b ≡ t → t ≡ false) [ true ↦ λ e. (let lt = ltb-true a b e in absurd (omega arith)) | false ↦ λ e. refl ]) refl

int_lt-self : (x : ℤ) → int_lt x x ≡ false
int_lt-self (pos a) = ge-ltb a a (omega arith)
int_lt-self (negsuc a) = ge-ltb a a (omega arith)

int_lt-not : (x y z : ℤ) → int_lt x y ≡ false → int_lt y z ≡ false → int_lt x z ≡ false
int_lt-not (pos a) (pos b) (pos c) h k = (let p = ltb-false a b h in let q = ltb-false b c k in ge-ltb a c (omega arith))
int_lt-not (pos a) (pos b) (negsuc c) h k = refl
int_lt-not (pos a) (negsuc b) (pos c) h k = absurd (false≢true (sym k))
int_lt-not (pos a) (negsuc b) (negsuc c) h k = refl
int_lt-not (negsuc a) (pos b) z h k = absurd (false≢true (sym h))
int_lt-not (negsuc a) (negsuc b) (pos c) h k = absurd (false≢true (sym k))
int_lt-not (negsuc a) (negsuc b) (negsuc c) h k = (let p = ltb-false b a h in let q = ltb-false c b k in ge-ltb c a (omega arith))

int_lt-other : (x y : ℤ) → int_lt x y ≡ true → int_lt y x ≡ false
int_lt-other (pos a) (pos b) h = (let p = ltb-true a b h in ge-ltb b a (omega arith))
int_lt-other (pos a) (negsuc b) h = absurd (false≢true h)
int_lt-other (negsuc a) (pos b) h = refl
int_lt-other (negsuc a) (negsuc b) h = (let p = ltb-true b a h in ge-ltb a b (omega arith))

best_of-none : (rows : List Row) → best_of rows ≡ None → rows ≡ []
best_of-none [] is = refl
best_of-none (r ∷ rows) is = absurd (cc)

-- a job that stands before another is not of lesser priority
stands-priority : (first other : Row) → stands_before first other ≡ true → int_lt first.wants.priority other.wants.priority ≡ false
stands-priority first other stands =
    (elim (int_lt other.wants.priority first.wants.priority) as (λ t. int_lt other.wants.priority first.wants.priority ≡ t →
    cond t true (not (int_lt first.wants.priority other.wants.priority) && leb first.job.0 other.job.0) ≡ true → int_lt first.wants.priority other.wants.priority ≡ false) [
      | true ↦ λ e s. int_lt-other other.wants.priority first.wants.priority e
      | false ↦ λ e s. not-true (int_lt first.wants.priority other.wants.priority) (and_parts (not (int_lt first.wants.priority other.wants.priority)) (leb first.job.0 other.job.0) s).0
    ]) refl stands

stands-by_number : (first other : Row) → int_lt first.wants.priority other.wants.priority ≡ false → first.job.0 ≤ other.job.0 → stands_before first other ≡ true
stands-by_number first other priority number =
    elim (int_lt other.wants.priority first.wants.priority) as (λ t. cond t true (not (int_lt first.wants.priority other.wants.priority) && leb first.job.0 other.job.0) ≡ true) [
      | true ↦ refl
      | false ↦ and_from (not (int_lt first.wants.priority other.wants.priority)) (leb first.job.0 other.job.0) (ap not priority) (le-leb first.job.0 other.job.0 number)
    ]

-- the first in order stands before each row
pub best_of-stands : (rows : List Row) (first : Row) → IsRising number_of rows → best_of rows ≡ Some first → AllByRecursion (λ r. stands_before first r ≡ true) rows
best_of-stands [] first rising is = tt
best_of-stands (r ∷ rows) first rising is =
    (elim (best_of rows) as (λ o. best_of rows ≡ o → Some (option_map_or (better r) o r) ≡ Some first → AllByRecursion (λ s. stands_before first s ≡ true) (r ∷ rows)) [
      | None ↦ λ e same.
          (let none = best_of-none rows e in
          let here : r ≡ first = some-injective r first same in
          subst (λ (x : Row). AllByRecursion (λ s. stands_before x s ≡ true) (r ∷ rows)) here
          (stands-by_number r r (int_lt-self r.wants.priority) (omega arith), subst (AllByRecursion (λ s. stands_before r s ≡ true)) (sym none) tt))
      | Some best ↦ λ e same.
          (let rest = best_of-stands rows best rising.1 e in
          (elim (int_lt r.wants.priority best.wants.priority) as (λ t. int_lt r.wants.priority best.wants.priority ≡ t → Some (cond t best r) ≡ Some first → AllByRecursion (λ s. stands_before first s ≡ true) (r ∷ rows)) [
            | true ↦ λ less same.
                subst (λ (x : Row). AllByRecursion (λ s. stands_before x s ≡ true) (r ∷ rows)) (some-injective best first same)
                (ap (λ t. cond t true (not (int_lt best.wants.priority r.wants.priority) && leb best.job.0 r.job.0)) less, rest)
            | false ↦ λ less same.
                subst (λ (x : Row). AllByRecursion (λ s. stands_before x s ≡ true) (r ∷ rows)) (some-injective r first same) (
                  stands-by_number r r (int_lt-self r.wants.priority) (omega arith),
                  all-implied (λ s. (r.job.0 < s.job.0) × (stands_before best s ≡ true)) (λ s. stands_before r s ≡ true)
                      (λ s both. stands-by_number r s (int_lt-not r.wants.priority best.wants.priority s.wants.priority less (stands-priority best s both.1)) (omega (arith, both.0))) rows
                      (all-both (λ s. r.job.0 < s.job.0) (λ s. stands_before best s ≡ true) rows rising.0 rest),
                )
          ]) refl same)
    ]) refl is

-- what is true of the job that is launched next: it is ready for its slots and for no more, and stands before each other that is ready

pub rising-filter : {X : Type 0} (number : X → ℕ) (test : X → Bool) (xs : List X) → IsRising number xs → IsRising number (filter test xs)
rising-filter number test [] rising = tt
rising-filter number test (x ∷ xs) rising =
    elim (test x) as (λ b. IsRising number (cond b (x ∷ filter test xs) (filter test xs))) [
      | true ↦ (all-filter (λ y. number x < number y) test xs rising.0, rising-filter number test xs rising.1)
      | false ↦ rising-filter number test xs rising.1
    ]

pub filter-all : {X : Type 0} (P : X → Type 0) (test : X → Bool) (xs : List X) → AllByRecursion P (filter test xs) → AllByRecursion (λ x. test x ≡ true → P x) xs
filter-all P test [] all = tt
filter-all P test (x ∷ xs) all =
    (elim (test x) as (λ b. test x ≡ b → AllByRecursion P (cond b (x ∷ filter test xs) (filter test xs)) → AllByRecursion (λ y. test y ≡ true → P y) (x ∷ xs)) [
      | true ↦ λ e all. ((λ passes. all.0), filter-all P test xs all.1)
      | false ↦ λ e all. ((λ passes. absurd (false≢true (sym e ∙ passes))), filter-all P test xs all)
    ]) refl all

pub record IsFirst (w : Plan) (row : Row) (slots : ℕ) : Type 0 where
  pub ready : IsReady w slots row
  pub most : (more : ℕ) → slots < more → more ≤ row.wants.max → IsReady w more row → ⊥
  pub before : AllByRecursion (λ (other : Row). IsReady w other.wants.min other → IsTrue (stands_before row other)) w.rows

pub next_launch-first : (w : Plan) (row : Row) (slots : ℕ) → IsRising number_of w.rows → row.wants.min ≤ row.wants.max → next_launch w ≡ Some (row, slots) → IsFirst w row slots
next_launch-first w row slots rising order is =
    (elim (best_of (filter (λ (r : Row). is_ready w r.wants.min r) w.rows)) as
    (λ o. best_of (filter (λ (r : Row). is_ready w r.wants.min r) w.rows) ≡ o → option_map {U = Row × ℕ} (λ (r : Row). (r, slots_for w r)) o ≡ Some (row, slots) → IsFirst w row slots) [
      | None ↦ λ first same. absurd (cc)
      | Some r ↦ λ first same.
          (let e = some-injective {X = Row × ℕ} (r, slots_for w r) (row, slots) same in
          let row_is : r ≡ row = ap (λ (p : Row × ℕ). p.0) e in
          let slots_are : slots_for w row ≡ slots = ap (slots_for w) (sym row_is) ∙ ap (λ (p : Row × ℕ). p.1) e in
          let at = next_launch-is w (row, slots) rising is in
          let least = row.wants.min in
          let more = row.wants.max - row.wants.min in
          let test : ℕ → Bool = λ n. is_ready w n row in
          let stands = best_of-stands (filter (λ (s : Row). is_ready w s.wants.min s) w.rows) r
          (rising-filter number_of (λ (s : Row). is_ready w s.wants.min s) w.rows rising) first in
          record {
            ready = subst (λ (n : ℕ). is_ready w n row ≡ true) slots_are (greatest_from-meets least more test at.ready);
            most = λ n above within ready. false≢true (sym (greatest_from-no_more least more test n (omega (arith, slots_are, above)) (omega arith)) ∙ ready);
            before = filter-all (λ (s : Row). stands_before row s ≡ true) (λ (s : Row). is_ready w s.wants.min s) w.rows
                (subst (λ (x : Row). AllByRecursion (λ s. stands_before x s ≡ true) (filter (λ (s : Row). is_ready w s.wants.min s) w.rows)) row_is stands);
          })
    ]) refl is

pub consistent-first : (w : Plan) (row : Row) (slots : ℕ) → IsFit w → next_launch w ≡ Some (row, slots) → IsFirst w row slots
consistent-first w row slots ok is =
    let at = next_launch-is w (row, slots) ok.jobs.rising is in
    let sound = row_of-all (λ (r : Row). IsSound r.wants r.course) row.job w.rows row ok.sound at.kept in
    next_launch-first w row slots ok.jobs.rising sound.range is

-- where none is launched, none is ready
pub next_launch-none : (w : Plan) → next_launch w ≡ None → AllByRecursion (λ (row : Row). IsReady w row.wants.min row → ⊥) w.rows
next_launch-none w is =
    (elim (best_of (filter (λ (r : Row). is_ready w r.wants.min r) w.rows)) as
    (λ o. best_of (filter (λ (r : Row). is_ready w r.wants.min r) w.rows) ≡ o → option_map {U = Row × ℕ} (λ (r : Row). (r, slots_for w r)) o ≡ None → AllByRecursion (λ (row : Row). IsReady w row.wants.min row → ⊥) w.rows) [
      | None ↦ λ first same.
          filter-all (λ (r : Row). ⊥) (λ (r : Row). is_ready w r.wants.min r) w.rows
          (subst (AllByRecursion (λ (r : Row). ⊥)) (sym (best_of-none (filter (λ (r : Row). is_ready w r.wants.min r) w.rows) first)) tt)
      | Some r ↦ λ first same. absurd (cc)
    ]) refl is
