-- What a job and a reservation are at two moments with no event from after the first up to the second.
use Rattle.std.proofs.Common.{◌≡◌, ℕ, ◌<◌, ◌≤◌, ◌==◌, Bool, true, false, cond, leb, ltb, ◌&&◌, ◌||◌, inl, inr, List, [], ◌∷◌, Option, Some, None, refl, sym, ◌∙◌, ap, subst, arith}
use Rattle.std.specs.List.{AllByRecursion, list_any}
use Rattle.std.specs.Option.{option_map_or}
use Rattle.std.proofs.lemmas.Bool.{cases_lt, or_parts, eq-eqb, le-leb, lt-leb, lt-ltb, le-ltb, false≢true}
use Rattle.drmaa_types.specs.States.{is_waiting, is_started}
use Rattle.drmaa_types.specs.declared.moments.End.{End}
use Rattle.drmaa_types.specs.declared.moments.End.TheVariants.{At, Never}
use Rattle.drmaa_types.specs.declared.states.Note.{Note}
use Rattle.drmaa_types.specs.declared.states.Note.TheVariants as note
use Rattle.drmaa_model.specs.declared.reservations.Accepted.{Accepted}
use Rattle.drmaa_model.specs.declared.rows.Row.{Row}
use Rattle.drmaa_model.specs.Courses.{failed, called, is_unasked}
use Rattle.drmaa_model.specs.Events.{is_set_to, is_end_at, is_wanted_at, is_row_event, bounds_at}
use Rattle.drmaa_model.specs.Load.{ends_after, covers, is_using, uses_at}
use Rattle.drmaa_model.specs.NextLaunch.{is_reached}
use Rattle.drmaa_model.specs.Time.{lasts, is_late, is_past, is_over, is_stranded, lapses, is_due, called_in}
use Rattle.drmaa_model.specs.TimeLaws.{timed}

-- no moment from after the first up to the second meets the test
abbrev pub NoneBetween : ℕ → ℕ → (ℕ → Bool) → Type 0
NoneBetween u v test = (m : ℕ) → u < m → m ≤ v → test m ≡ false

-- nor does one of the elements meet it
pub each-quiet : {X : Type 0} (t : ℕ → X → Bool) (u v : ℕ) (xs : List X) → NoneBetween u v (λ m. list_any (t m) xs) → AllByRecursion (λ x. NoneBetween u v (λ m. t m x)) xs
each-quiet t u v [] quiet = tt
each-quiet t u v (x ∷ xs) quiet = (
  (λ m low high. (or_parts (t m x) (list_any (t m) xs) (quiet m low high)).0),
  each-quiet t u v xs (λ m low high. (or_parts (t m x) (list_any (t m) xs) (quiet m low high)).1),
)

-- of two tests neither is met where one of them is not
pub first-quiet : (s t : ℕ → Bool) (u v : ℕ) → NoneBetween u v (λ m. s m || t m) → NoneBetween u v s
first-quiet s t u v quiet = λ m low high. (or_parts (s m) (t m) (quiet m low high)).0

pub second-quiet : (s t : ℕ → Bool) (u v : ℕ) → NoneBetween u v (λ m. s m || t m) → NoneBetween u v t
second-quiet s t u v quiet = λ m low high. (or_parts (s m) (t m) (quiet m low high)).1

module _ (u v : ℕ) (order : u ≤ v) where
  -- a moment that is not between the two is on one side of both, and of each between
  same-le : (n : ℕ) → NoneBetween u v (λ m. n == m) → (z : ℕ) → u ≤ z → z ≤ v → leb n z ≡ leb n v
  same-le n quiet z low high = elim (cases_lt u n) [
    | inl after ↦ elim (cases_lt v n) [
      | inl beyond ↦ lt-leb n z (omega (arith, beyond, high)) ∙ sym (lt-leb n v beyond)
      | inr within ↦ absurd (false≢true (sym (quiet n after within) ∙ eq-eqb n n refl))
    ]
    | inr before ↦ le-leb n z (omega (arith, before, low)) ∙ sym (le-leb n v (omega (arith, before)))
  ]

  same-lt : (n : ℕ) → NoneBetween u v (λ m. n == m) → (z : ℕ) → u ≤ z → z ≤ v → ltb z n ≡ ltb v n
  same-lt n quiet z low high = elim (cases_lt u n) [
    | inl after ↦ elim (cases_lt v n) [
      | inl beyond ↦ lt-ltb z n (omega (arith, beyond, high)) ∙ sym (lt-ltb v n beyond)
      | inr within ↦ absurd (false≢true (sym (quiet n after within) ∙ eq-eqb n n refl))
    ]
    | inr before ↦ le-ltb z n (omega (arith, before, low)) ∙ sym (le-ltb v n (omega (arith, before)))
  ]

  -- ---- a reservation

  -- it is there at both moments or at neither, and covers each between or none
  pub record ReservationStays (a : Accepted) : Type 0 where
    pub lasts : lasts u a ≡ lasts v a
    pub covers : (z : ℕ) → u ≤ z → z ≤ v → covers z a ≡ covers v a

  pub reservation-stays : (a : Accepted) → NoneBetween u v (λ m. bounds_at m a) → ReservationStays a
  reservation-stays a quiet =
      let from = first-quiet (λ m. a.from == m) (λ m. a.until == m) u v quiet in
      let until = second-quiet (λ m. a.from == m) (λ m. a.until == m) u v quiet in
      record {
        lasts = same-lt a.until until u (omega arith) order;
        covers = λ z low high. ap (λ b. b && ltb z a.until) (same-le a.from from z low high) ∙ ap (λ b. leb a.from v && b) (same-lt a.until until z low high);
      }

  -- ---- a job

  end-same : (e : End) → NoneBetween u v (λ m. is_end_at m e) → (z : ℕ) → u ≤ z → z ≤ v → ends_after z e ≡ ends_after v e
  end-same (At n) quiet z low high = same-lt n quiet z low high
  end-same Never quiet z low high = refl

  past-same : (e : End) → NoneBetween u v (λ m. is_end_at m e) → is_past u e ≡ is_past v e
  past-same (At n) quiet = same-le n quiet u (omega arith) order
  past-same Never quiet = refl

  planned-same : (o : Option End) → NoneBetween u v (λ m. option_map_or (is_end_at m) o false) → (z : ℕ) → u ≤ z → z ≤ v
      → option_map_or (ends_after z) o false ≡ option_map_or (ends_after v) o false
  planned-same None quiet z low high = refl
  planned-same (Some e) quiet z low high = end-same e quiet z low high

  over-same : (o : Option End) → NoneBetween u v (λ m. option_map_or (is_end_at m) o false) → option_map_or (is_past u) o false ≡ option_map_or (is_past v) o false
  over-same None quiet = refl
  over-same (Some e) quiet = past-same e quiet

  late-same : (o : Option ℕ) → NoneBetween u v (λ m. is_set_to m o) → option_map_or (λ (d : ℕ). leb d u) o false ≡ option_map_or (λ (d : ℕ). leb d v) o false
  late-same None quiet = refl
  late-same (Some n) quiet = same-le n quiet u (omega arith) order

  reached-same : (o : Option ℕ) → NoneBetween u v (λ m. is_set_to m o) → is_reached u o ≡ is_reached v o
  reached-same None quiet = refl
  reached-same (Some n) quiet = same-le n quiet u (omega arith) order

  -- its start and its deadline are reached at both moments or at neither, its planned end is past at both or at neither, and it
  -- takes its slots at each between or at none
  pub record JobStays (row : Row) : Type 0 where
    pub reached : is_waiting row.course.state ≡ true → is_reached u row.wants.start ≡ is_reached v row.wants.start
    pub late : is_waiting row.course.state ≡ true → is_late u row ≡ is_late v row
    pub over : is_over u row ≡ is_over v row
    pub uses : (z : ℕ) → u ≤ z → z ≤ v → uses_at z row ≡ uses_at v row

  pub job-stays : (row : Row) → NoneBetween u v (λ m. is_row_event m row) → JobStays row
  job-stays row quiet =
      let planned = second-quiet (λ m. is_wanted_at m row) (λ m. option_map_or (is_end_at m) row.course.planned false) u v quiet in
      let set : is_waiting row.course.state ≡ true → NoneBetween u v (λ m. is_set_to m row.wants.start || is_set_to m row.wants.deadline) =
      λ waits m low high.
      sym (ap (λ b. b && (is_set_to m row.wants.start || is_set_to m row.wants.deadline)) waits)
      ∙ first-quiet (λ n. is_wanted_at n row) (λ n. option_map_or (is_end_at n) row.course.planned false) u v quiet m low high in
      record {
        reached = λ waits. reached-same row.wants.start (first-quiet (λ m. is_set_to m row.wants.start) (λ m. is_set_to m row.wants.deadline) u v (set waits));
        late = λ waits. late-same row.wants.deadline (second-quiet (λ m. is_set_to m row.wants.start) (λ m. is_set_to m row.wants.deadline) u v (set waits));
        over = over-same row.course.planned planned;
        uses = λ z low high. ap (λ b. cond (is_using row && b) row.course.held 0) (planned-same row.course.planned planned z low high);
      }

-- ---- what time makes of a job at both moments

-- two rows are alike to who asks whether something is left to do
pub record AreAlike (a b : Row) : Type 0 where
  pub state : b.course.state ≡ a.course.state
  pub kill : b.course.kill ≡ a.course.kill
  pub wants : b.wants ≡ a.wants

-- a job that time ends at both moments
failed-alike : (u v : ℕ) (rs : List Accepted) (r : Row) (m n : Note) → AreAlike (called_in u rs (record r { course = failed u m r.course })) (called_in v rs (record r { course = failed v n r.course }))
failed-alike u v rs r m n = record { state = refl; kill = refl; wants = refl }

called-alike : (u v : ℕ) (rs : List Accepted) (r : Row) → is_over u r ≡ is_over v r → AreAlike (called_in u rs r) (called_in v rs r)
called-alike u v rs r same =
    let due : is_due u rs r ≡ is_due v rs r = ap (λ b. is_started r.course.state && (is_unasked r.course.kill && (b || is_stranded rs r))) same in
    subst (λ (t : Bool). AreAlike (called_in u rs r) (cond t (record r { course = called (cond (is_over v r) note.PastLimit note.ReservationGone) r.course }) r)) due
    (elim (is_due u rs r) as (λ t. AreAlike (cond t (record r { course = called (cond (is_over u r) note.PastLimit note.ReservationGone) r.course }) r) (cond t (record r { course = called (cond (is_over v r) note.PastLimit note.ReservationGone) r.course }) r)) [
      | true ↦ record { state = refl; kill = refl; wants = refl }
      | false ↦ record { state = refl; kill = refl; wants = refl }
    ])

lapses-same : (u v : ℕ) (order : u ≤ v) (rs : List Accepted) (r : Row) → JobStays u v order r → lapses u rs r ≡ lapses v rs r
lapses-same u v order rs r stays =
    (elim (is_waiting r.course.state) as (λ b. is_waiting r.course.state ≡ b → (b && (is_late u r || is_stranded rs r)) ≡ (b && (is_late v r || is_stranded rs r))) [
      | true ↦ λ e. ap (λ b. b || is_stranded rs r) (stays.late e)
      | false ↦ λ e. refl
    ]) refl

pub timed-alike : (u v : ℕ) (order : u ≤ v) (rs : List Accepted) (r : Row) → JobStays u v order r → AreAlike (timed u rs r) (timed v rs r)
timed-alike u v order rs r stays =
    subst (λ (t : Bool). AreAlike (timed u rs r) (called_in v rs (cond t (record r { course = failed v (cond (is_late v r) note.PastDeadline note.ReservationGone) r.course }) r))) (lapses-same u v order rs r stays)
    (elim (lapses u rs r) as (λ t. AreAlike (called_in u rs (cond t (record r { course = failed u (cond (is_late u r) note.PastDeadline note.ReservationGone) r.course }) r))
    (called_in v rs (cond t (record r { course = failed v (cond (is_late v r) note.PastDeadline note.ReservationGone) r.course }) r))) [
      | true ↦ failed-alike u v rs r (cond (is_late u r) note.PastDeadline note.ReservationGone) (cond (is_late v r) note.PastDeadline note.ReservationGone)
      | false ↦ called-alike u v rs r stays.over
    ])
