-- Laws of time: it leaves the weight of a plan, and finds each row where it was.
use Rattle.std.proofs.Common.{◌≡◌, ℕ, ◌+◌, Bool, true, false, cond, ◌||◌, List, [], ◌∷◌, ◌++◌, map, filter, length, sum_by, refl, sym, ◌∙◌, ap, arith, length-append}
use Rattle.std.specs.Prelude.{count_by}
use Rattle.std.specs.List.{flat_map}
use Rattle.std.specs.Option.{option_map}
use Rattle.std.proofs.lemmas.Bool.{and_parts}
use Rattle.std.proofs.lemmas.List.{length-map}
use Rattle.std.proofs.lemmas.List.Sums.{sum_by-cons, length-filter}
use Rattle.drmaa_types.specs.States.{is_state, is_waiting, is_started}
use Rattle.drmaa_types.specs.declared.changes.Change.{Change}
use Rattle.drmaa_types.specs.declared.identifiers.JobId.{JobId}
use Rattle.drmaa_types.specs.declared.states.JobState.{JobState}
use Rattle.drmaa_types.specs.declared.states.JobState.TheVariants.{Running, Suspended, Failed}
use Rattle.drmaa_types.specs.declared.states.Note.{Note}
use Rattle.drmaa_types.specs.declared.states.Note.TheVariants as note
use Rattle.drmaa_model.specs.declared.reservations.Accepted.{Accepted}
use Rattle.drmaa_model.specs.declared.rows.Row.{Row}
use Rattle.drmaa_model.specs.Courses.{failed, called}
use Rattle.drmaa_model.specs.Plan.{Plan}
use Rattle.drmaa_model.specs.Rows.{row_of, change_of}
use Rattle.drmaa_model.specs.RowLaws.{row_of-map, change_of-same}
use Rattle.drmaa_model.specs.Size.{room_of, phase_room, weight}
use Rattle.drmaa_model.specs.Time.{come_to, let_go, is_late, is_over, is_stranded, lapses, lapsed, expire, is_due, called_in, call_in, advance_plan}

-- sums over rows that go on

count-trade : (g : Row → ℕ) (f : Row → Row) (p : Row → Bool) → ((r : Row) → g (f r) + cond (p r) 1 0 ≡ g r) → (rows : List Row) → sum_by g (map f rows) + count_by p rows ≡ sum_by g rows
count-trade g f p each [] = refl
count-trade g f p each (r ∷ rows) =
    omega (arith, each r, count-trade g f p each rows, sum_by-cons g r rows, sum_by-cons g (f r) (map f rows), sum_by-cons (λ (q : Row). cond (p q) 1 0) r rows)

-- what is promised goes down by what is written
pub trade : (g : Row → ℕ) (f : Row → Row) (p : Row → Bool) → ((r : Row) → g (f r) + cond (p r) 1 0 ≡ g r) → (rows : List Row) → sum_by g (map f rows) + length (filter p rows) ≡ sum_by g rows
trade g f p each rows = omega (arith, count-trade g f p each rows, length-filter p rows)

pub sum-kept : (g : Row → ℕ) (f : Row → Row) → ((r : Row) → g (f r) ≡ g r) → (rows : List Row) → sum_by g (map f rows) ≡ sum_by g rows
sum-kept g f each [] = refl
sum-kept g f each (r ∷ rows) = omega (arith, each r, sum-kept g f each rows, sum_by-cons g r rows, sum_by-cons g (f r) (map f rows))

-- states

pub waits-not_started : (s : JobState) → is_waiting s ≡ true → is_started s ≡ false
waits-not_started Running h = absurd (cc)
waits-not_started Suspended h = absurd (cc)
waits-not_started _ h = refl

pub started-waits : (s : JobState) → is_started s ≡ true → is_waiting s ≡ false
started-waits Running h = refl
started-waits Suspended h = refl
started-waits _ h = absurd (cc)

pub waits-not_failed : (s : JobState) → is_waiting s ≡ true → is_state s Failed ≡ false
waits-not_failed Failed h = absurd (cc)
waits-not_failed _ h = refl

-- a row lapses, or it stays
pub lapsed-cases : (Q : Row → Row → Type 0) (moment : ℕ) (rs : List Accepted) (r : Row) → (lapses moment rs r ≡ false → Q r r)
    → (lapses moment rs r ≡ true → is_waiting r.course.state ≡ true → (n : Note) → Q r (record r { course = failed moment n r.course }))
    → Q r (lapsed moment rs r)
lapsed-cases Q moment rs r here there =
    (elim (lapses moment rs r) as (λ t. lapses moment rs r ≡ t → Q r (cond t (record r { course = failed moment (cond (is_late moment r) note.PastDeadline note.ReservationGone) r.course }) r)) [
      | true ↦ λ h. there h (and_parts (is_waiting r.course.state) (is_late moment r || is_stranded rs r) h).0 (cond (is_late moment r) note.PastDeadline note.ReservationGone)
      | false ↦ λ h. here h
    ]) refl

-- a row is called in, or it stays
pub called-cases : (Q : Row → Row → Type 0) (moment : ℕ) (rs : List Accepted) (r : Row) → (is_due moment rs r ≡ false → Q r r)
    → (is_due moment rs r ≡ true → is_started r.course.state ≡ true → (n : Note) → Q r (record r { course = called n r.course }))
    → Q r (called_in moment rs r)
called-cases Q moment rs r here there =
    (elim (is_due moment rs r) as (λ t. is_due moment rs r ≡ t → Q r (cond t (record r { course = called (cond (is_over moment r) note.PastLimit note.ReservationGone) r.course }) r)) [
      | true ↦ λ h. there h (and_parts (is_started r.course.state) _ h).0 (cond (is_over moment r) note.PastLimit note.ReservationGone)
      | false ↦ λ h. here h
    ]) refl

pub lapsed-job : (moment : ℕ) (rs : List Accepted) (r : Row) → (lapsed moment rs r).job ≡ r.job
lapsed-job moment rs r = lapsed-cases (λ (p q : Row). q.job ≡ p.job) moment rs r (λ h. refl) (λ h w n. refl)

pub called-job : (moment : ℕ) (rs : List Accepted) (r : Row) → (called_in moment rs r).job ≡ r.job
called-job moment rs r = called-cases (λ (p q : Row). q.job ≡ p.job) moment rs r (λ h. refl) (λ h w n. refl)

pub lapsed-wants : (moment : ℕ) (rs : List Accepted) (r : Row) → (lapsed moment rs r).wants ≡ r.wants
lapsed-wants moment rs r = lapsed-cases (λ (p q : Row). q.wants ≡ p.wants) moment rs r (λ h. refl) (λ h w n. refl)

pub called-wants : (moment : ℕ) (rs : List Accepted) (r : Row) → (called_in moment rs r).wants ≡ r.wants
called-wants moment rs r = called-cases (λ (p q : Row). q.wants ≡ p.wants) moment rs r (λ h. refl) (λ h w n. refl)

-- the changes of the rows that lapse, as a list

abbrev pub expiry : ℕ → Row → Change
expiry entry row = record { entry = entry; job = row.job; home = row.home; from = row.course.state; to = Failed }

change-lapsed : (entry moment : ℕ) (rs : List Accepted) (r : Row) → change_of entry r (lapsed moment rs r) ≡ cond (lapses moment rs r) (expiry entry r ∷ []) []
change-lapsed entry moment rs r =
    (elim (lapses moment rs r) as (λ t. lapses moment rs r ≡ t →
    change_of entry r (cond t (record r { course = failed moment (cond (is_late moment r) note.PastDeadline note.ReservationGone) r.course }) r) ≡ cond t (expiry entry r ∷ []) []) [
      | true ↦ λ h. ap (λ t. cond t [] (expiry entry r ∷ [])) (waits-not_failed r.course.state (and_parts (is_waiting r.course.state) (is_late moment r || is_stranded rs r) h).0)
      | false ↦ λ h. change_of-same entry r
    ]) refl

pub changes-lapsed : (entry moment : ℕ) (rs : List Accepted) (rows : List Row) →
    flat_map (λ row. change_of entry row (lapsed moment rs row)) rows ≡ map (expiry entry) (filter (lapses moment rs) rows)
changes-lapsed entry moment rs [] = refl
changes-lapsed entry moment rs (r ∷ rows) =
    ap (λ xs. xs ++ flat_map (λ row. change_of entry row (lapsed moment rs row)) rows) (change-lapsed entry moment rs r)
    ∙ ap (λ xs. cond (lapses moment rs r) (expiry entry r ∷ []) [] ++ xs) (changes-lapsed entry moment rs rows)
    ∙ (elim (lapses moment rs r) as (λ t. cond t (expiry entry r ∷ []) [] ++ map (expiry entry) (filter (lapses moment rs) rows)
    ≡ map (expiry entry) (cond t (r ∷ filter (lapses moment rs) rows) (filter (lapses moment rs) rows))) [ true ↦ refl | false ↦ refl ])

-- time leaves the weight

room-lapsed : (m : ℕ) (rs : List Accepted) (r : Row) → room_of (lapsed m rs r).course + cond (lapses m rs r) 1 0 ≡ room_of r.course
room-lapsed m rs r =
    (elim (lapses m rs r) as (λ t. lapses m rs r ≡ t →
    room_of (cond t (record r { course = failed m (cond (is_late m r) note.PastDeadline note.ReservationGone) r.course }) r).course + cond t 1 0 ≡ room_of r.course) [
      | true ↦ λ h. sym (ap (λ (t : Bool). cond {A = ℕ} t 1 (phase_room r.course.phase)) (and_parts (is_waiting r.course.state) (is_late m r || is_stranded rs r) h).0)
      | false ↦ λ h. omega arith
    ]) refl

room-called : (m : ℕ) (rs : List Accepted) (r : Row) → room_of (called_in m rs r).course ≡ room_of r.course
room-called m rs r = called-cases (λ (p q : Row). room_of q.course ≡ room_of p.course) m rs r (λ h. refl) (λ h w n. refl)

pub weight-expire : (entry : ℕ) (p : Plan) → weight (expire entry p) ≡ weight p
weight-expire entry p =
    let ends = filter (lapses p.moment p.reservations) p.rows in
    let written : length (expire entry p).changes ≡ length (p.changes ++ map (expiry entry) ends) =
    ap (λ (cs : List Change). length (p.changes ++ cs)) (changes-lapsed entry p.moment p.reservations p.rows) in
    omega (
      arith,
      written,
      trade (λ (row : Row). room_of row.course) (lapsed p.moment p.reservations) (lapses p.moment p.reservations) (room-lapsed p.moment p.reservations) p.rows,
      length-map ends (expiry entry),
      length-append p.changes (map (expiry entry) ends),
    )

pub weight-call_in : (p : Plan) → weight (call_in p) ≡ weight p
weight-call_in p = omega (arith, sum-kept (λ (row : Row). room_of row.course) (called_in p.moment p.reservations) (room-called p.moment p.reservations) p.rows)

pub weight-advance : (entry at : ℕ) (p : Plan) → weight (advance_plan entry at p) ≡ weight p
weight-advance entry at p = weight-call_in (expire entry (let_go (come_to at p))) ∙ weight-expire entry (let_go (come_to at p))

-- a row as it will be, and where it is found

abbrev pub timed : ℕ → List Accepted → Row → Row
timed moment rs row = called_in moment rs (lapsed moment rs row)

pub row_of-advance : (entry at : ℕ) (p : Plan) (job : JobId) → let q = let_go (come_to at p) in
    row_of job (advance_plan entry at p).rows ≡ option_map (called_in q.moment q.reservations) (option_map (lapsed q.moment q.reservations) (row_of job p.rows))
row_of-advance entry at p job =
    let q = let_go (come_to at p) in
    row_of-map (called_in q.moment q.reservations) (called-job q.moment q.reservations) job (map (lapsed q.moment q.reservations) p.rows)
    ∙ ap (option_map (called_in q.moment q.reservations)) (row_of-map (lapsed q.moment q.reservations) (lapsed-job q.moment q.reservations) job p.rows)

-- time changes the course of a job, and nothing else of its row
pub lapsed-only : (moment : ℕ) (rs : List Accepted) (r : Row) → lapsed moment rs r ≡ record r { course = (lapsed moment rs r).course }
lapsed-only moment rs r = lapsed-cases (λ (p q : Row). q ≡ record p { course = q.course }) moment rs r (λ h. refl) (λ h w n. refl)

pub called-only : (moment : ℕ) (rs : List Accepted) (r : Row) → called_in moment rs r ≡ record r { course = (called_in moment rs r).course }
called-only moment rs r = called-cases (λ (p q : Row). q ≡ record p { course = q.course }) moment rs r (λ h. refl) (λ h w n. refl)

pub timed-only : (moment : ℕ) (rs : List Accepted) (r : Row) → timed moment rs r ≡ record r { course = (timed moment rs r).course }
timed-only moment rs r =
    called-only moment rs (lapsed moment rs r) ∙ ap (λ (x : Row). record x { course = (timed moment rs r).course }) (lapsed-only moment rs r)

pub map-twice : (f g : Row → Row) (rows : List Row) → map (λ r. f (g r)) rows ≡ map f (map g rows)
map-twice f g [] = refl
map-twice f g (r ∷ rows) = ap (λ xs. f (g r) ∷ xs) (map-twice f g rows)

pub timed-wants : (moment : ℕ) (rs : List Accepted) (r : Row) → (timed moment rs r).wants ≡ r.wants
timed-wants moment rs r = ap (λ (x : Row). x.wants) (timed-only moment rs r)
