-- Time rests at the machine's own moment: each step leads to a world in which time has done all that it does at that moment.
use Rattle.std.proofs.Common.{◌≡◌, ℕ, ◌≤◌, Bool, true, false, cond, leb, ◌&&◌, ◌||◌, List, [], ◌∷◌, ◌++◌, map, filter, Option, Some, None, refl, sym, ◌∙◌, ap, subst, arith, append-nil}
use Rattle.std.specs.Prelude.{max}
use Rattle.std.specs.List.{AllByRecursion, flat_map}
use Rattle.std.specs.Option.{option_map_or}
use Rattle.std.proofs.lemmas.Bool.{and_left, and_right, or_parts, or_from, false≢true, ltb-true, lt-leb, leb-true, le-leb}
use Rattle.drmaa_types.specs.States.{is_waiting, is_started, after_control}
use Rattle.drmaa_types.specs.declared.moments.End.{End}
use Rattle.drmaa_types.specs.declared.moments.End.TheVariants.{At, Never}
use Rattle.drmaa_types.specs.declared.states.Control.{Control}
use Rattle.drmaa_types.specs.declared.states.Control.TheVariants.{Suspend, Resume, Hold, Release, Terminate}
use Rattle.drmaa_types.specs.declared.states.JobState.{JobState}
use Rattle.drmaa_types.specs.declared.states.Note.{Note}
use Rattle.drmaa_types.specs.declared.states.Note.TheVariants as note
use Rattle.drmaa_types.specs.declared.states.SignalKind.{SignalKind}
use Rattle.drmaa_types.specs.declared.states.SignalKind.TheVariants as signal
use Rattle.drmaa_model.specs.declared.calls.Target.{Target}
use Rattle.drmaa_model.specs.declared.courses.Course.{Course}
use Rattle.drmaa_model.specs.declared.courses.Kill.{Kill}
use Rattle.drmaa_model.specs.declared.courses.Kill.TheVariants as kill
use Rattle.drmaa_model.specs.declared.reservations.Accepted.{Accepted}
use Rattle.drmaa_model.specs.declared.rows.Row.{Row}
use Rattle.drmaa_model.specs.ControlLaws.{control-cases}
use Rattle.drmaa_model.specs.Controlling.{control_step}
use Rattle.drmaa_model.specs.Courses.{limit_end, lesser_end, optional_end, planned_end, launched, failed, called, may_kill, terminated, controlled, signal_failed, is_asked, is_unasked}
use Rattle.drmaa_model.specs.Fit.{IsSound}
use Rattle.drmaa_model.specs.FitLaws.{SameKind, same-kind}
use Rattle.drmaa_model.specs.Load.{ends_after}
use Rattle.drmaa_model.specs.Plan.{Plan}
use Rattle.drmaa_model.specs.ReadyLaws.{planned-ahead}
use Rattle.drmaa_model.specs.ReportLaws.{Stops}
use Rattle.drmaa_model.specs.Resting.{Rests, IsCapped, IsResting}
use Rattle.drmaa_model.specs.RowLaws.{all-implied, all-map, all-passes, all-both}
use Rattle.drmaa_model.specs.Rows.{change_of}
use Rattle.drmaa_model.specs.Time.{let_go, lasts, is_late, is_past, is_over, is_stranded, lapses, lapsed, expire, is_due, called_in, kill_order, call_in, advance_plan}
use Rattle.drmaa_model.specs.TimeLaws.{lapsed-cases, called-cases, started-waits, changes-lapsed, expiry, timed, map-twice}

-- ---- lists in which nothing changes

filter-all : {X : Type 0} (t : X → Bool) (xs : List X) → AllByRecursion (λ x. t x ≡ true) xs → filter t xs ≡ xs
filter-all t [] all = refl
filter-all t (x ∷ xs) all = ap (λ b. cond b (x ∷ filter t xs) (filter t xs)) all.0 ∙ ap (λ ys. x ∷ ys) (filter-all t xs all.1)

filter-none : {X : Type 0} (t : X → Bool) (xs : List X) → AllByRecursion (λ x. t x ≡ false) xs → filter t xs ≡ []
filter-none t [] all = refl
filter-none t (x ∷ xs) all = ap (λ b. cond b (x ∷ filter t xs) (filter t xs)) all.0 ∙ filter-none t xs all.1

map-same : {X : Type 0} (f : X → X) (xs : List X) → AllByRecursion (λ x. f x ≡ x) xs → map f xs ≡ xs
map-same f [] all = refl
map-same f (x ∷ xs) all = ap (λ y. y ∷ map f xs) all.0 ∙ ap (λ ys. x ∷ ys) (map-same f xs all.1)

-- ---- what time leaves

lapsed-same : (m : ℕ) (rs : List Accepted) (r : Row) → lapses m rs r ≡ false → lapsed m rs r ≡ r
lapsed-same m rs r is = ap (λ b. cond b (record r { course = failed m (cond (is_late m r) note.PastDeadline note.ReservationGone) r.course }) r) is

called-same : (m : ℕ) (rs : List Accepted) (r : Row) → is_due m rs r ≡ false → called_in m rs r ≡ r
called-same m rs r is = ap (λ b. cond b (record r { course = called (cond (is_over m r) note.PastLimit note.ReservationGone) r.course }) r) is

expire-still : (entry : ℕ) (p : Plan) → AllByRecursion (λ (r : Row). lapses p.moment p.reservations r ≡ false) p.rows → expire entry p ≡ p
expire-still entry p quiet =
    let rows : map (lapsed p.moment p.reservations) p.rows ≡ p.rows =
    map-same (lapsed p.moment p.reservations) p.rows
    (all-implied (λ (r : Row). lapses p.moment p.reservations r ≡ false) (λ (r : Row). lapsed p.moment p.reservations r ≡ r) (lapsed-same p.moment p.reservations) p.rows quiet) in
    let changes : p.changes ++ flat_map (λ row. change_of entry row (lapsed p.moment p.reservations row)) p.rows ≡ p.changes =
    ap (λ cs. p.changes ++ cs) (changes-lapsed entry p.moment p.reservations p.rows ∙ ap (map (expiry entry)) (filter-none (lapses p.moment p.reservations) p.rows quiet)) ∙ append-nil p.changes in
    ap (λ (rows : List Row). record p { rows = rows; changes = p.changes ++ flat_map (λ row. change_of entry row (lapsed p.moment p.reservations row)) p.rows }) rows
    ∙ ap (λ cs. record p { changes = cs }) changes

call_in-still : (p : Plan) → AllByRecursion (λ (r : Row). is_due p.moment p.reservations r ≡ false) p.rows → call_in p ≡ p
call_in-still p quiet =
    let rows : map (called_in p.moment p.reservations) p.rows ≡ p.rows =
    map-same (called_in p.moment p.reservations) p.rows
    (all-implied (λ (r : Row). is_due p.moment p.reservations r ≡ false) (λ (r : Row). called_in p.moment p.reservations r ≡ r) (called-same p.moment p.reservations) p.rows quiet) in
    let due = filter (is_due p.moment p.reservations) p.rows in
    ap (λ (rows : List Row). record p { rows = rows; orders = p.orders ++ map kill_order (filter (is_due p.moment p.reservations) p.rows) }) rows
    ∙ ap (λ (late : List Row). record p { orders = p.orders ++ map kill_order late }) (filter-none (is_due p.moment p.reservations) p.rows quiet)
    ∙ ap (λ orders. record p { orders = orders }) (append-nil p.orders)

-- Time leaves a plan that rests as it is, at its own moment and before it.
pub resting-still : (entry at : ℕ) (p : Plan) → at ≤ p.moment → IsResting p → advance_plan entry at p ≡ p
resting-still entry at p early rests =
    let here : max p.moment at ≡ p.moment = omega arith in
    let waits = all-implied (Rests p.moment p.reservations) (λ (r : Row). lapses p.moment p.reservations r ≡ false) (λ r is. is.waits) p.rows rests.rows in
    let runs = all-implied (Rests p.moment p.reservations) (λ (r : Row). is_due p.moment p.reservations r ≡ false) (λ r is. is.runs) p.rows rests.rows in
    ap (λ (n : ℕ). call_in (expire entry (let_go (record p { moment = n })))) here
    ∙ ap (λ (rs : List Accepted). call_in (expire entry (record p { reservations = rs }))) (filter-all (lasts p.moment) p.reservations rests.lasting)
    ∙ ap call_in (expire-still entry p waits)
    ∙ call_in-still p runs

-- ---- what time comes to

rests-timed : (m : ℕ) (rs : List Accepted) (r : Row) → Rests m rs (timed m rs r)
rests-timed m rs r =
    called-cases (λ (a b : Row). lapses m rs a ≡ false → Rests m rs b) m rs (lapsed m rs r)
    (λ due quiet. record { waits = quiet; runs = due })
    (λ due started n quiet. record {
      waits = and_left (is_waiting (lapsed m rs r).course.state) _ (started-waits (lapsed m rs r).course.state started);
      runs = and_right (is_started (lapsed m rs r).course.state) _ refl;
    })
    (lapsed-cases (λ (a b : Row). lapses m rs b ≡ false) m rs r (λ quiet. quiet) (λ late waits n. refl))

capped-timed : (m : ℕ) (rs : List Accepted) (r : Row) → IsCapped r → IsCapped (timed m rs r)
capped-timed m rs r capped =
    called-cases (λ (a b : Row). IsCapped a → IsCapped b) m rs (lapsed m rs r) (λ due is. is) (λ due started n is. is)
    (lapsed-cases (λ (a b : Row). IsCapped a → IsCapped b) m rs r (λ quiet is. is) (λ late waits n is. λ started. absurd (cc)) capped)

-- the rows of a plan whose jobs time has acted on, by these reservations
pub all-timed : (m : ℕ) (rs : List Accepted) (rows : List Row) → AllByRecursion IsCapped rows
    → AllByRecursion (λ (r : Row). Rests m rs r × IsCapped r) (map (called_in m rs) (map (lapsed m rs) rows))
all-timed m rs rows capped =
    subst (AllByRecursion (λ (r : Row). Rests m rs r × IsCapped r)) (map-twice (called_in m rs) (lapsed m rs) rows)
    (all-map (λ (r : Row). Rests m rs r × IsCapped r) (timed m rs) rows
    (all-implied IsCapped (λ (r : Row). Rests m rs (timed m rs r) × IsCapped (timed m rs r)) (λ r is. (rests-timed m rs r, capped-timed m rs r is)) rows capped))

all-first : {X : Type 0} (P Q : X → Type 0) (xs : List X) → AllByRecursion (λ x. P x × Q x) xs → AllByRecursion P xs
all-first P Q xs all = all-implied (λ x. P x × Q x) P (λ x both. both.0) xs all

all-second : {X : Type 0} (P Q : X → Type 0) (xs : List X) → AllByRecursion (λ x. P x × Q x) xs → AllByRecursion Q xs
all-second P Q xs all = all-implied (λ x. P x × Q x) Q (λ x both. both.1) xs all

-- a plan rests whose rows rest and are capped, and whose reservations last
pub resting-from : (p : Plan) → AllByRecursion (λ (r : Row). Rests p.moment p.reservations r × IsCapped r) p.rows → AllByRecursion (λ (a : Accepted). lasts p.moment a ≡ true) p.reservations → IsResting p
resting-from p all lasting = record {
  rows = all-first (Rests p.moment p.reservations) IsCapped p.rows all;
  lasting = lasting;
  capped = all-second (Rests p.moment p.reservations) IsCapped p.rows all;
}

pub both-of : (p : Plan) → IsResting p → AllByRecursion (λ (r : Row). Rests p.moment p.reservations r × IsCapped r) p.rows
both-of p rests = all-both (Rests p.moment p.reservations) IsCapped p.rows rests.rows rests.capped

pub advance-rests : (entry at : ℕ) (p : Plan) → AllByRecursion IsCapped p.rows → IsResting (advance_plan entry at p)
advance-rests entry at p capped =
    resting-from (advance_plan entry at p) (all-timed (max p.moment at) (filter (lasts (max p.moment at)) p.reservations) p.rows capped) (all-passes (lasts (max p.moment at)) p.reservations)

-- ---- what a job that rests may go over to

-- a course by which a job goes on, so that it rests then
pub record GoesOnResting (p : Plan) (row : Row) (next : Course) : Type 0 where
  pub rests : Rests p.moment p.reservations (record row { course = next })
  pub capped : IsCapped (record row { course = next })

-- nothing ends a job that waits
pub waits-free : (m : ℕ) (rs : List Accepted) (r : Row) → Rests m rs r → is_waiting r.course.state ≡ true → (is_late m r ≡ false) × (is_stranded rs r ≡ false)
waits-free m rs r rests waits =
    or_parts (is_late m r) (is_stranded rs r) (sym (ap (λ b. b && (is_late m r || is_stranded rs r)) waits) ∙ rests.waits)

-- nor one that runs, where no kill was asked
pub runs-free : (m : ℕ) (rs : List Accepted) (r : Row) → Rests m rs r → is_started r.course.state ≡ true → is_unasked r.course.kill ≡ true → (is_over m r ≡ false) × (is_stranded rs r ≡ false)
runs-free m rs r rests started unasked =
    or_parts (is_over m r) (is_stranded rs r)
    (sym (ap (λ b. b && (is_unasked r.course.kill && (is_over m r || is_stranded rs r))) started ∙ ap (λ b. b && (is_over m r || is_stranded rs r)) unasked) ∙ rests.runs)

-- its deadline is not reached then
runs-early : (m : ℕ) (r : Row) → IsCapped r → is_started r.course.state ≡ true → is_over m r ≡ false → is_late m r ≡ false
runs-early m r capped started over =
    (elim (is_late m r) as (λ b. is_late m r ≡ b → b ≡ false) [
      | true ↦ λ late. absurd (false≢true (sym over ∙ capped started m late))
      | false ↦ λ e. refl
    ]) refl

-- ---- a launch

past-not : (m : ℕ) (e : End) → ends_after m e ≡ true → is_past m e ≡ false
past-not m (At n) h = lt-leb n m (ltb-true m n h)
past-not m Never h = refl

-- the lesser of two ends is past where the second is
lesser-past : (m : ℕ) (a b : End) → is_past m b ≡ true → is_past m (lesser_end a b) ≡ true
lesser-past m Never b past = past
lesser-past m (At a) Never past = absurd (cc)
lesser-past m (At a) (At b) past =
    (elim (leb a b) as (λ t. leb a b ≡ t → is_past m (cond t (At a) (At b)) ≡ true) [
      | true ↦ λ e. (let less = leb-true a b e in let early = leb-true b m past in le-leb a m (omega arith))
      | false ↦ λ e. past
    ]) refl

deadline-past : (m : ℕ) (o : Option ℕ) → option_map_or (λ (deadline : ℕ). leb deadline m) o false ≡ true → is_past m (optional_end o) ≡ true
deadline-past m None late = absurd (cc)
deadline-past m (Some deadline) late = late

pub launched-resting : (p : Plan) (row : Row) (slots : ℕ) → IsSound row.wants row.course → is_waiting row.course.state ≡ true → Rests p.moment p.reservations row
    → GoesOnResting p row (launched p.moment slots (planned_end row.wants p.moment) row.course)
launched-resting p row slots sound waits rests =
    let free = waits-free p.moment p.reservations row rests waits in
    let ahead : is_past p.moment (planned_end row.wants p.moment) ≡ false = past-not p.moment (planned_end row.wants p.moment) (planned-ahead row.wants p.moment sound.limit free.0) in
    record {
      rests = record { waits = refl; runs = and_right (is_unasked row.course.kill) _ (or_from _ (is_stranded p.reservations row) ahead free.1) };
      capped = λ started moment late. lesser-past moment (limit_end p.moment row.wants.limit) (optional_end row.wants.deadline) (deadline-past moment row.wants.deadline late);
    }

-- ---- the end of a run

unasked-of : (k : Kill) → is_asked k ≡ false → is_unasked k ≡ true
unasked-of kill.No e = refl
unasked-of kill.Asked e = absurd (cc)
unasked-of kill.Failed e = absurd (cc)

pub stopped-resting : (p : Plan) (row : Row) (next : Course) → is_started row.course.state ≡ true → Stops row.course next → Rests p.moment p.reservations row → IsCapped row
    → GoesOnResting p row next
stopped-resting p row next started stops rests capped = record {
  rests = record {
    waits =
        (elim (is_waiting next.state) as (λ b. is_waiting next.state ≡ b → (b && (is_late p.moment row || is_stranded p.reservations row)) ≡ false) [
          | true ↦ λ waits.
              (let free = runs-free p.moment p.reservations row rests started (unasked-of row.course.kill (stops.over.waits waits)) in
              or_from (is_late p.moment row) (is_stranded p.reservations row) (runs-early p.moment row capped started free.0) free.1)
          | false ↦ λ e. refl
        ]) refl;
    runs = and_left (is_started next.state) _ stops.over.stopped;
  };
  capped = λ still. absurd (false≢true (sym stops.over.stopped ∙ still));
}

-- ---- a signal that could not be delivered

pub marked-resting : (p : Plan) (row : Row) (k : SignalKind) → Rests p.moment p.reservations row → IsCapped row → GoesOnResting p row (signal_failed k row.course)
marked-resting p row signal.Stop rests capped = record { rests = record { waits = rests.waits; runs = rests.runs }; capped = capped }
marked-resting p row signal.Cont rests capped = record { rests = record { waits = rests.waits; runs = rests.runs }; capped = capped }
marked-resting p row signal.Kill rests capped = record { rests = record { waits = rests.waits; runs = and_right (is_started row.course.state) _ refl }; capped = capped }

-- ---- a control call

state-resting : (m : ℕ) (rs : List Accepted) (row : Row) (state : JobState) → SameKind row.course.state state → Rests m rs row → IsCapped row
    → Rests m rs (record row { course = record row.course { state = state } }) × IsCapped (record row { course = record row.course { state = state } })
state-resting m rs row state kind rests capped = (
  record {
    waits = ap (λ b. b && (is_late m row || is_stranded rs row)) kind.waits ∙ rests.waits;
    runs = ap (λ b. b && (is_unasked row.course.kill && (is_over m row || is_stranded rs row))) kind.kind ∙ rests.runs;
  },
  λ started. capped (sym kind.kind ∙ started),
)

failed-resting : (m moment : ℕ) (n : Note) (rs : List Accepted) (row : Row) → Rests m rs (record row { course = failed moment n row.course }) × IsCapped (record row { course = failed moment n row.course })
failed-resting m moment n rs row = (record { waits = refl; runs = refl }, λ started. absurd (cc))

called-resting : (m : ℕ) (n : Note) (rs : List Accepted) (row : Row) → Rests m rs row → IsCapped row → Rests m rs (record row { course = called n row.course }) × IsCapped (record row { course = called n row.course })
called-resting m n rs row rests capped = (record { waits = rests.waits; runs = and_right (is_started row.course.state) _ refl }, capped)

terminated-resting : (m : ℕ) (rs : List Accepted) (row : Row) → Rests m rs row → IsCapped row → Rests m rs (record row { course = terminated m row.course }) × IsCapped (record row { course = terminated m row.course })
terminated-resting m rs row rests capped =
    elim (is_started row.course.state) as (λ s. Rests m rs (record row { course = cond s (cond (may_kill row.course.kill) (called note.Terminated row.course) row.course) (failed m note.Terminated row.course) })
    × IsCapped (record row { course = cond s (cond (may_kill row.course.kill) (called note.Terminated row.course) row.course) (failed m note.Terminated row.course) })) [
      | false ↦ failed-resting m m note.Terminated rs row
      | true ↦ elim (may_kill row.course.kill) as (λ k. Rests m rs (record row { course = cond k (called note.Terminated row.course) row.course }) × IsCapped (record row { course = cond k (called note.Terminated row.course) row.course })) [
        | true ↦ called-resting m note.Terminated rs row rests capped
        | false ↦ (rests, capped)
      ]
    ]

controlled-resting : (m : ℕ) (rs : List Accepted) (what : Control) (row : Row) (state : JobState) → after_control row.course.state what ≡ Some state → Rests m rs row → IsCapped row
    → Rests m rs (record row { course = controlled m what state row.course }) × IsCapped (record row { course = controlled m what state row.course })
controlled-resting m rs Suspend row state permits rests capped = state-resting m rs row state (same-kind Suspend row.course.state state (λ e. cc) permits) rests capped
controlled-resting m rs Resume row state permits rests capped = state-resting m rs row state (same-kind Resume row.course.state state (λ e. cc) permits) rests capped
controlled-resting m rs Hold row state permits rests capped = state-resting m rs row state (same-kind Hold row.course.state state (λ e. cc) permits) rests capped
controlled-resting m rs Release row state permits rests capped = state-resting m rs row state (same-kind Release row.course.state state (λ e. cc) permits) rests capped
controlled-resting m rs Terminate row state permits rests capped = terminated-resting m rs row rests capped

pub control-resting : (m : ℕ) (rs : List Accepted) (t : Target) (what : Control) (row : Row) → Rests m rs row × IsCapped row → Rests m rs (control_step m t what row) × IsCapped (control_step m t what row)
control-resting m rs t what row both =
    control-cases (λ (a b : Row). Rests m rs a × IsCapped a → Rests m rs b × IsCapped b) m t what row (λ same. same)
    (λ state permits same. controlled-resting m rs what row state permits same.0 same.1) both
