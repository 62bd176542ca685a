-- Who is ready once time has come to a moment is known before time changes any job.
use Rattle.std.proofs.Common.{◌≡◌, ℕ, ◌+◌, ◌-◌, ◌≤◌, true, false, cond, leb, ltb, ◌&&◌, ◌||◌, List, Option, Some, None, refl, sym, ◌∙◌, ap, arith}
use Rattle.std.specs.Prelude.{IfSome}
use Rattle.std.specs.Option.{option_map_or}
use Rattle.std.proofs.lemmas.Bool.{leb-false, lt-ltb}
use Rattle.drmaa_types.specs.Moments.{greatest}
use Rattle.drmaa_types.specs.Queues.{queue_at}
use Rattle.drmaa_types.specs.States.{is_waiting}
use Rattle.drmaa_types.specs.declared.queues.QueueSpec.{QueueSpec}
use Rattle.drmaa_types.specs.declared.identifiers.ArrayId.{ArrayId}
use Rattle.drmaa_types.specs.declared.identifiers.ReservationId.{ReservationId}
use Rattle.drmaa_types.specs.declared.moments.End.{End}
use Rattle.drmaa_types.specs.declared.moments.End.TheVariants.{At, Never}
use Rattle.drmaa_model.specs.declared.reservations.Accepted.{Accepted}
use Rattle.drmaa_model.specs.declared.rows.Row.{Row}
use Rattle.drmaa_model.specs.declared.rows.Wants.{Wants}
use Rattle.drmaa_model.specs.Courses.{planned_end, limit_end, lesser_end, optional_end}
use Rattle.drmaa_model.specs.Fit.{IsFit}
use Rattle.drmaa_model.specs.FitLaws.{held-advance, inside-advance, queue-advance, array-advance, load-advance, load-let_go}
use Rattle.drmaa_model.specs.Load.{ends_after, covers, in_reservation, in_queue, in_array, reservation_of, fits}
use Rattle.drmaa_model.specs.MomentLaws.{LoadsAlike, fits-same, greatest_from-same}
use Rattle.drmaa_model.specs.NextLaunch.{held, is_queued, is_reached, is_within_bound, has_slots_in, has_slots_free, has_room_in, has_slots, may_come, is_ready, slots_for}
use Rattle.drmaa_model.specs.Plan.{Plan}
use Rattle.drmaa_model.specs.Time.{come_to, let_go, is_late, is_stranded, lapses, lapsed, advance_plan}
use Rattle.drmaa_model.specs.TimeLaws.{timed, lapsed-cases, called-cases}

-- plans that are seen alike by who asks for a job to launch
pub record SeenAlike (p q : Plan) : Type 0 where
  pub moment : p.moment ≡ q.moment
  pub reservations : p.reservations ≡ q.reservations
  pub held : held p.rows ≡ held q.rows
  pub inside : (number : ReservationId) → in_reservation number p.rows ≡ in_reservation number q.rows
  pub members : (array : ArrayId) → in_array array p.rows ≡ in_array array q.rows
  pub queues : p.queues ≡ q.queues
  pub queued : (place : ℕ) → in_queue place p.rows ≡ in_queue place q.rows
  pub loads : LoadsAlike p q p.moment

in_bound-same : (p q : Plan) (row : Row) → SeenAlike p q → is_within_bound p.rows row.wants ≡ is_within_bound q.rows row.wants
in_bound-same p q row alike =
    elim row.wants.bound as (λ o. option_map_or (λ (bound : ℕ). option_map_or (λ (array : ArrayId). ltb (in_array array p.rows) bound) row.wants.array true) o true
    ≡ option_map_or (λ (bound : ℕ). option_map_or (λ (array : ArrayId). ltb (in_array array q.rows) bound) row.wants.array true) o true) [
      | None ↦ refl
      | Some bound ↦ elim row.wants.array as (λ o. option_map_or (λ (array : ArrayId). ltb (in_array array p.rows) bound) o true ≡ option_map_or (λ (array : ArrayId). ltb (in_array array q.rows) bound) o true) [
        | None ↦ refl
        | Some array ↦ ap (λ (n : ℕ). ltb n bound) (alike.members array)
      ]
    ]

inside-same : (p q : Plan) (slots : ℕ) (n : ReservationId) → SeenAlike p q → has_slots_in p slots n ≡ has_slots_in q slots n
inside-same p q slots n alike =
    ap (λ (rs : List Accepted). option_map_or (λ (a : Accepted). covers p.moment a && leb (in_reservation n p.rows + slots) a.slots) (reservation_of n rs) false) alike.reservations
    ∙ ap (λ (m : ℕ). option_map_or (λ (a : Accepted). covers m a && leb (in_reservation n p.rows + slots) a.slots) (reservation_of n q.reservations) false) alike.moment
    ∙ ap (λ (k : ℕ). option_map_or (λ (a : Accepted). covers q.moment a && leb (k + slots) a.slots) (reservation_of n q.reservations) false) (alike.inside n)

room-same : (p q : Plan) (slots place : ℕ) → SeenAlike p q → has_room_in p slots place ≡ has_room_in q slots place
room-same p q slots place alike =
    ap (λ (qs : List QueueSpec). option_map_or (λ (queue : QueueSpec). leb (in_queue place p.rows + slots) queue.limit) (queue_at place qs) true) alike.queues
    ∙ ap (λ (n : ℕ). option_map_or (λ (queue : QueueSpec). leb (n + slots) queue.limit) (queue_at place q.queues) true) (alike.queued place)

free-same : (p q : Plan) (slots : ℕ) (row : Row) → SeenAlike p q → has_slots_free p slots row ≡ has_slots_free q slots row
free-same p q slots row alike =
    ap (λ b. b && option_map_or (has_room_in p slots) row.wants.queue true)
    (fits-same p q slots p.moment (planned_end row.wants p.moment) p.moment alike.loads (omega arith) ∙ ap (λ (m : ℕ). fits q slots m (planned_end row.wants m)) alike.moment)
    ∙ ap (λ b. fits q slots q.moment (planned_end row.wants q.moment) && b)
    (elim row.wants.queue as (λ o. option_map_or (has_room_in p slots) o true ≡ option_map_or (has_room_in q slots) o true) [ None ↦ refl | Some place ↦ room-same p q slots place alike ])

pub slots-same : (p q : Plan) (slots : ℕ) (row : Row) → SeenAlike p q → has_slots p slots row ≡ has_slots q slots row
slots-same p q slots row alike =
    elim row.wants.reservation as (λ o. option_map_or (has_slots_in p slots) o (has_slots_free p slots row) ≡ option_map_or (has_slots_in q slots) o (has_slots_free q slots row)) [
      | None ↦ free-same p q slots row alike
      | Some n ↦ inside-same p q slots n alike
    ]

pub come-same : (p q : Plan) (row : Row) → SeenAlike p q → may_come p row ≡ may_come q row
come-same p q row alike =
    ap (λ (m : ℕ). is_queued row.course.state && is_reached m row.wants.start && is_within_bound p.rows row.wants) alike.moment
    ∙ ap (λ b. is_queued row.course.state && is_reached q.moment row.wants.start && b) (in_bound-same p q row alike)

pub ready-same : (p q : Plan) (slots : ℕ) (row : Row) → SeenAlike p q → is_ready p slots row ≡ is_ready q slots row
ready-same p q slots row alike =
    ap (λ b. b && (leb (held p.rows + slots) p.total && has_slots p slots row)) (come-same p q row alike)
    ∙ ap (λ (n : ℕ). may_come q row && (leb (n + slots) p.total && has_slots p slots row)) alike.held
    ∙ ap (λ (n : ℕ). may_come q row && (leb (held q.rows + slots) n && has_slots p slots row)) alike.loads.total
    ∙ ap (λ b. may_come q row && (leb (held q.rows + slots) q.total && b)) (slots-same p q slots row alike)

pub slots_for-same : (p q : Plan) (row : Row) → SeenAlike p q → slots_for p row ≡ slots_for q row
slots_for-same p q row alike =
    greatest_from-same row.wants.min (row.wants.max - row.wants.min) (λ slots. is_ready p slots row) (λ slots. is_ready q slots row) (λ slots. ready-same p q slots row alike)

-- time changes no job's readiness beyond its own state
pub seen-advance : (entry at : ℕ) (p : Plan) → IsFit p → SeenAlike (advance_plan entry at p) (let_go (come_to at p))
seen-advance entry at p fit = record {
  moment = refl;
  reservations = refl;
  held = held-advance entry at p fit;
  inside = λ number. inside-advance number entry at p fit;
  members = λ array. array-advance array entry at p fit;
  queues = refl;
  queued = λ place. queue-advance place entry at p fit;
  loads = record { total = refl; loads = λ x later. load-advance entry at p fit x later ∙ sym (load-let_go at p x later) };
}

-- ---- a planned end is ahead

lapsed-late : (moment : ℕ) (rs : List Accepted) (r : Row) → is_waiting (lapsed moment rs r).course.state ≡ true → is_late moment r ≡ false
lapsed-late moment rs r =
    lapsed-cases (λ (a b : Row). is_waiting b.course.state ≡ true → is_late moment a ≡ false) moment rs r
    (λ h waits. (elim (is_late moment r) as (λ t. is_late moment r ≡ t → t ≡ false) [
      | true ↦ λ e. (let yes : lapses moment rs r ≡ true = ap (λ b. b && (is_late moment r || is_stranded rs r)) waits ∙ ap (λ b. b || is_stranded rs r) e in absurd (cc))
      | false ↦ λ e. refl
    ]) refl)
    (λ h w n waits. absurd (cc))

pub not-late : (moment : ℕ) (rs : List Accepted) (r : Row) → is_waiting (timed moment rs r).course.state ≡ true → is_late moment r ≡ false
not-late moment rs r waits =
    lapsed-late moment rs r (called-cases (λ (a b : Row). is_waiting b.course.state ≡ true → is_waiting a.course.state ≡ true) moment rs (lapsed moment rs r) (λ h w. w) (λ h s n w. w) waits)

limit-ahead : (moment : ℕ) (o : Option ℕ) → IfSome o (λ (seconds : ℕ). 1 ≤ seconds) → ends_after moment (limit_end moment o) ≡ true
limit-ahead moment None h = refl
limit-ahead moment (Some seconds) h =
    elim (leb (moment + seconds) greatest) as (λ b. ends_after moment (cond b (At (moment + seconds)) Never) ≡ true) [
      | true ↦ lt-ltb moment (moment + seconds) (omega arith)
      | false ↦ refl
    ]

deadline-ahead : (moment : ℕ) (o : Option ℕ) → option_map_or (λ (deadline : ℕ). leb deadline moment) o false ≡ false → ends_after moment (optional_end o) ≡ true
deadline-ahead moment None h = refl
deadline-ahead moment (Some deadline) h = lt-ltb moment deadline (leb-false deadline moment h)

lesser-ahead : (moment : ℕ) (a b : End) → ends_after moment a ≡ true → ends_after moment b ≡ true → ends_after moment (lesser_end a b) ≡ true
lesser-ahead moment Never b h k = k
lesser-ahead moment (At a) Never h k = h
lesser-ahead moment (At a) (At b) h k = elim (leb a b) as (λ t. ends_after moment (cond t (At a) (At b)) ≡ true) [ true ↦ h | false ↦ k ]

-- the planned end of a launch is after its moment
pub planned-ahead : (w : Wants) (moment : ℕ) → IfSome w.limit (λ (seconds : ℕ). 1 ≤ seconds) → option_map_or (λ (deadline : ℕ). leb deadline moment) w.deadline false ≡ false
    → ends_after moment (planned_end w moment) ≡ true
planned-ahead w moment limit late = lesser-ahead moment (limit_end moment w.limit) (optional_end w.deadline) (limit-ahead moment w.limit limit) (deadline-ahead moment w.deadline late)
