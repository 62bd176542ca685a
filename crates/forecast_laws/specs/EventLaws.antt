-- Nothing happens between two events.
use Rattle.std.proofs.Common.{◌≡◌, ℕ, ◌+◌, ◌≤◌, ◌==◌, Bool, true, false, cond, leb, ltb, ◌&&◌, inl, inr, List, [], ◌∷◌, map, filter, Option, Some, None, refl, sym, ◌∙◌, ap, subst, arith}
use Rattle.std.specs.Prelude.{max, min, find}
use Rattle.std.specs.List.{AllByRecursion, list_any}
use Rattle.std.specs.Option.{option_map, option_map_or}
use Rattle.std.proofs.lemmas.Bool.{cases_lt, and_parts, and_from, le-leb, lt-leb, false_from_ne_true}
use Rattle.drmaa_types.specs.Moments.{greatest}
use Rattle.drmaa_types.specs.States.{is_waiting, is_started}
use Rattle.drmaa_types.specs.declared.identifiers.ReservationId.{ReservationId}
use Rattle.drmaa_types.specs.declared.identifiers.ArrayId.{ArrayId}
use Rattle.drmaa_types.specs.declared.moments.End.{End}
use Rattle.drmaa_types.specs.declared.moments.End.TheVariants.{At, Never}
use Rattle.drmaa_model.specs.declared.reservations.Accepted.{Accepted}
use Rattle.drmaa_model.specs.declared.rows.Row.{Row}
use Rattle.drmaa_model.specs.declared.rows.Wants.{Wants}
use Rattle.drmaa_model.specs.Consistent.{IsConsistent}
use Rattle.drmaa_model.specs.Courses.{planned_end, limit_end, lesser_end, optional_end, is_asked}
use Rattle.drmaa_model.specs.Events.{is_row_event, bounds_at, is_event}
use Rattle.drmaa_model.specs.Fit.{IsFit, IsSound}
use Rattle.drmaa_model.specs.FitLaws.{load-let_go}
use Rattle.drmaa_model.specs.Load.{ends_after, covers, slots_at, uses_at, load, bound_of, in_reservation, in_array, reservation_of, fits}
use Rattle.drmaa_model.specs.MomentLaws.{ends-before, fits-at, fits-from}
use Rattle.drmaa_model.specs.NextLaunch.{is_queued, is_reached, is_within_bound, has_slots_in, has_room_in, has_slots, may_come, is_ready, best_of, slots_for, next_launch}
use Rattle.drmaa_model.specs.NextLaunchLaws.{ready-parts, ready-from, next_launch-none, queued-may_launch}
use Rattle.drmaa_model.specs.Plan.{Plan}
use Rattle.drmaa_model.specs.ReadyLaws.{ready-same, seen-advance, planned-ahead, not-late}
use Rattle.drmaa_model.specs.RowLaws.{all-both, all-implied, all-filter, all-map}
use Rattle.drmaa_model.specs.SumLaws.{sum-each}
use Rattle.drmaa_model.specs.Time.{come_to, let_go, lasts, lapsed, called_in, advance_plan, advance}
use Rattle.drmaa_model.specs.TimeLaws.{timed, timed-wants, map-twice, lapsed-cases, called-cases}
use Rattle.drmaa_model.specs.WaitLaws.{launch-nothing, nothing-launch}
use Rattle.drmaa_model.specs.World.{World}
use Rattle.forecast_laws.specs.Forecasts.{is_ending, NoneEnds, IsDone}
use Rattle.forecast_laws.specs.QuietLaws.{NoneBetween, each-quiet, first-quiet, second-quiet, ReservationStays, reservation-stays, JobStays, job-stays, AreAlike, timed-alike}

-- nothing is left to do in a plan
pub record IsStill (p : Plan) : Type 0 where
  pub launched : next_launch p ≡ None
  pub ended : NoneEnds p.rows

-- ---- lists

filter-same : {X : Type 0} (t s : X → Bool) (xs : List X) → AllByRecursion (λ x. t x ≡ s x) xs → filter t xs ≡ filter s xs
filter-same t s [] all = refl
filter-same t s (x ∷ xs) all =
    ap (λ b. cond b (x ∷ filter t xs) (filter t xs)) all.0 ∙ ap (λ ys. cond (s x) (x ∷ ys) ys) (filter-same t s xs all.1)

pub filter-none : {X : Type 0} (t : X → Bool) (xs : List X) → AllByRecursion (λ x. t x ≡ false) xs → filter t xs ≡ []
filter-none t [] all = refl
filter-none t (x ∷ xs) all = ap (λ b. cond b (x ∷ filter t xs) (filter t xs)) all.0 ∙ filter-none t xs all.1

found-same : {X : Type 0} (t F G : X → Bool) (xs : List X) → AllByRecursion (λ x. F x ≡ G x) xs → option_map_or F (find t xs) false ≡ option_map_or G (find t xs) false
found-same t F G [] all = refl
found-same t F G (x ∷ xs) all =
    elim (t x) as (λ b. option_map_or F (cond b (Some x) (find t xs)) false ≡ option_map_or G (cond b (Some x) (find t xs)) false) [
      | true ↦ all.0
      | false ↦ found-same t F G xs all.1
    ]

unmap : {X Y : Type 0} (P : Y → Type 0) (f : X → Y) (xs : List X) → AllByRecursion P (map f xs) → AllByRecursion (λ x. P (f x)) xs
unmap P f [] all = tt
unmap P f (x ∷ xs) all = (all.0, unmap P f xs all.1)

-- where no job is ready none is launched
none-ready : (p : Plan) → AllByRecursion (λ (r : Row). is_ready p r.wants.min r ≡ false) p.rows → next_launch p ≡ None
none-ready p all =
    ap (λ (rows : List Row). option_map {U = Row × ℕ} (λ (row : Row). (row, slots_for p row)) (best_of rows)) (filter-none (λ (r : Row). is_ready p r.wants.min r) p.rows all)

-- ---- the planned end of a later launch is not earlier

limit-later : (u v : ℕ) → u ≤ v → (o : Option ℕ) → bound_of (limit_end u o) ≤ bound_of (limit_end v o)
limit-later u v order None = omega arith
limit-later u v order (Some n) =
    elim (cases_lt greatest (u + n)) [
      | inl above ↦ subst (λ (b : Bool). bound_of (cond b (At (u + n)) Never) ≤ bound_of (cond (leb (v + n) greatest) (At (v + n)) Never)) (sym (lt-leb (u + n) greatest above))
          (subst (λ (b : Bool). bound_of Never ≤ bound_of (cond b (At (v + n)) Never)) (sym (lt-leb (v + n) greatest (omega (arith, above, order)))) (omega arith))
      | inr within ↦ subst (λ (b : Bool). bound_of (cond b (At (u + n)) Never) ≤ bound_of (cond (leb (v + n) greatest) (At (v + n)) Never)) (sym (le-leb (u + n) greatest within))
          (elim (leb (v + n) greatest) as (λ b. bound_of (At (u + n)) ≤ bound_of (cond b (At (v + n)) Never)) [
            | true ↦ omega (arith, order)
            | false ↦ omega (arith, within)
          ])
    ]

lesser-bound : (a b : End) → bound_of (lesser_end a b) ≡ min (bound_of a) (bound_of b)
lesser-bound Never (At n) = omega arith
lesser-bound Never Never = omega arith
lesser-bound (At n) Never = omega arith
lesser-bound (At n) (At k) = elim (cases_lt k n) [
  | inl lt ↦ ap (λ (b : Bool). bound_of (cond b (At n) (At k))) (lt-leb n k lt) ∙ omega (arith, lt)
  | inr le ↦ ap (λ (b : Bool). bound_of (cond b (At n) (At k))) (le-leb n k le) ∙ omega (arith, le)
]

planned-later : (u v : ℕ) → u ≤ v → (w : Wants) → bound_of (planned_end w u) ≤ bound_of (planned_end w v)
planned-later u v order w =
    omega (arith, limit-later u v order w.limit, lesser-bound (limit_end u w.limit) (optional_end w.deadline), lesser-bound (limit_end v w.limit) (optional_end w.deadline))

-- ---- who is ready

-- a job that waits after time has acted waited before
timed-waits : (m : ℕ) (rs : List Accepted) (r : Row) → is_waiting (timed m rs r).course.state ≡ true → is_waiting r.course.state ≡ true
timed-waits m rs r waits =
    lapsed-cases (λ (a b : Row). is_waiting b.course.state ≡ true → is_waiting a.course.state ≡ true) m rs r (λ h w. w) (λ h w n k. w)
    (called-cases (λ (a b : Row). is_waiting b.course.state ≡ true → is_waiting a.course.state ≡ true) m rs (lapsed m rs r) (λ h w. w) (λ h s n w. w) waits)

-- what a job asks for says whether the slots are there
abbrev room_for : Plan → ℕ → Wants → Bool
room_for p slots w =
    option_map_or (has_slots_in p slots) w.reservation (fits p slots p.moment (planned_end w p.moment) && option_map_or (has_room_in p slots) w.queue true)

module _ (entry other x y : ℕ) (p : Plan) (fit : IsFit p) (order : max p.moment x ≤ max p.moment y) (within : max p.moment y ≤ greatest)
    (quiet : NoneBetween (max p.moment x) (max p.moment y) (is_event p)) where
  jobs-stay : AllByRecursion (JobStays (max p.moment x) (max p.moment y) order) p.rows
  jobs-stay = all-implied (λ (r : Row). NoneBetween (max p.moment x) (max p.moment y) (λ m. is_row_event m r)) (JobStays (max p.moment x) (max p.moment y) order)
      (job-stays (max p.moment x) (max p.moment y) order) p.rows
      (each-quiet is_row_event (max p.moment x) (max p.moment y) p.rows (first-quiet (λ m. list_any (is_row_event m) p.rows) (λ m. list_any (bounds_at m) p.reservations) (max p.moment x) (max p.moment y) quiet))

  reservations-stay : AllByRecursion (ReservationStays (max p.moment x) (max p.moment y) order) p.reservations
  reservations-stay = all-implied (λ (a : Accepted). NoneBetween (max p.moment x) (max p.moment y) (λ m. bounds_at m a)) (ReservationStays (max p.moment x) (max p.moment y) order)
      (reservation-stays (max p.moment x) (max p.moment y) order) p.reservations
      (each-quiet bounds_at (max p.moment x) (max p.moment y) p.reservations (second-quiet (λ m. list_any (is_row_event m) p.rows) (λ m. list_any (bounds_at m) p.reservations) (max p.moment x) (max p.moment y) quiet))

  same-reservations : (let_go (come_to x p)).reservations ≡ (let_go (come_to y p)).reservations
  same-reservations = filter-same (lasts (max p.moment x)) (lasts (max p.moment y)) p.reservations
      (all-implied (ReservationStays (max p.moment x) (max p.moment y) order) (λ (a : Accepted). lasts (max p.moment x) a ≡ lasts (max p.moment y) a) (λ a stays. stays.lasts) p.reservations reservations-stay)

  -- the load is the same at each moment between
  same-load : (z : ℕ) → max p.moment x ≤ z → z ≤ max p.moment y → load p z ≡ load p (max p.moment y)
  same-load z low high =
      omega (
        arith,
        sum-each (slots_at z) (slots_at (max p.moment y)) p.reservations
            (all-implied (ReservationStays (max p.moment x) (max p.moment y) order) (λ (a : Accepted). slots_at z a ≡ slots_at (max p.moment y) a) (λ a stays. ap (λ b. cond b a.slots 0) (stays.covers z low high)) p.reservations reservations-stay),
        sum-each (uses_at z) (uses_at (max p.moment y)) p.rows
            (all-implied (JobStays (max p.moment x) (max p.moment y) order) (λ (r : Row). uses_at z r ≡ uses_at (max p.moment y) r) (λ r stays. stays.uses z low high) p.rows jobs-stay),
      )

  -- what fits at the later moment fits at the earlier one
  fits-back : (k : ℕ) (w : Wants) → ends_after (max p.moment y) (planned_end w (max p.moment y)) ≡ true
      → fits (let_go (come_to y p)) k (max p.moment y) (planned_end w (max p.moment y)) ≡ true → fits (let_go (come_to x p)) k (max p.moment x) (planned_end w (max p.moment x)) ≡ true
  fits-back k w ahead is =
      fits-from (let_go (come_to x p)) k (max p.moment x) (planned_end w (max p.moment x)) (λ z low high.
      elim (cases_lt z (max p.moment y)) [
        | inl before ↦
            (let at = fits-at (let_go (come_to y p)) k (max p.moment y) (planned_end w (max p.moment y)) is (max p.moment y) (omega arith) (ends-before (planned_end w (max p.moment y)) (max p.moment y) within ahead) in
            omega (arith, at, same-load z low (omega (arith, before)), load-let_go x p z low, load-let_go y p (max p.moment y) (omega arith)))
        | inr after ↦
            (let at = fits-at (let_go (come_to y p)) k (max p.moment y) (planned_end w (max p.moment y)) is z after (omega (arith, high, planned-later (max p.moment x) (max p.moment y) order w)) in
            omega (arith, at, load-let_go x p z low, load-let_go y p z after))
      ])

  inside-back : (k : ℕ) (n : ReservationId) → has_slots_in (let_go (come_to y p)) k n ≡ true → has_slots_in (let_go (come_to x p)) k n ≡ true
  inside-back k n is =
      ap (λ (rs : List Accepted). option_map_or (λ (a : Accepted). covers (max p.moment x) a && leb (in_reservation n p.rows + k) a.slots) (reservation_of n rs) false) same-reservations
      ∙ found-same (λ (a : Accepted). a.reservation.0 == n.0) (λ (a : Accepted). covers (max p.moment x) a && leb (in_reservation n p.rows + k) a.slots) (λ (a : Accepted). covers (max p.moment y) a && leb (in_reservation n p.rows + k) a.slots)
      (let_go (come_to y p)).reservations
      (all-filter (λ (a : Accepted). (covers (max p.moment x) a && leb (in_reservation n p.rows + k) a.slots) ≡ (covers (max p.moment y) a && leb (in_reservation n p.rows + k) a.slots)) (lasts (max p.moment y)) p.reservations
      (all-implied (ReservationStays (max p.moment x) (max p.moment y) order) (λ (a : Accepted). (covers (max p.moment x) a && leb (in_reservation n p.rows + k) a.slots) ≡ (covers (max p.moment y) a && leb (in_reservation n p.rows + k) a.slots))
      (λ a stays. ap (λ b. b && leb (in_reservation n p.rows + k) a.slots) (stays.covers (max p.moment x) (omega arith) order)) p.reservations reservations-stay))
      ∙ is

  room-back : (k : ℕ) (w : Wants) → ends_after (max p.moment y) (planned_end w (max p.moment y)) ≡ true → room_for (let_go (come_to y p)) k w ≡ true → room_for (let_go (come_to x p)) k w ≡ true
  room-back k w ahead =
      elim w.reservation as (λ o. option_map_or (has_slots_in (let_go (come_to y p)) k) o (fits (let_go (come_to y p)) k (max p.moment y) (planned_end w (max p.moment y)) && option_map_or (has_room_in (let_go (come_to y p)) k) w.queue true) ≡ true
      → option_map_or (has_slots_in (let_go (come_to x p)) k) o (fits (let_go (come_to x p)) k (max p.moment x) (planned_end w (max p.moment x)) && option_map_or (has_room_in (let_go (come_to x p)) k) w.queue true) ≡ true) [
        | None ↦ λ is.
            (let parts = and_parts (fits (let_go (come_to y p)) k (max p.moment y) (planned_end w (max p.moment y))) (option_map_or (has_room_in (let_go (come_to y p)) k) w.queue true) is in
            and_from (fits (let_go (come_to x p)) k (max p.moment x) (planned_end w (max p.moment x))) (option_map_or (has_room_in (let_go (come_to x p)) k) w.queue true) (fits-back k w ahead parts.0) parts.1)
        | Some n ↦ λ is. inside-back k n is
      ]

  -- a job that is ready at the later moment was ready at the earlier one
  ready-back : (k : ℕ) (r : Row) → IsSound r.wants r.course → JobStays (max p.moment x) (max p.moment y) order r
      → is_ready (advance_plan other y p) k (timed (max p.moment y) (let_go (come_to y p)).reservations r) ≡ true
      → is_ready (advance_plan entry x p) k (timed (max p.moment x) (let_go (come_to x p)).reservations r) ≡ true
  ready-back k r sound stays is =
      let a = timed (max p.moment x) (let_go (come_to x p)).reservations r in
      let b = timed (max p.moment y) (let_go (come_to y p)).reservations r in
      let alike : AreAlike a b = subst (λ (rs : List Accepted). AreAlike a (timed (max p.moment y) rs r)) same-reservations (timed-alike (max p.moment x) (max p.moment y) order (let_go (come_to x p)).reservations r stays) in
      let parts = ready-parts (let_go (come_to y p)) k b (sym (ready-same (advance_plan other y p) (let_go (come_to y p)) k b (seen-advance other y p fit)) ∙ is) in
      let waits : is_waiting b.course.state ≡ true = (queued-may_launch b.course.state parts.queued).waits in
      let waited = timed-waits (max p.moment y) (let_go (come_to y p)).reservations r waits in
      let later : b.wants ≡ r.wants = timed-wants (max p.moment y) (let_go (come_to y p)).reservations r in
      let earlier : a.wants ≡ r.wants = timed-wants (max p.moment x) (let_go (come_to x p)).reservations r in
      let late = not-late (max p.moment y) (let_go (come_to y p)).reservations r waits in
      let ahead = planned-ahead r.wants (max p.moment y) sound.limit late in
      let reached : is_reached (max p.moment x) a.wants.start ≡ true =
      ap (λ (t : Wants). is_reached (max p.moment x) t.start) earlier ∙ stays.reached waited ∙ sym (ap (λ (t : Wants). is_reached (max p.moment y) t.start) later) ∙ parts.reached in
      let in_bound : is_within_bound p.rows a.wants ≡ true = sym (in_bound-of p.rows a b alike.wants) ∙ parts.in_bound in
      let queued : is_queued a.course.state ≡ true = sym (ap is_queued alike.state) ∙ parts.queued in
      let has : has_slots (let_go (come_to x p)) k a ≡ true =
      subst (λ (t : Wants). room_for (let_go (come_to x p)) k t ≡ true) (sym earlier)
      (room-back k r.wants ahead (subst (λ (t : Wants). room_for (let_go (come_to y p)) k t ≡ true) later parts.has)) in
      let come : may_come (let_go (come_to x p)) a ≡ true = and_from (is_queued a.course.state && is_reached (max p.moment x) a.wants.start) (is_within_bound p.rows a.wants)
      (and_from (is_queued a.course.state) (is_reached (max p.moment x) a.wants.start) queued reached) in_bound in
      ready-same (advance_plan entry x p) (let_go (come_to x p)) k a (seen-advance entry x p fit) ∙ ready-from (let_go (come_to x p)) k a come parts.free has where
        in_bound-of : (rows : List Row) (a b : Row) → b.wants ≡ a.wants → is_within_bound rows b.wants ≡ is_within_bound rows a.wants
        in_bound-of rows a b same = ap (λ (t : Wants). option_map_or (λ (bound : ℕ). option_map_or (λ (array : ArrayId). ltb (in_array array rows) bound) t.array true) t.bound true) same

  -- Where nothing is left to do at a moment, and no event comes up to a later one, nothing is left to do then.
  pub still-between : IsStill (advance_plan entry x p) → IsStill (advance_plan other y p)
  still-between still = record { launched = none-ready (advance_plan other y p) unready; ended = unended } where
    ending-of : (a b : Row) → AreAlike a b → is_ending b ≡ is_ending a
    ending-of a b alike = ap (λ s. is_started s && is_asked b.course.kill) alike.state ∙ ap (λ k. is_started a.course.state && is_asked k) alike.kill

    running : AllByRecursion (λ (r : Row). is_ending (timed (max p.moment x) (let_go (come_to x p)).reservations r) ≡ false) p.rows
    running = unmap (λ (r : Row). is_ending r ≡ false) (timed (max p.moment x) (let_go (come_to x p)).reservations) p.rows
        (subst NoneEnds (sym (map-twice (called_in (max p.moment x) (let_go (come_to x p)).reservations) (lapsed (max p.moment x) (let_go (come_to x p)).reservations) p.rows)) still.ended)

    unended : NoneEnds (advance_plan other y p).rows
    unended = subst NoneEnds (map-twice (called_in (max p.moment y) (let_go (come_to y p)).reservations) (lapsed (max p.moment y) (let_go (come_to y p)).reservations) p.rows)
        (all-map (λ (r : Row). is_ending r ≡ false) (timed (max p.moment y) (let_go (come_to y p)).reservations) p.rows
        (all-implied (λ (r : Row). JobStays (max p.moment x) (max p.moment y) order r × (is_ending (timed (max p.moment x) (let_go (come_to x p)).reservations r) ≡ false))
        (λ (r : Row). is_ending (timed (max p.moment y) (let_go (come_to y p)).reservations r) ≡ false)
        (λ r both. ending-of (timed (max p.moment x) (let_go (come_to x p)).reservations r) (timed (max p.moment y) (let_go (come_to y p)).reservations r)
        (subst (λ (rs : List Accepted). AreAlike (timed (max p.moment x) (let_go (come_to x p)).reservations r) (timed (max p.moment y) rs r)) same-reservations (timed-alike (max p.moment x) (max p.moment y) order (let_go (come_to x p)).reservations r both.0)) ∙ both.1) p.rows
        (all-both (JobStays (max p.moment x) (max p.moment y) order) (λ (r : Row). is_ending (timed (max p.moment x) (let_go (come_to x p)).reservations r) ≡ false) p.rows jobs-stay running)))

    not_ready : AllByRecursion (λ (r : Row). is_ready (advance_plan entry x p) (timed (max p.moment x) (let_go (come_to x p)).reservations r).wants.min (timed (max p.moment x) (let_go (come_to x p)).reservations r) ≡ true → ⊥) p.rows
    not_ready = unmap (λ (r : Row). is_ready (advance_plan entry x p) r.wants.min r ≡ true → ⊥) (timed (max p.moment x) (let_go (come_to x p)).reservations) p.rows
        (subst (AllByRecursion (λ (r : Row). is_ready (advance_plan entry x p) r.wants.min r ≡ true → ⊥)) (sym (map-twice (called_in (max p.moment x) (let_go (come_to x p)).reservations) (lapsed (max p.moment x) (let_go (come_to x p)).reservations) p.rows))
        (next_launch-none (advance_plan entry x p) still.launched))

    unready : AllByRecursion (λ (r : Row). is_ready (advance_plan other y p) r.wants.min r ≡ false) (advance_plan other y p).rows
    unready = subst (AllByRecursion (λ (r : Row). is_ready (advance_plan other y p) r.wants.min r ≡ false)) (map-twice (called_in (max p.moment y) (let_go (come_to y p)).reservations) (lapsed (max p.moment y) (let_go (come_to y p)).reservations) p.rows)
        (all-map (λ (r : Row). is_ready (advance_plan other y p) r.wants.min r ≡ false) (timed (max p.moment y) (let_go (come_to y p)).reservations) p.rows
        (all-implied (λ (r : Row). (IsSound r.wants r.course × JobStays (max p.moment x) (max p.moment y) order r) × (is_ready (advance_plan entry x p) (timed (max p.moment x) (let_go (come_to x p)).reservations r).wants.min (timed (max p.moment x) (let_go (come_to x p)).reservations r) ≡ true → ⊥))
        (λ (r : Row). is_ready (advance_plan other y p) (timed (max p.moment y) (let_go (come_to y p)).reservations r).wants.min (timed (max p.moment y) (let_go (come_to y p)).reservations r) ≡ false)
        (λ r h. false_from_ne_true (is_ready (advance_plan other y p) (timed (max p.moment y) (let_go (come_to y p)).reservations r).wants.min (timed (max p.moment y) (let_go (come_to y p)).reservations r))
        (λ is. h.1 (ready-back (timed (max p.moment x) (let_go (come_to x p)).reservations r).wants.min r h.0.0 h.0.1
        (subst (λ (n : ℕ). is_ready (advance_plan other y p) n (timed (max p.moment y) (let_go (come_to y p)).reservations r) ≡ true)
        (ap (λ (t : Wants). t.min) (timed-wants (max p.moment y) (let_go (come_to y p)).reservations r ∙ sym (timed-wants (max p.moment x) (let_go (come_to x p)).reservations r))) is)))) p.rows
        (all-both (λ (r : Row). IsSound r.wants r.course × JobStays (max p.moment x) (max p.moment y) order r) _ p.rows (all-both (λ (r : Row). IsSound r.wants r.course) (JobStays (max p.moment x) (max p.moment y) order) p.rows fit.sound jobs-stay) not_ready)))

-- ---- worlds

pub done-still : (w : World) (x : ℕ) → IsDone w x → IsStill (advance w x).plan
done-still w x done = record { launched = launch-nothing (advance w x) x done.launched; ended = done.ended }

pub still-done : (w : World) (x : ℕ) → IsStill (advance w x).plan → IsDone w x
still-done w x still = record { launched = nothing-launch (advance w x) x still.launched; ended = still.ended }

-- Where nothing is left to do in a world at a moment, and no event comes up to a later one, nothing is left to do then.
pub done-between : (w : World) (x y : ℕ) → IsConsistent w → w.plan.moment ≤ x → x ≤ y → y ≤ greatest → NoneBetween x y (is_event w.plan) → IsDone w x → IsDone w y
done-between w x y ok now order within quiet done =
    still-done w y
    (still-between (w.entries + 1) (w.entries + 1) x y w.plan ok.fit (omega (arith, now, order)) (omega (arith, now, order, within))
    (λ m low high. quiet m (omega (arith, low, now)) (omega (arith, high, now, order))) (done-still w x done))
