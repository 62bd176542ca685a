-- What the launcher's look and move come to.
use Rattle.reservation_calendar.specs.Loads as calendar
use Rattle.drmaa_types.specs.declared.moments.End.{End}
use Rattle.reservation_calendar.specs.Fitting.{Fits}
use Rattle.drmaa_model.specs.declared.rows.Wants.{Wants}
use Rattle.std.proofs.lemmas.Bool.{and_from, and_parts, leb-true, le-leb}
use Rattle.drmaa_model.specs.declared.reservations.Accepted.{Accepted}
use Rattle.drmaa_model.specs.Rows.{row_of}
use Rattle.drmaa_model.specs.Courses.{planned_end, launched}
use Rattle.drmaa_model.specs.ReadyLaws.{ready-same, seen-advance, slots_for-same, not-late, planned-ahead}
use Rattle.drmaa_model.specs.MomentLaws.{greatest-is}
use Rattle.drmaa_model.specs.Load.{ends_after, fits, covers, in_reservation, in_queue, reservation_of, load}
use Rattle.drmaa_types.specs.Queues.{queue_at}
use Rattle.drmaa_types.specs.declared.queues.QueueSpec.{QueueSpec}
use Rattle.drmaa_types.specs.States.{is_waiting, is_started, is_state}
use Rattle.drmaa_types.specs.declared.states.JobState.{JobState}
use Rattle.drmaa_types.specs.declared.states.JobState.TheVariants.{Running}
use Rattle.drmaa_types.specs.declared.identifiers.ReservationId.{ReservationId}
use Rattle.reservation_calendar.specs.declared.bookings.Key.TheVariants.{Job}
use Rattle.reservation_calendar.specs.Schedules.{Schedule, is_booked}
use Rattle.plan_book.specs.TieLaws.{tied-fresh, fits-calendar, same-end, filter-same, tied-same, tied-booked, fits-plan}
use Rattle.plan_book.specs.declared.moves.Booked.TheVariants.{Same, Books}
use Rattle.plan_book.specs.Ties.{IsTied, MayMake, IsBeside, KeepsTie, booking_of}
use Rattle.std.proofs.Common.{◌≡◌, ℕ, ◌+◌, ◌-◌, ◌≤◌, Bool, true, false, cond, ◌&&◌, min, max, List, [], ◌∷◌, map, filter, Option, Some, None, refl, sym, ◌∙◌, ap, subst, arith, leb, not, length}
use Rattle.std.specs.Prelude.{int_lt, IfSome, is_some}
use Rattle.std.specs.Option.{option_and_then, option_map, option_map_or}
use Rattle.std.specs.List.{AllByRecursion}
use Rattle.std.proofs.lemmas.Bool.Decides.{nat_tests}
use Rattle.drmaa_model.specs.declared.replies.Launch.{Launch}
use Rattle.drmaa_model.specs.declared.rows.Row.{Row}
use Rattle.drmaa_model.specs.Fit.{IsFit, IsSound}
use Rattle.drmaa_model.specs.FitLaws.{advance-fit, not-using}
use Rattle.drmaa_model.specs.Launching.{launch, launch_of}
use Rattle.drmaa_model.specs.LaunchFit.{launch-effect, launch-keeps}
use Rattle.drmaa_model.specs.NextLaunch.{held, is_ready, may_come, has_slots, slots_for, better, best_of, next_launch, has_room_in, has_slots_in, is_within_bound, is_queued, is_reached}
use Rattle.drmaa_model.specs.NextLaunchLaws.{IsNextLaunch, next_launch-is, ready-parts, ready-from}
use Rattle.drmaa_model.specs.Plan.{Plan}
use Rattle.drmaa_model.specs.RowLaws.{row_of-all}
use Rattle.drmaa_model.specs.Time.{come_to, let_go, lasts, called_in, lapsed, advance_plan}
use Rattle.drmaa_model.specs.TimeLaws.{timed, map-twice, lapsed-cases, called-cases, waits-not_started, row_of-advance, timed-wants}
use Rattle.plan_book.specs.declared.book.Book.{Book}
use Rattle.plan_book.specs.declared.occasions.Occasion.{Occasion}
use Rattle.plan_book.specs.Occasions.{plan_at}
use Rattle.scheduler_core.specs.View.{View}
use Rattle.scheduler_core.proofs.ViewSteps.{view_of}
use Rattle.scheduler_core.specs.declared.launches.NextLaunch.{NextLaunch}
use Rattle.plan_book.specs.declared.moves.Move.{Move}
use Rattle.plan_book.specs.Book.{IsBook, IsMove, plan_of, moved, grows, owes}
use Rattle.scheduler_core.specs.Launches.{may_launch, launch-move, IsLaunchOf, IsNext, IsNextIn, handed_out, seen, seen_row, room_of, free_of, slots_of, queue_left, capped, IsMost, launch_booking}
use Rattle.scheduler_core.specs.Firsts.{first_of}
use Rattle.scheduler_core.proofs.SeenLaws.{tied-seen}

-- whether a job that asks for this, in this state, is ready
abbrev pub ready_of : ℕ → Plan → Wants → JobState → Bool
ready_of m p w s = (is_queued s && is_reached m w.start && is_within_bound p.rows w) && (leb (held p.rows + w.min) p.total && slots_of (seen m p) w.min w)

-- the look over the rows as they will be is the look over the rows of the plan that has come to its moment
pub look-is : (at : ℕ) (p : Plan) (o : Option Row) → IsFit p → (let m = max p.moment at in
    option_map (seen_row m p) o ≡ best_of (filter (may_launch m p) (map (seen_row m p) p.rows)))
    → option_map (seen_row (max p.moment at) p) o
    ≡ best_of (filter (λ (r : Row). is_ready (advance_plan 0 at p) r.wants.min r) (advance_plan 0 at p).rows)
look-is at p o fit look =
    let q = let_go (come_to at p) in
    look
    ∙ ap (λ (rs : List Row). best_of (filter (may_launch (max p.moment at) p) rs)) (map-twice (called_in q.moment q.reservations) (lapsed q.moment q.reservations) p.rows)
    ∙ ap best_of (filter-same (may_launch (max p.moment at) p) (λ (r : Row). is_ready (advance_plan 0 at p) r.wants.min r)
    (λ r. sym (ready-same (advance_plan 0 at p) q r.wants.min r (seen-advance 0 at p fit))) (advance_plan 0 at p).rows)

pub first-next : (q : Plan) (row : Row) → IsFit q → best_of (filter (λ (r : Row). is_ready q r.wants.min r) q.rows) ≡ Some row →
    (next_launch q ≡ Some (row, slots_for q row)) × IsNextLaunch q row (slots_for q row)
first-next q row fit first =
    let next : next_launch q ≡ Some (row, slots_for q row) = ap (option_map (λ (r : Row). (r, slots_for q r))) first in
    (next, next_launch-is q (row, slots_for q row) fit.jobs.rising next)

pub none-next : (q : Plan) → best_of (filter (λ (r : Row). is_ready q r.wants.min r) q.rows) ≡ None → next_launch q ≡ None
none-next q first = ap (option_map (λ (r : Row). (r, slots_for q r))) first

pub launch-next : (q : Plan) (row : Row) (next : NextLaunch) → IsFit q → best_of (filter (λ (r : Row). is_ready q r.wants.min r) q.rows) ≡ Some row →
    IsLaunchOf row q.moment (slots_for q row) next → IsNext q next
launch-next q row next fit first is = record { row = row; slots = slots_for q row; first = (first-next q row fit first).0; is = is }

-- the most slots that the code finds are those of the definition
pub slots-most : (q : Plan) (row : Row) (n : ℕ) → is_ready q row.wants.min row ≡ true → row.wants.min ≤ row.wants.max → IsMost q row.wants n → slots_for q row ≡ n
slots-most q row n ready order is =
    let parts = ready-parts q row.wants.min row ready in
    let come = and_from (is_queued row.course.state && is_reached q.moment row.wants.start) (is_within_bound q.rows row.wants) (and_from (is_queued row.course.state) (is_reached q.moment row.wants.start) parts.queued parts.reached) parts.in_bound in
    let most = is.most in
    greatest-is row.wants.min (row.wants.max - row.wants.min) n (λ slots. is_ready q slots row) is.least (omega arith) (ready-from q n row come is.free is.has)
    (λ m above within.
    (elim (is_ready q m row) as (λ b. is_ready q m row ≡ b → b ≡ false) [
      | false ↦ λ e. refl
      | true ↦ λ e. (let p = ready-parts q m row e in let yes = p.has in let no = is.no_more m above (omega arith) p.free in absurd (cc))
    ]) refl)

-- what a queue leaves is what may be added to it
room-within : (o : Option QueueSpec) (n k : ℕ) → IfSome o (λ (queue : QueueSpec). n ≤ queue.limit)
    → option_map_or (λ (queue : QueueSpec). leb (n + k) queue.limit) o true ≡ option_map_or (leb k) (option_map (λ (queue : QueueSpec). queue.limit - n) o) true
room-within None n k h = refl
room-within (Some queue) n k h = grind (arith, nat_tests)

pub room-left : (p : Plan) (wants : Wants) (k : ℕ) → IsFit p → room_of p k wants ≡ option_map_or (leb k) (queue_left p wants) true
room-left p wants k fit =
    elim wants.queue as (λ o. option_map_or (has_room_in p k) o true
    ≡ option_map_or (leb k) (option_and_then (λ (place : ℕ). option_map (λ (queue : QueueSpec). queue.limit - in_queue place p.rows) (queue_at place p.queues)) o) true) [
      | None ↦ refl
      | Some place ↦ room-within (queue_at place p.queues) (in_queue place p.rows) k (fit.queued place)
    ]

capped-most : (most : ℕ) (left : Option ℕ) → capped most left ≤ most
capped-most most None = omega arith
capped-most most (Some n) = omega arith

capped-within : (k most : ℕ) (left : Option ℕ) → k ≤ capped most left → option_map_or (leb k) left true ≡ true
capped-within k most None low = refl
capped-within k most (Some n) low = le-leb k n (omega arith)

capped-from : (k most : ℕ) (left : Option ℕ) → k ≤ most → option_map_or (leb k) left true ≡ true → k ≤ capped most left
capped-from k most None low within = low
capped-from k most (Some n) low within = (let le = leb-true k n within in omega arith)

-- the slots that are free for an ordinary job, in two parts
ordinary-slots : (p : Plan) (m : ℕ) (wants : Wants) (planned : End) (k : ℕ) → wants.reservation ≡ None → planned ≡ planned_end wants m
    → slots_of (seen m p) k wants ≡ (fits (seen m p) k m planned && room_of p k wants)
ordinary-slots p m wants planned k ordinary planned_is =
    let q = seen m p in
    ap (λ (o : Option ReservationId). option_map_or (has_slots_in q k) o (free_of q k wants)) ordinary ∙ ap (λ (e : End). fits q k m e && room_of p k wants) (sym planned_is)

-- the most slots of the calendar, within the limit of the queue
pub most-calendar : (s : Schedule) (p : Plan) (m : ℕ) (wants : Wants) (n most used : ℕ) (left : Option ℕ) (planned : End) → IsFit p → IsTied s p → p.moment ≤ m → wants.reservation ≡ None
    → used ≡ held p.rows → used + wants.min ≤ p.total → most ≡ capped (min wants.max (p.total - used)) left → left ≡ queue_left p wants → planned ≡ planned_end wants m
    → wants.min ≤ n → n ≤ most → Fits s n m planned → ((k : ℕ) → k ≤ most → Fits s k m planned → k ≤ n) → IsMost (seen m p) wants n
most-calendar s p m wants n most used left planned fit tied later ordinary used_is free most_is left_is planned_is low high fits-n greatest =
    let q = seen m p in
    let whole = min wants.max (p.total - used) in
    let test : ℕ → Bool = λ k. option_map_or (leb k) left true in
    let loads : (x : ℕ) → m ≤ x → calendar.load s.bookings x ≡ load q x = tied-seen s p m fit tied later in
    let of : (k : ℕ) → slots_of q k wants ≡ (fits q k m planned && test k) = λ k.
    ordinary-slots p m wants planned k ordinary planned_is ∙ ap (λ b. fits q k m planned && b) (room-left p wants k fit ∙ ap (λ (o : Option ℕ). option_map_or (leb k) o true) (sym left_is)) in
    let within-whole : n ≤ capped whole left = subst (λ x. n ≤ x) most_is high in
    let under = capped-most whole left in
    record {
      least = low;
      most = omega arith;
      free = omega arith;
      has = of n ∙ and_from (fits q n m planned) (test n) (fits-plan s q n m planned tied.total loads fits-n) (capped-within n whole left within-whole);
      no_more = λ k above within room.
          of k ∙ (elim (fits q k m planned) as (λ b. fits q k m planned ≡ b → (b && test k) ≡ false) [
            | false ↦ λ e. refl
            | true ↦ λ e. (elim (test k) as (λ b. test k ≡ b → b ≡ false) [
              | false ↦ λ t. refl
              | true ↦ λ t.
                  (let low-k : k ≤ whole = omega arith in
                  let no = greatest k (subst (λ x. k ≤ x) (sym most_is) (capped-from k whole left low-k t)) (fits-calendar s q k m planned tied.total loads e) in
                  absurd (omega arith))
            ]) refl
          ]) refl;
    }

-- what an ordinary job may have at least is within the limit of its queue
pub capped-least : (p : Plan) (m : ℕ) (wants : Wants) (n most : ℕ) (left : Option ℕ) → IsFit p → wants.reservation ≡ None → left ≡ queue_left p wants
    → slots_of (seen m p) n wants ≡ true → n ≤ most → n ≤ capped most left
capped-least p m wants n most left fit ordinary left_is has low =
    let planned = planned_end wants m in
    let both : (fits (seen m p) n m planned && room_of p n wants) ≡ true = sym (ordinary-slots p m wants planned n ordinary refl) ∙ has in
    let room = (and_parts (fits (seen m p) n m planned) (room_of p n wants) both).1 in
    capped-from n most left low (ap (λ (o : Option ℕ). option_map_or (leb n) o true) left_is ∙ sym (room-left p wants n fit) ∙ room)

pub calendar-has : (s : Schedule) (p : Plan) (m : ℕ) (wants : Wants) (n : ℕ) (planned : End) → IsFit p → IsTied s p → p.moment ≤ m → wants.reservation ≡ None → planned ≡ planned_end wants m
    → slots_of (seen m p) n wants ≡ true → Fits s n m planned
calendar-has s p m wants n planned fit tied later ordinary planned_is has =
    let q = seen m p in
    let both : (fits q n m planned && room_of p n wants) ≡ true = sym (ordinary-slots p m wants planned n ordinary planned_is) ∙ has in
    fits-calendar s q n m planned tied.total (tied-seen s p m fit tied later) (and_parts (fits q n m planned) (room_of p n wants) both).0

-- the most slots of a reservation
pub most-inside : (p : Plan) (m : ℕ) (wants : Wants) (number : ReservationId) (n most used left : ℕ) → wants.reservation ≡ Some number
    → used ≡ held p.rows → used + wants.min ≤ p.total → wants.min ≤ wants.max → most ≡ min wants.max (p.total - used)
    → left ≡ option_map_or (λ (r : Accepted). r.slots - in_reservation number p.rows) (reservation_of number (filter (lasts m) p.reservations)) 0
    → n ≡ min most left → slots_of (seen m p) wants.min wants ≡ true → IsMost (seen m p) wants n
most-inside p m wants number n most used left named used_is free order most_is left_is n_is has =
    let q = seen m p in
    let inside = in_reservation number p.rows in
    let test : ℕ → Option Accepted → Bool = λ k o. option_map_or (λ (a : Accepted). covers m a && leb (inside + k) a.slots) o false in
    let o = reservation_of number (filter (lasts m) p.reservations) in
    let of : (k : ℕ) → slots_of q k wants ≡ test k o = λ k. ap (λ (r : Option ReservationId). option_map_or (has_slots_in q k) r (free_of q k wants)) named in
    (elim o as (λ (x : Option Accepted). o ≡ x → test wants.min x ≡ true → left ≡ option_map_or (λ (r : Accepted). r.slots - inside) x 0 → IsMost q wants n) [
      | None ↦ λ e h l. absurd (cc)
      | Some r ↦ λ e h l.
          (let both = and_parts (covers m r) (leb (inside + wants.min) r.slots) h in
          let within = leb-true (inside + wants.min) r.slots both.1 in
          record {
            least = omega arith;
            most = omega arith;
            free = omega arith;
            has = of n ∙ ap (test n) e ∙ and_from (covers m r) (leb (inside + n) r.slots) both.0 (le-leb (inside + n) r.slots (omega arith));
            no_more = λ k above low room.
                of k ∙ ap (test k) e ∙ (elim (leb (inside + k) r.slots) as (λ b. leb (inside + k) r.slots ≡ b → (covers m r && b) ≡ false) [
                  | true ↦ λ f. (let le = leb-true (inside + k) r.slots f in absurd (omega arith))
                  | false ↦ λ f. (elim (covers m r) as (λ b. (b && false) ≡ false) [ true ↦ refl | false ↦ refl ])
                ]) refl;
          })
    ]) refl (sym (of wants.min) ∙ has) left_is

-- the booking of a launch may be made
launch-may : (s : Schedule) (p : Plan) (m : ℕ) (row : Row) (n : ℕ) → IsFit p → IsTied s p → p.moment ≤ m → ends_after m (planned_end row.wants m) ≡ true
    → is_booked s.bookings (Job row.job) ≡ false → slots_of (seen m p) n row.wants ≡ true → MayMake s (launch_booking row m n (planned_end row.wants m))
launch-may s p m row n fit tied later ahead fresh has =
    let planned = planned_end row.wants m in
    (elim row.wants.reservation as (λ o. option_map_or (has_slots_in (seen m p) n) o (free_of (seen m p) n row.wants) ≡ true
    → MayMake s (option_map_or (λ (r : ReservationId). Same) o (Books (record { key = Job row.job; slots = n; from = m; until = planned })))) [
      | Some r ↦ λ h. tt
      | None ↦ λ h. record {
        lasting = same-end m planned ∙ ahead;
        fits = fits-calendar s (seen m p) n m planned tied.total (λ x low. tied-seen s p m fit tied later x low) (and_parts (fits (seen m p) n m planned) (room_of p n row.wants) h).0;
        fresh = fresh;
      }
    ]) has

-- a job that is not started once time has come was not started before
pub not-started-before : (m : ℕ) (rs : List Accepted) (r : Row) → is_started (timed m rs r).course.state ≡ false → is_started r.course.state ≡ false
not-started-before m rs r h =
    lapsed-cases (λ (a b : Row). is_started b.course.state ≡ false → is_started a.course.state ≡ false) m rs r (λ e g. g) (λ e waits n g. waits-not_started r.course.state waits)
    (called-cases (λ (a b : Row). is_started b.course.state ≡ false → is_started a.course.state ≡ false) m rs (lapsed m rs r) (λ e g. g) (λ e is n g. g) h)

some-is : (a b : Row) → Some a ≡ Some b → a ≡ b
some-is a b e = cc

-- what a job that is ready, as it will be, has
pub record SeenReady (p : Plan) (m : ℕ) (row : Row) : Type 0 where
  pub free : held p.rows + row.wants.min ≤ p.total
  pub has : slots_of (seen m p) row.wants.min row.wants ≡ true
  pub queued : is_queued (seen_row m p row).course.state ≡ true

pub seen-ready : (p : Plan) (m : ℕ) (row : Row) → is_ready (seen m p) row.wants.min (seen_row m p row) ≡ true → SeenReady p m row
seen-ready p m row ready =
    let parts = ready-parts (seen m p) row.wants.min (seen_row m p row) ready in
    record {
      free = parts.free;
      has = subst (λ (w : Wants). slots_of (seen m p) row.wants.min w ≡ true) (timed-wants m (filter (lasts m) p.reservations) row) parts.has;
      queued = parts.queued;
    }

pub seen-slots : (p : Plan) (m : ℕ) (row : Row) (n : ℕ) → is_ready (seen m p) row.wants.min (seen_row m p row) ≡ true → row.wants.min ≤ row.wants.max → IsMost (seen m p) row.wants n
    → slots_for (seen m p) (seen_row m p row) ≡ n
seen-slots p m row n ready order is =
    let same = timed-wants m (filter (lasts m) p.reservations) row in
    slots-most (seen m p) (seen_row m p row) n
    (subst (λ (w : Wants). is_ready (seen m p) w.min (seen_row m p row) ≡ true) (sym same) ready)
    (subst (λ (w : Wants). w.min ≤ w.max) (sym same) order) (subst (λ (w : Wants). IsMost (seen m p) w n) (sym same) is)

-- what is known of the job that is launched next
pub record NextFacts (at m : ℕ) (p : Plan) (row : Row) : Type 0 where
  pub first : next_launch (advance_plan 0 at p) ≡ Some (seen_row m p row, slots_for (advance_plan 0 at p) (seen_row m p row))
  pub ready : is_ready (seen m p) row.wants.min (seen_row m p row) ≡ true
  pub least : 1 ≤ row.wants.min
  pub range : row.wants.min ≤ row.wants.max
  pub attempt : (seen_row m p row).course.attempt ≤ length (advance_plan 0 at p).changes
  pub slots : slots_for (seen m p) (seen_row m p row) ≡ slots_for (advance_plan 0 at p) (seen_row m p row)

next-facts-at : (at : ℕ) (p : Plan) (row : Row) → IsFit p
    → best_of (filter (λ (r : Row). is_ready (advance_plan 0 at p) r.wants.min r) (advance_plan 0 at p).rows) ≡ Some (seen_row (max p.moment at) p row) → NextFacts at (max p.moment at) p row
next-facts-at at p row fit first =
    let m = max p.moment at in
    let rs = filter (lasts m) p.reservations in
    let q = advance_plan 0 at p in
    let fit_q : IsFit q = advance-fit 0 at p fit in
    let r = seen_row m p row in
    let found = first-next q r fit_q first in
    let wants : r.wants ≡ row.wants = timed-wants m rs row in
    let sound : IsSound r.wants r.course = row_of-all (λ (x : Row). IsSound x.wants x.course) r.job q.rows r fit_q.sound found.1.kept in
    let alike = seen-advance 0 at p fit in
    record {
      first = found.0;
      ready = subst (λ (w : Wants). is_ready (seen m p) w.min r ≡ true) wants (sym (ready-same q (let_go (come_to at p)) r.wants.min r alike) ∙ found.1.ready);
      least = subst (λ (w : Wants). 1 ≤ w.min) wants sound.least;
      range = subst (λ (w : Wants). w.min ≤ w.max) wants sound.range;
      attempt = row_of-all (λ (x : Row). x.course.attempt ≤ length q.changes) r.job q.rows r fit_q.attempts found.1.kept;
      slots = sym (slots_for-same q (let_go (come_to at p)) r alike);
    }

pub next-facts : (at m : ℕ) (p : Plan) (row : Row) → IsFit p → m ≡ max p.moment at
    → best_of (filter (λ (r : Row). is_ready (advance_plan 0 at p) r.wants.min r) (advance_plan 0 at p).rows) ≡ Some (seen_row m p row) → NextFacts at m p row
next-facts at m p row fit m_is first =
    subst (λ (n : ℕ). NextFacts at n p row) (sym m_is) (next-facts-at at p row fit
    (subst (λ (n : ℕ). best_of (filter (λ (r : Row). is_ready (advance_plan 0 at p) r.wants.min r) (advance_plan 0 at p).rows) ≡ Some (seen_row n p row)) m_is first))

-- the move of a launch, in the plan that has come to its moment
pub record Launches (entry : ℕ) (q : Plan) (next : NextLaunch) : Type 0 where
  pub is : IsMove q next.m
  pub leads : launch.effect entry q ≡ moved entry next.m q
  pub ties : KeepsTie next.m.booked next.m.job q (moved entry next.m q)

-- a launch goes with its booking
launch-ties : (entry : ℕ) (q : Plan) (row : Row) (slots : ℕ) → IsFit q → row_of row.job q.rows ≡ Some row → is_started row.course.state ≡ false
    → KeepsTie (launch-move q.moment row slots).booked row.job q (moved entry (launch-move q.moment row slots) q)
launch-ties entry q row slots fit kept idle =
    let planned = planned_end row.wants q.moment in
    let next = launched q.moment slots planned row.course in
    let after = moved entry (launch-move q.moment row slots) q in
    let before = not-using row idle in
    (elim row.wants.reservation as (λ o. row.wants.reservation ≡ o → KeepsTie (option_map_or (λ (r : ReservationId). Same) o (Books (record { key = Job row.job; slots = slots; from = q.moment; until = planned }))) row.job q after) [
      | None ↦ λ e. record {
        keeps = λ s tied. tied-booked row.job next q row fit kept after refl refl refl (record { key = Job row.job; slots = slots; from = q.moment; until = planned }) before
            (ap (λ (o : Option ReservationId). not (is_some o) && true) e) refl s tied;
      }
      | Some r ↦ λ e. record {
        keeps = λ s tied. tied-same row.job next q row fit kept after refl refl refl
            (λ f. ap (λ (o : Option ReservationId). cond (not (is_some o) && true) (f (booking_of (record row { course = next }))) 0) e ∙ sym (ap (λ t. cond t (f (booking_of row)) 0) before)) s tied;
      }
    ]) refl

launches : (entry : ℕ) (q : Plan) (next : NextLaunch) → IsFit q → IsNext q next → Launches entry q next
launches entry q next fit is =
    let fact = next_launch-is q (is.row, is.slots) fit.jobs.rising is.first in
    let kept = fact.kept in
    record {
      is = subst (IsMove q) (sym is.is.move_is) (record { row = is.row; found = kept; home = refl; before = refl });
      leads = launch-effect entry q (is.row, is.slots) is.first ∙ ap (λ (m : Move). moved entry m q) (sym is.is.move_is);
      ties = subst (λ (m : Move). KeepsTie m.booked m.job q (moved entry m q)) (sym is.is.move_is) (launch-ties entry q is.row is.slots fit kept fact.state.idle);
    }

-- ---- the look, step by step

better-wants : (at : Row → Row) → ((r : Row) → (at r).wants ≡ r.wants) → (a b : Row) → at (better a b) ≡ better (at a) (at b)
better-wants at same a b =
    let one : int_lt (at a).wants.priority (at b).wants.priority ≡ int_lt a.wants.priority b.wants.priority = cc (same a, same b) in
    (elim (int_lt a.wants.priority b.wants.priority) as (λ t. at (cond t b a) ≡ cond t (at b) (at a)) [ true ↦ refl | false ↦ refl ])
    ∙ ap (λ t. cond t (at b) (at a)) (sym one)

better-assoc : (a b c : Row) → better (better a b) c ≡ better a (better b c)
better-assoc a b c = grind arith

-- the best so far, and the first of the rest
pub chosen : (at : Row → Row) → ((r : Row) → (at r).wants ≡ r.wants) → (test : Row → Bool) (best : Option Row) (row : Row) (rest : List Row) → test (at row) ≡ true
    → first_of (option_map at (Some (option_map_or (λ (first : Row). better first row) best row))) (best_of (filter test (map at rest)))
    ≡ first_of (option_map at best) (best_of (filter test (map at (row ∷ rest))))
chosen at same test None row rest is =
    ap (λ b. best_of (cond b (at row ∷ filter test (map at rest)) (filter test (map at rest)))) (sym is)
chosen at same test (Some first) row rest is =
    ap (λ (r : Row). first_of (Some r) (best_of (filter test (map at rest)))) (better-wants at same first row)
    ∙ (elim (best_of (filter test (map at rest))) as (λ o. first_of (Some (better (at first) (at row))) o ≡ first_of (Some (at first)) (Some (option_map_or (better (at row)) o (at row)))) [
      | None ↦ refl
      | Some r ↦ ap (λ (x : Row). Some x) (better-assoc (at first) (at row) r)
    ])
    ∙ ap (λ b. first_of (Some (at first)) (best_of (cond b (at row ∷ filter test (map at rest)) (filter test (map at rest))))) (sym is)

pub passed : (at : Row → Row) (test : Row → Bool) (best : Option Row) (row : Row) (rest : List Row) → test (at row) ≡ false
    → first_of (option_map at best) (best_of (filter test (map at rest))) ≡ first_of (option_map at best) (best_of (filter test (map at (row ∷ rest))))
passed at test best row rest is = ap (λ b. first_of (option_map at best) (best_of (cond b (at row ∷ filter test (map at rest)) (filter test (map at rest))))) (sym is)

-- the look, made at a moment that is known to be the plan's
pub look-at : (at m : ℕ) (p : Plan) (o : Option Row) → IsFit p → m ≡ max p.moment at
    → option_map (seen_row m p) o ≡ best_of (filter (may_launch m p) (map (seen_row m p) p.rows))
    → option_map (seen_row m p) o ≡ best_of (filter (λ (r : Row). is_ready (advance_plan 0 at p) r.wants.min r) (advance_plan 0 at p).rows)
look-at at m p o fit m_is look =
    subst (λ (n : ℕ). option_map (seen_row n p) o ≡ best_of (filter (λ (r : Row). is_ready (advance_plan 0 at p) r.wants.min r) (advance_plan 0 at p).rows)) (sym m_is)
    (look-is at p o fit (subst (λ (n : ℕ). option_map (seen_row n p) o ≡ best_of (filter (may_launch n p) (map (seen_row n p) p.rows))) m_is look))

-- ---- the launch that is next in the plan that has come to a moment

-- a job that time has come to, as it is kept
pub record IsTimed (m : ℕ) (p : Plan) (row : Row) : Type 0 where
  pub kept : Row
  pub found : row_of row.job p.rows ≡ Some kept
  pub same : timed m (filter (lasts m) p.reservations) kept ≡ row

is-timed : (entry at : ℕ) (p : Plan) (row : Row) → row_of row.job (advance_plan entry at p).rows ≡ Some row → IsTimed (max p.moment at) p row
is-timed entry at p row there =
    let m = max p.moment at in
    let rs = filter (lasts m) p.reservations in
    let found : option_map (called_in m rs) (option_map (lapsed m rs) (row_of row.job p.rows)) ≡ Some row = sym (row_of-advance entry at p row.job) ∙ there in
    (elim (row_of row.job p.rows) as (λ o. row_of row.job p.rows ≡ o → option_map (called_in m rs) (option_map (lapsed m rs) o) ≡ Some row → IsTimed m p row) [
      | None ↦ λ e h. absurd (cc)
      | Some r ↦ λ e h. record { kept = r; found = e; same = some-is (timed m rs r) row h }
    ]) refl found

-- a job that waits ends after the moment at which it is launched
timed-ahead : (m : ℕ) (p : Plan) (row : Row) → IsTimed m p row → IfSome row.wants.limit (λ (seconds : ℕ). 1 ≤ seconds) → is_waiting row.course.state ≡ true → ends_after m (planned_end row.wants m) ≡ true
timed-ahead m p row is limit waits =
    let rs = filter (lasts m) p.reservations in
    let wants : is.kept.wants ≡ row.wants = sym (timed-wants m rs is.kept) ∙ ap (λ (r : Row). r.wants) is.same in
    let late = not-late m rs is.kept (subst (λ (r : Row). is_waiting r.course.state ≡ true) (sym is.same) waits) in
    planned-ahead row.wants m limit (subst (λ (w : Wants). option_map_or (λ (deadline : ℕ). leb deadline m) w.deadline false ≡ false) wants late)

-- a job that is not started has no booking
timed-fresh : (s : Schedule) (m : ℕ) (p : Plan) (row : Row) → IsFit p → IsTied s p → IsTimed m p row → is_started row.course.state ≡ false → is_booked s.bookings (Job row.job) ≡ false
timed-fresh s m p row fit tied is idle =
    let rs = filter (lasts m) p.reservations in
    let stopped : is_started (timed m rs is.kept).course.state ≡ false = subst (λ (r : Row). is_started r.course.state ≡ false) (sym is.same) idle in
    tied-fresh s p row.job is.kept fit tied is.found (not-using is.kept (not-started-before m rs is.kept stopped))

-- its booking may be made
next-may : (s : Schedule) (entry at : ℕ) (p : Plan) (next : NextLaunch) → IsFit p → IsTied s p → IsNext (advance_plan entry at p) next → MayMake s next.m.booked
next-may s entry at p next fit tied is =
    let m = max p.moment at in
    let q = advance_plan entry at p in
    let fit_q : IsFit q = advance-fit entry at p fit in
    let row = is.row in
    let fact = next_launch-is q (row, is.slots) fit_q.jobs.rising is.first in
    let sound : IsSound row.wants row.course = row_of-all (λ (x : Row). IsSound x.wants x.course) row.job q.rows row fit_q.sound fact.kept in
    let ready : is_ready (seen m p) is.slots row ≡ true = sym (ready-same q (let_go (come_to at p)) is.slots row (seen-advance entry at p fit)) ∙ fact.ready_at in
    let then = is-timed entry at p row fact.kept in
    subst (λ (move : Move). MayMake s move.booked) (sym is.is.move_is)
    (launch-may s p m row is.slots fit tied (omega arith) (timed-ahead m p row then sound.limit fact.state.waits) (timed-fresh s m p row fit tied then fact.state.idle)
    (ready-parts (seen m p) is.slots row ready).has)

-- the booking of a launch is not that of a reservation
beside-of : (rs : List Accepted) (row : Row) (m n : ℕ) (planned : End) → IsBeside rs (launch_booking row m n planned)
beside-of rs row m n planned =
    elim row.wants.reservation as (λ o. IsBeside rs (option_map_or (λ (r : ReservationId). Same) o (Books (record { key = Job row.job; slots = n; from = m; until = planned })))) [
      | Some r ↦ tt
      | None ↦ λ moment. refl
    ]

next-beside : (rs : List Accepted) (p : Plan) (next : NextLaunch) → IsNext p next → IsBeside rs next.m.booked
next-beside rs p next is =
    subst (λ (m : Move). IsBeside rs m.booked) (sym is.is.move_is) (beside-of rs is.row p.moment is.slots (planned_end is.row.wants p.moment))

-- a launch wants no more room than one change and what a started job may still make
launch-grows : (m : ℕ) (row : Row) (slots : ℕ) → is_waiting row.course.state ≡ true → grows (launch-move m row slots) ≤ 2
launch-grows m row slots waits =
    let one : owes row.course ≡ 1 = ap (λ b. cond {A = ℕ} b 1 (cond {A = ℕ} (is_started row.course.state) 2 0)) waits in
    let change : cond {A = ℕ} (is_state row.course.state Running) 0 1 ≤ 1 = elim (is_state row.course.state Running) as (λ b. cond {A = ℕ} b 0 1 ≤ 1) [ true ↦ omega arith | false ↦ omega arith ] in
    omega (arith, one, change)

next-grows : (p : Plan) (next : NextLaunch) → IsFit p → IsNext p next → grows next.m ≤ 2
next-grows p next fit is =
    let fact = next_launch-is p (is.row, is.slots) fit.jobs.rising is.first in
    subst (λ (m : Move). grows m ≤ 2) (sym is.is.move_is) (launch-grows p.moment is.row is.slots fact.state.waits)

-- what the book wants of the move, and what it comes to
pub record MayGo (o : Occasion) (b : Book) (next : NextLaunch) : Type 0 where
  pub may : MayMake b.calendar next.m.booked
  pub beside : IsBeside b.reservations.items next.m.booked
  pub is : IsMove (plan_at o (plan_of b)) next.m
  pub fits : IsFit (moved o.entry next.m (plan_at o (plan_of b)))
  pub ties : KeepsTie next.m.booked next.m.job (plan_at o (plan_of b)) (moved o.entry next.m (plan_at o (plan_of b)))
  pub leads : launch.effect o.entry (plan_at o (plan_of b)) ≡ moved o.entry next.m (plan_at o (plan_of b))
  pub few : grows next.m ≤ 2

pub may-go : (o : Occasion) (b : Book) (v : View) (next : NextLaunch) → IsBook b → view_of b ≡ v → IsNext (plan_at o v.plan) next → MayGo o b next
may-go o b v next is_book seen said =
    let p = plan_of b in
    let q = plan_at o p in
    let fit = is_book.fit in
    let is : IsNext q next = subst (λ (w : View). IsNext (plan_at o w.plan) next) (sym seen) said in
    let fit_q : IsFit q = advance-fit o.entry o.at p fit in
    let goes = launches o.entry q next fit_q is in
    record {
      may = next-may b.calendar o.entry o.at p next fit is_book.tied is;
      beside = next-beside b.reservations.items q next is;
      is = goes.is;
      fits = subst IsFit goes.leads (launch-keeps.keeps o.entry q fit_q refl);
      ties = goes.ties;
      leads = goes.leads;
      few = next-grows q next fit_q is;
    }

-- it hands out what the definition tells
pub next-told : (p : Plan) (o : Option NextLaunch) → IsNextIn p o → option_map handed_out o ≡ launch.told p
next-told p None is = sym (ap (option_map (λ (n : Row × ℕ). launch_of n.0 n.1)) is)
next-told p (Some next) is = ap (λ (l : Launch). Some l) is.is.launch_is ∙ sym (ap (option_map (λ (n : Row × ℕ). launch_of n.0 n.1)) is.first)

-- ---- where no slot is free, no job may be launched

free-not : (used least total : ℕ) → total ≤ used → 1 ≤ least → leb (used + least) total ≡ false
free-not used least total full some = grind (arith, nat_tests)

pub and-true : (a : Bool) → (a && true) ≡ a
and-true true = refl
and-true false = refl

pub and-not : (a b : Bool) → b ≡ false → (a && b) ≡ false
and-not true b lacks = lacks
and-not false b lacks = refl

may-not : (m : ℕ) (p : Plan) (row : Row) → p.total ≤ held p.rows → IsSound row.wants row.course → may_launch m p (seen_row m p row) ≡ false
may-not m p row full sound =
    let at = seen_row m p row in
    let least : 1 ≤ at.wants.min = subst (λ (w : Wants). 1 ≤ w.min) (sym (timed-wants m (filter (lasts m) p.reservations) row)) sound.least in
    and-not (may_come (seen m p) at) (leb (held p.rows + at.wants.min) p.total && has_slots (seen m p) at.wants.min at)
    (ap (λ (b : Bool). b && has_slots (seen m p) at.wants.min at) (free-not (held p.rows) at.wants.min p.total full least))

pub none-free : (m : ℕ) (p : Plan) (rows : List Row) → p.total ≤ held p.rows → AllByRecursion (λ row. IsSound row.wants row.course) rows → filter (may_launch m p) (map (seen_row m p) rows) ≡ []
none-free m p [] full sound = refl
none-free m p (row ∷ rows) full sound =
    ap (λ (b : Bool). cond b (seen_row m p row ∷ filter (may_launch m p) (map (seen_row m p) rows)) (filter (may_launch m p) (map (seen_row m p) rows))) (may-not m p row full sound.0)
    ∙ none-free m p rows full sound.1
