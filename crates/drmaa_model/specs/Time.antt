-- What time does before a call is served: our profile.
use Rattle.std.specs.Prelude.{ℕ, ◌+◌, Bool, false, not, ◌&&◌, ◌||◌, ◌==◌, nat_le, nat_lt, max, List, ◌++◌, map, filter, find, is_some, if◌then◌else◌}
use Rattle.std.specs.Option.{option_map_or}
use Rattle.drmaa_types.specs.States.{is_waiting, is_started}
use Rattle.drmaa_types.specs.declared.identifiers.ReservationId.{ReservationId}
use Rattle.drmaa_types.specs.declared.moments.End.{End}
use Rattle.drmaa_types.specs.declared.moments.End.TheVariants.{At, Never}
use Rattle.drmaa_types.specs.declared.states.Note.TheVariants as note
use Rattle.drmaa_types.specs.declared.states.SignalKind.TheVariants as signal
use Rattle.drmaa_model.specs.declared.courses.Order.{Order}
use Rattle.drmaa_model.specs.declared.reservations.Accepted.{Accepted}
use Rattle.drmaa_model.specs.declared.rows.Row.{Row}
use Rattle.drmaa_model.specs.Courses.{failed, called, is_unasked}
use Rattle.drmaa_model.specs.Plan.{Plan}
use Rattle.drmaa_model.specs.Rows.{change_rows}
use Rattle.drmaa_model.specs.World.{World}

-- 1. The moment; it never falls.
abbrev pub come_to : ℕ → Plan → Plan
come_to at p = record p { moment = max p.moment at }

-- 2. Reservations whose end is at or before the moment leave the list.
abbrev pub lasts : ℕ → Accepted → Bool
lasts moment r = nat_lt moment r.until

abbrev pub let_go : Plan → Plan
let_go p = record p { reservations = filter (lasts p.moment) p.reservations }

-- the deadline is at the moment or before it
abbrev pub is_late : ℕ → Row → Bool
is_late moment row = option_map_or (λ (deadline : ℕ). nat_le deadline moment) row.wants.deadline false

-- an end is at the moment or before it
abbrev pub is_past : ℕ → End → Bool
is_past moment (At end) = nat_le end moment
is_past moment Never = false

-- the planned end is at the moment or before it
abbrev pub is_over : ℕ → Row → Bool
is_over moment row = option_map_or (is_past moment) row.course.planned false

-- the reservation is there
abbrev pub is_accepted : List Accepted → ReservationId → Bool
is_accepted rs number = is_some (find (λ (r : Accepted). r.reservation.0 == number.0) rs)

-- the job names a reservation that is gone
abbrev pub is_stranded : List Accepted → Row → Bool
is_stranded rs row = option_map_or (λ (number : ReservationId). not (is_accepted rs number)) row.wants.reservation false

-- 3. Waiting jobs become FAILED where their deadline is past, else where their reservation is gone.
abbrev pub lapses : ℕ → List Accepted → Row → Bool
lapses moment rs row = is_waiting row.course.state && (is_late moment row || is_stranded rs row)

abbrev pub lapsed : ℕ → List Accepted → Row → Row
lapsed moment rs row =
    if lapses moment rs row
    then record row { course = failed moment (if is_late moment row then note.PastDeadline else note.ReservationGone) row.course }
    else row

abbrev pub expire : ℕ → Plan → Plan
expire entry p = change_rows entry (lapsed p.moment p.reservations) p

-- 4. Started jobs with no kill asked get a Kill order where their planned end is past, else where their reservation is gone.
abbrev pub is_due : ℕ → List Accepted → Row → Bool
is_due moment rs row = is_started row.course.state && (is_unasked row.course.kill && (is_over moment row || is_stranded rs row))

abbrev pub called_in : ℕ → List Accepted → Row → Row
called_in moment rs row =
    if is_due moment rs row
    then record row { course = called (if is_over moment row then note.PastLimit else note.ReservationGone) row.course }
    else row

abbrev pub kill_order : Row → Order
kill_order row = record { job = row.job; kind = signal.Kill; taken = false }

abbrev pub call_in : Plan → Plan
call_in p = record p {
  rows = map (called_in p.moment p.reservations) p.rows;
  orders = p.orders ++ map kill_order (filter (is_due p.moment p.reservations) p.rows);
}

-- What time does to the plan, in the entry of this number.
abbrev pub advance_plan : ℕ → ℕ → Plan → Plan
advance_plan entry at p = call_in (expire entry (let_go (come_to at p)))

-- the world at a moment that was handed in
abbrev pub advance : World → ℕ → World
advance w at = record w { plan = advance_plan (w.entries + 1) at w.plan }

-- the rows of the plan that has come to a moment; the entry's number makes no difference to them
abbrev pub rows_at : ℕ → Plan → List Row
rows_at at p = (advance_plan 0 at p).rows
