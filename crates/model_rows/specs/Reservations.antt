-- Reservations.
use Rattle.std.specs.Prelude.{ℕ, List, [], ◌∷◌, codes, Some, None}
use Rattle.job_template.specs.declared.templates.ReservationTemplate.{ReservationTemplate}
use Rattle.job_template.specs.declared.templates.JobTemplate.{JobTemplate}
use Rattle.drmaa_types.specs.declared.infos.ReservationInfo.{ReservationInfo}
use Rattle.drmaa_types.specs.declared.refusals.Refusal.TheVariants.{DeniedByDrms, InvalidArgument, InvalidSession}
use Rattle.drmaa_types.specs.declared.refusals.Which.TheVariants as which
use Rattle.drmaa_types.specs.declared.states.Exit.TheVariants.{Signal}
use Rattle.drmaa_types.specs.declared.states.SignalKind.TheVariants as signal
use Rattle.drmaa_model.specs.declared.calls.Call.TheVariants as call
use Rattle.drmaa_model.specs.declared.entries.Entry.{Entry}
use Rattle.drmaa_model.specs.declared.replies.Reply.{Reply}
use Rattle.drmaa_model.specs.declared.replies.Reply.TheVariants as reply
use Rattle.model_rows.specs.Machines.{entry, session, job, reservation, plain, limited, wide, launch, opened, run, launched, started, slots_asked, exactly}

abbrev pub reserved : ℕ → ℕ → ℕ → ℕ → Reply
reserved number slots from until = reply.Reserved (record { reservation = reservation number; slots = slots; from = from; until = until })

-- a reservation session named `q`, the second of all sessions
abbrev pub opened_q : Entry
opened_q = entry 1 0 (call.CreateReservationSession (Some (codes "q"))) (reply.Session (session 2))

-- all four slots from 10 to 20
abbrev pub whole_machine : ReservationTemplate
whole_machine = record (exactly 10 20 slots_asked) { min_slots = Some 4 }

-- A job is not launched where it would run into a reservation, and one that ends as the reservation begins is.
abbrev pub before_reservation : List Entry
before_reservation =
    opened ∷ opened_q ∷
    entry 1 0 (call.RequestReservation (session 2) whole_machine) (reserved 1 4 10 20) ∷
    entry 1 6 (call.RunJob (session 1) (limited 5 plain)) (reply.Job (job 1)) ∷ []

abbrev pub as_it_begins : List Entry
as_it_begins =
    entry 1 6 (call.RunJob (session 1) (limited 4 plain)) (reply.Job (job 2)) ∷
    entry 2 6 call.TakeLaunch (launch 2 1 1) ∷ []

-- All four slots are reserved from 0 to 3.
abbrev pub first_three : ReservationTemplate
first_three = record (exactly 0 3 slots_asked) { min_slots = Some 4 }

abbrev pub in_frame : ReservationTemplate → ReservationTemplate
in_frame t = record (exactly 0 6 t) { duration = Some 1 }

-- The least start that fits, the first overfull moment of a fixed interval, and no moment where a frame has no start.
abbrev pub frames : List Entry
frames =
    opened ∷ opened_q ∷
    entry 1 0 (call.RequestReservation (session 2) first_three) (reserved 1 4 0 3) ∷
    entry 1 0 (call.RequestReservation (session 2) (in_frame slots_asked)) (reserved 2 1 3 4) ∷
    entry 1 0 (call.RequestReservation (session 2) (exactly 2 4 slots_asked)) (reply.Refused (DeniedByDrms (Some 2))) ∷
    entry 1 0 (call.RequestReservation (session 2) (record slots_asked { end_time = Some 5; duration = Some 1 })) (reserved 3 1 4 5) ∷
    entry 1 0 (call.RequestReservation (session 2) (record slots_asked { end_time = Some 5 })) (reply.Refused (InvalidArgument which.StartTime)) ∷
    entry 1 0 (call.RequestReservation (session 2) (record slots_asked { duration = Some 1 })) (reply.Refused (DeniedByDrms (Some 0))) ∷ []

-- in a frame that is full at every moment there is no start, and no moment is told
abbrev pub no_start : List Entry
no_start =
    opened ∷ opened_q ∷
    entry 1 0 (call.RequestReservation (session 2) (record (exactly 0 3 slots_asked) { min_slots = Some 5; duration = Some 2 })) (reply.Refused (DeniedByDrms None)) ∷ []

-- ---- a job that is in the way

-- all four slots, for at most 2 seconds
abbrev pub all_slots : JobTemplate
all_slots = wide 4 (limited 2 plain)

abbrev pub inside : JobTemplate
inside = record all_slots { reservation_id = Some (reservation 1) }

-- Job 1 has all slots until its end is reported. It is asked to end at 2; the reservation begins at 3.
abbrev pub in_the_way : List Entry
in_the_way =
    opened ∷ opened_q ∷ run all_slots 1 ∷ launched 1 1 4 ∷ started 1 ∷
    entry 1 0 (call.RequestReservation (session 2) (record (exactly 3 5 slots_asked) { min_slots = Some 4 })) (reserved 1 4 3 5) ∷
    entry 3 2 call.TakeSignal (reply.Signal (record { job = job 1; attempt = 1; kind = signal.Kill })) ∷
    entry 3 2 (call.SignalDone (job 1) 1 signal.Kill) reply.Unit ∷
    entry 1 3 (call.RunJob (session 1) inside) (reply.Job (job 2)) ∷ []

abbrev pub out_of_the_way : List Entry
out_of_the_way =
    entry 3 3 (call.Exited (job 1) 1 (Signal 9)) reply.Unit ∷
    entry 2 3 call.TakeLaunch (launch 2 1 4) ∷ []

-- ---- what is told

abbrev pub reservation_info : ReservationInfo
reservation_info = record { reservation = reservation 1; session = Some (codes "q"); name = None; slots = 4; from = 10; until = 20 }

-- A reservation is told to its session and to monitoring until it is ended; a destroyed session's numbers are gone.
abbrev pub told_and_ended : List Entry
told_and_ended =
    opened ∷ opened_q ∷
    entry 1 0 call.OpenMonitoring (reply.Session (session 3)) ∷
    entry 1 0 (call.RequestReservation (session 2) whole_machine) (reserved 1 4 10 20) ∷
    entry 1 0 (call.GetReservation (session 2) (reservation 1)) (reply.Reservation reservation_info) ∷
    entry 1 0 (call.GetReservations (session 2)) (reply.Reservations (1 ∷ [])) ∷
    entry 1 0 (call.AllReservations (session 3)) (reply.ReservationInfos (reservation_info ∷ [])) ∷
    entry 1 0 (call.EndReservation (session 2) (reservation 1)) reply.Unit ∷
    entry 1 0 (call.EndReservation (session 2) (reservation 1)) (reply.Refused (InvalidArgument which.Reservation)) ∷
    entry 1 0 call.ReservationSessionNames (reply.Names (codes "q" ∷ [])) ∷
    entry 1 0 (call.OpenReservationSession (codes "q")) (reply.Session (session 4)) ∷
    entry 1 0 (call.DestroyReservationSession (codes "q")) reply.Unit ∷
    entry 1 0 (call.GetReservations (session 4)) (reply.Refused InvalidSession) ∷ []
