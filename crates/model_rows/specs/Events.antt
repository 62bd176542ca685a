-- The moments at which time may change something.
use Rattle.std.specs.Prelude.{List, [], ◌∷◌, Some}
use Rattle.job_template.specs.declared.templates.JobTemplate.{JobTemplate}
use Rattle.drmaa_model.specs.declared.calls.Call.TheVariants as call
use Rattle.drmaa_model.specs.declared.entries.Entry.{Entry}
use Rattle.model_rows.specs.Machines.{entry, session, plain, opened, run, launched}
use Rattle.model_rows.specs.Reservations.{reserved, opened_q, whole_machine}

-- a job that starts from 5 on, and no later than its deadline at 7
abbrev pub later : JobTemplate
later = record plain { start_time = Some 5; deadline_time = Some 7 }

-- Job 1 runs up to 3, its planned end; job 2 waits for its start; a reservation lies from 10 to 20.
abbrev pub eventful : List Entry
eventful =
    opened ∷ opened_q ∷
    entry 1 0 (call.RequestReservation (session 2) whole_machine) (reserved 1 4 10 20) ∷
    run plain 1 ∷ run later 2 ∷ launched 1 1 1 ∷ []
