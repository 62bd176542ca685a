-- What the script of a soak says: our profile.
use Rattle.std.specs.Prelude.{ℕ, zero, suc, ◌+◌, ◌*◌, ◌-◌, pos, nat_lt, true, List, [], ◌∷◌, ◌++◌, Option, Some, None, decimal, codes, if◌then◌else◌}
use Rattle.job_template.specs.declared.templates.JobTemplate.{JobTemplate}
use Rattle.job_template.specs.declared.templates.ReservationTemplate.{ReservationTemplate}
use Rattle.drmaa_types.specs.declared.template_parts.ResourceLimit.{ResourceLimit}
use Rattle.drmaa_types.specs.declared.template_parts.Start.TheVariants.{At}
use Rattle.text_codec.specs.Formats.{choose}
use Rattle.text_dates.specs.declared.said.Said.{Said}
use Rattle.script_lines.specs.declared.lines.Line.{Line}
use Rattle.script_lines.specs.declared.lines.Line.TheVariants as line
use Rattle.script_lines.specs.declared.refs.Ref.{Ref}
use Rattle.script_lines.specs.declared.refs.Ref.TheVariants.{Bound}
use Rattle.script_lines.specs.Templates.{no_fields, no_reservation_fields}
use Rattle.script_text.specs.declared.scripts.Script.{Script}
use Rattle.script_text.specs.Header.{config_of}
use Rattle.soak_script.specs.Draws.{draw, template_of}

-- ---- names

-- the names of a step's job, of its reservation, and of the template of its reservation
abbrev pub job_name : ℕ → List ℕ
job_name step = codes "j" ++ decimal step

abbrev pub reservation_name : ℕ → List ℕ
reservation_name step = codes "r" ++ decimal step

abbrev pub template_name : ℕ → List ℕ
template_name step = codes "x" ++ decimal step

-- the sessions of jobs and of reservations, and a step's job
abbrev pub jobs : Ref
jobs = Bound (codes "s")

abbrev pub reservations : Ref
reservations = Bound (codes "q")

abbrev pub job : ℕ → Ref
job step = Bound (job_name step)

-- ---- templates

abbrev pub wallclock : ℕ → ResourceLimit
wallclock seconds = record { name = codes "WALLCLOCK_TIME"; value = seconds }

-- jobs that run `true`, of at most so many seconds
abbrev pub lasting : ℕ → JobTemplate
lasting seconds = record no_fields.template { remote_command = codes "true"; resource_limits = wallclock seconds ∷ [] }

abbrev pub run_templates : List (List ℕ × JobTemplate)
run_templates =
    (codes "a", lasting 25)
    ∷ (codes "b", record (lasting 100) { min_slots = Some 2; priority = Some (pos 1) })
    ∷ (codes "c", record (lasting 1000) { min_slots = Some 4 })
    ∷ []

-- 500 seconds and 8 slots, in a frame of 100,000 seconds from the step's moment on
abbrev pub frame_of : ℕ → ReservationTemplate
frame_of step = record no_reservation_fields {
  start_time = Some (At (10 * step));
  end_time = Some (10 * step + 100_000);
  duration = Some 500;
  min_slots = Some 8;
}

-- the template of a step's reservation, where the step is no run
abbrev pub frames_by : ℕ → Option (List ℕ) → List (List ℕ × ReservationTemplate)
frames_by step run = choose run (λ (template : List ℕ). []) ((template_name step, frame_of step) ∷ [])

abbrev pub frames_at : ℕ → ℕ → List (List ℕ × ReservationTemplate)
frames_at seed step = frames_by step (template_of (draw seed step))

-- ---- steps

abbrev pub run_of : ℕ → List ℕ → Line
run_of step template = line.Run (job_name step) jobs template None

abbrev pub reserve_of : ℕ → Line
reserve_of step = line.Reserve (reservation_name step) reservations (template_name step)

-- a run by its template, or a reservation
abbrev pub asked_by : ℕ → Option (List ℕ) → Line
asked_by step run = choose run (run_of step) (reserve_of step)

-- the job of a run ends, with code 0, is terminated, and is reaped
abbrev pub end_of : ℕ → List Line
end_of step = line.Exit (job step) 0 ∷ line.Terminate jobs (job step) ∷ line.Reap jobs (job step) ∷ []

abbrev pub ended_by : ℕ → Option (List ℕ) → List Line
ended_by step run = choose run (λ (template : List ℕ). end_of step) []

-- the end of the step fifty steps before, if there is one
abbrev pub ended_at : ℕ → ℕ → List Line
ended_at seed step = if nat_lt 50 step then ended_by (step - 50) (template_of (draw seed (step - 50))) else []

-- the moment of a step, in seconds
abbrev pub moment_of : ℕ → Said
moment_of step = record { dated = None; moment = 10 * step }

abbrev pub lines_at : ℕ → ℕ → List Line
lines_at seed step = line.At (moment_of step) ∷ asked_by step (template_of (draw seed step)) ∷ line.Launch ∷ ended_at seed step

-- ---- the script

-- what the first so many steps have, from 1 on
abbrev pub for_steps : {A : Type 0} → (ℕ → List A) → ℕ → List A
for_steps has zero = []
for_steps has (suc step) = for_steps has step ++ has (suc step)

-- the client opens its sessions, and goes through the steps
abbrev pub opening : List Line
opening = line.CreateJobs (codes "s") (Some (codes "s")) ∷ line.CreateReservations (codes "q") (Some (codes "q")) ∷ []

abbrev pub client_of : ℕ → ℕ → List Line
client_of steps seed = opening ++ for_steps (lines_at seed) steps

-- The script: 128 slots that can be suspended, the templates, and one client.
abbrev pub soak_of : ℕ → ℕ → Script
soak_of steps seed = record {
  config = config_of (128, (codes "soak", true)) [];
  jobs = run_templates;
  reservations = for_steps (frames_at seed) steps;
  setup = None;
  clients = client_of steps seed ∷ [];
}
