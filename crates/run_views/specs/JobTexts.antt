-- The text that tells of jobs: our profile.
use Rattle.std.specs.Prelude.{ℕ, ◌-◌, ◌==◌, List, [], ◌∷◌, ◌++◌, Option, Some, None, codes, decimal, if◌then◌else◌}
use Rattle.std.specs.List.{flat_map}
use Rattle.std.specs.Option.{option_map, unwrap_or}
use Rattle.drmaa_types.specs.declared.changes.Change.{Change}
use Rattle.drmaa_types.specs.declared.infos.JobInfo.{JobInfo}
use Rattle.drmaa_types.specs.declared.states.Exit.{Exit}
use Rattle.drmaa_types.specs.declared.states.Exit.TheVariants.{Code, Signal}
use Rattle.drmaa_types.specs.declared.states.JobState.{JobState}
use Rattle.drmaa_types.specs.declared.states.JobState.TheVariants.{Queued, QueuedHeld, Running, Suspended, Requeued, RequeuedHeld, Done, Failed}
use Rattle.drmaa_types.specs.declared.states.Note.{Note}
use Rattle.drmaa_types.specs.declared.states.Note.TheVariants as note
use Rattle.drmaa_model.specs.declared.entries.Entry.{Entry}
use Rattle.text_codec.specs.Lexical.{quoted}
use Rattle.drmaa_types.specs.Said.{state_name}
use Rattle.text_codec.specs.ValueWords.{note_text}
use Rattle.run_views.specs.declared.runs.Ending.{Ending}
use Rattle.run_views.specs.declared.submissions.Submission.{Submission}
use Rattle.run_views.specs.declared.told.Told.{Told}
use Rattle.run_views.specs.Jobs.{kept_in, come_to, reaped, left, refusals, how_many}
use Rattle.run_views.specs.Submitted.{name_of_session, submissions}
use Rattle.run_views.specs.Texts.{ending_text}
use Rattle.run_views.specs.Told.{job_events, tale_of}

-- ---- the row of a job

-- a text in quotes, a number and an exit; `-` where there is none
unfoldable pub name_text : Option (List ℕ) → List ℕ
name_text None = codes "-"
name_text (Some name) = quoted name

abbrev pub number_text : Option ℕ → List ℕ
number_text None = codes "-"
number_text (Some number) = decimal number

abbrev pub code_text : Option Exit → List ℕ
code_text None = codes "-"
code_text (Some (Code n)) = codes "code " ++ decimal n
code_text (Some (Signal n)) = codes "signal " ++ decimal n

abbrev pub noted : Note → List ℕ
noted note.None = codes "-"
noted note.Terminated = note_text note.Terminated
noted note.PastDeadline = note_text note.PastDeadline
noted note.PastLimit = note_text note.PastLimit
noted note.ReservationGone = note_text note.ReservationGone
noted note.StartFailed = note_text note.StartFailed
noted note.ExitUnknown = note_text note.ExitUnknown
noted note.SignalFailed = note_text note.SignalFailed

-- the moment up to which a job has waited: that of its last launch; where it had none, that of its end, or else now
abbrev pub waited_to : ℕ → Option ℕ → Option ℕ → ℕ
waited_to now (Some dispatched) finished = dispatched
waited_to now None (Some finished) = finished
waited_to now None None = now

abbrev pub waited : ℕ → JobInfo → ℕ
waited now info = waited_to now info.dispatched info.finished - info.submitted

-- number, session and name, each with a tab behind it
abbrev pub names_text : ℕ → Option (List ℕ) → Option (List ℕ) → List ℕ
names_text job session name = decimal job ++ (codes "\t" ++ (name_text session ++ (codes "\t" ++ (name_text name ++ codes "\t"))))

-- the state, with a tab behind it
abbrev pub tabbed_state : JobState → List ℕ
tabbed_state state = state_name state ++ codes "\t"

-- slots, the moment of submission, and the seconds that the job waited, each with a tab behind it
abbrev pub times_text : Option ℕ → ℕ → ℕ → List ℕ
times_text slots submitted seconds = number_text slots ++ (codes "\t" ++ (decimal submitted ++ (codes "\t" ++ (decimal seconds ++ codes "\t"))))

-- the seconds of its last launch, its exit, and its note
abbrev pub ends_text : JobInfo → List ℕ
ends_text info = number_text info.wallclock ++ (codes "\t" ++ (code_text info.exit ++ (codes "\t" ++ (noted info.note ++ codes "\n"))))

-- The row of a kept job: number, session, name, state, slots, submitted, waited, ran, exit and note.
abbrev pub job_row : ℕ → JobInfo → List ℕ
job_row now info =
    names_text info.job.0 info.session info.name ++ (tabbed_state info.state ++ (times_text info.slots info.submitted (waited now info) ++ ends_text info))

-- ---- the row of a job that is kept no more

-- the moment up to which it ran: that of its last change, by which it ended
abbrev pub ran_to : ℕ → Told → ℕ
ran_to now told = unwrap_or told.changed now

abbrev pub waited_once : ℕ → Submission → Told → ℕ
waited_once now s told = waited_to now told.launched told.changed - s.submitted

-- the seconds of its last launch
abbrev pub ran_once : ℕ → Told → Option ℕ
ran_once now told = option_map (λ (launched : ℕ). ran_to now told - launched) told.launched

-- how the run ended that was last reported; `-` where none was
abbrev pub last_ending : Option Ending → List ℕ
last_ending None = codes "-"
last_ending (Some how) = ending_text how

abbrev pub told_ends : ℕ → Told → List ℕ
told_ends now told = number_text (ran_once now told) ++ (codes "\t" ++ (last_ending told.ending ++ codes "\treaped\n"))

-- The row of a job that has been reaped: as that of a kept job, by what the history tells of it, and `reaped` in place of a note.
abbrev pub reaped_row : ℕ → Option (List ℕ) → Told → Submission → List ℕ
reaped_row now session told s =
    names_text s.job session s.name ++ (tabbed_state told.state ++ (times_text told.slots s.submitted (waited_once now s told) ++ told_ends now told))

abbrev pub reaped_row_in : ℕ → List Entry → List Change → Submission → List ℕ
reaped_row_in now entries changes s = reaped_row now (name_of_session s.session.0 entries) (tale_of s.job (job_events entries changes)) s

-- ---- counts

-- a word and how many; nothing where there is none
unfoldable pub count_line : List ℕ → ℕ → List ℕ
count_line word count = if count == 0 then [] else word ++ (codes " " ++ (decimal count ++ codes "\n"))

-- the jobs that wait and that are started, by state
abbrev pub kept_line : JobState → List JobInfo → List ℕ
kept_line state infos = count_line (state_name state) (kept_in state infos)

unfoldable pub waiting_lines : List JobInfo → List ℕ
waiting_lines infos = kept_line Queued infos ++ (kept_line QueuedHeld infos ++ (kept_line Requeued infos ++ kept_line RequeuedHeld infos))

unfoldable pub started_lines : List JobInfo → List ℕ
started_lines infos = kept_line Running infos ++ kept_line Suspended infos

-- the jobs that have ended, with those that have been reaped; and how many have been
abbrev pub ended_line : JobState → List Change → List ℕ
ended_line state changes = count_line (state_name state) (come_to state changes)

unfoldable pub ended_lines : List JobInfo → List Change → List ℕ
ended_lines infos changes = ended_line Done changes ++ (ended_line Failed changes ++ count_line (codes "reaped") (reaped infos changes))

-- the refused calls, by the number of the refusal, where these are the numbers that all calls got
abbrev pub refused_line : List ℕ → ℕ → List ℕ → List ℕ
refused_line words number numbers = count_line words (how_many number numbers)

unfoldable pub first_refused_lines : List ℕ → List ℕ
first_refused_lines numbers =
    refused_line (codes "refused 1") 1 numbers ++ (refused_line (codes "refused 3") 3 numbers
    ++ (refused_line (codes "refused 4") 4 numbers ++ refused_line (codes "refused 5") 5 numbers))

unfoldable pub last_refused_lines : List ℕ → List ℕ
last_refused_lines numbers =
    refused_line (codes "refused 6") 6 numbers ++ (refused_line (codes "refused 7") 7 numbers
    ++ (refused_line (codes "refused 9") 9 numbers ++ refused_line (codes "refused 10") 10 numbers))

unfoldable pub refused_lines : List ℕ → List ℕ
refused_lines numbers = first_refused_lines numbers ++ last_refused_lines numbers

-- how many jobs are left
unfoldable pub left_line : List JobInfo → List ℕ
left_line infos = count_line (codes "left") (left infos)

unfoldable pub job_lines : List JobInfo → List Change → List ℕ
job_lines infos changes = waiting_lines infos ++ (started_lines infos ++ ended_lines infos changes)

abbrev pub count_lines : List JobInfo → List Change → List Entry → List ℕ
count_lines infos changes entries = job_lines infos changes ++ (refused_lines (refusals entries) ++ left_line infos)

-- ---- all rows

abbrev pub kept_rows : ℕ → List JobInfo → List ℕ
kept_rows now infos = flat_map (job_row now) infos

-- Kept and submitted jobs stand in order of number, so that a submitted job that is not the first kept one of those that are left is
-- kept no more. This is its row, and these are the kept ones that are left behind it.
abbrev pub next_row : ℕ → (Submission → List ℕ) → List JobInfo → Submission → List ℕ
next_row now reaped [] s = reaped s
next_row now reaped (info ∷ others) s = if info.job.0 == s.job then job_row now info else reaped s

abbrev pub behind : List JobInfo → Submission → List JobInfo
behind [] s = []
behind (info ∷ others) s = if info.job.0 == s.job then others else info ∷ others

-- the rows of kept and submitted jobs, where this is the row of one that has been reaped
abbrev pub rows_by_number : ℕ → (Submission → List ℕ) → List JobInfo → List Submission → List ℕ
rows_by_number now reaped infos [] = kept_rows now infos
rows_by_number now reaped infos (s ∷ later) = next_row now reaped infos s ++ rows_by_number now reaped (behind infos s) later

-- the rows of all jobs that ever were, by number
abbrev pub job_rows : ℕ → List JobInfo → List Change → List Entry → List ℕ
job_rows now infos changes entries = rows_by_number now (reaped_row_in now entries changes) infos (submissions entries)

-- The rows of all jobs, and the counts.
abbrev pub jobs_text : ℕ → List JobInfo → List Change → List Entry → List ℕ
jobs_text now infos changes entries = job_rows now infos changes entries ++ count_lines infos changes entries
