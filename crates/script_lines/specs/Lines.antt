-- How client lines are spelled: each as its word, and what stands behind it. Our profile.
use Rattle.std.specs.Prelude.{ℕ, List, [], ◌∷◌, Option, codes}
use Rattle.text_codec.specs.Formats as form
use Rattle.text_codec.specs.Fields.{Fields}
use Rattle.text_codec.specs.Sums.{Spelled, alone, fielded, arm_alone, arm_fields, sum_of}
use Rattle.script_lines.specs.declared.lines.Line.{Line}
use Rattle.script_lines.specs.declared.lines.Line.TheVariants as line
use Rattle.script_lines.specs.declared.words.LineWord.{LineWord}
use Rattle.script_lines.specs.declared.words.LineWord.TheVariants as word
use Rattle.script_lines.specs.declared.words.TheConstants.{LINE_WORDS}
use Rattle.script_lines.specs.LineWords.{line_word}
use Rattle.script_lines.specs.Shapes.{bulk_fields, create_fields, exit_fields, jobs_fields, kind_fields, name_fields, open_fields, ref_fields, reserve_fields, run_fields, said_fields, text_fields, two_fields, wait_fields, make_filter, filter_parts}

abbrev pub line_form : Line → Spelled
line_form (line.CreateJobs name session) = fielded (line_word word.CreateJobs) create_fields (name, (session, tt))
line_form (line.CreateReservations name session) = fielded (line_word word.CreateReservations) create_fields (name, (session, tt))
line_form (line.OpenJobs name session) = fielded (line_word word.OpenJobs) open_fields (name, (session, tt))
line_form (line.OpenReservations name session) = fielded (line_word word.OpenReservations) open_fields (name, (session, tt))
line_form (line.DestroyJobs session) = fielded (line_word word.DestroyJobs) text_fields (session, tt)
line_form (line.DestroyReservations session) = fielded (line_word word.DestroyReservations) text_fields (session, tt)
line_form line.NamesJobs = alone (line_word word.NamesJobs)
line_form line.NamesReservations = alone (line_word word.NamesReservations)
line_form (line.Monitor name) = fielded (line_word word.Monitor) name_fields (name, tt)
line_form (line.Close session) = fielded (line_word word.Close) ref_fields (session, tt)
line_form (line.Run name session template reserved) = fielded (line_word word.Run) run_fields (name, (session, (template, (reserved, tt))))
line_form (line.Bulk name session template begin end step bound reserved) = fielded (line_word word.Bulk) bulk_fields (name, (session, (template, (begin, (end, (step, (bound, (reserved, tt))))))))
line_form (line.Jobs session filter) = fielded (line_word word.Jobs) jobs_fields (session, filter_parts filter)
line_form (line.Array session array) = fielded (line_word word.Array) two_fields (session, (array, tt))
line_form (line.Suspend session job) = fielded (line_word word.Suspend) two_fields (session, (job, tt))
line_form (line.Resume session job) = fielded (line_word word.Resume) two_fields (session, (job, tt))
line_form (line.Hold session job) = fielded (line_word word.Hold) two_fields (session, (job, tt))
line_form (line.Release session job) = fielded (line_word word.Release) two_fields (session, (job, tt))
line_form (line.Terminate session job) = fielded (line_word word.Terminate) two_fields (session, (job, tt))
line_form (line.SuspendArray session array) = fielded (line_word word.SuspendArray) two_fields (session, (array, tt))
line_form (line.ResumeArray session array) = fielded (line_word word.ResumeArray) two_fields (session, (array, tt))
line_form (line.HoldArray session array) = fielded (line_word word.HoldArray) two_fields (session, (array, tt))
line_form (line.ReleaseArray session array) = fielded (line_word word.ReleaseArray) two_fields (session, (array, tt))
line_form (line.TerminateArray session array) = fielded (line_word word.TerminateArray) two_fields (session, (array, tt))
line_form (line.Reap session job) = fielded (line_word word.Reap) two_fields (session, (job, tt))
line_form (line.ReapArray session array) = fielded (line_word word.ReapArray) two_fields (session, (array, tt))
line_form (line.State session job) = fielded (line_word word.State) two_fields (session, (job, tt))
line_form (line.Info session job) = fielded (line_word word.Info) two_fields (session, (job, tt))
line_form (line.WaitStarted session timeout jobs) = fielded (line_word word.WaitStarted) wait_fields (session, (timeout, (jobs, tt)))
line_form (line.WaitTerminated session timeout jobs) = fielded (line_word word.WaitTerminated) wait_fields (session, (timeout, (jobs, tt)))
line_form (line.Reserve name session template) = fielded (line_word word.Reserve) reserve_fields (name, (session, (template, tt)))
line_form (line.Reservation session reservation) = fielded (line_word word.Reservation) two_fields (session, (reservation, tt))
line_form (line.Reservations session) = fielded (line_word word.Reservations) ref_fields (session, tt)
line_form (line.Cancel session reservation) = fielded (line_word word.Cancel) two_fields (session, (reservation, tt))
line_form (line.AllJobs session filter) = fielded (line_word word.AllJobs) jobs_fields (session, filter_parts filter)
line_form (line.AllReservations session) = fielded (line_word word.AllReservations) ref_fields (session, tt)
line_form (line.Queues session) = fielded (line_word word.Queues) ref_fields (session, tt)
line_form (line.Machines session) = fielded (line_word word.Machines) ref_fields (session, tt)
line_form line.Register = alone (line_word word.Register)
line_form (line.At moment) = fielded (line_word word.At) said_fields (moment, tt)
line_form line.Launch = alone (line_word word.Launch)
line_form (line.Started job) = fielded (line_word word.Started) ref_fields (job, tt)
line_form (line.StartFailed job) = fielded (line_word word.StartFailed) ref_fields (job, tt)
line_form (line.Exit job code) = fielded (line_word word.Exit) exit_fields (job, (code, tt))
line_form (line.ExitSignal job signal) = fielded (line_word word.ExitSignal) exit_fields (job, (signal, tt))
line_form (line.ExitUnknown job) = fielded (line_word word.ExitUnknown) ref_fields (job, tt)
line_form line.Signal = alone (line_word word.Signal)
line_form (line.SignalDone job kind) = fielded (line_word word.SignalDone) kind_fields (job, (kind, tt))
line_form (line.SignalFailed job kind) = fielded (line_word word.SignalFailed) kind_fields (job, (kind, tt))

-- what is read behind each word
abbrev pub line_arms : LineWord → List ℕ → Option (Line × List ℕ)
line_arms word.CreateJobs = arm_fields create_fields (λ p. line.CreateJobs p.0 p.1.0)
line_arms word.CreateReservations = arm_fields create_fields (λ p. line.CreateReservations p.0 p.1.0)
line_arms word.OpenJobs = arm_fields open_fields (λ p. line.OpenJobs p.0 p.1.0)
line_arms word.OpenReservations = arm_fields open_fields (λ p. line.OpenReservations p.0 p.1.0)
line_arms word.DestroyJobs = arm_fields text_fields (λ p. line.DestroyJobs p.0)
line_arms word.DestroyReservations = arm_fields text_fields (λ p. line.DestroyReservations p.0)
line_arms word.NamesJobs = arm_alone line.NamesJobs
line_arms word.NamesReservations = arm_alone line.NamesReservations
line_arms word.Monitor = arm_fields name_fields (λ p. line.Monitor p.0)
line_arms word.Close = arm_fields ref_fields (λ p. line.Close p.0)
line_arms word.Run = arm_fields run_fields (λ p. line.Run p.0 p.1.0 p.1.1.0 p.1.1.1.0)
line_arms word.Bulk = arm_fields bulk_fields (λ p. line.Bulk p.0 p.1.0 p.1.1.0 p.1.1.1.0 p.1.1.1.1.0 p.1.1.1.1.1.0 p.1.1.1.1.1.1.0 p.1.1.1.1.1.1.1.0)
line_arms word.Jobs = arm_fields jobs_fields (λ p. line.Jobs p.0 (make_filter p.1))
line_arms word.Array = arm_fields two_fields (λ p. line.Array p.0 p.1.0)
line_arms word.Suspend = arm_fields two_fields (λ p. line.Suspend p.0 p.1.0)
line_arms word.Resume = arm_fields two_fields (λ p. line.Resume p.0 p.1.0)
line_arms word.Hold = arm_fields two_fields (λ p. line.Hold p.0 p.1.0)
line_arms word.Release = arm_fields two_fields (λ p. line.Release p.0 p.1.0)
line_arms word.Terminate = arm_fields two_fields (λ p. line.Terminate p.0 p.1.0)
line_arms word.SuspendArray = arm_fields two_fields (λ p. line.SuspendArray p.0 p.1.0)
line_arms word.ResumeArray = arm_fields two_fields (λ p. line.ResumeArray p.0 p.1.0)
line_arms word.HoldArray = arm_fields two_fields (λ p. line.HoldArray p.0 p.1.0)
line_arms word.ReleaseArray = arm_fields two_fields (λ p. line.ReleaseArray p.0 p.1.0)
line_arms word.TerminateArray = arm_fields two_fields (λ p. line.TerminateArray p.0 p.1.0)
line_arms word.Reap = arm_fields two_fields (λ p. line.Reap p.0 p.1.0)
line_arms word.ReapArray = arm_fields two_fields (λ p. line.ReapArray p.0 p.1.0)
line_arms word.State = arm_fields two_fields (λ p. line.State p.0 p.1.0)
line_arms word.Info = arm_fields two_fields (λ p. line.Info p.0 p.1.0)
line_arms word.WaitStarted = arm_fields wait_fields (λ p. line.WaitStarted p.0 p.1.0 p.1.1.0)
line_arms word.WaitTerminated = arm_fields wait_fields (λ p. line.WaitTerminated p.0 p.1.0 p.1.1.0)
line_arms word.Reserve = arm_fields reserve_fields (λ p. line.Reserve p.0 p.1.0 p.1.1.0)
line_arms word.Reservation = arm_fields two_fields (λ p. line.Reservation p.0 p.1.0)
line_arms word.Reservations = arm_fields ref_fields (λ p. line.Reservations p.0)
line_arms word.Cancel = arm_fields two_fields (λ p. line.Cancel p.0 p.1.0)
line_arms word.AllJobs = arm_fields jobs_fields (λ p. line.AllJobs p.0 (make_filter p.1))
line_arms word.AllReservations = arm_fields ref_fields (λ p. line.AllReservations p.0)
line_arms word.Queues = arm_fields ref_fields (λ p. line.Queues p.0)
line_arms word.Machines = arm_fields ref_fields (λ p. line.Machines p.0)
line_arms word.Register = arm_alone line.Register
line_arms word.At = arm_fields said_fields (λ p. line.At p.0)
line_arms word.Launch = arm_alone line.Launch
line_arms word.Started = arm_fields ref_fields (λ p. line.Started p.0)
line_arms word.StartFailed = arm_fields ref_fields (λ p. line.StartFailed p.0)
line_arms word.Exit = arm_fields exit_fields (λ p. line.Exit p.0 p.1.0)
line_arms word.ExitSignal = arm_fields exit_fields (λ p. line.ExitSignal p.0 p.1.0)
line_arms word.ExitUnknown = arm_fields ref_fields (λ p. line.ExitUnknown p.0)
line_arms word.Signal = arm_alone line.Signal
line_arms word.SignalDone = arm_fields kind_fields (λ p. line.SignalDone p.0 p.1.0)
line_arms word.SignalFailed = arm_fields kind_fields (λ p. line.SignalFailed p.0 p.1.0)

-- what may not follow some line
abbrev pub line_barred : List (List ℕ)
line_barred =
    codes " " ∷ codes " reserved " ∷ codes " id=" ∷ codes " name=" ∷ codes " state=" ∷ codes " slots=" ∷ codes " queue="
    ∷ codes " status=" ∷ codes " wallclock=" ∷ codes " submitted=" ∷ codes " dispatched=" ∷ codes " finished=" ∷ []

unfoldable pub line_sum : Fields Line
line_sum = sum_of line_word LINE_WORDS line_arms line_form line_barred

unfoldable pub read_line : List ℕ → Option Line
read_line l = form.read_line line_sum.body l
