-- The laws of client lines: two for each.
use Rattle.std.proofs.Common.{◌≡◌, ℕ, List, Some, refl}
use Rattle.text_codec.specs.Fields.{IsFormatUpTo}
use Rattle.text_codec.specs.Sums.{read_sum, sum_of, IsArm, Stands}
use Rattle.text_codec.specs.SumLaws.{alone_found, fielded_found, alone_stands, fielded_stands, sum_laws}
use Rattle.script_lines.specs.declared.lines.Line.{Line}
use Rattle.script_lines.specs.declared.lines.Line.TheVariants as line
use Rattle.script_lines.specs.declared.words.LineWord.{LineWord}
use Rattle.script_lines.specs.declared.words.LineWord.TheVariants as word
use Rattle.script_lines.specs.declared.words.TheConstants.{LINE_WORDS}
use Rattle.script_lines.specs.LineWords.{line_word}
use Rattle.script_lines.specs.Shapes.{bulk_fields, create_fields, exit_fields, jobs_fields, kind_fields, name_fields, open_fields, ref_fields, reserve_fields, run_fields, said_fields, text_fields, two_fields, wait_fields, make_filter, filter_parts}
use Rattle.script_lines.specs.ShapeLaws.{bulk_behind, create_behind, exit_behind, jobs_behind, kind_behind, name_behind, open_behind, ref_behind, reserve_behind, run_behind, said_behind, text_behind, two_behind, wait_behind, bulk_covered, create_covered, exit_covered, jobs_covered, kind_covered, name_covered, open_covered, ref_covered, reserve_covered, run_covered, said_covered, text_covered, two_covered, wait_covered}
use Rattle.script_lines.specs.WholeLaws.{sum_found, sum_again}
use Rattle.script_lines.specs.Lines.{line_form, line_arms, line_barred, line_sum, read_line}

found : (k : LineWord) → IsArm line_form (line_word k) (line_arms k)
found word.CreateJobs = fielded_found line_form (line_word word.CreateJobs) create_fields _ create_behind (λ x. refl)
found word.CreateReservations = fielded_found line_form (line_word word.CreateReservations) create_fields _ create_behind (λ x. refl)
found word.OpenJobs = fielded_found line_form (line_word word.OpenJobs) open_fields _ open_behind (λ x. refl)
found word.OpenReservations = fielded_found line_form (line_word word.OpenReservations) open_fields _ open_behind (λ x. refl)
found word.DestroyJobs = fielded_found line_form (line_word word.DestroyJobs) text_fields _ text_behind (λ x. refl)
found word.DestroyReservations = fielded_found line_form (line_word word.DestroyReservations) text_fields _ text_behind (λ x. refl)
found word.NamesJobs = alone_found line_form (line_word word.NamesJobs) line.NamesJobs refl
found word.NamesReservations = alone_found line_form (line_word word.NamesReservations) line.NamesReservations refl
found word.Monitor = fielded_found line_form (line_word word.Monitor) name_fields _ name_behind (λ x. refl)
found word.Close = fielded_found line_form (line_word word.Close) ref_fields _ ref_behind (λ x. refl)
found word.Run = fielded_found line_form (line_word word.Run) run_fields _ run_behind (λ x. refl)
found word.Bulk = fielded_found line_form (line_word word.Bulk) bulk_fields _ bulk_behind (λ x. refl)
found word.Jobs = fielded_found line_form (line_word word.Jobs) jobs_fields _ jobs_behind (λ x. refl)
found word.Array = fielded_found line_form (line_word word.Array) two_fields _ two_behind (λ x. refl)
found word.Suspend = fielded_found line_form (line_word word.Suspend) two_fields _ two_behind (λ x. refl)
found word.Resume = fielded_found line_form (line_word word.Resume) two_fields _ two_behind (λ x. refl)
found word.Hold = fielded_found line_form (line_word word.Hold) two_fields _ two_behind (λ x. refl)
found word.Release = fielded_found line_form (line_word word.Release) two_fields _ two_behind (λ x. refl)
found word.Terminate = fielded_found line_form (line_word word.Terminate) two_fields _ two_behind (λ x. refl)
found word.SuspendArray = fielded_found line_form (line_word word.SuspendArray) two_fields _ two_behind (λ x. refl)
found word.ResumeArray = fielded_found line_form (line_word word.ResumeArray) two_fields _ two_behind (λ x. refl)
found word.HoldArray = fielded_found line_form (line_word word.HoldArray) two_fields _ two_behind (λ x. refl)
found word.ReleaseArray = fielded_found line_form (line_word word.ReleaseArray) two_fields _ two_behind (λ x. refl)
found word.TerminateArray = fielded_found line_form (line_word word.TerminateArray) two_fields _ two_behind (λ x. refl)
found word.Reap = fielded_found line_form (line_word word.Reap) two_fields _ two_behind (λ x. refl)
found word.ReapArray = fielded_found line_form (line_word word.ReapArray) two_fields _ two_behind (λ x. refl)
found word.State = fielded_found line_form (line_word word.State) two_fields _ two_behind (λ x. refl)
found word.Info = fielded_found line_form (line_word word.Info) two_fields _ two_behind (λ x. refl)
found word.WaitStarted = fielded_found line_form (line_word word.WaitStarted) wait_fields _ wait_behind (λ x. refl)
found word.WaitTerminated = fielded_found line_form (line_word word.WaitTerminated) wait_fields _ wait_behind (λ x. refl)
found word.Reserve = fielded_found line_form (line_word word.Reserve) reserve_fields _ reserve_behind (λ x. refl)
found word.Reservation = fielded_found line_form (line_word word.Reservation) two_fields _ two_behind (λ x. refl)
found word.Reservations = fielded_found line_form (line_word word.Reservations) ref_fields _ ref_behind (λ x. refl)
found word.Cancel = fielded_found line_form (line_word word.Cancel) two_fields _ two_behind (λ x. refl)
found word.AllJobs = fielded_found line_form (line_word word.AllJobs) jobs_fields _ jobs_behind (λ x. refl)
found word.AllReservations = fielded_found line_form (line_word word.AllReservations) ref_fields _ ref_behind (λ x. refl)
found word.Queues = fielded_found line_form (line_word word.Queues) ref_fields _ ref_behind (λ x. refl)
found word.Machines = fielded_found line_form (line_word word.Machines) ref_fields _ ref_behind (λ x. refl)
found word.Register = alone_found line_form (line_word word.Register) line.Register refl
found word.At = fielded_found line_form (line_word word.At) said_fields _ said_behind (λ x. refl)
found word.Launch = alone_found line_form (line_word word.Launch) line.Launch refl
found word.Started = fielded_found line_form (line_word word.Started) ref_fields _ ref_behind (λ x. refl)
found word.StartFailed = fielded_found line_form (line_word word.StartFailed) ref_fields _ ref_behind (λ x. refl)
found word.Exit = fielded_found line_form (line_word word.Exit) exit_fields _ exit_behind (λ x. refl)
found word.ExitSignal = fielded_found line_form (line_word word.ExitSignal) exit_fields _ exit_behind (λ x. refl)
found word.ExitUnknown = fielded_found line_form (line_word word.ExitUnknown) ref_fields _ ref_behind (λ x. refl)
found word.Signal = alone_found line_form (line_word word.Signal) line.Signal refl
found word.SignalDone = fielded_found line_form (line_word word.SignalDone) kind_fields _ kind_behind (λ x. refl)
found word.SignalFailed = fielded_found line_form (line_word word.SignalFailed) kind_fields _ kind_behind (λ x. refl)

stands : (l : Line) → Stands (read_sum line_word LINE_WORDS line_arms) line_barred l (line_form l)
stands (line.CreateJobs name session) = fielded_stands line_word LINE_WORDS line_arms line_barred word.CreateJobs create_fields (λ p. line.CreateJobs p.0 p.1.0) create_behind (name, (session, tt)) refl refl (λ bs. refl) create_covered
stands (line.CreateReservations name session) = fielded_stands line_word LINE_WORDS line_arms line_barred word.CreateReservations create_fields (λ p. line.CreateReservations p.0 p.1.0) create_behind (name, (session, tt)) refl refl (λ bs. refl) create_covered
stands (line.OpenJobs name session) = fielded_stands line_word LINE_WORDS line_arms line_barred word.OpenJobs open_fields (λ p. line.OpenJobs p.0 p.1.0) open_behind (name, (session, tt)) refl refl (λ bs. refl) open_covered
stands (line.OpenReservations name session) = fielded_stands line_word LINE_WORDS line_arms line_barred word.OpenReservations open_fields (λ p. line.OpenReservations p.0 p.1.0) open_behind (name, (session, tt)) refl refl (λ bs. refl) open_covered
stands (line.DestroyJobs session) = fielded_stands line_word LINE_WORDS line_arms line_barred word.DestroyJobs text_fields (λ p. line.DestroyJobs p.0) text_behind (session, tt) refl refl (λ bs. refl) text_covered
stands (line.DestroyReservations session) = fielded_stands line_word LINE_WORDS line_arms line_barred word.DestroyReservations text_fields (λ p. line.DestroyReservations p.0) text_behind (session, tt) refl refl (λ bs. refl) text_covered
stands line.NamesJobs = alone_stands line_word LINE_WORDS line_arms line_barred word.NamesJobs line.NamesJobs refl refl (λ bs. refl)
stands line.NamesReservations = alone_stands line_word LINE_WORDS line_arms line_barred word.NamesReservations line.NamesReservations refl refl (λ bs. refl)
stands (line.Monitor name) = fielded_stands line_word LINE_WORDS line_arms line_barred word.Monitor name_fields (λ p. line.Monitor p.0) name_behind (name, tt) refl refl (λ bs. refl) name_covered
stands (line.Close session) = fielded_stands line_word LINE_WORDS line_arms line_barred word.Close ref_fields (λ p. line.Close p.0) ref_behind (session, tt) refl refl (λ bs. refl) ref_covered
stands (line.Run name session template reserved) = fielded_stands line_word LINE_WORDS line_arms line_barred word.Run run_fields (λ p. line.Run p.0 p.1.0 p.1.1.0 p.1.1.1.0) run_behind (name, (session, (template, (reserved, tt)))) refl refl (λ bs. refl) run_covered
stands (line.Bulk name session template begin end step bound reserved) = fielded_stands line_word LINE_WORDS line_arms line_barred word.Bulk bulk_fields (λ p. line.Bulk p.0 p.1.0 p.1.1.0 p.1.1.1.0 p.1.1.1.1.0 p.1.1.1.1.1.0 p.1.1.1.1.1.1.0 p.1.1.1.1.1.1.1.0) bulk_behind (name, (session, (template, (begin, (end, (step, (bound, (reserved, tt)))))))) refl refl (λ bs. refl) bulk_covered
stands (line.Jobs session filter) = fielded_stands line_word LINE_WORDS line_arms line_barred word.Jobs jobs_fields (λ p. line.Jobs p.0 (make_filter p.1)) jobs_behind (session, filter_parts filter) refl refl (λ bs. refl) jobs_covered
stands (line.Array session array) = fielded_stands line_word LINE_WORDS line_arms line_barred word.Array two_fields (λ p. line.Array p.0 p.1.0) two_behind (session, (array, tt)) refl refl (λ bs. refl) two_covered
stands (line.Suspend session job) = fielded_stands line_word LINE_WORDS line_arms line_barred word.Suspend two_fields (λ p. line.Suspend p.0 p.1.0) two_behind (session, (job, tt)) refl refl (λ bs. refl) two_covered
stands (line.Resume session job) = fielded_stands line_word LINE_WORDS line_arms line_barred word.Resume two_fields (λ p. line.Resume p.0 p.1.0) two_behind (session, (job, tt)) refl refl (λ bs. refl) two_covered
stands (line.Hold session job) = fielded_stands line_word LINE_WORDS line_arms line_barred word.Hold two_fields (λ p. line.Hold p.0 p.1.0) two_behind (session, (job, tt)) refl refl (λ bs. refl) two_covered
stands (line.Release session job) = fielded_stands line_word LINE_WORDS line_arms line_barred word.Release two_fields (λ p. line.Release p.0 p.1.0) two_behind (session, (job, tt)) refl refl (λ bs. refl) two_covered
stands (line.Terminate session job) = fielded_stands line_word LINE_WORDS line_arms line_barred word.Terminate two_fields (λ p. line.Terminate p.0 p.1.0) two_behind (session, (job, tt)) refl refl (λ bs. refl) two_covered
stands (line.SuspendArray session array) = fielded_stands line_word LINE_WORDS line_arms line_barred word.SuspendArray two_fields (λ p. line.SuspendArray p.0 p.1.0) two_behind (session, (array, tt)) refl refl (λ bs. refl) two_covered
stands (line.ResumeArray session array) = fielded_stands line_word LINE_WORDS line_arms line_barred word.ResumeArray two_fields (λ p. line.ResumeArray p.0 p.1.0) two_behind (session, (array, tt)) refl refl (λ bs. refl) two_covered
stands (line.HoldArray session array) = fielded_stands line_word LINE_WORDS line_arms line_barred word.HoldArray two_fields (λ p. line.HoldArray p.0 p.1.0) two_behind (session, (array, tt)) refl refl (λ bs. refl) two_covered
stands (line.ReleaseArray session array) = fielded_stands line_word LINE_WORDS line_arms line_barred word.ReleaseArray two_fields (λ p. line.ReleaseArray p.0 p.1.0) two_behind (session, (array, tt)) refl refl (λ bs. refl) two_covered
stands (line.TerminateArray session array) = fielded_stands line_word LINE_WORDS line_arms line_barred word.TerminateArray two_fields (λ p. line.TerminateArray p.0 p.1.0) two_behind (session, (array, tt)) refl refl (λ bs. refl) two_covered
stands (line.Reap session job) = fielded_stands line_word LINE_WORDS line_arms line_barred word.Reap two_fields (λ p. line.Reap p.0 p.1.0) two_behind (session, (job, tt)) refl refl (λ bs. refl) two_covered
stands (line.ReapArray session array) = fielded_stands line_word LINE_WORDS line_arms line_barred word.ReapArray two_fields (λ p. line.ReapArray p.0 p.1.0) two_behind (session, (array, tt)) refl refl (λ bs. refl) two_covered
stands (line.State session job) = fielded_stands line_word LINE_WORDS line_arms line_barred word.State two_fields (λ p. line.State p.0 p.1.0) two_behind (session, (job, tt)) refl refl (λ bs. refl) two_covered
stands (line.Info session job) = fielded_stands line_word LINE_WORDS line_arms line_barred word.Info two_fields (λ p. line.Info p.0 p.1.0) two_behind (session, (job, tt)) refl refl (λ bs. refl) two_covered
stands (line.WaitStarted session timeout jobs) = fielded_stands line_word LINE_WORDS line_arms line_barred word.WaitStarted wait_fields (λ p. line.WaitStarted p.0 p.1.0 p.1.1.0) wait_behind (session, (timeout, (jobs, tt))) refl refl (λ bs. refl) wait_covered
stands (line.WaitTerminated session timeout jobs) = fielded_stands line_word LINE_WORDS line_arms line_barred word.WaitTerminated wait_fields (λ p. line.WaitTerminated p.0 p.1.0 p.1.1.0) wait_behind (session, (timeout, (jobs, tt))) refl refl (λ bs. refl) wait_covered
stands (line.Reserve name session template) = fielded_stands line_word LINE_WORDS line_arms line_barred word.Reserve reserve_fields (λ p. line.Reserve p.0 p.1.0 p.1.1.0) reserve_behind (name, (session, (template, tt))) refl refl (λ bs. refl) reserve_covered
stands (line.Reservation session reservation) = fielded_stands line_word LINE_WORDS line_arms line_barred word.Reservation two_fields (λ p. line.Reservation p.0 p.1.0) two_behind (session, (reservation, tt)) refl refl (λ bs. refl) two_covered
stands (line.Reservations session) = fielded_stands line_word LINE_WORDS line_arms line_barred word.Reservations ref_fields (λ p. line.Reservations p.0) ref_behind (session, tt) refl refl (λ bs. refl) ref_covered
stands (line.Cancel session reservation) = fielded_stands line_word LINE_WORDS line_arms line_barred word.Cancel two_fields (λ p. line.Cancel p.0 p.1.0) two_behind (session, (reservation, tt)) refl refl (λ bs. refl) two_covered
stands (line.AllJobs session filter) = fielded_stands line_word LINE_WORDS line_arms line_barred word.AllJobs jobs_fields (λ p. line.AllJobs p.0 (make_filter p.1)) jobs_behind (session, filter_parts filter) refl refl (λ bs. refl) jobs_covered
stands (line.AllReservations session) = fielded_stands line_word LINE_WORDS line_arms line_barred word.AllReservations ref_fields (λ p. line.AllReservations p.0) ref_behind (session, tt) refl refl (λ bs. refl) ref_covered
stands (line.Queues session) = fielded_stands line_word LINE_WORDS line_arms line_barred word.Queues ref_fields (λ p. line.Queues p.0) ref_behind (session, tt) refl refl (λ bs. refl) ref_covered
stands (line.Machines session) = fielded_stands line_word LINE_WORDS line_arms line_barred word.Machines ref_fields (λ p. line.Machines p.0) ref_behind (session, tt) refl refl (λ bs. refl) ref_covered
stands line.Register = alone_stands line_word LINE_WORDS line_arms line_barred word.Register line.Register refl refl (λ bs. refl)
stands (line.At moment) = fielded_stands line_word LINE_WORDS line_arms line_barred word.At said_fields (λ p. line.At p.0) said_behind (moment, tt) refl refl (λ bs. refl) said_covered
stands line.Launch = alone_stands line_word LINE_WORDS line_arms line_barred word.Launch line.Launch refl refl (λ bs. refl)
stands (line.Started job) = fielded_stands line_word LINE_WORDS line_arms line_barred word.Started ref_fields (λ p. line.Started p.0) ref_behind (job, tt) refl refl (λ bs. refl) ref_covered
stands (line.StartFailed job) = fielded_stands line_word LINE_WORDS line_arms line_barred word.StartFailed ref_fields (λ p. line.StartFailed p.0) ref_behind (job, tt) refl refl (λ bs. refl) ref_covered
stands (line.Exit job code) = fielded_stands line_word LINE_WORDS line_arms line_barred word.Exit exit_fields (λ p. line.Exit p.0 p.1.0) exit_behind (job, (code, tt)) refl refl (λ bs. refl) exit_covered
stands (line.ExitSignal job signal) = fielded_stands line_word LINE_WORDS line_arms line_barred word.ExitSignal exit_fields (λ p. line.ExitSignal p.0 p.1.0) exit_behind (job, (signal, tt)) refl refl (λ bs. refl) exit_covered
stands (line.ExitUnknown job) = fielded_stands line_word LINE_WORDS line_arms line_barred word.ExitUnknown ref_fields (λ p. line.ExitUnknown p.0) ref_behind (job, tt) refl refl (λ bs. refl) ref_covered
stands line.Signal = alone_stands line_word LINE_WORDS line_arms line_barred word.Signal line.Signal refl refl (λ bs. refl)
stands (line.SignalDone job kind) = fielded_stands line_word LINE_WORDS line_arms line_barred word.SignalDone kind_fields (λ p. line.SignalDone p.0 p.1.0) kind_behind (job, (kind, tt)) refl refl (λ bs. refl) kind_covered
stands (line.SignalFailed job kind) = fielded_stands line_word LINE_WORDS line_arms line_barred word.SignalFailed kind_fields (λ p. line.SignalFailed p.0 p.1.0) kind_behind (job, (kind, tt)) refl refl (λ bs. refl) kind_covered

line_laws : IsFormatUpTo line_sum
unfolding line_sum
line_laws = sum_laws line_word LINE_WORDS line_arms line_form line_barred found stands

pub line_found : (l : List ℕ) (x : Line) → read_line l ≡ Some x → (line_form x).valid × (l ≡ (line_form x).text)
unfolding read_line line_sum sum_of
line_found = sum_found line_sum line_laws

pub line_again : (x : Line) → (line_form x).valid → read_line (line_form x).text ≡ Some x
unfolding read_line line_sum sum_of
line_again = sum_again line_sum line_laws refl
