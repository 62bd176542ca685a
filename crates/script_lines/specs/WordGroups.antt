-- The words of client lines in groups, by what stands behind them.
use Rattle.script_lines.specs.declared.words.LineWord.{LineWord}
use Rattle.script_lines.specs.declared.words.LineWord.TheVariants as word
use Rattle.script_lines.specs.declared.word_groups.CreateWord.{CreateWord}
use Rattle.script_lines.specs.declared.word_groups.CreateWord.TheVariants as create
use Rattle.script_lines.specs.declared.word_groups.OpenWord.{OpenWord}
use Rattle.script_lines.specs.declared.word_groups.OpenWord.TheVariants as opened
use Rattle.script_lines.specs.declared.word_groups.DestroyWord.{DestroyWord}
use Rattle.script_lines.specs.declared.word_groups.DestroyWord.TheVariants as destroy
use Rattle.script_lines.specs.declared.word_groups.SoughtWord.{SoughtWord}
use Rattle.script_lines.specs.declared.word_groups.SoughtWord.TheVariants as sought
use Rattle.script_lines.specs.declared.word_groups.WaitWord.{WaitWord}
use Rattle.script_lines.specs.declared.word_groups.WaitWord.TheVariants as wait
use Rattle.script_lines.specs.declared.word_groups.OneWord.{OneWord}
use Rattle.script_lines.specs.declared.word_groups.OneWord.TheVariants as one
use Rattle.script_lines.specs.declared.word_groups.TwoWord.{TwoWord}
use Rattle.script_lines.specs.declared.word_groups.TwoWord.TheVariants as two
use Rattle.script_lines.specs.declared.word_groups.EndedWord.{EndedWord}
use Rattle.script_lines.specs.declared.word_groups.EndedWord.TheVariants as ended
use Rattle.script_lines.specs.declared.word_groups.SignalledWord.{SignalledWord}
use Rattle.script_lines.specs.declared.word_groups.SignalledWord.TheVariants as signalled
use Rattle.script_lines.specs.declared.word_groups.GroupedWord.{GroupedWord}
use Rattle.script_lines.specs.declared.word_groups.GroupedWord.TheVariants as of

abbrev pub create_word : CreateWord → LineWord
create_word create.CreateJobs = word.CreateJobs
create_word create.CreateReservations = word.CreateReservations

abbrev pub open_word : OpenWord → LineWord
open_word opened.OpenJobs = word.OpenJobs
open_word opened.OpenReservations = word.OpenReservations

abbrev pub destroy_word : DestroyWord → LineWord
destroy_word destroy.DestroyJobs = word.DestroyJobs
destroy_word destroy.DestroyReservations = word.DestroyReservations

abbrev pub sought_word : SoughtWord → LineWord
sought_word sought.Jobs = word.Jobs
sought_word sought.AllJobs = word.AllJobs

abbrev pub wait_word : WaitWord → LineWord
wait_word wait.WaitStarted = word.WaitStarted
wait_word wait.WaitTerminated = word.WaitTerminated

abbrev pub one_word : OneWord → LineWord
one_word one.Close = word.Close
one_word one.Reservations = word.Reservations
one_word one.AllReservations = word.AllReservations
one_word one.Queues = word.Queues
one_word one.Machines = word.Machines
one_word one.Started = word.Started
one_word one.StartFailed = word.StartFailed
one_word one.ExitUnknown = word.ExitUnknown

abbrev pub two_word : TwoWord → LineWord
two_word two.Array = word.Array
two_word two.Suspend = word.Suspend
two_word two.Resume = word.Resume
two_word two.Hold = word.Hold
two_word two.Release = word.Release
two_word two.Terminate = word.Terminate
two_word two.SuspendArray = word.SuspendArray
two_word two.ResumeArray = word.ResumeArray
two_word two.HoldArray = word.HoldArray
two_word two.ReleaseArray = word.ReleaseArray
two_word two.TerminateArray = word.TerminateArray
two_word two.Reap = word.Reap
two_word two.ReapArray = word.ReapArray
two_word two.State = word.State
two_word two.Info = word.Info
two_word two.Reservation = word.Reservation
two_word two.Cancel = word.Cancel

abbrev pub ended_word : EndedWord → LineWord
ended_word ended.Exit = word.Exit
ended_word ended.ExitSignal = word.ExitSignal

abbrev pub signalled_word : SignalledWord → LineWord
signalled_word signalled.SignalDone = word.SignalDone
signalled_word signalled.SignalFailed = word.SignalFailed

abbrev pub word_of : GroupedWord → LineWord
word_of (of.Create w) = create_word w
word_of (of.Open w) = open_word w
word_of (of.Destroy w) = destroy_word w
word_of of.NamesJobs = word.NamesJobs
word_of of.NamesReservations = word.NamesReservations
word_of of.Monitor = word.Monitor
word_of (of.One w) = one_word w
word_of of.Run = word.Run
word_of of.Bulk = word.Bulk
word_of (of.Sought w) = sought_word w
word_of (of.Two w) = two_word w
word_of (of.Wait w) = wait_word w
word_of of.Reserve = word.Reserve
word_of of.Register = word.Register
word_of of.At = word.At
word_of of.Launch = word.Launch
word_of (of.Ended w) = ended_word w
word_of of.Signal = word.Signal
word_of (of.Signalled w) = signalled_word w
