-- The words of calls in groups, by what stands behind them.
use Rattle.text_codec.specs.declared.call_words.CallWord.{CallWord}
use Rattle.text_codec.specs.declared.call_words.CallWord.TheVariants as word
use Rattle.journal_forms.specs.declared.word_groups.CreateWord.{CreateWord}
use Rattle.journal_forms.specs.declared.word_groups.CreateWord.TheVariants as create
use Rattle.journal_forms.specs.declared.word_groups.NameWord.{NameWord}
use Rattle.journal_forms.specs.declared.word_groups.NameWord.TheVariants as name
use Rattle.journal_forms.specs.declared.word_groups.SessionWord.{SessionWord}
use Rattle.journal_forms.specs.declared.word_groups.SessionWord.TheVariants as session
use Rattle.journal_forms.specs.declared.word_groups.SoughtWord.{SoughtWord}
use Rattle.journal_forms.specs.declared.word_groups.SoughtWord.TheVariants as sought
use Rattle.journal_forms.specs.declared.word_groups.JobWord.{JobWord}
use Rattle.journal_forms.specs.declared.word_groups.JobWord.TheVariants as job
use Rattle.journal_forms.specs.declared.word_groups.ArrayWord.{ArrayWord}
use Rattle.journal_forms.specs.declared.word_groups.ArrayWord.TheVariants as array
use Rattle.journal_forms.specs.declared.word_groups.ReservationWord.{ReservationWord}
use Rattle.journal_forms.specs.declared.word_groups.ReservationWord.TheVariants as reservation
use Rattle.journal_forms.specs.declared.word_groups.LaunchedWord.{LaunchedWord}
use Rattle.journal_forms.specs.declared.word_groups.LaunchedWord.TheVariants as launched
use Rattle.journal_forms.specs.declared.word_groups.SignalledWord.{SignalledWord}
use Rattle.journal_forms.specs.declared.word_groups.SignalledWord.TheVariants as signalled
use Rattle.journal_forms.specs.declared.word_groups.GroupedWord.{GroupedWord}
use Rattle.journal_forms.specs.declared.word_groups.GroupedWord.TheVariants as of

abbrev pub create_word : CreateWord → CallWord
create_word create.CreateJobs = word.CreateJobs
create_word create.CreateReservations = word.CreateReservations

abbrev pub name_word : NameWord → CallWord
name_word name.OpenJobs = word.OpenJobs
name_word name.OpenReservations = word.OpenReservations
name_word name.DestroyJobs = word.DestroyJobs
name_word name.DestroyReservations = word.DestroyReservations

abbrev pub session_word : SessionWord → CallWord
session_word session.Close = word.Close
session_word session.Reservations = word.Reservations
session_word session.AllReservations = word.AllReservations
session_word session.Queues = word.Queues
session_word session.Machines = word.Machines

abbrev pub sought_word : SoughtWord → CallWord
sought_word sought.Jobs = word.Jobs
sought_word sought.AllJobs = word.AllJobs

abbrev pub job_word : JobWord → CallWord
job_word job.Suspend = word.Suspend
job_word job.Resume = word.Resume
job_word job.Hold = word.Hold
job_word job.Release = word.Release
job_word job.Terminate = word.Terminate
job_word job.Reap = word.Reap
job_word job.State = word.State
job_word job.Info = word.Info

abbrev pub array_word : ArrayWord → CallWord
array_word array.Array = word.Array
array_word array.SuspendArray = word.SuspendArray
array_word array.ResumeArray = word.ResumeArray
array_word array.HoldArray = word.HoldArray
array_word array.ReleaseArray = word.ReleaseArray
array_word array.TerminateArray = word.TerminateArray
array_word array.ReapArray = word.ReapArray

abbrev pub reservation_word : ReservationWord → CallWord
reservation_word reservation.Reservation = word.Reservation
reservation_word reservation.Cancel = word.Cancel

abbrev pub launched_word : LaunchedWord → CallWord
launched_word launched.Started = word.Started
launched_word launched.StartFailed = word.StartFailed
launched_word launched.ExitUnknown = word.ExitUnknown

abbrev pub signalled_word : SignalledWord → CallWord
signalled_word signalled.SignalDone = word.SignalDone
signalled_word signalled.SignalFailed = word.SignalFailed

abbrev pub word_of : GroupedWord → CallWord
word_of (of.Create w) = create_word w
word_of (of.Name w) = name_word w
word_of of.NamesJobs = word.NamesJobs
word_of of.NamesReservations = word.NamesReservations
word_of of.Monitor = word.Monitor
word_of (of.Session w) = session_word w
word_of of.Run = word.Run
word_of of.Bulk = word.Bulk
word_of (of.Sought w) = sought_word w
word_of (of.Array w) = array_word w
word_of (of.Job w) = job_word w
word_of of.WaitStarted = word.WaitStarted
word_of of.WaitTerminated = word.WaitTerminated
word_of of.Reserve = word.Reserve
word_of (of.Reservation w) = reservation_word w
word_of of.Register = word.Register
word_of of.Launch = word.Launch
word_of (of.Launched w) = launched_word w
word_of of.Exit = word.Exit
word_of of.Signal = word.Signal
word_of (of.Signalled w) = signalled_word w
