-- Each word of a call stands in the table of calls, and is no other call's.
use Rattle.std.proofs.Common.{◌≡◌, Some, refl}
use Rattle.text_codec.specs.Formats.{first_spelled}
use Rattle.text_codec.specs.declared.call_words.CallWord.{CallWord}
use Rattle.text_codec.specs.declared.call_words.CallWord.TheVariants as word
use Rattle.text_codec.specs.declared.call_words.TheConstants.{CALL_WORDS}
use Rattle.text_codec.specs.CallWords.{call_word}

pub call_stands : (x : CallWord) → first_spelled call_word CALL_WORDS (call_word x) ≡ Some x
call_stands word.CreateJobs = refl
call_stands word.CreateReservations = refl
call_stands word.OpenJobs = refl
call_stands word.OpenReservations = refl
call_stands word.DestroyJobs = refl
call_stands word.DestroyReservations = refl
call_stands word.NamesJobs = refl
call_stands word.NamesReservations = refl
call_stands word.Monitor = refl
call_stands word.Close = refl
call_stands word.Run = refl
call_stands word.Bulk = refl
call_stands word.Jobs = refl
call_stands word.Array = refl
call_stands word.Suspend = refl
call_stands word.Resume = refl
call_stands word.Hold = refl
call_stands word.Release = refl
call_stands word.Terminate = refl
call_stands word.SuspendArray = refl
call_stands word.ResumeArray = refl
call_stands word.HoldArray = refl
call_stands word.ReleaseArray = refl
call_stands word.TerminateArray = refl
call_stands word.Reap = refl
call_stands word.ReapArray = refl
call_stands word.State = refl
call_stands word.Info = refl
call_stands word.WaitStarted = refl
call_stands word.WaitTerminated = refl
call_stands word.Reserve = refl
call_stands word.Reservation = refl
call_stands word.Reservations = refl
call_stands word.Cancel = refl
call_stands word.AllJobs = refl
call_stands word.AllReservations = refl
call_stands word.Queues = refl
call_stands word.Machines = refl
call_stands word.Register = refl
call_stands word.Launch = refl
call_stands word.Started = refl
call_stands word.StartFailed = refl
call_stands word.Exit = refl
call_stands word.ExitUnknown = refl
call_stands word.Signal = refl
call_stands word.SignalDone = refl
call_stands word.SignalFailed = refl
