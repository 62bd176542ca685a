-- The words of client lines: our profile.
use Rattle.std.specs.Prelude.{◌≡◌, ℕ, List, length, codes}
use Rattle.text_codec.specs.Formats.{first_spelled}
use Rattle.script_lines.specs.declared.words.LineWord.{LineWord}
use Rattle.script_lines.specs.declared.words.LineWord.TheVariants as word
use Rattle.script_lines.specs.declared.words.TheConstants.{LINE_WORDS}

abbrev pub line_word : LineWord → List ℕ
line_word word.CreateJobs = codes "create-jobs"
line_word word.CreateReservations = codes "create-reservations"
line_word word.OpenJobs = codes "open-jobs"
line_word word.OpenReservations = codes "open-reservations"
line_word word.DestroyJobs = codes "destroy-jobs"
line_word word.DestroyReservations = codes "destroy-reservations"
line_word word.NamesJobs = codes "names-jobs"
line_word word.NamesReservations = codes "names-reservations"
line_word word.Monitor = codes "monitor"
line_word word.Close = codes "close"
line_word word.Run = codes "run"
line_word word.Bulk = codes "bulk"
line_word word.Jobs = codes "jobs"
line_word word.Array = codes "array"
line_word word.Suspend = codes "suspend"
line_word word.Resume = codes "resume"
line_word word.Hold = codes "hold"
line_word word.Release = codes "release"
line_word word.Terminate = codes "terminate"
line_word word.SuspendArray = codes "suspend-array"
line_word word.ResumeArray = codes "resume-array"
line_word word.HoldArray = codes "hold-array"
line_word word.ReleaseArray = codes "release-array"
line_word word.TerminateArray = codes "terminate-array"
line_word word.Reap = codes "reap"
line_word word.ReapArray = codes "reap-array"
line_word word.State = codes "state"
line_word word.Info = codes "info"
line_word word.WaitStarted = codes "wait-started"
line_word word.WaitTerminated = codes "wait-terminated"
line_word word.Reserve = codes "reserve"
line_word word.Reservation = codes "reservation"
line_word word.Reservations = codes "reservations"
line_word word.Cancel = codes "cancel"
line_word word.AllJobs = codes "all-jobs"
line_word word.AllReservations = codes "all-reservations"
line_word word.Queues = codes "queues"
line_word word.Machines = codes "machines"
line_word word.Register = codes "register"
line_word word.At = codes "at"
line_word word.Launch = codes "launch"
line_word word.Started = codes "started"
line_word word.StartFailed = codes "start-failed"
line_word word.Exit = codes "exit"
line_word word.ExitSignal = codes "exit-signal"
line_word word.ExitUnknown = codes "exit-unknown"
line_word word.Signal = codes "signal"
line_word word.SignalDone = codes "signal-done"
line_word word.SignalFailed = codes "signal-failed"

-- Among these words each that has so many bytes is found as it is among all.
unfoldable pub HasAllOfSize : ℕ → List LineWord → Type 0
HasAllOfSize size among = (w : List ℕ) → length w ≡ size → first_spelled line_word among w ≡ first_spelled line_word LINE_WORDS w
