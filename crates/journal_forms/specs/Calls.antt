-- Calls as they stand in a journal: each is spelled as its word and its fields. Our profile.
use Rattle.std.specs.Prelude.{ℕ, ◌^◌, Bool, true, List, [], ◌∷◌, Option, Some, None, codes}
use Rattle.std.specs.List.{list_all}
use Rattle.drmaa_types.specs.declared.identifiers.JobId.{JobId}
use Rattle.drmaa_types.specs.declared.identifiers.ArrayId.{ArrayId}
use Rattle.drmaa_types.specs.declared.identifiers.ReservationId.{ReservationId}
use Rattle.drmaa_types.specs.declared.identifiers.SessionId.{SessionId}
use Rattle.drmaa_types.specs.declared.states.Exit.{Exit}
use Rattle.drmaa_types.specs.declared.states.SignalKind.{SignalKind}
use Rattle.drmaa_types.specs.declared.states.Control.{Control}
use Rattle.drmaa_types.specs.declared.states.Control.TheVariants as control
use Rattle.drmaa_types.specs.declared.states.WaitKind.{WaitKind}
use Rattle.drmaa_types.specs.declared.states.WaitKind.TheVariants as wait
use Rattle.drmaa_types.specs.declared.moments.Timeout.{Timeout}
use Rattle.drmaa_types.specs.declared.moments.Timeout.TheVariants.{Seconds, Infinite}
use Rattle.job_template.specs.declared.templates.JobTemplate.{JobTemplate}
use Rattle.job_template.specs.declared.templates.ReservationTemplate.{ReservationTemplate}
use Rattle.drmaa_model.specs.declared.calls.Call.{Call}
use Rattle.drmaa_model.specs.declared.calls.Call.TheVariants as call
use Rattle.drmaa_model.specs.declared.calls.Indices.{Indices}
use Rattle.drmaa_model.specs.declared.calls.Target.TheVariants as target
use Rattle.text_codec.specs.Formats.{Format, number, moment, pair, mapped, or_else, list_of}
use Rattle.text_codec.specs.Fields.{Fields, field, always, no_more}
use Rattle.text_codec.specs.Quotes.{text, inside}
use Rattle.text_codec.specs.Sums.{Spelled, alone, keyed, fielded, arm_alone, arm, arm_fields, sum_of}
use Rattle.text_codec.specs.declared.call_words.CallWord.{CallWord}
use Rattle.text_codec.specs.declared.call_words.CallWord.TheVariants as word
use Rattle.text_codec.specs.declared.call_words.TheConstants.{CALL_WORDS}
use Rattle.text_codec.specs.CallWords.{call_word}
use Rattle.text_codec.specs.Numbers.{session_id, job_id, array_id, reservation_id, exit}
use Rattle.text_codec.specs.ValueWords.{kind_form}
use Rattle.text_forms.specs.Filters.{Filters, filter_fields, filter_parts, make_filter}
use Rattle.text_forms.specs.Templates.{is_other, template, frame}

-- a name that may be left out
unfoldable pub named : Fields (Option (List ℕ) × Unit {0})
named = field (codes " \"") inside no_more

-- how long a wait may last
abbrev pub make_timeout : Option ℕ → Timeout
make_timeout None = Infinite
make_timeout (Some n) = Seconds n

abbrev pub timeout_part : Timeout → Option ℕ
timeout_part Infinite = None
timeout_part (Seconds n) = Some n

unfoldable pub timeout : Format Timeout
timeout = mapped make_timeout timeout_part (or_else (codes "infinite") (number (2 ^ 64)))

-- the indices of an array, and its bound or -
unfoldable pub bound : Format (Option ℕ)
bound = or_else (codes "-") (number (2 ^ 32))

unfoldable pub indices : Format Indices
indices = mapped
    (λ p. record { begin = p.0; end = p.1.0; step = p.1.1.0; bound = p.1.1.1 })
    (λ i. (i.begin, (i.end, (i.step, i.bound))))
    (pair (number (2 ^ 32)) (pair (number (2 ^ 32)) (pair (number (2 ^ 32)) bound)))

-- the fields of calls
unfoldable pub of_job : Format (SessionId × JobId)
of_job = pair session_id job_id

unfoldable pub of_array : Format (SessionId × ArrayId)
of_array = pair session_id array_id

unfoldable pub of_reservation : Format (SessionId × ReservationId)
of_reservation = pair session_id reservation_id

unfoldable pub running : Format JobTemplate → Format (SessionId × JobTemplate)
running T = pair session_id T

unfoldable pub bulk : Format JobTemplate → Format (SessionId × (JobTemplate × Indices))
bulk T = pair session_id (pair T indices)

unfoldable pub requested : Format ReservationTemplate → Format (SessionId × ReservationTemplate)
requested F = pair session_id F

unfoldable pub waiting : Format (SessionId × (ℕ × (Timeout × List ℕ)))
waiting = pair session_id (pair moment (pair timeout (list_of (number (2 ^ 64)))))

unfoldable pub sought : Fields (SessionId × Filters)
sought = always (codes " ") session_id filter_fields

unfoldable pub launched : Format (JobId × ℕ)
launched = pair job_id (number (2 ^ 32))

unfoldable pub ended : Format (JobId × (ℕ × Exit))
ended = pair job_id (pair (number (2 ^ 32)) exit)

unfoldable pub signalled : Format (JobId × (ℕ × SignalKind))
signalled = pair job_id (pair (number (2 ^ 32)) kind_form)

-- the words of waits and of controls
abbrev pub wait_word : WaitKind → CallWord
wait_word wait.Started = word.WaitStarted
wait_word wait.Terminated = word.WaitTerminated

abbrev pub control_word : Control → CallWord
control_word control.Suspend = word.Suspend
control_word control.Resume = word.Resume
control_word control.Hold = word.Hold
control_word control.Release = word.Release
control_word control.Terminate = word.Terminate

abbrev pub array_control_word : Control → CallWord
array_control_word control.Suspend = word.SuspendArray
array_control_word control.Resume = word.ResumeArray
array_control_word control.Hold = word.HoldArray
array_control_word control.Release = word.ReleaseArray
array_control_word control.Terminate = word.TerminateArray

-- How a call is spelled, by how templates of jobs and of reservations are.
abbrev pub call_form : Format JobTemplate → Format ReservationTemplate → Call → Spelled
call_form T F (call.CreateJobSession name) = fielded (call_word word.CreateJobs) named (name, tt)
call_form T F (call.CreateReservationSession name) = fielded (call_word word.CreateReservations) named (name, tt)
call_form T F (call.OpenJobSession name) = keyed (call_word word.OpenJobs) text name
call_form T F (call.OpenReservationSession name) = keyed (call_word word.OpenReservations) text name
call_form T F (call.DestroyJobSession name) = keyed (call_word word.DestroyJobs) text name
call_form T F (call.DestroyReservationSession name) = keyed (call_word word.DestroyReservations) text name
call_form T F call.JobSessionNames = alone (call_word word.NamesJobs)
call_form T F call.ReservationSessionNames = alone (call_word word.NamesReservations)
call_form T F call.OpenMonitoring = alone (call_word word.Monitor)
call_form T F (call.CloseSession session) = keyed (call_word word.Close) session_id session
call_form T F (call.RunJob session t) = keyed (call_word word.Run) (running T) (session, t)
call_form T F (call.RunBulk session t listed) = keyed (call_word word.Bulk) (bulk T) (session, (t, listed))
call_form T F (call.GetJobs session filter) = fielded (call_word word.Jobs) sought (session, filter_parts filter)
call_form T F (call.GetJobArray session array) = keyed (call_word word.Array) of_array (session, array)
call_form T F (call.Control session (target.Job job) what) = keyed (call_word (control_word what)) of_job (session, job)
call_form T F (call.Control session (target.Array array) what) = keyed (call_word (array_control_word what)) of_array (session, array)
call_form T F (call.Reap session (target.Job job)) = keyed (call_word word.Reap) of_job (session, job)
call_form T F (call.Reap session (target.Array array)) = keyed (call_word word.ReapArray) of_array (session, array)
call_form T F (call.GetState session job) = keyed (call_word word.State) of_job (session, job)
call_form T F (call.GetInfo session job) = keyed (call_word word.Info) of_job (session, job)
call_form T F (call.Wait session jobs kind begun lasts) = keyed (call_word (wait_word kind)) waiting (session, (begun, (lasts, jobs)))
call_form T F (call.RequestReservation session t) = keyed (call_word word.Reserve) (requested F) (session, t)
call_form T F (call.GetReservation session number) = keyed (call_word word.Reservation) of_reservation (session, number)
call_form T F (call.GetReservations session) = keyed (call_word word.Reservations) session_id session
call_form T F (call.EndReservation session number) = keyed (call_word word.Cancel) of_reservation (session, number)
call_form T F (call.AllJobs session filter) = fielded (call_word word.AllJobs) sought (session, filter_parts filter)
call_form T F (call.AllReservations session) = keyed (call_word word.AllReservations) session_id session
call_form T F (call.AllQueues session) = keyed (call_word word.Queues) session_id session
call_form T F (call.AllMachines session) = keyed (call_word word.Machines) session_id session
call_form T F call.Register = alone (call_word word.Register)
call_form T F call.TakeLaunch = alone (call_word word.Launch)
call_form T F (call.Started job attempt) = keyed (call_word word.Started) launched (job, attempt)
call_form T F (call.StartFailed job attempt) = keyed (call_word word.StartFailed) launched (job, attempt)
call_form T F (call.Exited job attempt how) = keyed (call_word word.Exit) ended (job, (attempt, how))
call_form T F (call.ExitUnknown job attempt) = keyed (call_word word.ExitUnknown) launched (job, attempt)
call_form T F call.TakeSignal = alone (call_word word.Signal)
call_form T F (call.SignalDone job attempt kind) = keyed (call_word word.SignalDone) signalled (job, (attempt, kind))
call_form T F (call.SignalFailed job attempt kind) = keyed (call_word word.SignalFailed) signalled (job, (attempt, kind))

-- what stands behind each word of a call
abbrev pub call_arms : Format JobTemplate → Format ReservationTemplate → CallWord → List ℕ → Option (Call × List ℕ)
call_arms T F word.CreateJobs = arm_fields named (λ p. call.CreateJobSession p.0)
call_arms T F word.CreateReservations = arm_fields named (λ p. call.CreateReservationSession p.0)
call_arms T F word.OpenJobs = arm text call.OpenJobSession
call_arms T F word.OpenReservations = arm text call.OpenReservationSession
call_arms T F word.DestroyJobs = arm text call.DestroyJobSession
call_arms T F word.DestroyReservations = arm text call.DestroyReservationSession
call_arms T F word.NamesJobs = arm_alone call.JobSessionNames
call_arms T F word.NamesReservations = arm_alone call.ReservationSessionNames
call_arms T F word.Monitor = arm_alone call.OpenMonitoring
call_arms T F word.Close = arm session_id call.CloseSession
call_arms T F word.Run = arm (running T) (λ p. call.RunJob p.0 p.1)
call_arms T F word.Bulk = arm (bulk T) (λ p. call.RunBulk p.0 p.1.0 p.1.1)
call_arms T F word.Jobs = arm_fields sought (λ p. call.GetJobs p.0 (make_filter p.1))
call_arms T F word.Array = arm of_array (λ p. call.GetJobArray p.0 p.1)
call_arms T F word.Suspend = arm of_job (λ p. call.Control p.0 (target.Job p.1) control.Suspend)
call_arms T F word.Resume = arm of_job (λ p. call.Control p.0 (target.Job p.1) control.Resume)
call_arms T F word.Hold = arm of_job (λ p. call.Control p.0 (target.Job p.1) control.Hold)
call_arms T F word.Release = arm of_job (λ p. call.Control p.0 (target.Job p.1) control.Release)
call_arms T F word.Terminate = arm of_job (λ p. call.Control p.0 (target.Job p.1) control.Terminate)
call_arms T F word.SuspendArray = arm of_array (λ p. call.Control p.0 (target.Array p.1) control.Suspend)
call_arms T F word.ResumeArray = arm of_array (λ p. call.Control p.0 (target.Array p.1) control.Resume)
call_arms T F word.HoldArray = arm of_array (λ p. call.Control p.0 (target.Array p.1) control.Hold)
call_arms T F word.ReleaseArray = arm of_array (λ p. call.Control p.0 (target.Array p.1) control.Release)
call_arms T F word.TerminateArray = arm of_array (λ p. call.Control p.0 (target.Array p.1) control.Terminate)
call_arms T F word.Reap = arm of_job (λ p. call.Reap p.0 (target.Job p.1))
call_arms T F word.ReapArray = arm of_array (λ p. call.Reap p.0 (target.Array p.1))
call_arms T F word.State = arm of_job (λ p. call.GetState p.0 p.1)
call_arms T F word.Info = arm of_job (λ p. call.GetInfo p.0 p.1)
call_arms T F word.WaitStarted = arm waiting (λ p. call.Wait p.0 p.1.1.1 wait.Started p.1.0 p.1.1.0)
call_arms T F word.WaitTerminated = arm waiting (λ p. call.Wait p.0 p.1.1.1 wait.Terminated p.1.0 p.1.1.0)
call_arms T F word.Reserve = arm (requested F) (λ p. call.RequestReservation p.0 p.1)
call_arms T F word.Reservation = arm of_reservation (λ p. call.GetReservation p.0 p.1)
call_arms T F word.Reservations = arm session_id call.GetReservations
call_arms T F word.Cancel = arm of_reservation (λ p. call.EndReservation p.0 p.1)
call_arms T F word.AllJobs = arm_fields sought (λ p. call.AllJobs p.0 (make_filter p.1))
call_arms T F word.AllReservations = arm session_id call.AllReservations
call_arms T F word.Queues = arm session_id call.AllQueues
call_arms T F word.Machines = arm session_id call.AllMachines
call_arms T F word.Register = arm_alone call.Register
call_arms T F word.Launch = arm_alone call.TakeLaunch
call_arms T F word.Started = arm launched (λ p. call.Started p.0 p.1)
call_arms T F word.StartFailed = arm launched (λ p. call.StartFailed p.0 p.1)
call_arms T F word.Exit = arm ended (λ p. call.Exited p.0 p.1.0 p.1.1)
call_arms T F word.ExitUnknown = arm launched (λ p. call.ExitUnknown p.0 p.1)
call_arms T F word.Signal = arm_alone call.TakeSignal
call_arms T F word.SignalDone = arm signalled (λ p. call.SignalDone p.0 p.1.0 p.1.1)
call_arms T F word.SignalFailed = arm signalled (λ p. call.SignalFailed p.0 p.1.0 p.1.1)

-- what may not follow a call, since it would be read as part of it
abbrev pub barred : List (List ℕ)
barred =
    codes " \"" ∷ codes " id=" ∷ codes " name=" ∷ codes " state=" ∷ codes " slots=" ∷ codes " queue=" ∷ codes " status=" ∷ codes " wallclock="
    ∷ codes " submitted=" ∷ codes " dispatched=" ∷ codes " finished=" ∷ []

unfoldable pub calls_with : Format JobTemplate → Format ReservationTemplate → Fields Call
calls_with T F = sum_of call_word CALL_WORDS (call_arms T F) (call_form T F) barred

-- the calls of journals
unfoldable pub calls : Fields Call
calls = calls_with template frame

-- whether each template has under `other` what journals have there; no other call has a template
abbrev pub has_others : Call → Bool
has_others (call.RunJob session t) = list_all is_other t.others
has_others (call.RunBulk session t listed) = list_all is_other t.others
has_others (call.RequestReservation session t) = list_all is_other t.others
has_others _ = true
