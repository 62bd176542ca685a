-- The laws of calls: two lines for each.
use Rattle.std.proofs.Common.{◌≡◌, ℕ, ◌^◌, [], Option, Some, None, codes, lit≤, refl, arith}
use Rattle.drmaa_types.specs.declared.states.Control.TheVariants as control
use Rattle.drmaa_types.specs.declared.states.WaitKind.TheVariants as wait
use Rattle.drmaa_types.specs.declared.moments.Timeout.{Timeout}
use Rattle.drmaa_types.specs.declared.moments.Timeout.TheVariants.{Seconds, Infinite}
use Rattle.job_template.specs.declared.templates.JobTemplate.{JobTemplate}
use Rattle.job_template.specs.declared.templates.ReservationTemplate.{ReservationTemplate}
use Rattle.drmaa_model.specs.declared.calls.Call.{Call}
use Rattle.drmaa_model.specs.declared.calls.Call.TheVariants as call
use Rattle.drmaa_model.specs.declared.calls.Target.TheVariants as target
use Rattle.text_codec.specs.Formats.{Format, IsFormat, number, moment}
use Rattle.text_codec.specs.Fields.{AreFields, IsFormatUpTo, field, always, no_more}
use Rattle.text_codec.specs.FormatLaws.{pair_laws, mapped_laws, or_else_laws}
use Rattle.text_codec.specs.FieldLaws.{no_more_laws, field_laws, always_laws, list_laws}
use Rattle.text_codec.specs.BaseLaws.{text_laws, inside_laws, moment_laws, number_laws_64, number_laws_32, number_avoids}
use Rattle.text_codec.specs.Quotes.{text, inside}
use Rattle.text_codec.specs.Sums.{read_sum, IsArm, Stands}
use Rattle.text_codec.specs.SumLaws.{alone_found, keyed_found, fielded_found, alone_stands, keyed_stands, fielded_stands, sum_laws}
use Rattle.text_codec.specs.declared.call_words.CallWord.{CallWord}
use Rattle.text_codec.specs.declared.call_words.CallWord.TheVariants as word
use Rattle.text_codec.specs.declared.call_words.TheConstants.{CALL_WORDS}
use Rattle.text_codec.specs.CallWords.{call_word}
use Rattle.text_codec.specs.Numbers.{session_id, job_id, array_id, reservation_id, exit}
use Rattle.text_codec.specs.NumberLaws.{session_id_laws, job_id_laws, array_id_laws, reservation_id_laws, exit_laws}
use Rattle.text_codec.specs.ValueWords.{kind_form}
use Rattle.text_codec.specs.ValueWordLaws.{kind_laws}
use Rattle.text_forms.specs.Filters.{sought_fields, filter_fields, filter_parts, make_filter}
use Rattle.text_forms.specs.FilterLaws.{filter_laws}
use Rattle.text_forms.specs.Templates.{template, frame}
use Rattle.text_forms.specs.TemplateLaws.{template_laws, frame_laws}
use Rattle.journal_forms.specs.Calls.{named, make_timeout, timeout_part, timeout, bound, indices, of_job, of_array, of_reservation, running, bulk, requested, waiting, sought, launched, ended, signalled, call_form, call_arms, barred, calls_with, calls}

pub named_laws : AreFields named
unfolding named field no_more
named_laws = field_laws (codes " \"") inside _ inside_laws no_more_laws refl

pub timeout_laws : IsFormat timeout
unfolding timeout
timeout_laws = mapped_laws make_timeout timeout_part _ (or_else_laws (codes "infinite") (number (2 ^ 64)) refl number_laws_64 (number_avoids (2 ^ 64) 105 (lit≤ tt) (λ a b. absurd (omega (arith, b))) (codes "nfinite"))) (λ x v. here x) (λ y v. there y)
  where
    here : (x : Option ℕ) → timeout_part (make_timeout x) ≡ x
    here None = refl
    here (Some n) = refl

    there : (y : Timeout) → make_timeout (timeout_part y) ≡ y
    there Infinite = refl
    there (Seconds n) = refl

pub bound_laws : IsFormat bound
unfolding bound
bound_laws = or_else_laws (codes "-") (number (2 ^ 32)) refl number_laws_32 (number_avoids (2 ^ 32) 45 (lit≤ tt) (λ a b. absurd (omega (arith, a))) [])

pub indices_laws : IsFormat indices
unfolding indices
indices_laws = mapped_laws _ _ _ (pair_laws _ _ number_laws_32 (pair_laws _ _ number_laws_32 (pair_laws _ _ number_laws_32 bound_laws))) (λ x v. refl) (λ y v. refl)

pub of_job_laws : IsFormat of_job
unfolding of_job
of_job_laws = pair_laws session_id job_id session_id_laws job_id_laws

pub of_array_laws : IsFormat of_array
unfolding of_array
of_array_laws = pair_laws session_id array_id session_id_laws array_id_laws

pub of_reservation_laws : IsFormat of_reservation
unfolding of_reservation
of_reservation_laws = pair_laws session_id reservation_id session_id_laws reservation_id_laws

-- however templates are spelled
pub running_laws : (T : Format JobTemplate) → IsFormat T → IsFormat (running T)
unfolding running
running_laws T laws = pair_laws session_id T session_id_laws laws

pub bulk_laws : (T : Format JobTemplate) → IsFormat T → IsFormat (bulk T)
unfolding bulk
bulk_laws T laws = pair_laws session_id _ session_id_laws (pair_laws T indices laws indices_laws)

pub requested_laws : (F : Format ReservationTemplate) → IsFormat F → IsFormat (requested F)
unfolding requested
requested_laws F laws = pair_laws session_id F session_id_laws laws

pub waiting_laws : IsFormat waiting
unfolding waiting
waiting_laws = pair_laws session_id _ session_id_laws (pair_laws moment _ moment_laws (pair_laws timeout _ timeout_laws (list_laws (number (2 ^ 64)) number_laws_64 (number_avoids (2 ^ 64) 93 (lit≤ tt) (λ a b. absurd (omega (arith, b))) []))))

pub sought_laws : AreFields sought
unfolding sought
sought_laws = always_laws (codes " ") session_id filter_fields refl session_id_laws filter_laws

pub launched_laws : IsFormat launched
unfolding launched
launched_laws = pair_laws job_id _ job_id_laws number_laws_32

pub ended_laws : IsFormat ended
unfolding ended
ended_laws = pair_laws job_id _ job_id_laws (pair_laws _ exit number_laws_32 exit_laws)

pub signalled_laws : IsFormat signalled
unfolding signalled
signalled_laws = pair_laws job_id _ job_id_laws (pair_laws _ kind_form number_laws_32 kind_laws)

-- what was read behind a word was spelled so
found : (k : CallWord) → IsArm (call_form template frame) (call_word k) (call_arms template frame k)
found word.CreateJobs = fielded_found (call_form template frame) (call_word word.CreateJobs) named (λ p. call.CreateJobSession p.0) named_laws (λ x. refl)
found word.CreateReservations = fielded_found (call_form template frame) (call_word word.CreateReservations) named (λ p. call.CreateReservationSession p.0) named_laws (λ x. refl)
found word.OpenJobs = keyed_found (call_form template frame) (call_word word.OpenJobs) text call.OpenJobSession text_laws (λ x. refl)
found word.OpenReservations = keyed_found (call_form template frame) (call_word word.OpenReservations) text call.OpenReservationSession text_laws (λ x. refl)
found word.DestroyJobs = keyed_found (call_form template frame) (call_word word.DestroyJobs) text call.DestroyJobSession text_laws (λ x. refl)
found word.DestroyReservations = keyed_found (call_form template frame) (call_word word.DestroyReservations) text call.DestroyReservationSession text_laws (λ x. refl)
found word.NamesJobs = alone_found (call_form template frame) (call_word word.NamesJobs) call.JobSessionNames refl
found word.NamesReservations = alone_found (call_form template frame) (call_word word.NamesReservations) call.ReservationSessionNames refl
found word.Monitor = alone_found (call_form template frame) (call_word word.Monitor) call.OpenMonitoring refl
found word.Close = keyed_found (call_form template frame) (call_word word.Close) session_id call.CloseSession session_id_laws (λ x. refl)
found word.Run = keyed_found (call_form template frame) (call_word word.Run) (running template) (λ p. call.RunJob p.0 p.1) (running_laws template template_laws) (λ x. refl)
found word.Bulk = keyed_found (call_form template frame) (call_word word.Bulk) (bulk template) (λ p. call.RunBulk p.0 p.1.0 p.1.1) (bulk_laws template template_laws) (λ x. refl)
found word.Jobs = fielded_found (call_form template frame) (call_word word.Jobs) sought (λ p. call.GetJobs p.0 (make_filter p.1)) sought_laws (λ x. refl)
found word.Array = keyed_found (call_form template frame) (call_word word.Array) of_array (λ p. call.GetJobArray p.0 p.1) of_array_laws (λ x. refl)
found word.Suspend = keyed_found (call_form template frame) (call_word word.Suspend) of_job (λ p. call.Control p.0 (target.Job p.1) control.Suspend) of_job_laws (λ x. refl)
found word.Resume = keyed_found (call_form template frame) (call_word word.Resume) of_job (λ p. call.Control p.0 (target.Job p.1) control.Resume) of_job_laws (λ x. refl)
found word.Hold = keyed_found (call_form template frame) (call_word word.Hold) of_job (λ p. call.Control p.0 (target.Job p.1) control.Hold) of_job_laws (λ x. refl)
found word.Release = keyed_found (call_form template frame) (call_word word.Release) of_job (λ p. call.Control p.0 (target.Job p.1) control.Release) of_job_laws (λ x. refl)
found word.Terminate = keyed_found (call_form template frame) (call_word word.Terminate) of_job (λ p. call.Control p.0 (target.Job p.1) control.Terminate) of_job_laws (λ x. refl)
found word.SuspendArray = keyed_found (call_form template frame) (call_word word.SuspendArray) of_array (λ p. call.Control p.0 (target.Array p.1) control.Suspend) of_array_laws (λ x. refl)
found word.ResumeArray = keyed_found (call_form template frame) (call_word word.ResumeArray) of_array (λ p. call.Control p.0 (target.Array p.1) control.Resume) of_array_laws (λ x. refl)
found word.HoldArray = keyed_found (call_form template frame) (call_word word.HoldArray) of_array (λ p. call.Control p.0 (target.Array p.1) control.Hold) of_array_laws (λ x. refl)
found word.ReleaseArray = keyed_found (call_form template frame) (call_word word.ReleaseArray) of_array (λ p. call.Control p.0 (target.Array p.1) control.Release) of_array_laws (λ x. refl)
found word.TerminateArray = keyed_found (call_form template frame) (call_word word.TerminateArray) of_array (λ p. call.Control p.0 (target.Array p.1) control.Terminate) of_array_laws (λ x. refl)
found word.Reap = keyed_found (call_form template frame) (call_word word.Reap) of_job (λ p. call.Reap p.0 (target.Job p.1)) of_job_laws (λ x. refl)
found word.ReapArray = keyed_found (call_form template frame) (call_word word.ReapArray) of_array (λ p. call.Reap p.0 (target.Array p.1)) of_array_laws (λ x. refl)
found word.State = keyed_found (call_form template frame) (call_word word.State) of_job (λ p. call.GetState p.0 p.1) of_job_laws (λ x. refl)
found word.Info = keyed_found (call_form template frame) (call_word word.Info) of_job (λ p. call.GetInfo p.0 p.1) of_job_laws (λ x. refl)
found word.WaitStarted = keyed_found (call_form template frame) (call_word word.WaitStarted) waiting (λ p. call.Wait p.0 p.1.1.1 wait.Started p.1.0 p.1.1.0) waiting_laws (λ x. refl)
found word.WaitTerminated = keyed_found (call_form template frame) (call_word word.WaitTerminated) waiting (λ p. call.Wait p.0 p.1.1.1 wait.Terminated p.1.0 p.1.1.0) waiting_laws (λ x. refl)
found word.Reserve = keyed_found (call_form template frame) (call_word word.Reserve) (requested frame) (λ p. call.RequestReservation p.0 p.1) (requested_laws frame frame_laws) (λ x. refl)
found word.Reservation = keyed_found (call_form template frame) (call_word word.Reservation) of_reservation (λ p. call.GetReservation p.0 p.1) of_reservation_laws (λ x. refl)
found word.Reservations = keyed_found (call_form template frame) (call_word word.Reservations) session_id call.GetReservations session_id_laws (λ x. refl)
found word.Cancel = keyed_found (call_form template frame) (call_word word.Cancel) of_reservation (λ p. call.EndReservation p.0 p.1) of_reservation_laws (λ x. refl)
found word.AllJobs = fielded_found (call_form template frame) (call_word word.AllJobs) sought (λ p. call.AllJobs p.0 (make_filter p.1)) sought_laws (λ x. refl)
found word.AllReservations = keyed_found (call_form template frame) (call_word word.AllReservations) session_id call.AllReservations session_id_laws (λ x. refl)
found word.Queues = keyed_found (call_form template frame) (call_word word.Queues) session_id call.AllQueues session_id_laws (λ x. refl)
found word.Machines = keyed_found (call_form template frame) (call_word word.Machines) session_id call.AllMachines session_id_laws (λ x. refl)
found word.Register = alone_found (call_form template frame) (call_word word.Register) call.Register refl
found word.Launch = alone_found (call_form template frame) (call_word word.Launch) call.TakeLaunch refl
found word.Started = keyed_found (call_form template frame) (call_word word.Started) launched (λ p. call.Started p.0 p.1) launched_laws (λ x. refl)
found word.StartFailed = keyed_found (call_form template frame) (call_word word.StartFailed) launched (λ p. call.StartFailed p.0 p.1) launched_laws (λ x. refl)
found word.Exit = keyed_found (call_form template frame) (call_word word.Exit) ended (λ p. call.Exited p.0 p.1.0 p.1.1) ended_laws (λ x. refl)
found word.ExitUnknown = keyed_found (call_form template frame) (call_word word.ExitUnknown) launched (λ p. call.ExitUnknown p.0 p.1) launched_laws (λ x. refl)
found word.Signal = alone_found (call_form template frame) (call_word word.Signal) call.TakeSignal refl
found word.SignalDone = keyed_found (call_form template frame) (call_word word.SignalDone) signalled (λ p. call.SignalDone p.0 p.1.0 p.1.1) signalled_laws (λ x. refl)
found word.SignalFailed = keyed_found (call_form template frame) (call_word word.SignalFailed) signalled (λ p. call.SignalFailed p.0 p.1.0 p.1.1) signalled_laws (λ x. refl)

-- what is spelled so is read
stands : (c : Call) → Stands (read_sum call_word CALL_WORDS (call_arms template frame)) barred c (call_form template frame c)
unfolding named sought filter_fields sought_fields field always no_more
stands (call.CreateJobSession name) = fielded_stands call_word CALL_WORDS (call_arms template frame) barred word.CreateJobs named (λ p. call.CreateJobSession p.0) named_laws (name, tt) refl refl (λ bs. refl) refl
stands (call.CreateReservationSession name) = fielded_stands call_word CALL_WORDS (call_arms template frame) barred word.CreateReservations named (λ p. call.CreateReservationSession p.0) named_laws (name, tt) refl refl (λ bs. refl) refl
stands (call.OpenJobSession name) = keyed_stands call_word CALL_WORDS (call_arms template frame) barred word.OpenJobs text call.OpenJobSession text_laws name refl refl (λ bs. refl)
stands (call.OpenReservationSession name) = keyed_stands call_word CALL_WORDS (call_arms template frame) barred word.OpenReservations text call.OpenReservationSession text_laws name refl refl (λ bs. refl)
stands (call.DestroyJobSession name) = keyed_stands call_word CALL_WORDS (call_arms template frame) barred word.DestroyJobs text call.DestroyJobSession text_laws name refl refl (λ bs. refl)
stands (call.DestroyReservationSession name) = keyed_stands call_word CALL_WORDS (call_arms template frame) barred word.DestroyReservations text call.DestroyReservationSession text_laws name refl refl (λ bs. refl)
stands call.JobSessionNames = alone_stands call_word CALL_WORDS (call_arms template frame) barred word.NamesJobs call.JobSessionNames refl refl (λ bs. refl)
stands call.ReservationSessionNames = alone_stands call_word CALL_WORDS (call_arms template frame) barred word.NamesReservations call.ReservationSessionNames refl refl (λ bs. refl)
stands call.OpenMonitoring = alone_stands call_word CALL_WORDS (call_arms template frame) barred word.Monitor call.OpenMonitoring refl refl (λ bs. refl)
stands (call.CloseSession session) = keyed_stands call_word CALL_WORDS (call_arms template frame) barred word.Close session_id call.CloseSession session_id_laws session refl refl (λ bs. refl)
stands (call.RunJob session t) = keyed_stands call_word CALL_WORDS (call_arms template frame) barred word.Run (running template) (λ p. call.RunJob p.0 p.1) (running_laws template template_laws) (session, t) refl refl (λ bs. refl)
stands (call.RunBulk session t listed) = keyed_stands call_word CALL_WORDS (call_arms template frame) barred word.Bulk (bulk template) (λ p. call.RunBulk p.0 p.1.0 p.1.1) (bulk_laws template template_laws) (session, (t, listed)) refl refl (λ bs. refl)
stands (call.GetJobs session filter) = fielded_stands call_word CALL_WORDS (call_arms template frame) barred word.Jobs sought (λ p. call.GetJobs p.0 (make_filter p.1)) sought_laws (session, filter_parts filter) refl refl (λ bs. refl) refl
stands (call.GetJobArray session array) = keyed_stands call_word CALL_WORDS (call_arms template frame) barred word.Array of_array (λ p. call.GetJobArray p.0 p.1) of_array_laws (session, array) refl refl (λ bs. refl)
stands (call.Control session (target.Job job) control.Suspend) = keyed_stands call_word CALL_WORDS (call_arms template frame) barred word.Suspend of_job (λ p. call.Control p.0 (target.Job p.1) control.Suspend) of_job_laws (session, job) refl refl (λ bs. refl)
stands (call.Control session (target.Job job) control.Resume) = keyed_stands call_word CALL_WORDS (call_arms template frame) barred word.Resume of_job (λ p. call.Control p.0 (target.Job p.1) control.Resume) of_job_laws (session, job) refl refl (λ bs. refl)
stands (call.Control session (target.Job job) control.Hold) = keyed_stands call_word CALL_WORDS (call_arms template frame) barred word.Hold of_job (λ p. call.Control p.0 (target.Job p.1) control.Hold) of_job_laws (session, job) refl refl (λ bs. refl)
stands (call.Control session (target.Job job) control.Release) = keyed_stands call_word CALL_WORDS (call_arms template frame) barred word.Release of_job (λ p. call.Control p.0 (target.Job p.1) control.Release) of_job_laws (session, job) refl refl (λ bs. refl)
stands (call.Control session (target.Job job) control.Terminate) = keyed_stands call_word CALL_WORDS (call_arms template frame) barred word.Terminate of_job (λ p. call.Control p.0 (target.Job p.1) control.Terminate) of_job_laws (session, job) refl refl (λ bs. refl)
stands (call.Control session (target.Array array) control.Suspend) = keyed_stands call_word CALL_WORDS (call_arms template frame) barred word.SuspendArray of_array (λ p. call.Control p.0 (target.Array p.1) control.Suspend) of_array_laws (session, array) refl refl (λ bs. refl)
stands (call.Control session (target.Array array) control.Resume) = keyed_stands call_word CALL_WORDS (call_arms template frame) barred word.ResumeArray of_array (λ p. call.Control p.0 (target.Array p.1) control.Resume) of_array_laws (session, array) refl refl (λ bs. refl)
stands (call.Control session (target.Array array) control.Hold) = keyed_stands call_word CALL_WORDS (call_arms template frame) barred word.HoldArray of_array (λ p. call.Control p.0 (target.Array p.1) control.Hold) of_array_laws (session, array) refl refl (λ bs. refl)
stands (call.Control session (target.Array array) control.Release) = keyed_stands call_word CALL_WORDS (call_arms template frame) barred word.ReleaseArray of_array (λ p. call.Control p.0 (target.Array p.1) control.Release) of_array_laws (session, array) refl refl (λ bs. refl)
stands (call.Control session (target.Array array) control.Terminate) = keyed_stands call_word CALL_WORDS (call_arms template frame) barred word.TerminateArray of_array (λ p. call.Control p.0 (target.Array p.1) control.Terminate) of_array_laws (session, array) refl refl (λ bs. refl)
stands (call.Reap session (target.Job job)) = keyed_stands call_word CALL_WORDS (call_arms template frame) barred word.Reap of_job (λ p. call.Reap p.0 (target.Job p.1)) of_job_laws (session, job) refl refl (λ bs. refl)
stands (call.Reap session (target.Array array)) = keyed_stands call_word CALL_WORDS (call_arms template frame) barred word.ReapArray of_array (λ p. call.Reap p.0 (target.Array p.1)) of_array_laws (session, array) refl refl (λ bs. refl)
stands (call.GetState session job) = keyed_stands call_word CALL_WORDS (call_arms template frame) barred word.State of_job (λ p. call.GetState p.0 p.1) of_job_laws (session, job) refl refl (λ bs. refl)
stands (call.GetInfo session job) = keyed_stands call_word CALL_WORDS (call_arms template frame) barred word.Info of_job (λ p. call.GetInfo p.0 p.1) of_job_laws (session, job) refl refl (λ bs. refl)
stands (call.Wait session jobs wait.Started begun lasts) = keyed_stands call_word CALL_WORDS (call_arms template frame) barred word.WaitStarted waiting (λ p. call.Wait p.0 p.1.1.1 wait.Started p.1.0 p.1.1.0) waiting_laws (session, (begun, (lasts, jobs))) refl refl (λ bs. refl)
stands (call.Wait session jobs wait.Terminated begun lasts) = keyed_stands call_word CALL_WORDS (call_arms template frame) barred word.WaitTerminated waiting (λ p. call.Wait p.0 p.1.1.1 wait.Terminated p.1.0 p.1.1.0) waiting_laws (session, (begun, (lasts, jobs))) refl refl (λ bs. refl)
stands (call.RequestReservation session t) = keyed_stands call_word CALL_WORDS (call_arms template frame) barred word.Reserve (requested frame) (λ p. call.RequestReservation p.0 p.1) (requested_laws frame frame_laws) (session, t) refl refl (λ bs. refl)
stands (call.GetReservation session number) = keyed_stands call_word CALL_WORDS (call_arms template frame) barred word.Reservation of_reservation (λ p. call.GetReservation p.0 p.1) of_reservation_laws (session, number) refl refl (λ bs. refl)
stands (call.GetReservations session) = keyed_stands call_word CALL_WORDS (call_arms template frame) barred word.Reservations session_id call.GetReservations session_id_laws session refl refl (λ bs. refl)
stands (call.EndReservation session number) = keyed_stands call_word CALL_WORDS (call_arms template frame) barred word.Cancel of_reservation (λ p. call.EndReservation p.0 p.1) of_reservation_laws (session, number) refl refl (λ bs. refl)
stands (call.AllJobs session filter) = fielded_stands call_word CALL_WORDS (call_arms template frame) barred word.AllJobs sought (λ p. call.AllJobs p.0 (make_filter p.1)) sought_laws (session, filter_parts filter) refl refl (λ bs. refl) refl
stands (call.AllReservations session) = keyed_stands call_word CALL_WORDS (call_arms template frame) barred word.AllReservations session_id call.AllReservations session_id_laws session refl refl (λ bs. refl)
stands (call.AllQueues session) = keyed_stands call_word CALL_WORDS (call_arms template frame) barred word.Queues session_id call.AllQueues session_id_laws session refl refl (λ bs. refl)
stands (call.AllMachines session) = keyed_stands call_word CALL_WORDS (call_arms template frame) barred word.Machines session_id call.AllMachines session_id_laws session refl refl (λ bs. refl)
stands call.Register = alone_stands call_word CALL_WORDS (call_arms template frame) barred word.Register call.Register refl refl (λ bs. refl)
stands call.TakeLaunch = alone_stands call_word CALL_WORDS (call_arms template frame) barred word.Launch call.TakeLaunch refl refl (λ bs. refl)
stands (call.Started job attempt) = keyed_stands call_word CALL_WORDS (call_arms template frame) barred word.Started launched (λ p. call.Started p.0 p.1) launched_laws (job, attempt) refl refl (λ bs. refl)
stands (call.StartFailed job attempt) = keyed_stands call_word CALL_WORDS (call_arms template frame) barred word.StartFailed launched (λ p. call.StartFailed p.0 p.1) launched_laws (job, attempt) refl refl (λ bs. refl)
stands (call.Exited job attempt how) = keyed_stands call_word CALL_WORDS (call_arms template frame) barred word.Exit ended (λ p. call.Exited p.0 p.1.0 p.1.1) ended_laws (job, (attempt, how)) refl refl (λ bs. refl)
stands (call.ExitUnknown job attempt) = keyed_stands call_word CALL_WORDS (call_arms template frame) barred word.ExitUnknown launched (λ p. call.ExitUnknown p.0 p.1) launched_laws (job, attempt) refl refl (λ bs. refl)
stands call.TakeSignal = alone_stands call_word CALL_WORDS (call_arms template frame) barred word.Signal call.TakeSignal refl refl (λ bs. refl)
stands (call.SignalDone job attempt kind) = keyed_stands call_word CALL_WORDS (call_arms template frame) barred word.SignalDone signalled (λ p. call.SignalDone p.0 p.1.0 p.1.1) signalled_laws (job, (attempt, kind)) refl refl (λ bs. refl)
stands (call.SignalFailed job attempt kind) = keyed_stands call_word CALL_WORDS (call_arms template frame) barred word.SignalFailed signalled (λ p. call.SignalFailed p.0 p.1.0 p.1.1) signalled_laws (job, (attempt, kind)) refl refl (λ bs. refl)

pub calls_laws : IsFormatUpTo calls
unfolding calls calls_with
calls_laws = sum_laws call_word CALL_WORDS (call_arms template frame) (call_form template frame) barred found stands
