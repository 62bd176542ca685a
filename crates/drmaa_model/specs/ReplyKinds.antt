-- Which reply a call has: our profile. A refusal is the reply of any call.
use Rattle.std.specs.Prelude.{◌≡◌, ◌⊎◌}
use Rattle.drmaa_model.specs.declared.calls.Call.{Call}
use Rattle.drmaa_model.specs.declared.calls.Call.TheVariants as call
use Rattle.drmaa_model.specs.declared.replies.Reply.{Reply}
use Rattle.drmaa_model.specs.declared.replies.Reply.TheVariants as reply

-- what a reply tells
pub data ReplyKind : Type 0 where
  nothing_told : ReplyKind
  a_session : ReplyKind
  texts : ReplyKind
  a_job : ReplyKind
  an_array : ReplyKind
  jobs : ReplyKind
  a_state : ReplyKind
  an_info : ReplyKind
  a_reached_job : ReplyKind
  a_reserved : ReplyKind
  a_reservation : ReplyKind
  reservations : ReplyKind
  infos : ReplyKind
  reservation_infos : ReplyKind
  a_machine : ReplyKind
  a_callback : ReplyKind
  a_launch : ReplyKind
  a_signal : ReplyKind
  a_refusal : ReplyKind

abbrev pub kind_of_reply : Reply → ReplyKind
kind_of_reply reply.Unit = nothing_told
kind_of_reply (reply.Session session) = a_session
kind_of_reply (reply.Names names) = texts
kind_of_reply (reply.Job job) = a_job
kind_of_reply (reply.Array array first count) = an_array
kind_of_reply (reply.Jobs numbers) = jobs
kind_of_reply (reply.State state) = a_state
kind_of_reply (reply.Info info) = an_info
kind_of_reply (reply.Reached job) = a_reached_job
kind_of_reply (reply.Reserved reserved) = a_reserved
kind_of_reply (reply.Reservation info) = a_reservation
kind_of_reply (reply.Reservations numbers) = reservations
kind_of_reply (reply.Infos told) = infos
kind_of_reply (reply.ReservationInfos told) = reservation_infos
kind_of_reply (reply.Machine info) = a_machine
kind_of_reply (reply.Callback number) = a_callback
kind_of_reply (reply.Launch launch) = a_launch
kind_of_reply (reply.Signal signal) = a_signal
kind_of_reply (reply.Refused why) = a_refusal

-- what a call is answered where it is not refused
abbrev pub kind_of_call : Call → ReplyKind
kind_of_call (call.CreateJobSession name) = a_session
kind_of_call (call.CreateReservationSession name) = a_session
kind_of_call (call.OpenJobSession name) = a_session
kind_of_call (call.OpenReservationSession name) = a_session
kind_of_call (call.DestroyJobSession name) = nothing_told
kind_of_call (call.DestroyReservationSession name) = nothing_told
kind_of_call call.JobSessionNames = texts
kind_of_call call.ReservationSessionNames = texts
kind_of_call call.OpenMonitoring = a_session
kind_of_call (call.CloseSession session) = nothing_told
kind_of_call (call.RunJob session t) = a_job
kind_of_call (call.RunBulk session t indices) = an_array
kind_of_call (call.GetJobs session filter) = jobs
kind_of_call (call.GetJobArray session array) = jobs
kind_of_call (call.Control session meant what) = nothing_told
kind_of_call (call.Reap session meant) = nothing_told
kind_of_call (call.GetState session job) = a_state
kind_of_call (call.GetInfo session job) = an_info
kind_of_call (call.Wait session listed kind begun timeout) = a_reached_job
kind_of_call (call.RequestReservation session t) = a_reserved
kind_of_call (call.GetReservation session number) = a_reservation
kind_of_call (call.GetReservations session) = reservations
kind_of_call (call.EndReservation session number) = nothing_told
kind_of_call (call.AllJobs session filter) = infos
kind_of_call (call.AllReservations session) = reservation_infos
kind_of_call (call.AllQueues session) = texts
kind_of_call (call.AllMachines session) = a_machine
kind_of_call call.Register = a_callback
kind_of_call call.TakeLaunch = a_launch
kind_of_call (call.Started job attempt) = nothing_told
kind_of_call (call.StartFailed job attempt) = nothing_told
kind_of_call (call.Exited job attempt exit) = nothing_told
kind_of_call (call.ExitUnknown job attempt) = nothing_told
kind_of_call call.TakeSignal = a_signal
kind_of_call (call.SignalDone job attempt kind) = nothing_told
kind_of_call (call.SignalFailed job attempt kind) = nothing_told

-- the reply is a refusal, or of the call's own kind
abbrev pub IsReplyOf : Call → Reply → Type 0
IsReplyOf c r = (kind_of_reply r ≡ a_refusal) ⊎ (kind_of_reply r ≡ kind_of_call c)
