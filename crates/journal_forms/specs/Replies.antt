-- Replies as they stand in a journal: each is spelled as its word and what it tells. Our profile.
use Rattle.std.specs.Prelude.{ℕ, ◌^◌, Bool, true, List, [], Option, codes}
use Rattle.drmaa_types.specs.declared.identifiers.JobId.{JobId}
use Rattle.drmaa_types.specs.declared.identifiers.ArrayId.{ArrayId}
use Rattle.drmaa_types.specs.declared.infos.JobInfo.{JobInfo}
use Rattle.drmaa_types.specs.declared.infos.ReservationInfo.{ReservationInfo}
use Rattle.drmaa_types.specs.declared.infos.Reserved.{Reserved}
use Rattle.drmaa_types.specs.declared.infos.MachineInfo.{MachineInfo}
use Rattle.drmaa_model.specs.declared.replies.Reply.{Reply}
use Rattle.drmaa_model.specs.declared.replies.Reply.TheVariants as reply
use Rattle.drmaa_model.specs.declared.replies.Launch.{Launch}
use Rattle.drmaa_model.specs.declared.replies.Signal.{Signal}
use Rattle.text_codec.specs.Formats.{Format, number, moment, pair, mapped, list_of}
use Rattle.text_codec.specs.Fields.{Fields}
use Rattle.text_codec.specs.Quotes.{text}
use Rattle.text_codec.specs.Sums.{Spelled, alone, keyed, arm_alone, arm, sum_of}
use Rattle.text_codec.specs.Numbers.{session_id, job_id, array_id, reservation_id}
use Rattle.text_codec.specs.ValueWords.{state_form, kind_form}
use Rattle.text_codec.specs.Infos.{job_info, reservation_info}
use Rattle.text_forms.specs.Refusals.{refusals, may_stand}
use Rattle.journal_forms.specs.declared.reply_words.ReplyWord.{ReplyWord}
use Rattle.journal_forms.specs.declared.reply_words.ReplyWord.TheVariants as told
use Rattle.journal_forms.specs.declared.reply_words.TheConstants.{REPLY_WORDS}

abbrev pub reply_word : ReplyWord → List ℕ
reply_word told.Ok = codes "ok"
reply_word told.Session = codes "session"
reply_word told.Names = codes "names"
reply_word told.Job = codes "job"
reply_word told.Array = codes "array"
reply_word told.Jobs = codes "jobs"
reply_word told.State = codes "state"
reply_word told.Info = codes "info"
reply_word told.Reached = codes "reached"
reply_word told.Reserved = codes "reserved"
reply_word told.Reservation = codes "reservation"
reply_word told.Reservations = codes "reservations"
reply_word told.Infos = codes "infos"
reply_word told.ReservationInfos = codes "reservation-infos"
reply_word told.Machine = codes "machine"
reply_word told.Callback = codes "callback"
reply_word told.Launch = codes "launch"
reply_word told.Signal = codes "signal"
reply_word told.Refused = codes "refused"

-- what replies tell
unfoldable pub ids : Format (List ℕ)
ids = list_of (number (2 ^ 64))

unfoldable pub texts : Format (List (List ℕ))
texts = list_of text

unfoldable pub infos : Format (List JobInfo)
infos = list_of job_info

unfoldable pub reservation_infos : Format (List ReservationInfo)
reservation_infos = list_of reservation_info

unfoldable pub members : Format (ArrayId × (JobId × ℕ))
members = pair array_id (pair job_id (number (2 ^ 32)))

unfoldable pub reserved : Format Reserved
reserved = mapped
    (λ p. record { reservation = p.0; slots = p.1.0; from = p.1.1.0; until = p.1.1.1 })
    (λ r. (r.reservation, (r.slots, (r.from, r.until))))
    (pair reservation_id (pair (number (2 ^ 32)) (pair moment moment)))

unfoldable pub machine : Format MachineInfo
machine = mapped
    (λ p. record { name = p.0; slots = p.1.0; used = p.1.1 })
    (λ m. (m.name, (m.slots, m.used)))
    (pair text (pair (number (2 ^ 32)) (number (2 ^ 32))))

unfoldable pub launch : Format Launch
launch = mapped
    (λ p. record { job = p.0; attempt = p.1.0; slots = p.1.1.0; words = p.1.1.1 })
    (λ l. (l.job, (l.attempt, (l.slots, l.words))))
    (pair job_id (pair (number (2 ^ 32)) (pair (number (2 ^ 32)) texts)))

unfoldable pub signal : Format Signal
signal = mapped
    (λ p. record { job = p.0; attempt = p.1.0; kind = p.1.1 })
    (λ s. (s.job, (s.attempt, s.kind)))
    (pair job_id (pair (number (2 ^ 32)) kind_form))

abbrev pub reply_form : Reply → Spelled
reply_form reply.Unit = alone (reply_word told.Ok)
reply_form (reply.Session session) = keyed (reply_word told.Session) session_id session
reply_form (reply.Names names) = keyed (reply_word told.Names) texts names
reply_form (reply.Job job) = keyed (reply_word told.Job) job_id job
reply_form (reply.Array array first count) = keyed (reply_word told.Array) members (array, (first, count))
reply_form (reply.Jobs jobs) = keyed (reply_word told.Jobs) ids jobs
reply_form (reply.State state) = keyed (reply_word told.State) state_form state
reply_form (reply.Info info) = keyed (reply_word told.Info) job_info info
reply_form (reply.Reached job) = keyed (reply_word told.Reached) job_id job
reply_form (reply.Reserved booked) = keyed (reply_word told.Reserved) reserved booked
reply_form (reply.Reservation info) = keyed (reply_word told.Reservation) reservation_info info
reply_form (reply.Reservations reservations) = keyed (reply_word told.Reservations) ids reservations
reply_form (reply.Infos list) = keyed (reply_word told.Infos) infos list
reply_form (reply.ReservationInfos list) = keyed (reply_word told.ReservationInfos) reservation_infos list
reply_form (reply.Machine info) = keyed (reply_word told.Machine) machine info
reply_form (reply.Callback n) = keyed (reply_word told.Callback) (number (2 ^ 32)) n
reply_form (reply.Launch l) = keyed (reply_word told.Launch) launch l
reply_form (reply.Signal s) = keyed (reply_word told.Signal) signal s
reply_form (reply.Refused why) = keyed (reply_word told.Refused) refusals why

-- what stands behind each word of a reply
abbrev pub reply_arms : ReplyWord → List ℕ → Option (Reply × List ℕ)
reply_arms told.Ok = arm_alone reply.Unit
reply_arms told.Session = arm session_id reply.Session
reply_arms told.Names = arm texts reply.Names
reply_arms told.Job = arm job_id reply.Job
reply_arms told.Array = arm members (λ p. reply.Array p.0 p.1.0 p.1.1)
reply_arms told.Jobs = arm ids reply.Jobs
reply_arms told.State = arm state_form reply.State
reply_arms told.Info = arm job_info reply.Info
reply_arms told.Reached = arm job_id reply.Reached
reply_arms told.Reserved = arm reserved reply.Reserved
reply_arms told.Reservation = arm reservation_info reply.Reservation
reply_arms told.Reservations = arm ids reply.Reservations
reply_arms told.Infos = arm infos reply.Infos
reply_arms told.ReservationInfos = arm reservation_infos reply.ReservationInfos
reply_arms told.Machine = arm machine reply.Machine
reply_arms told.Callback = arm (number (2 ^ 32)) reply.Callback
reply_arms told.Launch = arm launch reply.Launch
reply_arms told.Signal = arm signal reply.Signal
reply_arms told.Refused = arm refusals reply.Refused

unfoldable pub reply_sum : Fields Reply
reply_sum = sum_of reply_word REPLY_WORDS reply_arms reply_form []

-- the replies of journals
unfoldable pub replies : Format Reply
replies = reply_sum.body

-- whether a journal may have it: all but some refusals
abbrev pub may_answer : Reply → Bool
may_answer (reply.Refused why) = may_stand why
may_answer _ = true
