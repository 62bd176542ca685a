-- The laws of replies: two lines for each.
use Rattle.std.proofs.Common.{◌≡◌, ◌^◌, [], ◌∷◌, Some, lit≤, refl, arith}
use Rattle.drmaa_model.specs.declared.replies.Reply.{Reply}
use Rattle.drmaa_model.specs.declared.replies.Reply.TheVariants as reply
use Rattle.text_codec.specs.Formats.{IsFormat, Avoids, first_spelled, number, moment, mapped}
use Rattle.text_codec.specs.Fields.{in_braces}
use Rattle.text_codec.specs.FormatLaws.{pair_laws, mapped_laws}
use Rattle.text_codec.specs.FieldLaws.{list_laws}
use Rattle.text_codec.specs.BaseLaws.{text_laws, text_avoids, moment_laws, number_laws_64, number_laws_32, number_avoids}
use Rattle.text_codec.specs.Quotes.{text}
use Rattle.text_codec.specs.Sums.{read_sum, sum_of, IsArm, Stands}
use Rattle.text_codec.specs.SumLaws.{alone_found, keyed_found, alone_stands, keyed_stands, sum_laws, sum_form}
use Rattle.text_codec.specs.Numbers.{session_id, job_id, array_id, reservation_id}
use Rattle.text_codec.specs.NumberLaws.{session_id_laws, job_id_laws, array_id_laws, reservation_id_laws}
use Rattle.text_codec.specs.ValueWords.{state_form, kind_form}
use Rattle.text_codec.specs.ValueWordLaws.{state_laws, kind_laws}
use Rattle.text_codec.specs.Infos.{job_info, reservation_info}
use Rattle.text_codec.specs.InfoLaws.{job_info_laws, reservation_info_laws}
use Rattle.text_forms.specs.Refusals.{refusals}
use Rattle.text_forms.specs.RefusalLaws.{refusals_laws}
use Rattle.journal_forms.specs.declared.reply_words.ReplyWord.{ReplyWord}
use Rattle.journal_forms.specs.declared.reply_words.ReplyWord.TheVariants as told
use Rattle.journal_forms.specs.declared.reply_words.TheConstants.{REPLY_WORDS}
use Rattle.journal_forms.specs.Replies.{reply_word, ids, texts, infos, reservation_infos, members, reserved, machine, launch, signal, reply_form, reply_arms, reply_sum, replies}

-- each word of a reply stands in the table, and is no other's
pub reply_word_stands : (x : ReplyWord) → first_spelled reply_word REPLY_WORDS (reply_word x) ≡ Some x
reply_word_stands told.Ok = refl
reply_word_stands _ = refl

pub ids_laws : IsFormat ids
unfolding ids
ids_laws = list_laws (number (2 ^ 64)) number_laws_64 (number_avoids (2 ^ 64) 93 (lit≤ tt) (λ a b. absurd (omega (arith, b))) [])

pub texts_laws : IsFormat texts
unfolding texts
texts_laws = list_laws text text_laws (text_avoids 93 [] refl)

job_avoids : Avoids (93 ∷ []) job_info
unfolding job_info mapped in_braces
job_avoids x rest v = refl

reservation_avoids : Avoids (93 ∷ []) reservation_info
unfolding reservation_info mapped in_braces
reservation_avoids x rest v = refl

pub infos_laws : IsFormat infos
unfolding infos
infos_laws = list_laws job_info job_info_laws job_avoids

pub reservation_infos_laws : IsFormat reservation_infos
unfolding reservation_infos
reservation_infos_laws = list_laws reservation_info reservation_info_laws reservation_avoids

pub members_laws : IsFormat members
unfolding members
members_laws = pair_laws array_id _ array_id_laws (pair_laws job_id _ job_id_laws number_laws_32)

pub reserved_laws : IsFormat reserved
unfolding reserved
reserved_laws = mapped_laws _ _ _ (pair_laws reservation_id _ reservation_id_laws (pair_laws _ _ number_laws_32 (pair_laws moment moment moment_laws moment_laws))) (λ x v. refl) (λ y v. refl)

pub machine_laws : IsFormat machine
unfolding machine
machine_laws = mapped_laws _ _ _ (pair_laws text _ text_laws (pair_laws _ _ number_laws_32 number_laws_32)) (λ x v. refl) (λ y v. refl)

pub launch_laws : IsFormat launch
unfolding launch
launch_laws = mapped_laws _ _ _ (pair_laws job_id _ job_id_laws (pair_laws _ _ number_laws_32 (pair_laws _ texts number_laws_32 texts_laws))) (λ x v. refl) (λ y v. refl)

pub signal_laws : IsFormat signal
unfolding signal
signal_laws = mapped_laws _ _ _ (pair_laws job_id _ job_id_laws (pair_laws _ kind_form number_laws_32 kind_laws)) (λ x v. refl) (λ y v. refl)

found : (k : ReplyWord) → IsArm reply_form (reply_word k) (reply_arms k)
found told.Ok = alone_found reply_form (reply_word told.Ok) reply.Unit refl
found told.Session = keyed_found reply_form (reply_word told.Session) session_id reply.Session session_id_laws (λ x. refl)
found told.Names = keyed_found reply_form (reply_word told.Names) texts reply.Names texts_laws (λ x. refl)
found told.Job = keyed_found reply_form (reply_word told.Job) job_id reply.Job job_id_laws (λ x. refl)
found told.Array = keyed_found reply_form (reply_word told.Array) members (λ p. reply.Array p.0 p.1.0 p.1.1) members_laws (λ x. refl)
found told.Jobs = keyed_found reply_form (reply_word told.Jobs) ids reply.Jobs ids_laws (λ x. refl)
found told.State = keyed_found reply_form (reply_word told.State) state_form reply.State state_laws (λ x. refl)
found told.Info = keyed_found reply_form (reply_word told.Info) job_info reply.Info job_info_laws (λ x. refl)
found told.Reached = keyed_found reply_form (reply_word told.Reached) job_id reply.Reached job_id_laws (λ x. refl)
found told.Reserved = keyed_found reply_form (reply_word told.Reserved) reserved reply.Reserved reserved_laws (λ x. refl)
found told.Reservation = keyed_found reply_form (reply_word told.Reservation) reservation_info reply.Reservation reservation_info_laws (λ x. refl)
found told.Reservations = keyed_found reply_form (reply_word told.Reservations) ids reply.Reservations ids_laws (λ x. refl)
found told.Infos = keyed_found reply_form (reply_word told.Infos) infos reply.Infos infos_laws (λ x. refl)
found told.ReservationInfos = keyed_found reply_form (reply_word told.ReservationInfos) reservation_infos reply.ReservationInfos reservation_infos_laws (λ x. refl)
found told.Machine = keyed_found reply_form (reply_word told.Machine) machine reply.Machine machine_laws (λ x. refl)
found told.Callback = keyed_found reply_form (reply_word told.Callback) (number (2 ^ 32)) reply.Callback number_laws_32 (λ x. refl)
found told.Launch = keyed_found reply_form (reply_word told.Launch) launch reply.Launch launch_laws (λ x. refl)
found told.Signal = keyed_found reply_form (reply_word told.Signal) signal reply.Signal signal_laws (λ x. refl)
found told.Refused = keyed_found reply_form (reply_word told.Refused) refusals reply.Refused refusals_laws (λ x. refl)

stands : (r : Reply) → Stands (read_sum reply_word REPLY_WORDS reply_arms) [] r (reply_form r)
stands reply.Unit = alone_stands reply_word REPLY_WORDS reply_arms [] told.Ok reply.Unit refl refl (λ bs. refl)
stands (reply.Session session) = keyed_stands reply_word REPLY_WORDS reply_arms [] told.Session session_id reply.Session session_id_laws session refl refl (λ bs. refl)
stands (reply.Names names) = keyed_stands reply_word REPLY_WORDS reply_arms [] told.Names texts reply.Names texts_laws names refl refl (λ bs. refl)
stands (reply.Job job) = keyed_stands reply_word REPLY_WORDS reply_arms [] told.Job job_id reply.Job job_id_laws job refl refl (λ bs. refl)
stands (reply.Array array first count) = keyed_stands reply_word REPLY_WORDS reply_arms [] told.Array members (λ p. reply.Array p.0 p.1.0 p.1.1) members_laws (array, (first, count)) refl refl (λ bs. refl)
stands (reply.Jobs jobs) = keyed_stands reply_word REPLY_WORDS reply_arms [] told.Jobs ids reply.Jobs ids_laws jobs refl refl (λ bs. refl)
stands (reply.State state) = keyed_stands reply_word REPLY_WORDS reply_arms [] told.State state_form reply.State state_laws state refl refl (λ bs. refl)
stands (reply.Info info) = keyed_stands reply_word REPLY_WORDS reply_arms [] told.Info job_info reply.Info job_info_laws info refl refl (λ bs. refl)
stands (reply.Reached job) = keyed_stands reply_word REPLY_WORDS reply_arms [] told.Reached job_id reply.Reached job_id_laws job refl refl (λ bs. refl)
stands (reply.Reserved booked) = keyed_stands reply_word REPLY_WORDS reply_arms [] told.Reserved reserved reply.Reserved reserved_laws booked refl refl (λ bs. refl)
stands (reply.Reservation info) = keyed_stands reply_word REPLY_WORDS reply_arms [] told.Reservation reservation_info reply.Reservation reservation_info_laws info refl refl (λ bs. refl)
stands (reply.Reservations reservations) = keyed_stands reply_word REPLY_WORDS reply_arms [] told.Reservations ids reply.Reservations ids_laws reservations refl refl (λ bs. refl)
stands (reply.Infos list) = keyed_stands reply_word REPLY_WORDS reply_arms [] told.Infos infos reply.Infos infos_laws list refl refl (λ bs. refl)
stands (reply.ReservationInfos list) = keyed_stands reply_word REPLY_WORDS reply_arms [] told.ReservationInfos reservation_infos reply.ReservationInfos reservation_infos_laws list refl refl (λ bs. refl)
stands (reply.Machine info) = keyed_stands reply_word REPLY_WORDS reply_arms [] told.Machine machine reply.Machine machine_laws info refl refl (λ bs. refl)
stands (reply.Callback n) = keyed_stands reply_word REPLY_WORDS reply_arms [] told.Callback (number (2 ^ 32)) reply.Callback number_laws_32 n refl refl (λ bs. refl)
stands (reply.Launch l) = keyed_stands reply_word REPLY_WORDS reply_arms [] told.Launch launch reply.Launch launch_laws l refl refl (λ bs. refl)
stands (reply.Signal s) = keyed_stands reply_word REPLY_WORDS reply_arms [] told.Signal signal reply.Signal signal_laws s refl refl (λ bs. refl)
stands (reply.Refused why) = keyed_stands reply_word REPLY_WORDS reply_arms [] told.Refused refusals reply.Refused refusals_laws why refl refl (λ bs. refl)

pub replies_laws : IsFormat replies
unfolding replies reply_sum sum_of
replies_laws = sum_form reply_sum refl (sum_laws reply_word REPLY_WORDS reply_arms reply_form [] found stands)
