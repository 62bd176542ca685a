-- What is printed of a journal is UTF-8, whether or not it is read again.
use Rattle.std.proofs.Common.{ℕ, ◌+◌, ◌<◌, ◌≤◌, ◌^◌, ◌≡◌, true, List, [], ◌∷◌, length, codes, refl, subst, arith}
use Rattle.std.specs.Prelude.{IsUtf8}
use Rattle.std.specs.List.{AllByRecursion}
use Rattle.drmaa_types.specs.declared.refusals.Refusal.{Refusal}
use Rattle.drmaa_types.specs.declared.refusals.Refusal.TheVariants as refusal
use Rattle.drmaa_types.specs.declared.refusals.Limit.TheVariants as limit
use Rattle.drmaa_model.specs.declared.calls.Call.{Call}
use Rattle.drmaa_model.specs.declared.calls.Call.TheVariants as call
use Rattle.drmaa_model.specs.declared.calls.Target.TheVariants as target
use Rattle.drmaa_model.specs.declared.configs.Config.{Config}
use Rattle.drmaa_model.specs.declared.entries.Entry.{Entry}
use Rattle.drmaa_model.specs.declared.replies.Reply.{Reply}
use Rattle.drmaa_model.specs.declared.replies.Reply.TheVariants as reply
use Rattle.text_codec.specs.Lexical.{IsClean}
use Rattle.text_codec.specs.Formats.{number, pair, mapped, behind, checked}
use Rattle.text_codec.specs.Fields.{joined}
use Rattle.text_codec.specs.FormatLaws.{pair_laws}
use Rattle.text_codec.specs.CleanLaws.{clean_both, clean_behind, plain_clean}
use Rattle.text_codec.specs.Sums.{sum_of}
use Rattle.text_codec.specs.SumLaws.{keyed_stands}
use Rattle.text_codec.specs.declared.call_words.CallWord.TheVariants as word
use Rattle.text_codec.specs.declared.call_words.TheConstants.{CALL_WORDS}
use Rattle.text_codec.specs.CallWords.{call_word}
use Rattle.text_codec.specs.ValueWords.{limit_form}
use Rattle.text_forms.specs.Refusals.{refusals, refusal_sum, may_stand}
use Rattle.text_forms.specs.Templates.{any_template, any_frame}
use Rattle.text_forms.specs.TemplateLaws.{any_template_laws, any_frame_laws}
use Rattle.text_lines.specs.LineLaws.{ended_utf8}
use Rattle.journal_forms.specs.Calls.{running, bulk, requested, call_form, call_arms, barred, calls_with, calls}
use Rattle.journal_forms.specs.CallLaws.{running_laws, bulk_laws, requested_laws, calls_laws}
use Rattle.journal_forms.specs.Replies.{reply_form, reply_sum, replies, may_answer}
use Rattle.journal_forms.specs.ReplyLaws.{replies_laws}
use Rattle.journal_text.specs.Journals.{machine, title, title_of, header, stamp, answered, entry_with, entry, closing, entry_lines, journal_lines, journal_text}
use Rattle.journal_text.specs.LineLaws.{machine_laws, stamp_laws}
use Rattle.journal_text.specs.Queues.{queues}
use Rattle.journal_text.specs.QueueLaws.{queues_laws}
use Rattle.journal_text.specs.JournalLaws.{both_clean, closing_is_clean}
use Rattle.journal_text.specs.Printing.{any_entry, IsRanged}
use Rattle.journal_text.specs.PrintLaws.{same_entry}

-- the machine, whatever its slots, its name and its queues
pub title_clean : (c : Config) → (pair machine queues).valid (title_of c) → IsClean (title.spell (title_of c))
unfolding title checked behind
title_clean c v =
    clean_behind (codes "drmaa-journal 2 ") ((pair machine queues).spell (title_of c)) refl
    ((pair_laws machine queues machine_laws queues_laws).clean (title_of c) v)

-- a call, whatever attributes its template has under `other`
pub call_clean : (c : Call) → (call_form any_template any_frame c).valid → IsClean (call_form any_template any_frame c).text
unfolding calls calls_with sum_of
call_clean (call.RunJob session t) v = (keyed_stands call_word CALL_WORDS (call_arms any_template any_frame) barred word.Run (running any_template) (λ p. call.RunJob p.0 p.1) (running_laws any_template any_template_laws) (session, t) refl refl (λ bs. refl)).clean v
call_clean (call.RunBulk session t listed) v = (keyed_stands call_word CALL_WORDS (call_arms any_template any_frame) barred word.Bulk (bulk any_template) (λ p. call.RunBulk p.0 p.1.0 p.1.1) (bulk_laws any_template any_template_laws) (session, (t, listed)) refl refl (λ bs. refl)).clean v
call_clean (call.RequestReservation session t) v = (keyed_stands call_word CALL_WORDS (call_arms any_template any_frame) barred word.Reserve (requested any_frame) (λ p. call.RequestReservation p.0 p.1) (requested_laws any_frame any_frame_laws) (session, t) refl refl (λ bs. refl)).clean v
call_clean (call.Control session (target.Job job) what) v = calls_laws.clean (call.Control session (target.Job job) what) v
call_clean (call.Reap session (target.Job job)) v = calls_laws.clean (call.Reap session (target.Job job)) v
call_clean c v = calls_laws.clean c v

-- a reply, and a refusal that no journal has
refused_clean : (why : Refusal) → (may_stand why ≡ true → (reply_form (reply.Refused why)).valid) → IsClean (reply_form (reply.Refused why)).text
unfolding replies reply_sum refusals refusal_sum sum_of limit_form
refused_clean (refusal.TryLater served drawn) v = plain_clean (codes "refused 2") refl
refused_clean refusal.OutOfMemory v = plain_clean (codes "refused 8") refl
refused_clean (refusal.OutOfResource (limit.Journal size)) v = plain_clean (codes "refused 7 journal") refl
refused_clean (refusal.OutOfResource full) v = replies_laws.clean (reply.Refused (refusal.OutOfResource full)) (v refl)
refused_clean why v = replies_laws.clean (reply.Refused why) (v refl)

pub reply_clean : (r : Reply) → (may_answer r ≡ true → (reply_form r).valid) → IsClean (reply_form r).text
unfolding replies reply_sum sum_of
reply_clean (reply.Refused why) v = refused_clean why v
reply_clean r v = replies_laws.clean r (v refl)

-- the line of an entry
entry_clean : (n : ℕ) (e : Entry) → n < 2 ^ 64 → IsRanged e → IsClean (entry.spell (n, e))
unfolding any_entry entry_with mapped pair answered joined calls_with sum_of replies reply_sum stamp number
entry_clean n e small r =
    subst IsClean (same_entry n e)
    (clean_both (stamp.spell (n, (e.caller, e.at))) _ (stamp_laws.clean (n, (e.caller, e.at)) (small, (r.caller, r.at)))
    (clean_behind (codes " ") _ refl
    (clean_both (call_form any_template any_frame e.call).text _ (call_clean e.call r.call)
    (clean_behind (codes " = ") (reply_form e.reply).text refl (reply_clean e.reply r.reply)))))

entries_clean : (n : ℕ) (es : List Entry) → n + length es ≤ 2 ^ 64 → AllByRecursion IsRanged es → AllByRecursion IsClean (entry_lines n es)
entries_clean n [] few ranged = tt
entries_clean n (e ∷ es) few ranged =
    let small : n < 2 ^ 64 = omega (arith, few) in
    let rest : n + 1 + length es ≤ 2 ^ 64 = omega (arith, few) in
    (entry_clean n e small ranged.0, entries_clean (n + 1) es rest ranged.1)

pub printed_utf8 : (c : Config) (es : List Entry) → IsClean (header.spell c) → AllByRecursion IsRanged es → length es < 2 ^ 64 → IsUtf8 (journal_text c es)
printed_utf8 c es h ranged few =
    let some : 1 + length es ≤ 2 ^ 64 = omega (arith, few) in
    ended_utf8 (journal_lines c es) (h, both_clean (entry_lines 1 es) (closing.spell (length es) ∷ []) (entries_clean 1 es some ranged) (closing_is_clean (length es) few))
