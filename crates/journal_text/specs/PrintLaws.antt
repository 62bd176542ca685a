-- The laws of printed journals.
use Rattle.std.proofs.Common.{◌≡◌, ℕ, suc, ◌<◌, ◌^◌, Bool, true, false, List, [], ◌∷◌, ◌++◌, length, map, Some, refl, sym, ap, subst, ◌∙◌, append_assoc, append-nil}
use Rattle.std.specs.Cmp.Derive.{both_true}
use Rattle.std.specs.List.{AllByRecursion}
use Rattle.std.proofs.lemmas.Grind.{flat_map-append}
use Rattle.drmaa_model.specs.declared.calls.Call.{Call}
use Rattle.drmaa_model.specs.declared.calls.Call.TheVariants as call
use Rattle.drmaa_model.specs.declared.calls.Target.TheVariants as target
use Rattle.drmaa_model.specs.declared.configs.Config.{Config}
use Rattle.drmaa_model.specs.declared.entries.Entry.{Entry}
use Rattle.drmaa_model.specs.RecordedCalls.{recorded, recorded_template, recorded_limit}
use Rattle.job_template.specs.declared.templates.JobTemplate.{JobTemplate}
use Rattle.drmaa_types.specs.declared.template_parts.ResourceLimit.{ResourceLimit}
use Rattle.text_codec.specs.Formats.{pair, mapped, checked, first_spelled}
use Rattle.text_codec.specs.Fields.{field, flag, repeated, in_braces, joined}
use Rattle.text_codec.specs.Sums.{sum_of}
use Rattle.text_codec.specs.Words.{capitals}
use Rattle.text_codec.specs.TemplateParts.{resource_limit}
use Rattle.text_forms.specs.Templates.{any_template, template, any_frame, frame, Early, Paths, Placed, Late, early_fields, path_fields, placed_fields, late_fields, early_parts, path_parts, placed_parts, late_parts}
use Rattle.text_lines.specs.Lines.{ended}
use Rattle.journal_forms.specs.Calls.{call_form, calls_with, calls, running, bulk, requested, has_others}
use Rattle.journal_forms.specs.Replies.{reply_form, reply_sum, replies, may_answer}
use Rattle.journal_text.specs.declared.titles.TheConstants.{SUSPENDS}
use Rattle.journal_text.specs.Journals.{suspend_text, header, title, title_of, is_title, journal_size, entry_with, answered, stamp, entry, closing, entry_lines, journal_text, IsEntry, IsWritable, recorded_entry}
use Rattle.journal_text.specs.Printing.{any_entry, IsRanged, MayStand, IsPrintable}

-- a call is spelled alike whatever attributes its template has
pub same_text : (c : Call) → (call_form any_template any_frame c).text ≡ (call_form template frame c).text
unfolding template frame checked running bulk requested pair
same_text (call.Control session (target.Job job) what) = refl
same_text (call.Reap session (target.Job job)) = refl
same_text _ = refl

pub same_entry : (n : ℕ) (e : Entry) → any_entry.spell (n, e) ≡ entry.spell (n, e)
unfolding any_entry entry entry_with mapped pair answered joined calls calls_with sum_of
same_entry n e = ap (λ (t : List ℕ). stamp.spell (n, (e.caller, e.at)) ++ 32 ∷ (t ++ (32 ∷ 61 ∷ 32 ∷ replies.spell e.reply))) (same_text e.call)

-- and it is one of a journal where those attributes are
more_valid : (c : Call) → has_others c ≡ true → (call_form any_template any_frame c).valid → (call_form template frame c).valid
unfolding template frame checked running bulk requested pair
more_valid (call.RunJob session t) h v = (v.0, (v.1, h))
more_valid (call.RunBulk session t listed) h v = (v.0, ((v.1.0, h), v.1.1))
more_valid (call.Control session (target.Job job) what) h v = v
more_valid (call.Reap session (target.Job job)) h v = v
more_valid (call.RequestReservation session t) h v = (v.0, (v.1, h))
more_valid _ h v = v

pub is_entry : (e : Entry) → IsRanged e → MayStand e → IsEntry e
unfolding calls calls_with replies reply_sum sum_of
is_entry e r m = record { caller = r.caller; at = r.at; call = more_valid e.call m.others r.call; reply = r.reply m.reply }

-- the entries of such a journal are kept as they are
pub recorded_is : (es : List Entry) → AllByRecursion MayStand es → map recorded_entry es ≡ es
recorded_is [] h = refl
recorded_is (e ∷ es) h = ap (λ c. record e { call = c } ∷ map recorded_entry es) h.0.call ∙ ap (λ more. e ∷ more) (recorded_is es h.1)

pub same_entries : (es : List Entry) → AllByRecursion (λ e. recorded e.call ≡ e.call) es → map recorded_entry es ≡ es
same_entries [] h = refl
same_entries (e ∷ es) h = ap (λ c. record e { call = c } ∷ map recorded_entry es) h.0 ∙ ap (λ more. e ∷ more) (same_entries es h.1)

all_entries : (es : List Entry) → AllByRecursion MayStand es → AllByRecursion IsRanged es → AllByRecursion IsEntry es
all_entries [] m r = tt
all_entries (e ∷ es) m r = (is_entry e r.0 m.0, all_entries es m.1 r.1)

header_is : (c : Config) → title.valid (title_of c) → c.journal ≡ journal_size → header.valid c
unfolding header
header_is c v e = (v, e)

pub is_writable : (c : Config) (es : List Entry) → IsPrintable c es → (is_title (title_of c) ≡ true → title.valid (title_of c)) → AllByRecursion IsRanged (map recorded_entry es) → length es < 2 ^ 64 → IsWritable c es
is_writable c es p titled ranged few = record {
  config = header_is c (titled (both_true p.machine p.queues)) p.size;
  each = all_entries es p.entries (subst (AllByRecursion IsRanged) (recorded_is es p.entries) ranged);
  few = few;
}

-- a template that is spelled is its own kept template
limits_recorded : (ls : List ResourceLimit) → AllByRecursion resource_limit.valid ls → map recorded_limit ls ≡ ls
unfolding resource_limit mapped pair capitals
limits_recorded [] v = refl
limits_recorded (l ∷ ls) v = rw (v.0.0, limits_recorded ls v.1) refl

-- what a template's fields have to be, group by group, down to its limits
early_is_valid : (p : Early) → early_fields.body.valid p → path_fields.body.valid p.1.1.1.1
unfolding early_fields flag repeated
early_is_valid p v = v.1.1

paths_are_valid : (p : Paths) → path_fields.body.valid p → placed_fields.body.valid p.1.1.1.1.1
unfolding path_fields field
paths_are_valid p v = v.1.1.1.1.1

placed_is_valid : (p : Placed) → placed_fields.body.valid p → late_fields.body.valid p.1.1.1.1.1
unfolding placed_fields field flag
placed_is_valid p v = v.1.1.1.1

limits_are_valid : (p : Late) → late_fields.body.valid p → AllByRecursion resource_limit.valid p.1.1.1.0
unfolding late_fields field repeated
limits_are_valid p v = v.1.1.1.0

any_is_valid : (t : JobTemplate) → template.valid t → early_fields.body.valid (early_parts t)
unfolding template checked any_template mapped in_braces
any_is_valid t v = v.0.1

template_recorded : (t : JobTemplate) → template.valid t → recorded_template t ≡ t
unfolding early_parts path_parts placed_parts late_parts
template_recorded t v =
    let early = any_is_valid t v in
    let paths = early_is_valid (early_parts t) early in
    let placed = paths_are_valid (path_parts t) paths in
    let late = placed_is_valid (placed_parts t) placed in
    ap (λ ls. record t { resource_limits = ls }) (limits_recorded t.resource_limits (limits_are_valid (late_parts t) late))

call_recorded : (c : Call) → (call_form template frame c).valid → recorded c ≡ c
unfolding running bulk pair
call_recorded (call.RunJob session t) v = ap (λ k. call.RunJob session k) (template_recorded t v.1)
call_recorded (call.RunBulk session t listed) v = ap (λ k. call.RunBulk session k listed) (template_recorded t v.1.0)
call_recorded _ v = refl

pub entries_recorded : (es : List Entry) → AllByRecursion IsEntry es → AllByRecursion (λ e. recorded e.call ≡ e.call) es
unfolding calls calls_with sum_of
entries_recorded [] h = tt
entries_recorded (e ∷ es) h = (call_recorded e.call h.0.call, entries_recorded es h.1)

-- the parts of a journal's text
text_parts : (c : Config) (es : List Entry) → journal_text c es ≡ ((header.spell c ++ 10 ∷ []) ++ ended (entry_lines 1 es)) ++ (closing.spell (length es) ++ 10 ∷ [])
text_parts c es =
    ap (λ t. (header.spell c ++ 10 ∷ []) ++ t) (flat_map-append (λ l. l ++ 10 ∷ []) (entry_lines 1 es) (closing.spell (length es) ∷ []) ∙ ap (λ t. ended (entry_lines 1 es) ++ t) (append-nil (closing.spell (length es) ++ 10 ∷ [])))
    ∙ sym (append_assoc (header.spell c ++ 10 ∷ []) (ended (entry_lines 1 es)) (closing.spell (length es) ++ 10 ∷ []))

same_length : (es : List Entry) → length (map recorded_entry es) ≡ length es
same_length [] = refl
same_length (e ∷ es) = ap suc (same_length es)

-- what is printed in turn is the text
pub printed_is : (c : Config) (es : List Entry) (a b d : List ℕ) → a ≡ header.spell c ++ 10 ∷ [] → b ≡ a ++ ended (entry_lines 1 (map recorded_entry es)) → d ≡ b ++ (closing.spell (length es) ++ 10 ∷ []) → d ≡ journal_text c (map recorded_entry es)
printed_is c es a b d p q r =
    r ∙ ap (λ t. t ++ (closing.spell (length es) ++ 10 ∷ [])) (q ∙ ap (λ t. t ++ ended (entry_lines 1 (map recorded_entry es))) p)
    ∙ ap (λ n. ((header.spell c ++ 10 ∷ []) ++ ended (entry_lines 1 (map recorded_entry es))) ++ (closing.spell n ++ 10 ∷ [])) (sym (same_length es)) ∙ sym (text_parts c (map recorded_entry es))

-- what was printed of an entry tells its ranges
pub is_ranged : (n : ℕ) (e : Entry) → stamp.valid (n, (e.caller, e.at)) → (call_form any_template any_frame (recorded e.call)).valid → (may_answer e.reply ≡ true → (reply_form e.reply).valid) → IsRanged (recorded_entry e)
unfolding stamp pair
is_ranged n e s c r = record { caller = s.1.0; at = s.1.1; call = c; reply = r }

pub suspend_stands : (b : Bool) → first_spelled suspend_text SUSPENDS (suspend_text b) ≡ Some b
suspend_stands true = refl
suspend_stands false = refl
