-- Printed journals: what is printed is the text of the kept entries, and when that is the text of a writable journal.
use Rattle.std.specs.Prelude.{◌≡◌, ℕ, true, List}
use Rattle.std.specs.List.{AllByRecursion}
use Rattle.drmaa_types.specs.Queues.{are_queues}
use Rattle.drmaa_model.specs.declared.configs.Config.{Config}
use Rattle.drmaa_model.specs.declared.entries.Entry.{Entry}
use Rattle.drmaa_model.specs.RecordedCalls.{recorded}
use Rattle.text_codec.specs.Formats.{Format, moment}
use Rattle.text_codec.specs.Numbers.{caller_id}
use Rattle.text_forms.specs.Templates.{any_template, any_frame}
use Rattle.journal_forms.specs.Calls.{call_form, calls_with, has_others}
use Rattle.journal_forms.specs.Replies.{reply_form, may_answer}
use Rattle.journal_text.specs.Journals.{is_machine, machine_of, journal_size, entry_with}

-- an entry, whatever attributes its template has under `other`
unfoldable pub any_entry : Format (ℕ × Entry)
any_entry = entry_with (calls_with any_template any_frame)

-- what each field of an entry has by its type
pub record IsRanged (e : Entry) : Type 0 where
  pub caller : caller_id.valid e.caller
  pub at : moment.valid e.at
  pub call : (call_form any_template any_frame e.call).valid
  pub reply : may_answer e.reply ≡ true → (reply_form e.reply).valid

-- Which entries a journal may have: each call is its own recorded call, no template has queueName or a limit under `other`,
-- and no reply is a refusal that no journal has.
pub record MayStand (e : Entry) : Type 0 where
  pub call : recorded e.call ≡ e.call
  pub others : has_others e.call ≡ true
  pub reply : may_answer e.reply ≡ true

-- Which journals may be printed and read again: their machine is one of a journal, with queues that it may have, and so are
-- their entries.
pub record IsPrintable (c : Config) (es : List Entry) : Type 0 where
  pub machine : is_machine (machine_of c) ≡ true
  pub queues : are_queues c.slots c.queues ≡ true
  pub size : c.journal ≡ journal_size
  pub entries : AllByRecursion MayStand es
