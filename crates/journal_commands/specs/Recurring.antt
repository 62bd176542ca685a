-- What `recur` makes of a legal journal: our profile.
use Rattle.std.specs.Prelude.{◌≡◌, ◌≢◌, ℕ, List, [], ◌∷◌, Option, Some, None, Result, Ok, Err}
use Rattle.command_words.specs.declared.commands.RecurWords.{RecurWords}
use Rattle.command_words.specs.declared.commands.Unit.{Unit as StepUnit}
use Rattle.command_words.specs.declared.commands.Unit.TheVariants as unit
use Rattle.drmaa_types.specs.declared.identifiers.SessionId.{SessionId}
use Rattle.drmaa_types.specs.declared.refusals.Limit.{Limit}
use Rattle.drmaa_types.specs.declared.refusals.Limit.TheVariants as limit
use Rattle.drmaa_types.specs.declared.refusals.Refusal.{Refusal}
use Rattle.drmaa_types.specs.declared.refusals.Refusal.TheVariants as why
use Rattle.job_template.specs.declared.templates.ReservationTemplate.{ReservationTemplate}
use Rattle.drmaa_types.specs.declared.template_parts.Start.TheVariants as start
use Rattle.drmaa_model.specs.declared.calls.Call.{Call}
use Rattle.drmaa_model.specs.declared.calls.Call.TheVariants as call
use Rattle.drmaa_model.specs.declared.entries.Entry.{Entry}
use Rattle.drmaa_model.specs.declared.replies.Reply.{Reply}
use Rattle.drmaa_model.specs.declared.replies.Reply.TheVariants as reply
use Rattle.drmaa_model.specs.History.{Ledger, IsLegal, now_of}
use Rattle.drmaa_machine.specs.Applying.{IsTooLarge}
use Rattle.journal_text.specs.Journals.{journal_text}
use Rattle.recurring_reservations.specs.declared.requests.Asker.{Asker}
use Rattle.recurring_reservations.specs.declared.recurrences.Every.{Every}
use Rattle.recurring_reservations.specs.declared.recurrences.Every.TheVariants as every
use Rattle.recurring_reservations.specs.declared.recurrences.RecurFault.{RecurFault}
use Rattle.recurring_reservations.specs.declared.recurrences.Recurring.{Recurring}
use Rattle.recurring_reservations.specs.Occurrences.{AreOccurrences}
use Rattle.recurring_reservations.specs.Requests.{Recurs, with_entries}

-- ---- what the words ask for

abbrev pub every_of : StepUnit → ℕ → Every
every_of unit.Days n = every.Days n
every_of unit.Weeks n = every.Weeks n
every_of unit.Months n = every.Months n

-- a start, a duration and a number of slots, and nothing else
abbrev pub template_of : RecurWords → ReservationTemplate
template_of words = record {
  reservation_name = None;
  start_time = Some (start.At words.start);
  end_time = None;
  duration = Some words.duration;
  min_slots = Some words.slots;
  max_slots = None;
  others = [];
}

abbrev pub recurring_of : RecurWords → Recurring
recurring_of words = record { template = template_of words; every = every_of words.unit words.number; count = words.count }

-- there is something to request
pub record HasOccurrences (words : RecurWords) : Type 0 where
  pub templates : List ReservationTemplate
  pub occur : AreOccurrences (recurring_of words) templates

-- ---- how the history goes on

-- the moment of the last world
abbrev pub moment_of : Ledger → ℕ
moment_of ledger = (now_of ledger).plan.moment

-- the session of this name is opened, by caller 0 at that moment
abbrev pub opening : RecurWords → Call
opening words = call.OpenReservationSession words.session

abbrev pub opened : RecurWords → Ledger → Reply → Entry
opened words ledger told = record { caller = record { 0 = 0 }; at = moment_of ledger; call = opening words; reply = told }

abbrev pub asker_of : Ledger → SessionId → Asker
asker_of ledger session = record { caller = record { 0 = 0 }; at = moment_of ledger; session = session }

-- the size for which a request made no entry, if that is why
abbrev pub size_in : Limit → Option ℕ
size_in (limit.Journal size) = Some size
size_in _ = None

abbrev pub size_of : Refusal → Option ℕ
size_of (why.OutOfResource full) = size_in full
size_of _ = None

-- Requests that came to this end stop the command for this size, if a request made no entry for that. Want of memory is no such end.
abbrev pub StopsAs : Result (List ℕ) RecurFault → Option ℕ → Type 0
StopsAs (Ok numbers) full = full ≡ None
StopsAs (Err stop) full = (stop.refusal ≢ why.OutOfMemory) × (full ≡ size_of stop.refusal)

-- The history goes on by the opening of the session, and where that is answered with a number by the requests in that session. The
-- size is that for which the opening, or a request, made no entry.
pub data GoesOn (words : RecurWords) (old : Ledger) (full : Option ℕ) (new : Ledger) : Type 0 where
  asks : (session : SessionId) (answer : Result (List ℕ) RecurFault)
      → Recurs (recurring_of words) (asker_of old session) (with_entries old (opened words old (reply.Session session) ∷ [])) answer new
      → StopsAs answer full → GoesOn words old full new
  unopened : (told : Reply) → ((session : SessionId) → told ≡ reply.Session session → ⊥) → new ≡ with_entries old (opened words old told ∷ []) → full ≡ None → GoesOn words old full new
  stopped : (size : ℕ) → IsTooLarge (now_of old) (moment_of old) (opening words) size → new ≡ old → full ≡ Some size → GoesOn words old full new

-- The text is the journal of such a history, which is legal.
pub record WritesOn (words : RecurWords) (ledger : Ledger) (text : List ℕ) (full : Option ℕ) : Type 0 where
  pub new : Ledger
  pub goes : GoesOn words ledger full new
  pub legal : IsLegal new.config new.history
  pub is : text ≡ journal_text new.config new.history
