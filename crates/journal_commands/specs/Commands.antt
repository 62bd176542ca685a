-- What each command makes of a journal: our profile.
use Rattle.std.specs.Prelude.{◌≡◌, ℕ, List, [], ◌∷◌, ◌++◌, length, codes, decimal, Option, Some, None}
use Rattle.drmaa_model.specs.declared.entries.Entry.{Entry}
use Rattle.drmaa_model.specs.declared.replies.Reply.{Reply}
use Rattle.drmaa_model.specs.History.{Ledger, IsLegal, now_of}
use Rattle.command_words.specs.declared.commands.RecurWords.{RecurWords}
use Rattle.forecast.specs.declared.predictions.Predicted.{Predicted}
use Rattle.forecast.specs.Starts.{AreForetold, IsFull}
use Rattle.forecast.specs.Texts.{forecast_text}
use Rattle.journal_check.specs.Faults.{FirstFault}
use Rattle.journal_json.specs.Documents.{json_form}
use Rattle.journal_text.specs.Journals.{journal_text}
use Rattle.journal_text.specs.declared.journals.Journal.{Journal}
use Rattle.journal_commands.specs.declared.status.Status.{Status}
use Rattle.journal_commands.specs.declared.status.Status.TheVariants.{Done, NotLegal}
use Rattle.journal_commands.specs.Outcomes.{JournalEnds, JournalIsWhole}
use Rattle.journal_commands.specs.Recurring.{WritesOn}
use Rattle.journal_commands.specs.Statuses.{ended_as}
use Rattle.journal_commands.specs.Texts.{IsJournalText}

-- ---- every journal, legal or not

-- no journal is refused
abbrev pub RefusesNone : Journal → ℕ → Reply → Option Reply → Type 0
RefusesNone j entry given machine = ⊥

-- every journal is written
abbrev pub WritesAll : Journal → Status → Type 0
WritesAll j status = status ≡ Done

-- `migrate`: its text of version 2
abbrev pub WritesSecond : Journal → List ℕ → Option ℕ → Type 0
WritesSecond j text full = (text ≡ journal_text j.config j.entries) × (full ≡ None)

-- `json`: its JSON form, and a line feed
abbrev pub json_line : Journal → List ℕ
json_line j = json_form j.config j.entries ++ 10 ∷ []

abbrev pub WritesJson : Journal → List ℕ → Option ℕ → Type 0
WritesJson j text full = (text ≡ json_line j) × (full ≡ None)

-- ---- legal journals

-- the machine and the history of a journal
abbrev pub ledger_of : Journal → Ledger
ledger_of j = record { config = j.config; history = j.entries }

-- a legal journal, of which this was made
pub record OfLegal (Makes : Ledger → List ℕ → Option ℕ → Type 0) (j : Journal) (text : List ℕ) (full : Option ℕ) : Type 0 where
  pub legal : IsLegal j.config j.entries
  pub made : Makes (ledger_of j) text full

-- a journal is refused for its first fault alone
abbrev pub RefusesFault : Journal → ℕ → Reply → Option Reply → Type 0
RefusesFault j entry given machine = FirstFault j.config j.entries entry given machine

-- what may be made of a ledger was made, and so the command ended
pub record EndsBy (Makes : Ledger → List ℕ → Option ℕ → Type 0) (ledger : Ledger) (status : Status) : Type 0 where
  pub text : List ℕ
  pub full : Option ℕ
  pub made : Makes ledger text full
  pub ended : status ≡ ended_as full

-- of a legal journal that is made, and another one is refused for its first fault
pub record Judged (Makes : Ledger → List ℕ → Option ℕ → Type 0) (j : Journal) (status : Status) : Type 0 where
  pub legal : IsLegal j.config j.entries → EndsBy Makes (ledger_of j) status
  pub fault : (entry : ℕ) (given : Reply) (machine : Option Reply) → FirstFault j.config j.entries entry given machine
      → status ≡ NotLegal entry given machine

-- `check`: how many entries it has
abbrev pub legal_line : ℕ → List ℕ
legal_line count = codes "legal " ++ decimal count ++ 10 ∷ []

abbrev pub legal_text : List Entry → List ℕ
legal_text entries = legal_line (length entries)

abbrev pub WritesCount : Ledger → List ℕ → Option ℕ → Type 0
WritesCount ledger text full = (text ≡ legal_text ledger.history) × (full ≡ None)

-- `forecast`: the starts of the one forecast of the last world; nothing, where the journal has no room for one of them
abbrev pub Foretells : Ledger → List ℕ → Option ℕ → Type 0
Foretells ledger text None = (starts : List Predicted) × AreForetold (now_of ledger) starts × (text ≡ forecast_text starts)
Foretells ledger text (Some size) = IsFull (now_of ledger) size × (text ≡ [])

-- ---- how each ends, by all the bytes that it reads

abbrev pub CheckEnds : List ℕ → Status → Option (List ℕ) → Option (List ℕ) → Type 0
CheckEnds = JournalEnds (OfLegal WritesCount) RefusesFault

abbrev pub CheckIsWhole : List ℕ → Status → Type 0
CheckIsWhole = JournalIsWhole (Judged WritesCount)

abbrev pub MigrateEnds : List ℕ → Status → Option (List ℕ) → Option (List ℕ) → Type 0
MigrateEnds = JournalEnds WritesSecond RefusesNone

abbrev pub MigrateIsWhole : List ℕ → Status → Type 0
MigrateIsWhole = JournalIsWhole WritesAll

abbrev pub JsonEnds : List ℕ → Status → Option (List ℕ) → Option (List ℕ) → Type 0
JsonEnds = JournalEnds WritesJson RefusesNone

abbrev pub JsonIsWhole : List ℕ → Status → Type 0
JsonIsWhole = JournalIsWhole WritesAll

abbrev pub ForecastEnds : List ℕ → Status → Option (List ℕ) → Option (List ℕ) → Type 0
ForecastEnds = JournalEnds (OfLegal Foretells) RefusesFault

abbrev pub ForecastIsWhole : List ℕ → Status → Type 0
ForecastIsWhole = JournalIsWhole (Judged Foretells)

abbrev pub RecurEnds : RecurWords → List ℕ → Status → Option (List ℕ) → Option (List ℕ) → Type 0
RecurEnds words = JournalEnds (OfLegal (WritesOn words)) RefusesFault

abbrev pub RecurIsWhole : RecurWords → List ℕ → Status → Type 0
RecurIsWhole words = JournalIsWhole (Judged (WritesOn words))

-- ---- a journal of either version, written as version 2

-- The bytes are a text of a journal, and this is its text of version 2: what `migrate` says of them at Done.
pub record Migrates (bytes text : List ℕ) : Type 0 where
  pub journal : Journal
  pub read : IsJournalText bytes journal
  pub written : text ≡ journal_text journal.config journal.entries
