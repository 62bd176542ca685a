-- What is read of a source: our profile.
use Rattle.std.specs.Prelude.{◌≡◌, ◌<◌, ◌⊎◌, ℕ, List, length, Option, IfSome, Result, Ok, Err}
use Rattle.std.specs.Io.KnownBytes.{IsAtEnd}
use Rattle.drmaa_model.specs.History.{IsLegal}
use Rattle.journal_text.specs.Journals as journals
use Rattle.journal_text.specs.declared.journals.Journal.{Journal}
use Rattle.text_lines.specs.Lines.{IsTextOf}
use Rattle.journal_commands.specs.declared.status.Status.{Status}
use Rattle.journal_commands.specs.declared.status.Status.TheVariants.{ReadFault, Memory}

-- the bytes are a whole text of this journal, of whatever version
abbrev pub IsJournalText : List ℕ → Journal → Type 0
IsJournalText bytes journal = IsTextOf journals.Spells 268_435_456 bytes journal

-- the bytes, however many they are, are a text of this journal, and of one that is legal
abbrev pub IsTextOfJournal : List ℕ → Journal → Type 0
IsTextOfJournal bytes journal = IsTextOf journals.Spells (length bytes) bytes journal

pub record IsLegalText (bytes : List ℕ) : Type 0 where
  pub journal : Journal
  pub read : IsTextOfJournal bytes journal
  pub legal : IsLegal journal.config journal.entries

-- The source was read to its end, or it had more bytes than the limit, where it tells them.
abbrev pub IsReadOut : ℕ → Option (List ℕ) → Option (List ℕ) → Type 0
IsReadOut limit old new = IsAtEnd new ⊎ IfSome old (λ all. limit < length all)

-- this was read, or a read failed, or memory ran out
abbrev pub IsReadAs : {A : Type 0} → A → Result A Status → Type 0
IsReadAs text (Ok found) = found ≡ text
IsReadAs text (Err status) = (status ≡ ReadFault) ⊎ (status ≡ Memory)
