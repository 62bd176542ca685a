-- A journal and its text of version 2.
use Rattle.std.proofs.Common.{◌≡◌, ℕ, ◌≤◌, List, length, refl, sym, ap, subst, ◌∙◌}
use Rattle.std.proofs.Math.Nat.{le_refl}
use Rattle.text_lines.specs.Automata.{from}
use Rattle.text_lines.specs.Lines.{IsTextOf, whole_lines}
use Rattle.text_lines.specs.LineLaws.{one_text}
use Rattle.journal_text.specs.Journals as journals
use Rattle.journal_text.specs.Journals.{journal_text}
use Rattle.journal_text.specs.JournalLaws.{reads_from, is_text}
use Rattle.journal_text.specs.Reading.{reading}
use Rattle.journal_text.specs.declared.journals.Journal.{Journal}
use Rattle.journal_text.specs.declared.reading.JournalReader.TheVariants.{Start}
use Rattle.journal_commands.specs.Commands.{Migrates}
use Rattle.journal_commands.specs.Texts.{IsTextOfJournal, IsLegalText}

-- bytes are a text of one journal
same_journal : (n m : ℕ) (bytes : List ℕ) (j k : Journal) → IsTextOf journals.Spells n bytes j → IsTextOf journals.Spells m bytes k → j ≡ k
same_journal n m bytes j k a b = one_text (from reading Start) (reads_from Start refl) (whole_lines bytes) j k a.spelled b.spelled

-- what is written is a text of the journal that was read
text_within : (limit : ℕ) (bytes text : List ℕ) (m : Migrates bytes text) → length text ≤ limit → IsTextOf journals.Spells limit text m.journal
text_within limit bytes text m few =
    subst (λ (b : List ℕ). IsTextOf journals.Spells limit b m.journal) (sym m.written)
    (is_text limit m.journal.config m.journal.entries m.read.spelled.writable (subst (λ (b : List ℕ). length b ≤ limit) m.written few))

text_of : (bytes text : List ℕ) (m : Migrates bytes text) → IsTextOfJournal text m.journal
text_of bytes text m = text_within (length text) bytes text m (le_refl (length text))

-- both are texts of the same journals
pub same_written : (bytes text : List ℕ) (j : Journal) → Migrates bytes text → IsTextOfJournal bytes j → IsTextOfJournal text j
same_written bytes text j m read = subst (λ (k : Journal). IsTextOfJournal text k) (same_journal 268_435_456 (length bytes) bytes m.journal j m.read read) (text_of bytes text m)

pub same_read : (bytes text : List ℕ) (j : Journal) → Migrates bytes text → IsTextOfJournal text j → IsTextOfJournal bytes j
same_read bytes text j m written =
    let read : IsTextOfJournal bytes m.journal = record { within = le_refl (length bytes); whole = m.read.whole; spelled = m.read.spelled } in
    subst (λ (k : Journal). IsTextOfJournal bytes k) (same_journal (length text) (length text) text m.journal j (text_of bytes text m) written) read

pub legal_written : (bytes text : List ℕ) → Migrates bytes text → IsLegalText bytes → IsLegalText text
legal_written bytes text m l = record { journal = l.journal; read = same_written bytes text l.journal m l.read; legal = l.legal }

pub legal_read : (bytes text : List ℕ) → Migrates bytes text → IsLegalText text → IsLegalText bytes
legal_read bytes text m l = record { journal = l.journal; read = same_read bytes text l.journal m l.read; legal = l.legal }

-- it is migrated to itself, and to nothing else
pub same_again : (bytes text again : List ℕ) → Migrates bytes text → Migrates text again → again ≡ text
same_again bytes text again m n =
    let is : m.journal ≡ n.journal = same_journal (length text) 268_435_456 text m.journal n.journal (text_of bytes text m) n.read in
    n.written ∙ sym (ap (λ (k : Journal). journal_text k.config k.entries) is) ∙ sym m.written

pub itself_again : (bytes text again : List ℕ) → Migrates bytes text → length text ≤ 268_435_456 → again ≡ text → Migrates text again
itself_again bytes text again m few e = record { journal = m.journal; read = text_within 268_435_456 bytes text m few; written = e ∙ m.written }
