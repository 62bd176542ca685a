-- How a command ends, by what it made of a journal.
use Rattle.std.proofs.Common.{◌≡◌, ℕ, List, Option, sym, subst, ap, ◌∙◌, ◌⊎◌, inl, inr}
use Rattle.journal_text.specs.declared.journals.Journal.{Journal}
use Rattle.journal_commands.specs.declared.running.Made.{Made}
use Rattle.journal_commands.specs.declared.running.Made.TheVariants as made
use Rattle.journal_commands.specs.declared.status.Status.{Status}
use Rattle.journal_commands.specs.declared.status.Status.TheVariants.{Done, Text, Words, ReadFault, WriteFault, Memory, JournalFull, NotLegal}
use Rattle.journal_commands.specs.Outcomes.{Writing, Refusing, Makes, OutputEnds, MadeEnds, JournalEnds, CameTo, end_of}
use Rattle.journal_commands.specs.Statuses.{IsUnread}
use Rattle.journal_commands.specs.StatusLaws.{unread_by}
use Rattle.journal_commands.specs.Texts.{IsJournalText}

module _ (Writes : Writing) (Refuses : Refusing) (bytes : List ℕ) (j : Journal) (spelled : IsJournalText bytes j) (old new : Option (List ℕ)) where
  output_ends : (text : List ℕ) (full : Option ℕ) (status : Status) → Writes j text full → OutputEnds text full status old new → JournalEnds Writes Refuses bytes status old new
  output_ends text full Done w (is, written) = (j, text, spelled, subst (λ (f : Option ℕ). Writes j text f) is w, written)
  output_ends text full (Text line) w ends = absurd ends
  output_ends text full Words w ends = absurd ends
  output_ends text full ReadFault w ends = absurd ends
  output_ends text full WriteFault w front = (j, text, full, spelled, w, front)
  output_ends text full Memory w ends = absurd ends
  output_ends text full (JournalFull size) w (is, written) = (j, text, spelled, subst (λ (f : Option ℕ). Writes j text f) is w, written)
  output_ends text full (NotLegal entry given machine) w ends = absurd ends

  pub made_ends : (m : Made) (status : Status) → Makes Writes Refuses j m → MadeEnds m status old new → JournalEnds Writes Refuses bytes status old new
  made_ends (made.Written output) status makes ends = output_ends output.text output.full status makes ends
  made_ends (made.NotLegal entry given machine) status refuses is = subst (λ (s : Status). JournalEnds Writes Refuses bytes s old new) (sym is) (j, spelled, refuses)
  made_ends made.OutOfMemory status makes is = subst (λ (s : Status). JournalEnds Writes Refuses bytes s old new) (sym is) tt

-- what was made is no fault of reading and of words
pub made_no_fault : (m : Made) (status : Status) (old new : Option (List ℕ)) → MadeEnds m status old new → (status ≡ ReadFault → ⊥) × (status ≡ Words → ⊥)
made_no_fault (made.Written output) status old new ends = (
  λ e. subst (λ (s : Status). OutputEnds output.text output.full s old new) e ends,
  λ e. subst (λ (s : Status). OutputEnds output.text output.full s old new) e ends,
)
made_no_fault (made.NotLegal entry given machine) status old new is = (λ e. absurd (cc), λ e. absurd (cc))
made_no_fault made.OutOfMemory status old new is = (λ e. absurd (cc), λ e. absurd (cc))

-- how a journal decides the status, with the status that came
pub decided : (Decides : Status → Type 0) (m : Made) (status : Status) → status ≡ end_of m → (m ≡ made.OutOfMemory) ⊎ Decides (end_of m) → (status ≡ Memory) ⊎ Decides status
decided Decides m status is (inl short) = inl (is ∙ ap end_of short)
decided Decides m status is (inr decides) = inr (subst Decides (sym is) decides)

-- why nothing was read
pub unread_journal : (Writes : Writing) (Refuses : Refusing) (bytes : List ℕ) (status : Status) (old new : Option (List ℕ)) → IsUnread status
    → ((n : ℕ) → status ≡ Text n → JournalEnds Writes Refuses bytes (Text n) old new) → JournalEnds Writes Refuses bytes status old new
unread_journal Writes Refuses bytes status old new is line = unread_by (λ (s : Status). JournalEnds Writes Refuses bytes s old new) status is tt tt line

-- what was made, whatever the source tells
module _ (Writes : Writing) (Refuses : Refusing) (j : Journal) (old new : Option (List ℕ)) where
  output_came : (text : List ℕ) (full : Option ℕ) (status : Status) → Writes j text full → OutputEnds text full status old new → CameTo Writes Refuses status
  output_came text full Done w (is, written) = (j, text, subst (λ (f : Option ℕ). Writes j text f) is w)
  output_came text full (Text line) w ends = absurd ends
  output_came text full Words w ends = absurd ends
  output_came text full ReadFault w ends = absurd ends
  output_came text full WriteFault w front = (j, text, full, w)
  output_came text full Memory w ends = absurd ends
  output_came text full (JournalFull size) w (is, written) = (j, text, subst (λ (f : Option ℕ). Writes j text f) is w)
  output_came text full (NotLegal entry given machine) w ends = absurd ends

  pub made_came : (m : Made) (status : Status) → Makes Writes Refuses j m → MadeEnds m status old new → CameTo Writes Refuses status
  made_came (made.Written output) status makes ends = output_came output.text output.full status makes ends
  made_came (made.NotLegal entry given machine) status refuses is = subst (CameTo Writes Refuses) (sym is) (j, refuses)
  made_came made.OutOfMemory status makes is = subst (CameTo Writes Refuses) (sym is) tt

-- no journal was read
pub unread_came : (Writes : Writing) (Refuses : Refusing) (status : Status) → IsUnread status → CameTo Writes Refuses status
unread_came Writes Refuses status is = unread_by (CameTo Writes Refuses) status is tt tt (λ n e. tt)
