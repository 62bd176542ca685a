-- How a run ends, by what was read and what was written.
use Rattle.std.proofs.Common.{◌≡◌, ◌⊎◌, inl, inr, ℕ, List, Option, Some, None, Result, Ok, Err, sym, ap, subst, ◌∙◌}
use Rattle.std.specs.Prelude.{IfSome}
use Rattle.script_text.specs.declared.scripts.Script.{Script}
use Rattle.script_text.specs.declared.scripts.Mode.TheVariants.{Serial, Threads}
use Rattle.journal_commands.specs.declared.status.Status.{Status}
use Rattle.journal_commands.specs.declared.status.Status.TheVariants.{Done, Text, Words, ReadFault, WriteFault, Memory, JournalFull, NotLegal}
use Rattle.journal_commands.specs.Outcomes.{OutputEnds}
use Rattle.journal_commands.specs.Statuses.{IsUnread}
use Rattle.journal_commands.specs.StatusLaws.{unread_by, unread_refused}
use Rattle.lint_command.specs.declared.judging.Refused.{Refused}
use Rattle.lint_command.specs.declared.judging.Refused.TheVariants.{Line, OutOfMemory}
use Rattle.lint_command.specs.Kinds.{IsBadLine, IsJudged, IsLinted}
use Rattle.lint_command.specs.Refusals.{IsOneLine, IsRefusedBy, advice_at}
use Rattle.lint_command.specs.Outcomes.{IsAdvised, status_at}
use Rattle.lint_command.specs.Ends.{LintEnds, LintIsWhole}

-- ---- nothing was made

pub made_as : (text want : List ℕ) → (◌≡◌ {A = Result (List ℕ) Refused} (Ok text) (Ok want)) ⊎ (◌≡◌ {A = Result (List ℕ) Refused} (Ok text) (Err OutOfMemory)) → text ≡ want
made_as text want (inl e) = cc
made_as text want (inr e) = absurd (cc)

pub short_as : (r : Refused) (want : List ℕ) (status : Status) → status ≡ status_at r
    → (◌≡◌ {A = Result (List ℕ) Refused} (Err r) (Ok want)) ⊎ (◌≡◌ {A = Result (List ℕ) Refused} (Err r) (Err OutOfMemory)) → (status ≡ ReadFault) ⊎ (status ≡ Memory)
short_as r want status is (inl e) = absurd (cc)
short_as r want status is (inr e) = let same : r ≡ OutOfMemory = cc in inr (is ∙ ap status_at same)

pub bad_at : (bytes : List ℕ) (r : Refused) (status : Status) (n : ℕ) → status ≡ status_at r → status ≡ Text n → IsRefusedBy bytes r → IsBadLine bytes n
bad_at bytes (Line m advice) status n is e bad = let same : m ≡ n = cc in subst (IsBadLine bytes) same bad
bad_at bytes OutOfMemory status n is e bad = absurd (cc)

pub refused_unread : (r : Refused) (status : Status) → status ≡ status_at r → IsUnread status
refused_unread (Line m advice) status is = subst IsUnread (sym is) tt
refused_unread OutOfMemory status is = subst IsUnread (sym is) tt

pub refused_reads : (r : Refused) (status : Status) (P : Type 0) → status ≡ status_at r → status ≡ ReadFault → P
refused_reads (Line m advice) status P is e = absurd (cc)
refused_reads OutOfMemory status P is e = absurd (cc)

-- ---- what is advised

pub refused_advised : (r : Refused) (status : Status) (advice : Option (List ℕ)) → status ≡ status_at r → advice ≡ advice_at r → IfSome (advice_at r) IsOneLine → IsAdvised status advice
refused_advised (Line m a) status advice is same h = subst (λ s. IsAdvised s advice) (sym is) (subst (λ o. IfSome o IsOneLine) (sym same) h)
refused_advised OutOfMemory status advice is same h = subst (λ s. IsAdvised s advice) (sym is) same

pub unread_advised : (status : Status) (advice : Option (List ℕ)) → (status ≡ ReadFault) ⊎ (status ≡ Memory) → advice ≡ None → IsAdvised status advice
unread_advised status advice (inl e) none = subst (λ s. IsAdvised s advice) (sym e) none
unread_advised status advice (inr e) none = subst (λ s. IsAdvised s advice) (sym e) none

pub written_advised : (text : List ℕ) (status : Status) (old new : Option (List ℕ)) (advice : Option (List ℕ)) → OutputEnds text None status old new → advice ≡ None → IsAdvised status advice
written_advised text Done old new advice ends none = none
written_advised text (Text n) old new advice ends none = absurd ends
written_advised text Words old new advice ends none = none
written_advised text ReadFault old new advice ends none = none
written_advised text WriteFault old new advice ends none = none
written_advised text Memory old new advice ends none = none
written_advised text (JournalFull size) old new advice ends none = none
written_advised text (NotLegal entry given machine) old new advice ends none = none

-- ---- what was written

pub written_ends : (bytes text : List ℕ) (status : Status) (old new : Option (List ℕ)) → IsLinted bytes text → OutputEnds text None status old new → LintEnds bytes status old new
written_ends bytes text Done old new is ends = (text, is, ends.1)
written_ends bytes text (Text n) old new is ends = absurd ends
written_ends bytes text Words old new is ends = ends
written_ends bytes text ReadFault old new is ends = tt
written_ends bytes text WriteFault old new is ends = (text, is, ends)
written_ends bytes text Memory old new is ends = tt
written_ends bytes text (JournalFull size) old new is ends = absurd (cc (ends.0))
written_ends bytes text (NotLegal entry given machine) old new is ends = ends

pub written_whole : (bytes text : List ℕ) (status : Status) → IsLinted bytes text → status ≡ Done → LintIsWhole bytes status
written_whole bytes text status is e = record {
  script = λ s judged. inr e;
  other = λ none. absurd (elim is.judged as (λ _. ⊥) [
    | inl h ↦ none Serial is.script h
    | inr h ↦ none Threads is.script h.1
  ]);
}

-- ---- nothing was written

pub unread_ends : (bytes : List ℕ) (status : Status) (old new : Option (List ℕ)) → IsUnread status → ((n : ℕ) → status ≡ Text n → IsBadLine bytes n) → LintEnds bytes status old new
unread_ends bytes status old new is line = unread_by (λ s. LintEnds bytes s old new) status is tt tt (λ n e. line n e)

memory_left : (status : Status) → (status ≡ ReadFault → ⊥) → (status ≡ ReadFault) ⊎ (status ≡ Memory) → (status ≡ Memory) ⊎ (status ≡ Done)
memory_left status calm (inl e) = absurd (calm e)
memory_left status calm (inr e) = inl e

pub unread_whole : (bytes : List ℕ) (status : Status) → IsUnread status → (status ≡ ReadFault → ⊥) → ((s : Script) → IsJudged bytes s → (status ≡ ReadFault) ⊎ (status ≡ Memory)) → LintIsWhole bytes status
unread_whole bytes status is calm only = record {
  script = λ s judged. memory_left status calm (only s judged);
  other = λ none. unread_refused status is calm;
}

-- ---- the end of a run that had a text

pub run_ends : (bytes text shown : List ℕ) (status written : Status) (old new : Option (List ℕ)) → shown ≡ text → status ≡ written → IsLinted bytes text
    → OutputEnds shown None written old new → LintEnds bytes status old new
run_ends bytes text shown status written old new same is linted ends =
    subst (λ s. LintEnds bytes s old new) (sym is) (written_ends bytes shown written old new (subst (IsLinted bytes) (sym same) linted) ends)

pub run_advised : (shown : List ℕ) (status written : Status) (old new : Option (List ℕ)) (advice : Option (List ℕ)) → status ≡ written → OutputEnds shown None written old new
    → advice ≡ None → IsAdvised status advice
run_advised shown status written old new advice is ends none = subst (λ s. IsAdvised s advice) (sym is) (written_advised shown written old new advice ends none)

pub no_line_written : (shown : List ℕ) (status written : Status) (old new : Option (List ℕ)) (n : ℕ) (P : Type 0) → status ≡ written → OutputEnds shown None written old new
    → status ≡ Text n → P
no_line_written shown status written old new n P is ends e = absurd (subst (λ s. OutputEnds shown None s old new) (sym is ∙ e) ends)

pub no_read_fault : (shown : List ℕ) (status written : Status) (old new : Option (List ℕ)) (P : Type 0) → status ≡ written → OutputEnds shown None written old new
    → status ≡ ReadFault → P
no_read_fault shown status written old new P is ends e = absurd (subst (λ s. OutputEnds shown None s old new) (sym is ∙ e) ends)

-- ---- the end of a run that had none

pub some_always : {A : Type 0} (o : Option A) (P : A → Type 0) → ((x : A) → P x) → IfSome o P
some_always None P h = tt
some_always (Some x) P h = h x

pub same_fault : (a b : Status) → a ≡ b → (b ≡ ReadFault) ⊎ (b ≡ Memory) → (a ≡ ReadFault) ⊎ (a ≡ Memory)
same_fault a b is (inl e) = inl (is ∙ e)
same_fault a b is (inr e) = inr (is ∙ e)

pub no_text : (status : Status) (n : ℕ) (P : Type 0) → (status ≡ ReadFault) ⊎ (status ≡ Memory) → status ≡ Text n → P
no_text status n P (inl e) h = absurd (cc)
no_text status n P (inr e) h = absurd (cc)

pub fault_unread : (status : Status) → (status ≡ ReadFault) ⊎ (status ≡ Memory) → IsUnread status
fault_unread status (inl e) = subst IsUnread (sym e) tt
fault_unread status (inr e) = subst IsUnread (sym e) tt
