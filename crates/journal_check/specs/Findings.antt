-- What the machine makes of one entry: our profile.
use Rattle.std.specs.Prelude.{◌≡◌, Some}
use Rattle.drmaa_model.specs.declared.entries.Entry.{Entry}
use Rattle.drmaa_model.specs.declared.replies.Reply.{Reply}
use Rattle.drmaa_model.specs.History.{Ledger, IsLegal, now_of}
use Rattle.drmaa_machine.specs.Applying.{served}
use Rattle.journal_check.specs.declared.steps.Finding.{Finding}
use Rattle.journal_check.specs.declared.steps.Finding.TheVariants as finding
use Rattle.journal_check.specs.Faults.{IsFault}

-- the entry was served, and the history is legal
pub record Serves (old : Ledger) (entry : Entry) (new : Ledger) : Type 0 where
  pub serves : new ≡ served old entry
  pub legal : IsLegal new.config new.history

-- A step is served. A fault is no step from the world of the ledger. Want of memory says nothing.
abbrev pub Finds : Ledger → Entry → Finding → Ledger → Type 0
Finds old entry finding.Step new = Serves old entry new
Finds old entry (finding.Fault given machine) new = IsFault (now_of old) entry given machine
Finds old entry finding.OutOfMemory new = Unit {0}

-- a step where the replies are the same, and otherwise both of them
abbrev pub Compares : Reply → Reply → Finding → Type 0
Compares given own finding.Step = own ≡ given
Compares given own (finding.Fault told machine) = (¬ (own ≡ given)) × (told ≡ given) × (machine ≡ Some own)
Compares given own finding.OutOfMemory = ⊥
