-- How a journal decides a command that wants it legal.
use Rattle.std.proofs.Common.{◌≡◌, ℕ, List, Option, ◌⊎◌, inl, inr, refl, subst}
use Rattle.drmaa_machine.specs.View.{View}
use Rattle.drmaa_model.specs.declared.replies.Reply.{Reply}
use Rattle.drmaa_model.specs.History.{Ledger}
use Rattle.journal_check.specs.declared.checks.Replayed.TheVariants as replayed
use Rattle.journal_check.specs.Verdicts.{IsMachine}
use Rattle.journal_text.specs.declared.journals.Journal.{Journal}
use Rattle.journal_commands.specs.declared.status.Status.TheVariants.{NotLegal}
use Rattle.journal_commands.specs.Commands.{Judged}
use Rattle.journal_commands.specs.Replays.{IsReplayOf}
use Rattle.journal_commands.specs.Statuses.{ended_as}

-- a machine is no fault, and a fault no machine
no_fault : (m : View) (entry : ℕ) (given : Reply) (machine : Option Reply) → (replayed.Legal m ≡ replayed.NotLegal entry given machine) ⊎ (replayed.Legal m ≡ replayed.OutOfMemory) → ⊥
no_fault m entry given machine (inl e) = cc
no_fault m entry given machine (inr e) = cc

no_machine : (entry : ℕ) (given : Reply) (machine : Option Reply) → IsMachine (replayed.NotLegal entry given machine) ⊎ (replayed.NotLegal entry given machine ≡ replayed.OutOfMemory) → ⊥
no_machine entry given machine (inl h) = h
no_machine entry given machine (inr e) = cc

same_fault : (entry number : ℕ) (given was : Reply) (machine told : Option Reply)
    → (replayed.NotLegal entry given machine ≡ replayed.NotLegal number was told) ⊎ (replayed.NotLegal entry given machine ≡ replayed.OutOfMemory)
    → NotLegal entry given machine ≡ NotLegal number was told
same_fault entry number given was machine told (inl e) = cc
same_fault entry number given was machine told (inr e) = absurd (cc)

module _ (Makes : Ledger → List ℕ → Option ℕ → Type 0) (j : Journal) where
  pub judged_legal : (m : View) (text : List ℕ) (full : Option ℕ) → IsReplayOf j (replayed.Legal m) → Makes m.ledger text full → Judged Makes j (ended_as full)
  judged_legal m text full r makes = record {
    legal = λ _. record { text = text; full = full; made = subst (λ (l : Ledger). Makes l text full) r.replays.1 makes; ended = refl };
    fault = λ entry given machine f. absurd (no_fault m entry given machine (r.fault entry given machine f));
  }

  pub judged_fault : (entry : ℕ) (given : Reply) (machine : Option Reply) → IsReplayOf j (replayed.NotLegal entry given machine) → Judged Makes j (NotLegal entry given machine)
  judged_fault entry given machine r = record {
    legal = λ legal. absurd (no_machine entry given machine (r.legal legal));
    fault = λ number was told f. same_fault entry number given was machine told (r.fault number was told f);
  }
