use Rattle.std.proofs.Common.{◌≡◌, ℕ, Option, ◌⊎◌, inl, inr}
use Rattle.drmaa_machine.specs.View.{View}
use Rattle.drmaa_model.specs.declared.replies.Reply.{Reply}
use Rattle.journal_check.specs.declared.checks.Verdict.TheVariants as verdict
use Rattle.journal_check.specs.declared.checks.Replayed.TheVariants as replayed
use Rattle.journal_check.proofs.checks.check.Goals as goal

-- a machine is no fault
no_fault : (m : View) (number : ℕ) (given : Reply) (machine : Option Reply) → (replayed.Legal m ≡ replayed.NotLegal number given machine) ⊎ (replayed.Legal m ≡ replayed.OutOfMemory) → ⊥
no_fault m number given machine (inl e) = cc
no_fault m number given machine (inr e) = cc

same_fault : (entry number : ℕ) (given was : Reply) (machine told : Option Reply)
    → (replayed.NotLegal entry given machine ≡ replayed.NotLegal number was told) ⊎ (replayed.NotLegal entry given machine ≡ replayed.OutOfMemory)
    → (verdict.NotLegal entry given machine ≡ verdict.NotLegal number was told) ⊎ (verdict.NotLegal entry given machine ≡ verdict.OutOfMemory)
same_fault entry number given was machine told (inl e) = inl cc
same_fault entry number given was machine told (inr e) = absurd (cc)

pub returns-in-Legal-clause-only_fault : goal.returns-in-Legal-clause-only_fault
returns-in-Legal-clause-only_fault c = λ number given machine fault. absurd (no_fault _ number given machine (c.in-Legal.ensures.only_fault number given machine fault))

pub returns-in-NotLegal-clause-only_fault : goal.returns-in-NotLegal-clause-only_fault
returns-in-NotLegal-clause-only_fault c = λ number given machine fault.
    same_fault c.in-NotLegal.entry number c.in-NotLegal.given given c.in-NotLegal.machine machine (c.in-NotLegal.ensures.only_fault number given machine fault)
