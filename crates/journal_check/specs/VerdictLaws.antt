-- The laws of verdicts: a history has one, beside want of memory.
use Rattle.std.proofs.Common.{◌≡◌, ℕ, List, [], Option, ◌⊎◌, inl, inr, refl, subst}
use Rattle.drmaa_model.specs.declared.configs.Config.{Config}
use Rattle.drmaa_model.specs.declared.entries.Entry.{Entry}
use Rattle.drmaa_model.specs.declared.replies.Reply.{Reply}
use Rattle.drmaa_model.specs.History.{Ledger}
use Rattle.journal_check.specs.declared.checks.Verdict.{Verdict}
use Rattle.journal_check.specs.Faults.{FirstFault}
use Rattle.journal_check.specs.FaultLaws.{fault_not_legal, one_fault}
use Rattle.journal_check.specs.declared.checks.Replayed.{Replayed}
use Rattle.journal_check.specs.declared.checks.Replayed.TheVariants as replayed
use Rattle.journal_check.specs.Verdicts.{Judges, Replays}

-- a verdict of the entries that a ledger was to serve
pub judged : (ledger : Ledger) (config : Config) (items entries : List Entry) (v : Verdict) → ledger ≡ record { config = config; history = [] } → items ≡ entries → Judges ledger.config items v → Judges config entries v
judged ledger config items entries v fresh same judges =
    subst (λ (es : List Entry). Judges config es v) same (subst (λ (l : Ledger). Judges l.config items v) fresh judges)

pub replayed_fault : (config : Config) (entries : List Entry) (r : Replayed) (number : ℕ) (given : Reply) (machine : Option Reply) → Replays config entries r → FirstFault config entries number given machine
    → (r ≡ replayed.NotLegal number given machine) ⊎ (r ≡ replayed.OutOfMemory)
replayed_fault config entries (replayed.Legal made) number given machine replays fault = absurd (fault_not_legal config entries number given machine fault replays.0)
replayed_fault config entries (replayed.NotLegal n told own) number given machine replays fault =
    let same = one_fault config entries n number told given own machine replays fault in
    let first = same.0 in
    let second = same.1 in
    let third = same.2 in
    inl cc
replayed_fault config entries replayed.OutOfMemory number given machine replays fault = inr refl
