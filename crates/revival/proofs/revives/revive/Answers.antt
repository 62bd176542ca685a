use Rattle.std.proofs.Common.{◌≡◌, ℕ, List, Option, Result, Err, ◌⊎◌, inl, inr, refl, sym, subst}
use Rattle.drmaa_machine.specs.View.{View}
use Rattle.drmaa_model.specs.declared.configs.Config.{Config}
use Rattle.drmaa_model.specs.declared.entries.Entry.{Entry}
use Rattle.drmaa_model.specs.declared.replies.Reply.{Reply}
use Rattle.drmaa_model.specs.History.{Ledger, replay}
use Rattle.drmaa_model.specs.RecordedCalls.{recorded}
use Rattle.journal_check.specs.FaultLaws.{fault_not_legal}
use Rattle.journal_check.specs.Faults.{FirstFault}
use Rattle.journal_check.specs.declared.checks.Replayed.TheVariants as replayed
use Rattle.std.specs.List.{AllByRecursion}
use Rattle.revival.specs.Stopping.{IsStopped}
use Rattle.revival.specs.StoppingLaws.{stops-recorded}
use Rattle.revival.specs.declared.revives.ReviveFault.{ReviveFault}
use Rattle.revival.specs.declared.revives.ReviveFault.TheVariants as fault
use Rattle.revival.proofs.revives.revive.Goals as goal

-- what a machine came to that has made the entries of a journal
stopped_of : (config : Config) (entries : List Entry) (first last : Ledger) → first ≡ record { config = config; history = entries } → IsStopped first last
    → IsStopped (record { config = config; history = entries }) last
stopped_of config entries first last is stopped = subst (λ (l : Ledger). IsStopped l last) is stopped

still_recorded : (config : Config) (entries : List Entry) (last : Ledger) → IsStopped (record { config = config; history = entries }) last → AllByRecursion (λ (e : Entry). recorded e.call ≡ e.call) entries
    → AllByRecursion (λ (e : Entry). recorded e.call ≡ e.call) last.history
still_recorded config entries last stopped before =
    subst (λ (l : Ledger). AllByRecursion (λ (e : Entry). recorded e.call ≡ e.call) l.history) (sym stopped.is) (stops-recorded entries (replay config entries) before)

pub returns-in-Legal : goal.returns-in-Legal
returns-in-Legal c =
    let config = c.args.journal.config in
    let entries = c.args.journal.entries in
    let made = c.in-Legal.ensures in
    let after = stopped_of config entries c.in-Legal.machine.ledger c.stopped.result.ledger made.replays.1 c.stopped.ensures.stopped in
    record {
      ok = after.is;
      legal = made.replays.0;
      legal_still = after.legal;
      recorded = still_recorded config entries c.stopped.result.ledger after made.recorded;
      fault = λ number given machine same. absurd (cc);
      only_legal = λ legal. inl refl;
      only_fault = λ number given machine first. absurd (fault_not_legal config entries number given machine first made.replays.0);
      stopped = after.keeps.stopped;
      orders = after.keeps.orders;
      rows = after.keeps.rows;
      jobs = after.keeps.jobs;
      sessions = after.keeps.sessions;
      reservations = after.keeps.reservations;
      moment = after.keeps.moment;
      size = after.keeps.small;
    }

-- a fault that is told is the one that was found
told_fault : (config : Config) (entries : List Entry) (entry number : ℕ) (given was : Reply) (machine own : Option Reply)
    → ◌≡◌ {A = Result View ReviveFault} (Err (fault.NotLegal entry given machine)) (Err (fault.NotLegal number was own)) → FirstFault config entries entry given machine → FirstFault config entries number was own
told_fault config entries entry number given was machine own same found =
    let first : entry ≡ number = cc in
    let second : given ≡ was = cc in
    let third : machine ≡ own = cc in
    subst (λ (n : ℕ). FirstFault config entries n was own) first
    (subst (λ (r : Reply). FirstFault config entries entry r own) second
    (subst (λ (o : Option Reply). FirstFault config entries entry given o) third found))

same_fault : (entry number : ℕ) (given was : Reply) (machine own : Option Reply)
    → (replayed.NotLegal entry given machine ≡ replayed.NotLegal number was own) ⊎ (replayed.NotLegal entry given machine ≡ replayed.OutOfMemory)
    → (◌≡◌ {A = Result View ReviveFault} (Err (fault.NotLegal entry given machine)) (Err (fault.NotLegal number was own))) ⊎ (◌≡◌ {A = Result View ReviveFault} (Err (fault.NotLegal entry given machine)) (Err fault.OutOfMemory))
same_fault entry number given was machine own (inl e) = inl cc
same_fault entry number given was machine own (inr e) = absurd (cc)

pub returns-in-NotLegal-clause-fault : goal.returns-in-NotLegal-clause-fault
returns-in-NotLegal-clause-fault c = λ number given machine same.
    told_fault c.args.journal.config c.args.journal.entries c.in-NotLegal.entry number c.in-NotLegal.given given c.in-NotLegal.machine machine same c.in-NotLegal.ensures.replays

pub returns-in-NotLegal-clause-only_legal : goal.returns-in-NotLegal-clause-only_legal
returns-in-NotLegal-clause-only_legal c = λ legal.
    absurd (fault_not_legal c.args.journal.config c.args.journal.entries c.in-NotLegal.entry c.in-NotLegal.given c.in-NotLegal.machine c.in-NotLegal.ensures.replays legal)

pub returns-in-NotLegal-clause-only_fault : goal.returns-in-NotLegal-clause-only_fault
returns-in-NotLegal-clause-only_fault c = λ number given machine first.
    same_fault c.in-NotLegal.entry number c.in-NotLegal.given given c.in-NotLegal.machine machine (c.in-NotLegal.ensures.only_fault number given machine first)
