use Rattle.drmaa_model.specs.History.{IsLegal}
use Rattle.journal_check.specs.declared.checks.Verdict.TheVariants as verdict
use Rattle.journal_check.specs.declared.checks.Replayed.TheVariants as replayed
use Rattle.journal_check.specs.FaultLaws.{fault_not_legal}
use Rattle.journal_check.specs.VerdictLaws.{judged, replayed_fault}
use Rattle.journal_check.proofs.checks.replay_history.Goals as goal

pub returns-in-Legal-clause-only_fault : goal.returns-in-Legal-clause-only_fault
returns-in-Legal-clause-only_fault c = λ number given machine fault.
    let legal : IsLegal c.args.config c.args.entries = judged _ c.args.config _ c.args.entries verdict.Legal c.in-Ok.ensures.ok c.into_vec.ensures c.in-Legal.ensures.judges in
    absurd (fault_not_legal c.args.config c.args.entries number given machine fault legal)

pub returns-in-NotLegal-clause-only_legal : goal.returns-in-NotLegal-clause-only_legal
returns-in-NotLegal-clause-only_legal c = λ legal.
    absurd (fault_not_legal c.args.config c.args.entries c.in-NotLegal.entry c.in-NotLegal.given c.in-NotLegal.machine
    (judged _ c.args.config _ c.args.entries (verdict.NotLegal c.in-NotLegal.entry c.in-NotLegal.given c.in-NotLegal.machine) c.in-Ok.ensures.ok c.into_vec.ensures c.in-NotLegal.ensures.judges) legal)

pub returns-in-NotLegal-clause-only_fault : goal.returns-in-NotLegal-clause-only_fault
returns-in-NotLegal-clause-only_fault c = λ number given machine fault.
    replayed_fault c.args.config c.args.entries (replayed.NotLegal c.in-NotLegal.entry c.in-NotLegal.given c.in-NotLegal.machine) number given machine
    (judged _ c.args.config _ c.args.entries (verdict.NotLegal c.in-NotLegal.entry c.in-NotLegal.given c.in-NotLegal.machine) c.in-Ok.ensures.ok c.into_vec.ensures c.in-NotLegal.ensures.judges) fault
