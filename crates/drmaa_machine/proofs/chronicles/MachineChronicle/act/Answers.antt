use Rattle.std.proofs.Common.{List, sym, subst, IfErr}
use Rattle.drmaa_model.specs.declared.entries.Entry.{Entry}
use Rattle.drmaa_model.specs.History.{IsLegal, replay, now_of}
use Rattle.drmaa_model.specs.RecordedCalls.{recorded}
use Rattle.drmaa_machine.specs.ChronicleLaws.{history-told}
use Rattle.drmaa_machine.specs.Chronicles.{MakesNone}
use Rattle.drmaa_machine.proofs.Tellings.{makes-none}
use Rattle.drmaa_machine.proofs.chronicles.MachineChronicle.act.Goals as goal

pub returns-clause-fails : goal.returns-clause-fails
returns-clause-fails c =
    let e = c.apply.ensures in
    let old = c.args.self.now.ledger in
    subst (λ (h : List Entry). IfErr c.apply.result (MakesNone (replay old.config h) c.args.ask.at (recorded c.args.ask.call)))
    (sym (history-told old.history))
    (makes-none (now_of old) c.args.ask.at c.args.ask.call c.apply.result
    (record { waits = e.waits; finds_nothing = e.finds_nothing; full = e.full; above = e.above; reports = e.reports }))

pub returns-clause-legal : goal.returns-clause-legal
returns-clause-legal c =
    let new = c.apply.new.self.ledger in
    subst (IsLegal new.config) (sym (history-told new.history)) c.apply.ensures.legal
