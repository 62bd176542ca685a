use Rattle.std.proofs.Common.{◌∙◌, sym, subst, Bool}
use Rattle.drmaa_model.specs.declared.calls.Call.{Call}
use Rattle.drmaa_model.specs.declared.faults.NoEntry.{NoEntry}
use Rattle.attendant.specs.Posts.{post, Fails}
use Rattle.attendant.specs.Steps.{Reports}
use Rattle.attendant.proofs.Desks.{err-cause, reports-start}
use Rattle.attendant.proofs.launching.report_start.Goals as goal

pub returns-clause-cause : goal.returns-clause-cause
returns-clause-cause g c not =
    subst (λ (k : Call). (fault : NoEntry) × Fails (post g.C.Clock.given g.C.Clock.least c.args.desk.now) k fault (post g.C.Clock.given g.C.Clock.least c.ask.new.desk)) c.start_report-call.ensures.call
    (err-cause (post g.C.Clock.given g.C.Clock.least c.args.desk.now) (post g.C.Clock.given g.C.Clock.least c.ask.new.desk) _ _ c.ask.result c.ask.ensures.err (sym c.is_ok.ensures.value ∙ not))

pub returns-clause-made : goal.returns-clause-made
returns-clause-made g c =
    subst (λ (b : Bool). Reports (post g.C.Clock.given g.C.Clock.least c.args.desk.now) c.args.began c.args.launch.now b (post g.C.Clock.given g.C.Clock.least c.ask.new.desk)) (sym c.is_ok.ensures.value)
    (reports-start (post g.C.Clock.given g.C.Clock.least c.args.desk.now) (post g.C.Clock.given g.C.Clock.least c.ask.new.desk) c.args.began c.args.launch.now _ c.ask.result
    c.start_report-call.ensures.call c.start_report-call.ensures.duty c.ask.ensures.ok c.ask.ensures.served c.ask.ensures.err)
