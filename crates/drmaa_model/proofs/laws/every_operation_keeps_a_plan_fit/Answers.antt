use Rattle.drmaa_model.specs.ControlLaws.{control-keeps, reap-keeps}
use Rattle.drmaa_model.specs.FitLaws.{advance-fit}
use Rattle.drmaa_model.specs.HomeLaws.{forget-fit}
use Rattle.drmaa_model.specs.LaunchFit.{launch-keeps}
use Rattle.drmaa_model.specs.ReportLaws.{report-keeps, signal-keeps}
use Rattle.drmaa_model.specs.RequestLaws.{request-keeps, end-keeps}
use Rattle.drmaa_model.specs.SubmitLaws.{submit-keeps}
use Rattle.drmaa_model.proofs.laws.every_operation_keeps_a_plan_fit.Goals as goal

pub returns-clause-time : goal.returns-clause-time
returns-clause-time c = advance-fit

pub returns-clause-submit : goal.returns-clause-submit
returns-clause-submit c = submit-keeps

pub returns-clause-control : goal.returns-clause-control
returns-clause-control c = control-keeps

pub returns-clause-reap : goal.returns-clause-reap
returns-clause-reap c = reap-keeps

pub returns-clause-launch : goal.returns-clause-launch
returns-clause-launch c = launch-keeps

pub returns-clause-report : goal.returns-clause-report
returns-clause-report c = report-keeps

pub returns-clause-signal : goal.returns-clause-signal
returns-clause-signal c = signal-keeps

pub returns-clause-request : goal.returns-clause-request
returns-clause-request c = request-keeps

pub returns-clause-end : goal.returns-clause-end
returns-clause-end c = end-keeps

pub returns-clause-home : goal.returns-clause-home
returns-clause-home c = forget-fit
