use Rattle.drmaa_model.specs.SizeLaws.{step-size, run-size}
use Rattle.drmaa_model.proofs.laws.a_report_finds_room.Goals as goal

pub returns-clause-step : goal.returns-clause-step
returns-clause-step c = step-size

pub returns-clause-report : goal.returns-clause-report
returns-clause-report c = run-size
