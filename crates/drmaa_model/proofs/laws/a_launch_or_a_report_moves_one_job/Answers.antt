use Rattle.drmaa_model.specs.MoveLaws.{launch-moves, report-moves, others-stay}
use Rattle.drmaa_model.proofs.laws.a_launch_or_a_report_moves_one_job.Goals as goal

pub returns-clause-launch : goal.returns-clause-launch
returns-clause-launch c = launch-moves

pub returns-clause-report : goal.returns-clause-report
returns-clause-report c = report-moves

pub returns-clause-others : goal.returns-clause-others
returns-clause-others c = others-stay
