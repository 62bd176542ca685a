use Rattle.drmaa_model.specs.LegalRunLaws.{begin-last, exit-last, tell-last}
use Rattle.drmaa_model.specs.Reporting.{start_row, unstart_row, end_row, lose_row, done_row, undone_row}
use Rattle.drmaa_model.proofs.runs.a_report_is_of_the_last_launch.Goals as goal

pub returns-clause-started : goal.returns-clause-started
returns-clause-started c = λ config history at job attempt legal free. begin-last config history at job attempt start_row legal free

pub returns-clause-start_failed : goal.returns-clause-start_failed
returns-clause-start_failed c = λ config history at job attempt legal free. begin-last config history at job attempt unstart_row legal free

pub returns-clause-exited : goal.returns-clause-exited
returns-clause-exited c = λ config history at job attempt exit legal free. exit-last config history at job attempt (end_row exit) legal free

pub returns-clause-exit_unknown : goal.returns-clause-exit_unknown
returns-clause-exit_unknown c = λ config history at job attempt legal free. exit-last config history at job attempt lose_row legal free

pub returns-clause-signal_done : goal.returns-clause-signal_done
returns-clause-signal_done c = λ config history at job attempt kind legal free. tell-last config history at job attempt kind (done_row kind) legal free

pub returns-clause-signal_failed : goal.returns-clause-signal_failed
returns-clause-signal_failed c = λ config history at job attempt kind legal free. tell-last config history at job attempt kind (undone_row kind) legal free
