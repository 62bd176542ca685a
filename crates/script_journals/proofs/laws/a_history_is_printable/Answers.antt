use Rattle.script_journals.specs.HistoryLaws.{history-printable}
use Rattle.script_journals.proofs.laws.a_history_is_printable.Goals as goal

pub returns : goal.returns
returns c = history-printable
