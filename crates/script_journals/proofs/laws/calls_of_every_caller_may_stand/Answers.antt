use Rattle.script_journals.specs.Calls.{CallMayStand}
use Rattle.script_journals.specs.HistoryLaws.{every_caller}
use Rattle.script_journals.proofs.laws.calls_of_every_caller_may_stand.Goals as goal

pub returns : goal.returns
returns c = every_caller CallMayStand
