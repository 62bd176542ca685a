use Rattle.script_journals.specs.HistoryLaws.{attendants-stand}
use Rattle.script_journals.proofs.laws.what_the_attendant_asks_may_stand.Goals as goal

pub returns : goal.returns
returns c = attendants-stand
