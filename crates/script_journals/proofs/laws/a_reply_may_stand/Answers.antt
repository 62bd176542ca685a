use Rattle.script_journals.specs.AnsweredLaws.{answer-stands}
use Rattle.script_journals.proofs.laws.a_reply_may_stand.Goals as goal

pub returns : goal.returns
returns c = λ w at asked told next is. answer-stands w at asked told next is
