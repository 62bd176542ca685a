use Rattle.script_journals.specs.PlayedLaws.{play-printable}
use Rattle.script_journals.proofs.laws.a_play_is_printable.Goals as goal

pub returns : goal.returns
returns c = λ mode lines script is. play-printable mode lines script is
