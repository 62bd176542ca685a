use Rattle.std.proofs.Common.{ap, ◌∙◌}
use Rattle.text_codec.specs.Formats.{first_spelled}
use Rattle.text_codec.specs.declared.arguments.TheConstants.{LIMITS}
use Rattle.text_codec.specs.ValueWords.{limit_text}
use Rattle.text_codec.specs.ValueWordLaws.{limit_told, limit_stands}
use Rattle.text_codec.proofs.arguments.limit_of.Goals as goal

pub returns-clause-told : goal.returns-clause-told
returns-clause-told c = limit_told c.first_limit.result c.args.word.now c.first_limit.ensures

pub returns-clause-only : goal.returns-clause-only
returns-clause-only c = λ limit t e. c.first_limit.ensures ∙ ap (first_spelled limit_text LIMITS) e ∙ limit_stands limit t
