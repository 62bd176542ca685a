use Rattle.std.proofs.Common.{refl, ◌∙◌}
use Rattle.script_lines.specs.LineWords.{HasAllOfSize}
use Rattle.script_lines.proofs.words.line_word_of.Goals as goal

pub returns : goal.returns
unfolding HasAllOfSize
returns c = c.first_among.ensures ∙ c.words_of_size.ensures c.args.word.now refl
