use Rattle.std.proofs.Common.{◌≡◌, ◌++◌, drop, string_bytes}
use Rattle.run_chart.specs.Drawing.{words_text}
use Rattle.run_chart.proofs.drawing.push_words.Given as goal

-- what was written so far, and what is left, is all that is written
abbrev pub invariant-loop-word : goal.invariant-loop-word
invariant-loop-word l = string_bytes l.out ++ words_text (drop l.word-index l.words) ≡ string_bytes l.fn.out ++ words_text l.words
