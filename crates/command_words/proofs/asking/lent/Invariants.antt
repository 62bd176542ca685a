use Rattle.std.proofs.Common.{◌≡◌, ◌++◌, map, drop}
use Rattle.command_words.proofs.asking.lent.Given as goal

-- the words so far, and those left, are all of them
abbrev pub invariant-loop-word : goal.invariant-loop-word
invariant-loop-word l = map (λ w. w.now) l.lent.items ++ drop l.word-index l.words ≡ l.words
