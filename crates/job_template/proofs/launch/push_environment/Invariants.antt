use Rattle.std.proofs.Common.{◌≡◌, map, drop, ◌++◌}
use Rattle.job_template.specs.Launch.{environment_words, pair_word}
use Rattle.job_template.proofs.launch.push_environment.Given as goal

-- with the words of the pairs that are left it is all of them
abbrev pub invariant-loop-pair : goal.invariant-loop-pair
invariant-loop-pair l =
    l.words.items ++ map pair_word (drop l.pair-index l.t.job_environment) ≡ l.fn.words.items ++ environment_words l.t
