use Rattle.std.proofs.Common.{◌≡◌, drop, ◌++◌}
use Rattle.job_template.specs.Launch.{command_words}
use Rattle.job_template.proofs.launch.push_command.Given as goal

-- with the args that are left it is all of them
abbrev pub invariant-loop-arg : goal.invariant-loop-arg
invariant-loop-arg l = l.words.items ++ drop l.arg-index l.arg-items ≡ l.fn.words.items ++ command_words l.t
