use Rattle.std.proofs.Common.{◌≡◌, ◌++◌, take}
use Rattle.std.specs.Process.{command_args, command_program}
use Rattle.child_spawner.specs.Launch.{IsPlain}
use Rattle.child_spawner.proofs.shell.push_words.Given as goal

-- the words so far are among the arguments
abbrev pub invariant-loop-word : goal.invariant-loop-word
invariant-loop-word l =
    (command_program l.command ≡ command_program l.initial.command) × (command_args l.command ≡ command_args l.initial.command ++ take l.word-index l.word-items)
    × (IsPlain l.initial.command → IsPlain l.command)
