use Rattle.std.proofs.Common.{◌≡◌, ◌++◌, ◌+◌, drop}
use Rattle.text_lines.specs.Lines.{ended}
use Rattle.command_scripts.specs.Asks.{ask_line}
use Rattle.command_scripts.specs.Texts.{for_each}
use Rattle.command_scripts.proofs.printing.push_asks.Given as goal

-- what was printed so far, and what is left, are all of it
abbrev pub invariant-loop-i : goal.invariant-loop-i
invariant-loop-i l =
    l.out.items ++ ended (for_each (ask_line l.fn.ask) (l.i + 1) (drop l.i l.commands)) ≡ l.initial.out.items ++ ended (for_each (ask_line l.fn.ask) 1 l.commands)
