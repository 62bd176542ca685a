use Rattle.std.proofs.Common.{◌≡◌, ◌++◌, ◌+◌, drop}
use Rattle.text_lines.specs.Lines.{ended}
use Rattle.command_scripts.specs.Texts.{all_templates}
use Rattle.command_scripts.proofs.printing.push_templates.Given as goal

-- what was printed so far, and what is left, are all of it
abbrev pub invariant-loop-i : goal.invariant-loop-i
invariant-loop-i l = l.out.items ++ ended (all_templates (l.i + 1) (drop l.i l.commands)) ≡ l.initial.out.items ++ ended (all_templates 1 l.commands)
