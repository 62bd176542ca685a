use Rattle.std.proofs.Common.{◌≡◌, ◌+◌, drop}
use Rattle.script_commands.specs.Registers.{registers_in}
use Rattle.script_commands.proofs.registers.left_behind.Given as goal

-- those of the lines that are left are not yet taken
abbrev pub invariant-loop-place : goal.invariant-loop-place
invariant-loop-place l = l.callbacks + registers_in (drop l.place l.block) ≡ l.left + registers_in l.block
