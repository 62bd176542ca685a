use Rattle.std.proofs.Common.{◌≡◌, ◌+◌, drop}
use Rattle.std.specs.Prelude.{sum_by}
use Rattle.script_commands.specs.Registers.{registers_in, registers_of}
use Rattle.script_commands.proofs.registers.are_enough.Given as goal

-- those of the blocks that are left are not yet taken
abbrev pub invariant-loop-block : goal.invariant-loop-block
invariant-loop-block l = l.callbacks + sum_by registers_in (drop l.block-index l.script.clients) ≡ l.left + registers_of l.script
