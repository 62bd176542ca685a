use Rattle.std.proofs.Common.{◌≡◌, drop}
use Rattle.script_asks.specs.Asks.{numbers_of}
use Rattle.script_asks.specs.Numbers.{joined}
use Rattle.script_asks.proofs.numbers.items_of.Given as goal

-- the numbers so far, and those of the references that are left
abbrev pub invariant-loop-reference : goal.invariant-loop-reference
invariant-loop-reference l = joined l.numbers.items (numbers_of l.names (drop l.reference-index l.references)) ≡ numbers_of l.fn.names l.fn.references
