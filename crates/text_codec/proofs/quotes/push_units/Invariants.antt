use Rattle.std.proofs.Common.{◌≡◌, ◌++◌, drop}
use Rattle.std.specs.List.{flat_map}
use Rattle.text_codec.specs.Lexical.{escaped}
use Rattle.text_codec.proofs.quotes.push_units.Given as goal

-- what was printed so far, and what is left, are all of it
abbrev pub invariant-loop-byte : goal.invariant-loop-byte
invariant-loop-byte l = l.out.items ++ flat_map escaped (drop l.byte-index l.bytes) ≡ l.initial.out.items ++ flat_map escaped l.bytes
