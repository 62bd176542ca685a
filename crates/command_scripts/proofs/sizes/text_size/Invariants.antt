use Rattle.std.proofs.Common.{◌≡◌, ◌≤◌, ◌+◌, ◌*◌, drop, length}
use Rattle.std.specs.List.{flat_map}
use Rattle.text_codec.specs.Lexical.{escaped}
use Rattle.command_scripts.proofs.sizes.text_size.Given as goal

-- the bytes that were counted so far, and those that are left, are all of them
abbrev pub invariant-loop-byte : goal.invariant-loop-byte
invariant-loop-byte l =
    (l.size + length (flat_map escaped (drop l.byte-index l.text)) ≡ length (flat_map escaped l.text)) × (l.size ≤ 4 * l.byte-index)
