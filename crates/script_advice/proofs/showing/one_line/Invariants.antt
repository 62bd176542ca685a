use Rattle.std.proofs.Common.{◌≡◌, true}
use Rattle.std.specs.List.{list_all}
use Rattle.text_codec.specs.Lexical.{no_feed}
use Rattle.script_advice.proofs.showing.one_line.Given as goal

abbrev pub invariant-loop-byte : goal.invariant-loop-byte
invariant-loop-byte l = list_all no_feed l.out.items ≡ true
