use Rattle.std.proofs.Common.{◌≡◌, ◌++◌, ◌<◌}
use Rattle.std.specs.Prelude.{string_bytes}
use Rattle.text_lines.specs.Lines.{ended}
use Rattle.soak_script.specs.Draws.{draw}
use Rattle.soak_script.specs.Lines.{for_each, template_lines}
use Rattle.soak_script.proofs.scripts.push_templates.Given as goal

-- the draw, and what was written, are those of the steps so far
abbrev pub invariant-loop-before : goal.invariant-loop-before
invariant-loop-before l = record {
  small : l.draw < 2_147_483_648;
  drawn : l.draw ≡ draw l.seed l.before;
  text : string_bytes l.out ≡ string_bytes l.initial.out ++ ended (for_each (template_lines l.seed) l.before);
}
