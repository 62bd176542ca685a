use Rattle.std.proofs.Common.{◌≡◌, ◌++◌, ◌<◌, ◌-◌}
use Rattle.std.specs.Prelude.{string_bytes}
use Rattle.text_lines.specs.Lines.{ended}
use Rattle.soak_script.specs.Draws.{draw}
use Rattle.soak_script.specs.Lines.{for_each, step_lines}
use Rattle.soak_script.proofs.scripts.push_steps.Given as goal

-- the draws, and what was written, are those of the steps so far
abbrev pub invariant-loop-before : goal.invariant-loop-before
invariant-loop-before l = record {
  small : l.draw < 2_147_483_648;
  drawn : l.draw ≡ draw l.seed l.before;
  ended_small : l.ended_draw < 2_147_483_648;
  ended_drawn : l.ended_draw ≡ draw l.seed (l.before - 50);
  text : string_bytes l.out ≡ string_bytes l.initial.out ++ ended (for_each (step_lines l.seed) l.before);
}
