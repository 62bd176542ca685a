use Rattle.std.proofs.Common.{length, ap, sym, ◌∙◌}
use Rattle.script_text.specs.BlockTextLaws.{length_said}
use Rattle.script_text.proofs.blocks.Block.len.Goals as goal

pub returns : goal.returns
returns c = c.len.ensures ∙ sym (length_said c.self.inside.texts c.self.invariant.0) ∙ ap length c.self.view_is
