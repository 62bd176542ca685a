use Rattle.std.proofs.Common.{◌+◌, refl, sym, ap, ◌∙◌, append-nil}
use Rattle.std.specs.Prelude.{string_bytes}
use Rattle.soak_script.specs.Draws.{draw, next_draw}
use Rattle.soak_script.proofs.Texts.{draw_first, draw_more, ended_next, steps_more}
use Rattle.soak_script.proofs.scripts.push_steps.Goals as goal

pub loop-before-init : goal.loop-before-init
loop-before-init c = record {
  small = c.requires.seed;
  drawn = sym (draw_first c.args.seed);
  ended_small = c.requires.seed;
  ended_drawn = sym (draw_first c.args.seed);
  text = sym (append-nil (string_bytes c.args.out.now));
}

pub loop-before-preserved : goal.loop-before-preserved
loop-before-preserved c =
    let step = c.loop-before.before in
    let drawn = c.next_draw-draw.ensures.next ∙ ap next_draw c.loop-before.invariant.drawn ∙ sym (draw_more c.args.seed step) in
    let ended_drawn = ended_next c.args.seed step c.loop-before.ended_draw _ c.loop-before.invariant.ended_drawn c.in_ok-ended_draw.ensures.next in
    record {
      small = c.next_draw-draw.ensures.small;
      drawn = drawn;
      ended_small = c.in_ok-ended_draw.ensures.small;
      ended_drawn = ended_drawn;
      text = steps_more c.args.seed step c.next_draw-draw.result _ _ _ _ _ drawn ended_drawn c.loop-before.invariant.text c.in_ok-push_step.ensures c.in_ok-ended_draw.ensures.text;
    }
