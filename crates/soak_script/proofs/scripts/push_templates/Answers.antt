use Rattle.std.proofs.Common.{◌+◌, refl, sym, ap, ◌∙◌, append-nil}
use Rattle.std.specs.Prelude.{string_bytes}
use Rattle.soak_script.specs.Draws.{draw, next_draw}
use Rattle.soak_script.proofs.Texts.{draw_first, draw_more, template_more}
use Rattle.soak_script.proofs.scripts.push_templates.Goals as goal

pub loop-before-init : goal.loop-before-init
loop-before-init c = record { small = c.requires.seed; drawn = sym (draw_first c.args.seed); text = sym (append-nil (string_bytes c.args.out.now)) }

pub loop-before-preserved : goal.loop-before-preserved
loop-before-preserved c =
    let drawn = c.next_draw-draw.ensures.next ∙ ap next_draw c.loop-before.invariant.drawn ∙ sym (draw_more c.args.seed c.loop-before.before) in
    record {
      small = c.next_draw-draw.ensures.small;
      drawn = drawn;
      text = template_more c.args.seed c.loop-before.before c.next_draw-draw.result _ _ _ drawn c.loop-before.invariant.text c.in_ok-push_template.ensures;
    }
