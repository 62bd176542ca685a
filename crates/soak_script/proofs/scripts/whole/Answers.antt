use Rattle.soak_script.proofs.Texts.{whole_text}
use Rattle.soak_script.proofs.scripts.whole.Goals as goal

pub returns : goal.returns
returns c =
    whole_text c.args.steps c.args.seed _ _ _ _ _ _ c.in_ok-out.ensures.bytes c.in_ok-push_str.ensures.bytes c.in_ok-push_templates.ensures
    c.in_ok-push_str-2.ensures.bytes c.in_ok-push_steps.ensures c.in_ok-push_str-3.ensures.bytes
