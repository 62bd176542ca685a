use Rattle.std.proofs.Common.{◌++◌, codes, decimal, ap, ◌∙◌}
use Rattle.std.specs.Prelude.{string_bytes}
use Rattle.soak_script.proofs.Texts.{three, end_text}
use Rattle.soak_script.proofs.lines.push_end_lines.Goals as goal

pub returns : goal.returns
returns c =
    let d = decimal c.args.step in
    three _ _ _ _ _ (codes "exit j") d (codes " 0\nterminate s j") d (codes "\nreap s j") d (codes "\n") c.in_ok-push_number.ensures c.in_ok-push_number-2.ensures c.in_ok-push_number-3.ensures c.in_ok-push_str.ensures.bytes
    ∙ ap (λ x. string_bytes c.args.out.now ++ x) (end_text d)
