use Rattle.std.proofs.Common.{◌+◌, ◌*◌, ◌++◌, codes, decimal, ap, ◌∙◌}
use Rattle.std.specs.Prelude.{string_bytes}
use Rattle.soak_script.proofs.Texts.{three, reservation_text}
use Rattle.soak_script.proofs.lines.push_reservation_lines.Goals as goal

pub returns : goal.returns
returns c =
    let d = decimal c.args.step in
    let e = decimal (10 * c.args.step) in
    let f = decimal (10 * c.args.step + 100_000) in
    three _ _ _ _ _ (codes "rtemplate x") d (codes "\nstart @") e (codes "\nend @") f (codes "\nduration 500\nminslots 8\nend\n") c.in_ok-push_number.ensures c.in_ok-push_number-2.ensures c.in_ok-push_number-3.ensures c.in_ok-push_str.ensures.bytes
    ∙ ap (λ x. string_bytes c.args.out.now ++ x) (reservation_text d e f)
