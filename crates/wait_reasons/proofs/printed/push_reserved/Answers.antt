use Rattle.std.proofs.Common.{◌≡◌, ◌++◌, ◌∙◌, ap, [], string_bytes}
use Rattle.std.specs.Prelude.{codes}
use Rattle.std.proofs.lemmas.List.{append_assoc}
use Rattle.std.proofs.lemmas.Result.{on_ok_weaker}
use Rattle.wait_reasons.specs.Texts.{reserved_text, one_number, two_numbers}
use Rattle.wait_reasons.proofs.printed.push_reserved.Goals as goal

pub returns : goal.returns
unfolding reserved_text
returns c =
    let one = one_number (codes "reservation ") c.args.number.0 [] in
    let two = two_numbers c.args.before.now c.args.first c.args.between.now c.args.second c.args.behind.now in
    let first : string_bytes c.push_one.new.out ≡ string_bytes c.args.out.now ++ one = c.in_ok-push_one.ensures {u = tt} in
    on_ok_weaker c.push_two.result (λ (e : string_bytes c.push_two.new.out ≡ string_bytes c.push_one.new.out ++ two). e ∙ ap (λ t. t ++ two) first ∙ append_assoc (string_bytes c.args.out.now) one two) c.push_two.ensures
