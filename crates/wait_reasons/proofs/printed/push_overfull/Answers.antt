use Rattle.std.proofs.Common.{◌≡◌, ◌++◌, ◌∙◌, ap, [], string_bytes}
use Rattle.std.specs.Prelude.{ℕ, codes}
use Rattle.std.proofs.lemmas.List.{append_assoc}
use Rattle.std.proofs.lemmas.Result.{on_ok_weaker}
use Rattle.wait_reasons.specs.Texts.{overfull_text, covering_text, two_numbers}
use Rattle.wait_reasons.proofs.printed.push_overfull.Goals as goal

pub returns : goal.returns
unfolding overfull_text
returns c =
    let first : string_bytes c.push_two.new.out ≡ string_bytes c.args.out.now ++ two_numbers (codes "no room for ") c.args.wants (codes " on the calendar at @") c.args.at [] =
    c.in_ok-push_two.ensures {u = tt} ∙ ap (λ (n : ℕ). string_bytes c.args.out.now ++ two_numbers (codes "no room for ") n (codes " on the calendar at @") c.number.result []) c.from.ensures
    ∙ ap (λ (n : ℕ). string_bytes c.args.out.now ++ two_numbers (codes "no room for ") c.args.wants (codes " on the calendar at @") n []) c.number.ensures.value in
    let one = two_numbers (codes "no room for ") c.args.wants (codes " on the calendar at @") c.args.at [] in
    let two = covering_text c.args.number in
    on_ok_weaker c.push_covering.result (λ (e : string_bytes c.push_covering.new.out ≡ string_bytes c.push_two.new.out ++ two). e ∙ ap (λ t. t ++ two) first ∙ append_assoc (string_bytes c.args.out.now) one two) c.push_covering.ensures
