use Rattle.std.proofs.Common.{◌≡◌, ◌+◌, ◌++◌, [], ◌∷◌, length, ap, sym, subst, ◌∙◌, rules}
use Rattle.script_text.specs.Packed.{cut, IsPacked}
use Rattle.script_text.specs.PackedLaws.{cut_longer, packed_longer}
use Rattle.script_text.proofs.packed.PackedLines.with.Goals as goal

pub invariant_of-result : goal.invariant_of-result
invariant_of-result c =
    let end : c.in-Some.end ≡ length c.self.inside.bytes.items + length c.args.line.now = search rules in
    subst (λ bs. IsPacked bs c.push.new.self.items) (sym c.in_ok-extend_from_slice.ensures.items)
    (subst (λ es. IsPacked (c.self.inside.bytes.items ++ c.args.line.now) es) (sym c.in_ok-push.ensures.items)
    (packed_longer c.self.inside.bytes.items c.self.inside.ends.items c.args.line.now c.in-Some.end c.self.invariant end))

pub returns : goal.returns
returns c =
    let end : c.in-Some.end ≡ length c.self.inside.bytes.items + length c.args.line.now = search rules in
    ap (λ bs. cut 0 bs c.push.new.self.items) c.in_ok-extend_from_slice.ensures.items
    ∙ ap (λ es. cut 0 (c.self.inside.bytes.items ++ c.args.line.now) es) c.in_ok-push.ensures.items
    ∙ cut_longer c.self.inside.bytes.items c.self.inside.ends.items c.args.line.now c.in-Some.end c.self.invariant end
    ∙ ap (λ xs. xs ++ c.args.line.now ∷ []) c.self.view_is
