use Rattle.std.proofs.Common.{◌≡◌, ◌++◌, ◌∙◌, ap, sym, subst, IsUtf8}
use Rattle.text_codec.specs.CleanLaws.{quoted_clean}
use Rattle.text_codec.specs.Lexical.{quoted}
use Rattle.text_codec.proofs.quotes.quoted.Goals as goal

pub unreachable-requires : goal.unreachable-requires
unreachable-requires c =
    let spelled = quoted c.args.text.now in
    let printed : c.push_quoted.new.out.items ≡ spelled = c.in_ok-push_quoted.ensures.text ∙ ap (λ t. t ++ spelled) c.in_ok-out.ensures.items in
    let utf8 = subst IsUtf8 (sym printed) (quoted_clean c.args.text.now c.push_quoted.ensures.utf8).utf8 in
    let contradiction = c.in_default.ensures.succeeds utf8 in
    cc

pub returns : goal.returns
returns c =
    let spelled = quoted c.args.text.now in
    ap (λ v. v.items) c.in-Ok.ensures.ok ∙ (c.in_ok-push_quoted.ensures.text ∙ ap (λ t. t ++ spelled) c.in_ok-out.ensures.items)
