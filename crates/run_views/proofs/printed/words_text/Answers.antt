use Rattle.std.proofs.Common.{◌≡◌, ◌++◌, ◌∙◌, ap, sym, subst, refl, IsUtf8, []}
use Rattle.text_codec.specs.Quotes.{text}
use Rattle.text_codec.specs.Formats.{list_of}
use Rattle.text_codec.specs.FieldLaws.{list_laws}
use Rattle.text_codec.specs.BaseLaws.{text_laws, text_avoids}
use Rattle.run_views.specs.Texts.{words_text}
use Rattle.run_views.proofs.printed.words_text.Goals as goal

pub unreachable-requires : goal.unreachable-requires
unreachable-requires c =
    let words = c.as_slice.result.now in
    let spelled = (list_of text).spell words in
    let printed : c.push_list.new.out.items ≡ spelled = (c.in_ok-push_list.ensures {u = tt}).text ∙ ap (λ t. t ++ spelled) (c.in_ok-out.ensures {u = tt}).items in
    let utf8 = subst IsUtf8 (sym printed) ((list_laws text text_laws (text_avoids 93 [] refl)).clean words (c.in_ok-push_list.ensures {u = tt}).valid).utf8 in
    let contradiction = (c.in_default.ensures {u = tt}).succeeds utf8 in
    cc

pub returns : goal.returns
unfolding text list_of
returns c =
    let spelled = words_text c.as_slice.result.now in
    ap (λ v. v.items) (c.in-Ok.ensures {u = tt}).ok
    ∙ ((c.in_ok-push_list.ensures {u = tt}).text ∙ ap (λ t. t ++ spelled) (c.in_ok-out.ensures {u = tt}).items)
    ∙ ap words_text c.as_slice.ensures
