use Rattle.std.proofs.Common.{◌≡◌, ◌++◌, ◌∙◌, ap, sym, subst, IsUtf8}
use Rattle.journal_forms.specs.Replies.{reply_form, reply_sum, replies}
use Rattle.journal_text.specs.TextLaws.{reply_clean}
use Rattle.text_codec.specs.Sums.{sum_of}
use Rattle.journal_json.proofs.texts.reply_text.Goals as goal

pub unreachable-requires : goal.unreachable-requires
unreachable-requires c =
    let form = reply_form c.args.reply.now in
    let printed : c.push_reply.new.out.items ≡ form.text = c.in_ok-push_reply.ensures.text ∙ ap (λ t. t ++ form.text) c.in_ok-out.ensures.items in
    let utf8 = subst IsUtf8 (sym printed) (reply_clean c.args.reply.now c.in_ok-push_reply.ensures.valid).utf8 in
    let contradiction = c.in_default.ensures.succeeds utf8 in
    cc

pub returns : goal.returns
unfolding replies reply_sum sum_of
returns c =
    let form = reply_form c.args.reply.now in
    ap (λ v. v.items) c.in-Ok.ensures.ok ∙ (c.in_ok-push_reply.ensures.text ∙ ap (λ t. t ++ form.text) c.in_ok-out.ensures.items)
