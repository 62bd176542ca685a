use Rattle.std.proofs.Common.{◌≡◌, ◌++◌, ◌∙◌, ap, sym, subst, IsUtf8}
use Rattle.drmaa_model.specs.RecordedCalls.{recorded}
use Rattle.text_codec.specs.Sums.{sum_of}
use Rattle.text_forms.specs.Templates.{any_template, any_frame}
use Rattle.journal_forms.specs.Calls.{call_form, calls, calls_with}
use Rattle.journal_text.specs.PrintLaws.{same_text}
use Rattle.journal_text.specs.TextLaws.{call_clean}
use Rattle.journal_json.proofs.texts.call_text.Goals as goal

pub unreachable-requires : goal.unreachable-requires
unreachable-requires c =
    let form = call_form any_template any_frame (recorded c.args.call.now) in
    let printed : c.push_call.new.out.items ≡ form.text = c.in_ok-push_call.ensures.text ∙ ap (λ t. t ++ form.text) c.in_ok-out.ensures.items in
    let utf8 = subst IsUtf8 (sym printed) (call_clean (recorded c.args.call.now) c.in_ok-push_call.ensures.valid).utf8 in
    let contradiction = c.in_default.ensures.succeeds utf8 in
    cc

pub returns : goal.returns
unfolding calls calls_with sum_of
returns c =
    let form = call_form any_template any_frame (recorded c.args.call.now) in
    ap (λ v. v.items) c.in-Ok.ensures.ok ∙ (c.in_ok-push_call.ensures.text ∙ ap (λ t. t ++ form.text) c.in_ok-out.ensures.items) ∙ same_text (recorded c.args.call.now)
