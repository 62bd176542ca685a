use Rattle.std.proofs.Common.{ap, refl, ◌∙◌}
use Rattle.std.specs.String.{string_bytes}
use Rattle.job_template.specs.Expand.{replaced}
use Rattle.job_template.proofs.Placeholders.{replaced_matches}
use Rattle.job_template.proofs.expansion.expanded_text.Goals as goal

-- the copy is what `replace` makes
pub returns : goal.returns
returns c =
    let digits = c.args.digits.now in
    c.from_string.ensures
    ∙ (replaced_matches digits c.in_ok-copy.ensures.ok.0 _ c.as_str.result.now (string_bytes c.in_ok-copy.copy) refl c.in_ok-copy.ensures.ok.1
    ∙ ap (replaced digits 0) c.as_str.ensures.value)
