use Rattle.std.proofs.Common.{◌≡◌, ◌∙◌, List, ℕ, subst}
use Rattle.std.specs.Prelude.{IfOk}
use Rattle.job_template.specs.declared.templates.JobTemplate.{JobTemplate}
use Rattle.job_template.specs.Expand.{replaced, with_texts}
use Rattle.job_template.proofs.expansion.member.Goals as goal

-- the digits are those of the index
pub returns : goal.returns
returns c =
    subst (λ (digits : List ℕ). IfOk c.with_digits.result (λ (member : JobTemplate). member ≡ with_texts (replaced digits 0) c.args.t.now))
    (c.as_str.ensures.value ∙ c.in_ok-digits.ensures.ok) c.with_digits.ensures
