-- What an entry keeps of a call.
use Rattle.std.proofs.Common.{◌≡◌, true, false, cond, List, [], ◌∷◌, map, codes, refl, ap, ◌∙◌}
use Rattle.job_template.specs.declared.templates.JobTemplate.{JobTemplate}
use Rattle.drmaa_types.specs.declared.template_parts.ResourceLimit.{ResourceLimit}
use Rattle.drmaa_model.specs.declared.calls.Call.{Call}
use Rattle.drmaa_model.specs.declared.calls.Call.TheVariants as call
use Rattle.drmaa_model.specs.RecordedCalls.{recorded, recorded_template, recorded_limit, is_word}
use Rattle.journal_forms.specs.Calls.{has_others}

limit-recorded : (l : ResourceLimit) → recorded_limit (recorded_limit l) ≡ recorded_limit l
limit-recorded l =
    (elim (is_word l.name) as (λ b. is_word l.name ≡ b → recorded_limit (cond b l (record l { name = codes "OTHER" })) ≡ cond b l (record l { name = codes "OTHER" })) [
      | true ↦ λ e. ap (λ b. cond b l (record l { name = codes "OTHER" })) e
      | false ↦ λ e. refl
    ]) refl

limits-recorded : (ls : List ResourceLimit) → map recorded_limit (map recorded_limit ls) ≡ map recorded_limit ls
limits-recorded [] = refl
limits-recorded (l ∷ ls) = ap (λ x. x ∷ map recorded_limit (map recorded_limit ls)) (limit-recorded l) ∙ ap (λ xs. recorded_limit l ∷ xs) (limits-recorded ls)

template-recorded : (t : JobTemplate) → recorded_template (recorded_template t) ≡ recorded_template t
template-recorded t = ap (λ ls. record t { resource_limits = ls }) (limits-recorded t.resource_limits)

-- what is kept of a call is kept of itself
pub recorded-twice : (c : Call) → recorded (recorded c) ≡ recorded c
recorded-twice (call.RunJob session t) = ap (call.RunJob session) (template-recorded t)
recorded-twice (call.RunBulk session t indices) = ap (λ u. call.RunBulk session u indices) (template-recorded t)
recorded-twice _ = refl

-- and its templates have the same attributes under `other`
pub recorded-others : (c : Call) → has_others (recorded c) ≡ has_others c
recorded-others call.Register = refl
recorded-others _ = refl
