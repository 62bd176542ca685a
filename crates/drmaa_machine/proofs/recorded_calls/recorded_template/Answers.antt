use Rattle.std.proofs.Common.{arith, ◌≡◌, true, Bool, ◌&&◌, List, [], ◌∷◌, map, refl, sym, ◌∙◌, ap, codes, if◌then◌else◌}
use Rattle.job_template.specs.declared.templates.JobTemplate.{JobTemplate}
use Rattle.drmaa_types.specs.declared.template_parts.ResourceLimit.{ResourceLimit}
use Rattle.drmaa_model.specs.RecordedCalls.{is_word, recorded_limit, recorded_template}
use Rattle.drmaa_machine.specs.Names.{has_words}
use Rattle.drmaa_machine.proofs.recorded_calls.recorded_template.Goals as goal

both : (a b : Bool) → (a && b) ≡ true → (a ≡ true) × (b ≡ true)
both a b h = grind arith

one-recorded : (limit : ResourceLimit) → is_word limit.name ≡ true → recorded_limit limit ≡ limit
one-recorded limit is = ap (λ (b : Bool). if b then limit else record limit { name = codes "OTHER" }) is

all-recorded : (limits : List ResourceLimit) → has_words limits ≡ true → map recorded_limit limits ≡ limits
all-recorded [] are = refl
all-recorded (limit ∷ limits) are =
    let parts = both (is_word limit.name) (has_words limits) are in
    ap (λ (l : ResourceLimit). l ∷ map recorded_limit limits) (one-recorded limit parts.0) ∙ ap (λ (ls : List ResourceLimit). limit ∷ ls) (all-recorded limits parts.1)

same : (t : JobTemplate) → has_words t.resource_limits ≡ true → t ≡ recorded_template t
same t are = ap (λ (ls : List ResourceLimit). record t { resource_limits = ls }) (sym (all-recorded t.resource_limits are))

pub returns-then-has_words-clause-ok : goal.returns-then-has_words-clause-ok
returns-then-has_words-clause-ok c = let are : has_words c.args.template.resource_limits ≡ true = cc in same c.args.template are
