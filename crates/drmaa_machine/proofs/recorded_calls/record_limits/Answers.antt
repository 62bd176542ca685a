use Rattle.std.proofs.Common.{ap, sym, ◌∙◌, set}
use Rattle.std.proofs.lemmas.List.Edits.{map_over_more}
use Rattle.drmaa_types.specs.declared.template_parts.ResourceLimit.{ResourceLimit}
use Rattle.drmaa_model.specs.RecordedCalls.{recorded_limit}
use Rattle.drmaa_machine.proofs.recorded_calls.record_limits.Goals as goal

pub loop-limit-preserved : goal.loop-limit-preserved
loop-limit-preserved c =
    ap (λ (x : ResourceLimit). set c.loop-limit.limit-items c.loop-limit.limit-index x) ((c.in_ok-record_limit.ensures {u = tt}).ok ∙ ap recorded_limit (sym c.limit-item.is))
    ∙ map_over_more recorded_limit c.deref_mut-limit-items.result.now c.loop-limit.limit-items c.loop-limit.limit-index c.limit-item.result c.loop-limit-test.true c.loop-limit.invariant c.limit-item.is
