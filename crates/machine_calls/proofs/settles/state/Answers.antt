use Rattle.std.proofs.Common.{sym, ◌∙◌, ap}
use Rattle.drmaa_model.specs.declared.replies.Reply.{Reply}
use Rattle.drmaa_model.specs.Effects.{makes}
use Rattle.machine_readings.specs.Stores.{world_at}
use Rattle.machine_calls.proofs.settles.state.Goals as goal

pub returns-in-Ok-clause-reply : goal.returns-in-Ok-clause-reply
returns-in-Ok-clause-reply c =
    (c.in-Ok.ensures {u = tt}).ok ∙ ap (λ (r : Reply). makes r (world_at c.args.at c.args.store.now)) (sym c.job_state.ensures.told)

pub returns-in-Err-clause-reply : goal.returns-in-Err-clause-reply
returns-in-Err-clause-reply c =
    (c.in-Err.ensures {u = tt}).err ∙ ap (λ (r : Reply). makes r (world_at c.args.at c.args.store.now)) (sym c.refused.ensures.told)
