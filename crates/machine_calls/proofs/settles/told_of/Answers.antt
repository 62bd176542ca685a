use Rattle.std.proofs.Common.{sym, ◌∙◌, ap}
use Rattle.std.proofs.lemmas.Result.{IfOk-weaker}
use Rattle.drmaa_model.specs.declared.replies.Reply.{Reply}
use Rattle.drmaa_model.specs.Effects.{makes}
use Rattle.machine_readings.specs.Stores.{world_at}
use Rattle.machine_calls.proofs.settles.told_of.Goals as goal

pub returns-clause-reply : goal.returns-clause-reply
returns-clause-reply c =
    IfOk-weaker c.twice.result _ _
    (λ replies both. c.in_ok-told.ensures {u = tt} c.requires.reading ∙ ap (λ (r : Reply). makes r (world_at c.args.at c.args.store.now)) (sym both.told)) c.twice.ensures

pub returns-clause-twice : goal.returns-clause-twice
returns-clause-twice c = IfOk-weaker c.twice.result _ _ (λ replies both. both.recorded ∙ sym both.told) c.twice.ensures
