use Rattle.std.proofs.Common.{sym, ◌∙◌, ap}
use Rattle.drmaa_model.specs.declared.replies.Reply.{Reply}
use Rattle.drmaa_model.specs.AnswerLaws.{refused-gives}
use Rattle.drmaa_model.specs.Effects.{makes}
use Rattle.machine_readings.specs.Stores.{world_at}
use Rattle.machine_calls.proofs.settles.refuse.Goals as goal

pub returns-clause-comes : goal.returns-clause-comes
returns-clause-comes c = λ asked is.
    (let v = world_at c.args.at c.args.store.now in
    c.settle.ensures.comes asked (refused-gives c.args.at v asked c.args.why.now is ∙ ap (λ (r : Reply). makes r v) (sym c.refused.ensures.told)))
