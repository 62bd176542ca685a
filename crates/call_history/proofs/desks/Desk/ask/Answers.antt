use Rattle.std.proofs.Common.{ap, ◌∙◌}
use Rattle.drmaa_model.specs.ReplyKinds.{kind_of_reply}
use Rattle.call_history.proofs.Answering.{served-kind, refused-by, ok-both}
use Rattle.call_history.proofs.desks.Desk.ask.Goals as goal

pub returns-in-Ok-clause-kind : goal.returns-in-Ok-clause-kind
returns-in-Ok-clause-kind g c =
    ok-both c.unrefused.result _ _ _ c.unrefused.ensures.ok c.unrefused.ensures.kind (λ told same unrefused.
    ap kind_of_reply same
    ∙ served-kind c.args.self.now.shared.now.fixed _ c.args.self.now.client c.args.call c.in-Ok.reply _ c.call.new.self.client c.call.ensures.legal c.in-Ok.ensures.ok (λ is. unrefused (ap kind_of_reply same ∙ is)))

pub returns-in-Err-clause-err : goal.returns-in-Err-clause-err
returns-in-Err-clause-err g c =
    refused-by c.args.self.now.shared.now.fixed _ c.args.self.now.client c.args.call _ c.call.new.self.client c.in-Err.fault c.from.result c.requires.answered c.from.ensures c.in-Err.ensures.err
