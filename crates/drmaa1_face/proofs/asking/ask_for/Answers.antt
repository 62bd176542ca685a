use Rattle.std.proofs.lemmas.Result.{IfOk-weaker, IfErr-weaker}
use Rattle.drmaa1_face.specs.Steps.Ask.{at_once}
use Rattle.drmaa1_face.proofs.Making.{made-one, halts-asked, still-asked}
use Rattle.drmaa1_face.proofs.asking.ask_for.Goals as goal

pub returns-clause-desk : goal.returns-clause-desk
returns-clause-desk g c =
    still-asked c.args.desk.now.shared.now _ _ _ c.args.desk.now.client c.ask_for.new.self.client c.args.call g.T.Told.as_reply c.ask_for.result c.ask_for.ensures.desk c.ask_for.ensures.ok c.ask_for.ensures.err

pub returns-clause-ok : goal.returns-clause-ok
returns-clause-ok g c = IfOk-weaker c.ask_for.result _ _ (λ told s. made-one _ _ _ (at_once c.args.call) (g.T.Told.as_reply told) c.ask_for.ensures.desk.number s) c.ask_for.ensures.ok

pub returns-clause-err : goal.returns-clause-err
returns-clause-err g c = IfErr-weaker c.ask_for.result _ _ (λ reason r. halts-asked _ _ _ c.args.call reason c.ask_for.ensures.desk.number r) c.ask_for.ensures.err
