use Rattle.std.proofs.Common.{sym, ap, ◌∙◌, subst}
use Rattle.change_callbacks.specs.PlaceLaws.{heard-all}
use Rattle.change_callbacks.specs.Places.{HaveHeardAll}
use Rattle.change_callbacks.proofs.ears.Ears.take_back.Goals as goal

pub returns-clause-all : goal.returns-clause-all
returns-clause-all g c = λ config history h whole.
    subst (HaveHeardAll g.B.Callback.counted g.B.Callback.told config history c.args.self.places c.args.self.begun)
    (sym (c.from_vec.ensures ∙ ap (λ v. v.callbacks) c.self.view_is)) (heard-all config history c.args.self whole h)
