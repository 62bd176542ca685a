use Rattle.std.proofs.Common.{length, refl, sym, ap, ◌∙◌, subst, rules}
use Rattle.change_callbacks.specs.Ears.{HaveHeard}
use Rattle.change_callbacks.proofs.Listens.{EachHeard-handed, take-lent}
use Rattle.change_callbacks.proofs.ears.Ears.hand.Goals as goal

pub returns-clause-heard : goal.returns-clause-heard
returns-clause-heard g c = λ before. EachHeard-handed c.follow.ensures (c.requires.from ∙ ap (λ v. length v.handed) (sym c.self.view_is))
    c.deref.ensures.value refl c.deref_mut.ensures.value (take-lent _ _ _ (search rules))
    (subst (HaveHeard g.B.Callback.counted g.B.Callback.told) (sym c.self.view_is) before) c.tell_all-calls.ensures.heard
