use Rattle.std.proofs.Common.{◌-◌, ◌≤◌, length, sym, ap, ◌∙◌, subst, rules}
use Rattle.change_callbacks.specs.Ears.{HaveHeard, place_at}
use Rattle.change_callbacks.proofs.Listens.{EachHeard-placed}
use Rattle.change_callbacks.proofs.Unplaced.{any-placed}
use Rattle.change_callbacks.proofs.ears.Ears.place.Goals as goal

pub returns-clause-heard : goal.returns-clause-heard
returns-clause-heard g c = λ before. EachHeard-placed c.self.inside.places.items (c.args.n - 1) c.args.place c.self.inside.handed.changes _ _ (search rules)
    (ap (λ v. place_at v.places (c.args.n - 1)) c.self.view_is ∙ c.requires.unplaced)
    (subst (λ v. length v.handed ≤ c.args.place) (sym c.self.view_is) c.requires.ahead)
    (subst (HaveHeard g.B.Callback.counted g.B.Callback.told) (sym c.self.view_is) before)

pub invariant_of-self : goal.invariant_of-self
invariant_of-self g c = (c.self.invariant.0, any-placed c.self.inside.places.items (c.args.n - 1) c.args.place (search rules))
