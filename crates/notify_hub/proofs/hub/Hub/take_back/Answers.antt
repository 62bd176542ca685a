use Rattle.std.proofs.Common.{sym, subst, length, take}
use Rattle.drmaa_model.specs.declared.configs.Config.{Config}
use Rattle.change_callbacks.specs.Ears.{EachHeard, HaveHeard, from_place}
use Rattle.notify_hub.specs.Hubs.{Following, noted, MayBe}
use Rattle.change_callbacks.specs.PlaceLaws.{heard-first, heard-all}
use Rattle.change_callbacks.specs.Places.{changes_of, HaveHeardAll}
use Rattle.std.proofs.Common.{◌≡◌}
use Rattle.notify_hub.proofs.hub.Hub.take_back.Goals as goal

pub returns-clause-heard : goal.returns-clause-heard
returns-clause-heard g c =
    let counted = g.B.Callback.counted in
    let told = g.B.Callback.told in
    let back = c.take_back.result in
    subst (λ (h : Following g.row.B.Denot). (config : Config) → MayBe config h.note → HaveHeard counted told h.ears
    → EachHeard counted told (from_place (take (length h.ears.handed) (changes_of config (noted h.note)))) h.ears.places h.ears.begun back) c.self.view_is
    (λ config may h. subst (EachHeard counted told (from_place (take (length c.self.inside.ears.handed) (changes_of config (noted c.self.inside.note)))) c.self.inside.ears.places c.self.inside.ears.begun)
    (sym c.take_back.ensures.callbacks)
    (heard-first c.self.inside.ears (changes_of config (noted c.self.inside.note)) (c.self.invariant.follows config may).handed h))

pub returns-clause-all : goal.returns-clause-all
returns-clause-all g c =
    let counted = g.B.Callback.counted in
    let told = g.B.Callback.told in
    let back = c.take_back.result in
    subst (λ (h : Following g.row.B.Denot). (config : Config) → MayBe config h.note → HaveHeard counted told h.ears → h.ears.handed ≡ changes_of config (noted h.note)
    → HaveHeardAll counted told config (noted h.note) h.ears.places h.ears.begun back) c.self.view_is
    (λ config may h whole. subst (HaveHeardAll counted told config (noted c.self.inside.note) c.self.inside.ears.places c.self.inside.ears.begun) (sym c.take_back.ensures.callbacks)
    (heard-all config (noted c.self.inside.note) c.self.inside.ears whole h))
