use Rattle.std.proofs.Common.{◌≡◌, ℕ, ◌-◌, ◌≤◌, length, slice_set, Some, sym, ap, subst, ◌∙◌}
use Rattle.change_callbacks.specs.Ears.{Listening, HaveHeard}
use Rattle.script_play.specs.Callbacks.{ArePlacedAfter}
use Rattle.script_play.proofs.Along.{on-placed}
use Rattle.script_play.proofs.Handing.{handed-first, nothing-registered, registered-now}
use Rattle.script_play.proofs.hearing.hear.Goals as goal
use Rattle.script_play.proofs.hearing.hear.Goals.{in-Some, in_default}

pub place-requires-clause-number : goal.place-requires-clause-number
place-requires-clause-number g c =
    let r = registered-now g.B.Callback.counted g.B.Callback.told c.args.player.now.start.callbacks c.args.before.entries c.args.before.changes c.args.player.now.ledger c.args.ears.now c.requires c.in-Some.number
    c.registered.ensures.legal (sym c.in-Some.ensures.number) in
    (r.least, r.most)

pub place-requires-clause-unplaced : goal.place-requires-clause-unplaced
place-requires-clause-unplaced g c =
    (registered-now g.B.Callback.counted g.B.Callback.told c.args.player.now.start.callbacks c.args.before.entries c.args.before.changes c.args.player.now.ledger c.args.ears.now c.requires c.in-Some.number
    c.registered.ensures.legal (sym c.in-Some.ensures.number)).free

pub place-requires-clause-ahead : goal.place-requires-clause-ahead
place-requires-clause-ahead g c =
    let r = registered-now g.B.Callback.counted g.B.Callback.told c.args.player.now.start.callbacks c.args.before.entries c.args.before.changes c.args.player.now.ledger c.args.ears.now c.requires c.in-Some.number
    c.registered.ensures.legal (sym c.in-Some.ensures.number) in
    subst (λ (n : ℕ). length c.args.ears.now.handed ≤ n) (sym c.counts.ensures.changes) r.ahead

pub hand_over-requires-clause-front : goal.hand_over-requires-clause-front
hand_over-requires-clause-front g c =
    let first = handed-first g.B.Callback.counted g.B.Callback.told c.args.player.now.start.callbacks c.args.before.entries c.args.before.changes c.args.player.now.ledger c.args.ears.now c.requires c.registered.ensures.legal in
    elim c.match-registered.branch [
      | in-Some w ↦ ap (λ (x : Listening g.row.B.Denot). x.handed) (w.ears-is ∙ w.place.ensures.placed) ∙ first
      | in_default w ↦ ap (λ (x : Listening g.row.B.Denot). x.handed) w.ears-is ∙ first
    ]

pub returns-clause-current : goal.returns-clause-current
returns-clause-current g c =
    let now = c.args.player.now.ledger in
    let earlier = c.args.player.now.start.callbacks in
    let old = c.args.ears.now in
    let placed : ArePlacedAfter earlier now.config now.history c.match-registered.ears.places = elim c.match-registered.branch [
      | in-Some w ↦
          (let r = registered-now g.B.Callback.counted g.B.Callback.told earlier c.args.before.entries c.args.before.changes now old c.requires w.in-Some.number c.registered.ensures.legal (sym w.in-Some.ensures.number) in
          subst (ArePlacedAfter earlier now.config now.history) (sym (ap (λ (x : Listening g.row.B.Denot). x.places) (w.ears-is ∙ w.place.ensures.placed)
          ∙ ap (λ (n : ℕ). slice_set old.places (w.in-Some.number - 1) (Some n)) w.counts.ensures.changes)) r.places_are)
      | in_default w ↦
          subst (ArePlacedAfter earlier now.config now.history) (sym (ap (λ (x : Listening g.row.B.Denot). x.places) w.ears-is))
          (nothing-registered g.B.Callback.counted g.B.Callback.told earlier c.args.before.entries c.args.before.changes now old c.requires (sym w.in_default.ensures.number))
    ] in
    let heard : HaveHeard g.B.Callback.counted g.B.Callback.told c.match-registered.ears = elim c.match-registered.branch [
      | in-Some w ↦ subst (HaveHeard g.B.Callback.counted g.B.Callback.told) (sym w.ears-is) (w.place.ensures.heard c.requires.current.heard)
      | in_default w ↦ subst (HaveHeard g.B.Callback.counted g.B.Callback.told) (sym w.ears-is) c.requires.current.heard
    ] in
    record {
      places = subst (ArePlacedAfter earlier now.config now.history) (sym (ap (λ (x : Listening g.row.B.Denot). x.places) c.hand_over.ensures.handed)) placed;
      handed = ap (λ (x : Listening g.row.B.Denot). x.handed) c.hand_over.ensures.handed;
      heard = c.hand_over.ensures.heard heard;
    }

-- the place that was given is behind all that was handed over
pub returns-clause-further : goal.returns-clause-further
returns-clause-further g c =
    let old = c.args.ears.now in
    let handed : c.match-registered.ears.handed ≡ old.handed = elim c.match-registered.branch [
      | in-Some w ↦ ap (λ (x : Listening g.row.B.Denot). x.handed) (w.ears-is ∙ w.place.ensures.placed)
      | in_default w ↦ ap (λ (x : Listening g.row.B.Denot). x.handed) w.ears-is
    ] in
    let callbacks : c.match-registered.ears.callbacks ≡ old.callbacks = elim c.match-registered.branch [
      | in-Some w ↦ ap (λ (x : Listening g.row.B.Denot). x.callbacks) (w.ears-is ∙ w.place.ensures.placed)
      | in_default w ↦ ap (λ (x : Listening g.row.B.Denot). x.callbacks) w.ears-is
    ] in
    on-placed g.B.Callback.counted g.B.Callback.told old c.match-registered.ears c.hand_over.new.ears handed callbacks c.hand_over.ensures.further
