use Rattle.std.proofs.Common.{◌≡◌, ◌∙◌, ◌+◌, List, [], ◌∷◌, ◌++◌, ap, refl, sym, subst, arith, rules}
use Rattle.call_history.specs.declared.desks.Desk.{Desk}
use Rattle.drmaa.specs.Works.{IsUnread}
use Rattle.drmaa.proofs.Opening.{new-desk, opened-first, opened-more}
use Rattle.drmaa.proofs.seats.open_desks.Goals as goal

pub loop-place-init : goal.loop-place-init
loop-place-init g c =
    let b = c.requires.begun in
    let d = c.desk_of.ensures in
    let items : c.push.new.self.items ≡ c.desk_of.result ∷ [] = c.in_ok-push.ensures.items ∙ ap (λ (l : List (Desk g.row.K-One.Denot)). l ++ c.desk_of.result ∷ []) c.new-desks.ensures.items in
    record {
      opened = opened-first g.K.One.Clock.given c.args.shared.now c.args.opener.now c.desk_of.result c.push.new.self.items b.opener b.out b.count items d.shared
          (new-desk g.K.One.Clock.given c.args.shared.now c.desk_of.result c.args.own.client 0 d.shared d.client (record { free = b.own.free; own = b.own.own; mine = b.own.mine }) b.own.number_is
          (subst (λ (k : g.row.K-One.Denot). IsUnread g.K.One.Clock.given 0 k) (sym d.clock) b.clock));
      least = omega arith;
      within = omega arith;
    }

pub loop-place-preserved : goal.loop-place-preserved
loop-place-preserved g c =
    let i = c.loop-place.invariant in
    let d = c.desk_of-in-loop-place.ensures in
    record {
      opened = opened-more g.K.One.Clock.given c.args.shared.now c.loop-place.opener c.seat-seat.new.opener c.loop-place.place (c.loop-place.place + 3) c.seat-seat.result.client c.loop-place.desks.items c.push-in-loop-place.new.self.items c.desk_of-in-loop-place.result refl i.least i.opened
          c.seat-seat.ensures.seated c.in_ok-push-2.ensures.items d.shared d.client (subst (λ (k : g.row.K-One.Denot). IsUnread g.K.One.Clock.given (c.loop-place.place + 3) k) (sym d.clock) c.seat-seat.ensures.clock);
      least = omega arith;
      within = search rules;
    }
