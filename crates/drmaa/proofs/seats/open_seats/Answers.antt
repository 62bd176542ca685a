use Rattle.std.proofs.Common.{◌≡◌, ◌∙◌, ap, ℕ, List, [], Option, None, slice_index_or}
use Rattle.drmaa_model.specs.declared.entries.Entry.{Entry}
use Rattle.call_history.specs.Clients.{Seat, retired_of}
use Rattle.turn_lock.specs.Tokens.{Named}
use Rattle.drmaa_model.specs.declared.configs.Config.{Config}
use Rattle.drmaa.specs.Crews.{AreOut, IsSeated, IsNew}
use Rattle.drmaa.proofs.Opening.{out-seated}
use Rattle.drmaa.proofs.seats.open_seats.Goals as goal

none-out : (p : Seat) → retired_of p ≡ [] → AreOut (retired_of p)
none-out p none number = ap (λ (l : List (Option (List Entry))). slice_index_or l number None) none

new : (shared : Named Config) (o p : Seat) (number : ℕ) (client : Seat) → IsSeated shared o p number client → IsNew shared number client
new shared o p number client s = record { free = s.free; number_is = s.number_is; mine = s.mine; own = s.own }

pub returns : goal.returns
returns g c =
    let a = c.seat-own.ensures.seated in
    let b = c.seat-launcher.ensures.seated in
    let d = c.seat-reaping.ensures.seated in
    let e = c.seat-hub_seat.ensures.seated in
    let out0 = none-out c.args.opener.now c.requires.retired in
    let out1 = out-seated c.args.opener.now c.seat-own.new.opener a.retired out0 in
    let out2 = out-seated c.seat-own.new.opener c.seat-launcher.new.opener b.retired out1 in
    let out3 = out-seated c.seat-launcher.new.opener c.seat-reaping.new.opener d.retired out2 in
    record {
      begun = record {
        opener = e.opener;
        out = out-seated c.seat-reaping.new.opener c.seat-hub_seat.new.opener e.retired out3;
        count = e.count;
        seen = e.opener_seen ∙ (d.opener_seen ∙ (b.opener_seen ∙ (a.opener_seen ∙ c.requires.seen)));
        own = new c.args.shared.now c.args.opener.now c.seat-own.new.opener 0 c.seat-own.result.client a;
        clock = c.seat-own.ensures.clock;
      };
      launcher = new c.args.shared.now c.seat-own.new.opener c.seat-launcher.new.opener 1 c.seat-launcher.result.client b;
      reaping = new c.args.shared.now c.seat-launcher.new.opener c.seat-reaping.new.opener 2 c.seat-reaping.result.client d;
      hub_seat = new c.args.shared.now c.seat-reaping.new.opener c.seat-hub_seat.new.opener 3 c.seat-hub_seat.result.client e;
    }
