-- From what the parts leave to what all clients leave.
use Rattle.std.proofs.Common.{◌≡◌, ℕ, ◌≤◌, List, length, Option, None, sym, ap, ◌∙◌, subst}
use Rattle.std.specs.Prelude.{Result, IsOk}
use Rattle.child_spawner.specs.declared.fates.Asked.{Asked}
use Rattle.child_spawner.specs.declared.fates.Fate.{Fate}
use Rattle.child_spawner.specs.Children.{Told}
use Rattle.drmaa_types.specs.declared.changes.Notification.{Notification}
use Rattle.drmaa_types.specs.declared.refusals.Refusal.{Refusal}
use Rattle.drmaa_types.specs.Readings.{Readings}
use Rattle.drmaa_model.specs.declared.configs.Config.{Config}
use Rattle.drmaa_model.specs.declared.entries.Entry.{Entry}
use Rattle.turn_lock.specs.Histories.{BeginsWith}
use Rattle.turn_lock.specs.Tokens.{Named}
use Rattle.call_history.specs.declared.desks.Desk.{Desk}
use Rattle.call_history.specs.Clients.{Seat, seen_of, mine_of, number_of, KnowsItsOwn}
use Rattle.call_history.specs.ClientLaws.{begins-both}
use Rattle.attendant.specs.Acts.{own_acts}
use Rattle.attendant.specs.declared.pairs.Pair.{Pair}
use Rattle.attendant.specs.declared.reaper.Held.{Held}
use Rattle.attendant.specs.declared.reaper.Hand.{Hand}
use Rattle.attendant.specs.Pairs.{launcher_at, reaping_at, HasAttended}
use Rattle.notify_hub.specs.Hubs.{Following}
use Rattle.change_callbacks.specs.Places.{HavePlaces}
use Rattle.beside_clients.specs.HubClients.{FollowsAll, IsStillBeside, GoesOn}
use Rattle.beside_clients.proofs.Tending.{Nothing, HaveTended, have-tended}
use Rattle.drmaa.specs.declared.crews.Crew.{Crew}
use Rattle.drmaa.specs.Closed.{RegistersFrom}
use Rattle.drmaa.specs.Crews.{IsOpened, AreTakenBack, AreReleased, AreBack, IsLeft}
use Rattle.drmaa.specs.Hubs.{HaveRegistered}
use Rattle.drmaa.specs.Pairs.{HasEnded}
use Rattle.drmaa.proofs.Back.{are-back}
use Rattle.drmaa.proofs.Endings.{refused-short}

module _ {B C T : Type 0} (counted : B → ℕ) (told : B → Option (List Notification)) (tells : T → Option Told) (given : C → Readings) (least : C → ℕ) (Does : List (Desk C) → Type 0) (shared : Named Config) (clients : ℕ)
    (o o1 p : Seat) (crew : Crew C) (opened : IsOpened given shared o clients crew) (some : 1 ≤ clients) (h0 h1 h2 h3 : Following B) (hub_seat1 hub_seat2 told_seat hub_seat3 back_launcher : Seat) (desks : List (Desk C)) (pb pc pd last : Pair C) (count : ℕ)
    (asked asked1 asked2 : Option (List Asked)) (fate fate1 fate2 : ℕ → Fate) (at0 at1 at2 : ℕ → Option (Held T)) (hand0 hand1 hand2 : Option Hand) (before ended : Result (Unit {0}) Refusal)
    (reg : HaveRegistered counted told shared h0 crew.hub_seat.client count h1 hub_seat1)
    (a : HasAttended given least tells shared crew.pair pb asked asked1 fate fate1 at0 at1 hand0 hand1 before) (does : Does desks) (many : length desks ≡ clients) (on1 : GoesOn counted told shared h1 hub_seat1 h2 hub_seat2)
    (taken : AreTakenBack shared o o1 pb.launcher back_launcher desks) (still : IsStillBeside shared back_launcher pc.launcher) (knows : KnowsItsOwn pc.launcher) (hub_seat_same : told_seat ≡ hub_seat2) (from_hub_seat : BeginsWith (seen_of pc.launcher) (seen_of hub_seat2))
    (same : pc.reaping ≡ pb.reaping) (e : HasEnded given least tells shared pc pd asked1 asked2 fate1 fate2 at1 at2 hand1 hand2 before ended)
    (on_last : GoesOn counted told shared h2 told_seat h3 hub_seat3) (follows : FollowsAll shared (seen_of hub_seat3) h3) (from_l : BeginsWith (seen_of hub_seat3) (seen_of pd.launcher)) (from_r : BeginsWith (seen_of hub_seat3) (seen_of pd.reaping))
    (pair_same : last ≡ pd) (released_last : AreReleased shared o1 p last.launcher last.reaping hub_seat3) (start : Nothing tells at0) (no_hand : hand0 ≡ None) where
  -- ---- what stays as it was

  on2 : GoesOn counted told shared h2 hub_seat2 h3 hub_seat3
  on2 = subst (λ (x : Seat). GoesOn counted told shared h2 x h3 hub_seat3) hub_seat_same on_last

  released : AreReleased shared o1 p pd.launcher pd.reaping hub_seat3
  released = subst (λ (q : Pair C). AreReleased shared o1 p q.launcher q.reaping hub_seat3) pair_same released_last

  launcher-is : number_of pd.launcher ≡ 1
  launcher-is = e.launcher.number ∙ (still.number ∙ (taken.launcher.number ∙ (a.launcher.number ∙ opened.launcher.number_is)))

  reaping-is : number_of pd.reaping ≡ 2
  reaping-is = e.reaping.number ∙ (ap (λ (x : Seat). number_of x) same ∙ (a.reaping.number ∙ opened.reaping.number_is))

  early-is : number_of hub_seat1 ≡ 3
  early-is = reg.number_is ∙ opened.hub_seat.number_is

  back : AreBack shared p clients desks pd.launcher pd.reaping hub_seat3
  back = are-back shared o o1 p pb.launcher back_launcher pd.launcher pd.reaping hub_seat3 desks clients opened.desks.out opened.desks.count some many taken
      (begins-both (seen_of back_launcher) (seen_of pc.launcher) (seen_of pd.launcher) still.begins e.launcher.begins) released
      launcher-is reaping-is (on2.still.number ∙ (on1.still.number ∙ early-is))

  -- ---- what launcher and reaper keep

  kept : HaveTended tells asked asked1 fate1 (own_acts crew.pair.launcher) (own_acts crew.pair.reaping) (own_acts pc.launcher) (own_acts pc.reaping) at0 at1 hand0 hand1 (IsOk before)
  kept = have-tended tells crew.pair.launcher pb.launcher pc.launcher crew.pair.reaping pb.reaping pc.reaping asked asked1 fate fate1 at0 at1 hand0 hand1
      opened.launcher.mine opened.reaping.mine start no_hand a.attending (still.mine ∙ taken.launcher.mine) same

  -- ---- the hub's client

  -- the hub's client made no entry behind those that register
  hub_seat-mine : mine_of hub_seat3 ≡ mine_of hub_seat1
  hub_seat-mine = on2.still.mine ∙ on1.still.mine

  hub_seat-places : HavePlaces (mine_of hub_seat3) h3.ears.places
  hub_seat-places =
      let none : HavePlaces (mine_of crew.hub_seat.client) h0.ears.places = subst (λ (es : List Entry). HavePlaces es h0.ears.places) (sym opened.hub_seat.mine) tt in
      let first : HavePlaces (mine_of hub_seat1) h1.ears.places = reg.on.placed none in
      subst (λ (es : List Entry). HavePlaces es h3.ears.places) (sym hub_seat-mine) (subst (λ (ps : List (Option ℕ)). HavePlaces (mine_of hub_seat1) ps) (sym (on2.keeps.places ∙ on1.keeps.places)) first)

  pub left-made : IsLeft counted told tells Does shared p clients asked asked2 fate2 h0 h3 count ended
  left-made = record {
    desks = desks;
    launcher = launcher_at given least shared pd;
    reaping = pd.reaping;
    early = hub_seat1;
    hub_seat = hub_seat3;
    back = back;
    does = does;
    launcher_is = launcher-is;
    launcher_knows = e.launcher.own knows;
    reaping_is = reaping-is;
    reaping_knows = e.reaping.own (subst (λ (x : Seat). KnowsItsOwn x) (sym same) (a.reaping.own opened.reaping.own));
    early_is = early-is;
    early_knows = reg.own;
    hub_seat_mine = hub_seat-mine;
    from_early = begins-both (seen_of hub_seat1) (seen_of pc.launcher) (seen_of pd.launcher) (begins-both (seen_of hub_seat1) (seen_of hub_seat2) (seen_of pc.launcher) on1.still.begins from_hub_seat) e.launcher.begins;
    from_launcher = from_l;
    from_reaping = from_r;
    at = at2;
    hand = hand2;
    tends = e.attending.tends kept.tends;
    keeps = λ none. e.attending.keeps (kept.keeps none);
    agrees = λ ok none. e.attending.agrees ok (kept.keeps none) (kept.agrees (e.whole ok).0 none);
    settled = λ ok. (e.whole ok).1.settled;
    begins = λ ok. (e.whole ok).1.begins;
    short = e.short (refused-short (launcher_at given least shared crew.pair) (launcher_at given least shared pb) (reaping_at given least shared crew.pair) (reaping_at given least shared pb) _ before a.held_up);
    numbers = subst (RegistersFrom 1) (sym hub_seat-mine) reg.numbers;
    as_many = ap length hub_seat-mine ∙ reg.as_many;
    places = hub_seat-places;
    begun = on2.keeps.begun ∙ (on1.keeps.begun ∙ reg.on.begun);
    heard = λ h. on2.keeps.heard (on1.keeps.heard (reg.on.heard h));
    follows = follows;
  }

  -- no fate is changed
  pub fates-stay : fate2 ≡ fate
  fates-stay = e.attending.fates ∙ a.attending.fates
