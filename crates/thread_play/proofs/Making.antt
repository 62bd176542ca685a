-- From the parts of a run to what all leave.
use Rattle.std.proofs.Common.{◌≡◌, ◌≢◌, inl, inr, ℕ, ◌+◌, ◌<◌, List, [], ◌∷◌, ◌++◌, map, set, replicate, length, slice_index_or, Option, Some, None, refl, sym, ap, ◌∙◌, subst, append_assoc, length-append, arith}
use Rattle.std.specs.Prelude.{Result, Ok, Err, IsOk}
use Rattle.std.specs.List.{slice_get}
use Rattle.std.proofs.lemmas.List.{length-map}
use Rattle.child_spawner.specs.declared.fates.Asked.{Asked}
use Rattle.child_spawner.specs.declared.fates.Fate.{Fate}
use Rattle.child_spawner.specs.Children.{Told}
use Rattle.drmaa_types.specs.Readings.{Readings}
use Rattle.drmaa_types.specs.declared.refusals.Refusal.{Refusal}
use Rattle.drmaa_model.specs.declared.configs.Config.{Config}
use Rattle.drmaa_model.specs.declared.entries.Entry.{Entry}
use Rattle.turn_lock.specs.Histories.{BeginsWith}
use Rattle.turn_lock.specs.Tokens.{Named, BelongsTo}
use Rattle.call_history.specs.Clients.{Seat, seen_of, mine_of, number_of, retired_of, KnowsItsOwn}
use Rattle.call_history.specs.ClientLaws.{begins-both}
use Rattle.call_history.specs.Clocks.{dial}
use Rattle.call_history.specs.Timed.{IsTimed, StaysTimed}
use Rattle.notify_hub.specs.Hubs.{Following}
use Rattle.script_text.specs.declared.scripts.Script.{Script}
use Rattle.script_asks.specs.declared.given.Given.{Given}
use Rattle.attendant.specs.declared.pairs.Pair.{Pair}
use Rattle.attendant.specs.declared.reaper.Held.{Held}
use Rattle.attendant.specs.declared.reaper.Hand.{Hand}
use Rattle.attendant.specs.Acts.{own_acts}
use Rattle.attendant.specs.PairLaws.{post-itself}
use Rattle.attendant.specs.Pairs.{launcher_at, reaping_at, HasAttended}
use Rattle.attendant.specs.Posts.{IsStillAt}
use Rattle.attendant.specs.Outside.{Tends, AgreesOf}
use Rattle.beside_clients.specs.HubClients.{FollowsAll}
use Rattle.beside_clients.proofs.Tending.{Nothing, HaveTended, have-tended}
use Rattle.block_play.specs.declared.stops.Stopped.{Stopped}
use Rattle.block_play.specs.declared.stops.Stopped.TheVariants as stopped
use Rattle.thread_play.specs.declared.workers.Worker.{Worker}
use Rattle.thread_play.specs.Stages.{Hired, HavePlayed, Dismissed, EndsAs, stop_at, worse, worst, with_back}
use Rattle.thread_play.specs.Hubs.{IsReturned}
use Rattle.thread_play.specs.Pairs.{HasEnded, AreReleased}
use Rattle.thread_play.specs.Others.{IsEnded, HasGoneOn, by_attendant, by_client, Ends, Others, OthersHeard}
use Rattle.thread_play.proofs.Lists.{set-between, some-item}
use Rattle.thread_play.proofs.Clients.{Lists, own_lists, hired-count, with_back-all, worst-none, worst-full}
use Rattle.thread_play.proofs.Callers.{launcher-at-once, reaper-at-once}
use Rattle.thread_play.proofs.Posts.{still-timed, none-timed, told-on}
use Rattle.thread_play.proofs.Endings.{held-tended, full-held, whole-ok}

-- a client that was opened last
pub record IsOpened (shared : Named Config) (o p : Seat) (client : Seat) : Type 0 where
  pub opener : BelongsTo shared p
  pub retired : retired_of p ≡ retired_of o ++ None ∷ []
  pub seen : seen_of p ≡ seen_of o
  pub number : number_of client ≡ length (retired_of o)
  pub begins : seen_of client ≡ seen_of o
  pub mine : mine_of client ≡ []
  pub own : KnowsItsOwn client

begins-same : (a b c : List Entry) → BeginsWith a b → b ≡ c → BeginsWith a c
begins-same a b c h is = subst (BeginsWith a) is h

module _ {C T : Type 0} (given : C → Readings) (least : C → ℕ) (told : T → Option Told) (s : Script) (names : List (List ℕ × Given)) (shared : Named Config)
    (o p0 p1 p2 ph p3 p4 p5 hub_seat0 hub_seat : Seat) (ws vs : List (Worker C)) (pa pb pc pd : Pair C)
    (asked asked1 asked2 : Option (List Asked)) (fate fate1 fate2 : ℕ → Fate) (at0 at1 at2 : ℕ → Option (Held T)) (hand0 hand1 hand2 : Option Hand)
    (r : Result (Unit {0}) Refusal) (end : Result (Unit {0}) Stopped) (ended after : Option Stopped) (clocks0 clocks1 clocks2 clocks3 : List C) (clock_h : C)
    (clock_h0 : C) (first : length (retired_of o) ≡ 1) (hired : Hired given shared o p0 ws) (count : length ws ≡ length s.clients)
    (whose_l : (given pa.launcher_clock).caller ≡ Some (length s.clients + 1)) (whose_r : (given pa.reaping_clock).caller ≡ Some (length s.clients + 2)) (whose_h : (given clock_h0).caller ≡ Some (length s.clients + 3))
    (ol : IsOpened shared p0 p1 pa.launcher) (or : IsOpened shared p1 p2 pa.reaping) (oh : IsOpened shared p2 ph hub_seat0) (start : Nothing told at0) (no_hand : hand0 ≡ None)
    (a : HasAttended given least told shared pa pb asked asked1 fate fate1 at0 at1 hand0 hand1 r) (played : HavePlayed given shared s names ws vs) (ends_so : EndsAs r end)
    (d : Dismissed shared ph p3 pb.launcher pc.launcher vs) (clock_l : pc.launcher_clock ≡ pb.launcher_clock) (same_r : pc.reaping ≡ pb.reaping) (clock_r : pc.reaping_clock ≡ pb.reaping_clock)
    (worst_is : ended ≡ worst (worse None end) vs)
    (e : HasEnded given least told shared pc pd asked1 asked2 fate1 fate2 at1 at2 hand1 hand2 ended after) (rel : AreReleased shared p3 p4 pd)
    (clocks_d : clocks1 ≡ clocks0 ++ map (λ (w : Worker C). w.clock) vs) (clocks_r : clocks2 ≡ (clocks1 ++ pd.launcher_clock ∷ []) ++ pd.reaping_clock ∷ [])
    (back : IsReturned shared p4 p5 hub_seat) (hub_seat_number : number_of hub_seat ≡ number_of hub_seat0) (hub_seat_mine : mine_of hub_seat ≡ mine_of hub_seat0) (hub_seat_timed : StaysTimed (mine_of hub_seat0) (given clock_h0) (mine_of hub_seat) (given clock_h)) (clocks_h : clocks3 ≡ clocks2 ++ clock_h ∷ []) where
  -- ---- what was seen

  seen-o : seen_of ph ≡ seen_of o
  seen-o = oh.seen ∙ (or.seen ∙ (ol.seen ∙ hired.seen))

  -- what the opener had seen when launcher and reaper were back, it has seen at the end
  at-last : (seen : List Entry) → BeginsWith (seen_of p4) seen → BeginsWith (seen_of p5) seen
  at-last seen b = begins-both seen (seen_of p4) (seen_of p5) b back.begins

  begins-o : BeginsWith (seen_of p5) (seen_of o)
  begins-o = at-last (seen_of o) (begins-same (seen_of p4) (seen_of ph) (seen_of o) (begins-both (seen_of ph) (seen_of p3) (seen_of p4) d.seen rel.begins) seen-o)

  -- the launcher's client, from its opening to its return
  bc : BeginsWith (seen_of pc.launcher) (seen_of pb.launcher)
  bc = d.launcher.begins

  cd : BeginsWith (seen_of pd.launcher) (seen_of pc.launcher)
  cd = e.launcher.begins

  known-first : BeginsWith (seen_of pd.launcher) (seen_of o)
  known-first = begins-same (seen_of pd.launcher) (seen_of pa.launcher) (seen_of o)
      (begins-both (seen_of pa.launcher) (seen_of pb.launcher) (seen_of pd.launcher) a.launcher.begins (begins-both (seen_of pb.launcher) (seen_of pc.launcher) (seen_of pd.launcher) bc cd))
      (ol.begins ∙ hired.seen)

  -- ---- what launcher and reaper keep

  kept : HaveTended told asked asked1 fate1 (own_acts pa.launcher) (own_acts pa.reaping) (own_acts pc.launcher) (own_acts pc.reaping) at0 at1 hand0 hand1 (IsOk r)
  kept = have-tended told pa.launcher pb.launcher pc.launcher pa.reaping pb.reaping pc.reaping asked asked1 fate fate1 at0 at1 hand0 hand1 ol.mine or.mine start no_hand a.attending d.mine same_r

  tends-b : Tends (own_acts pb.launcher) (own_acts pb.reaping) at1 hand1
  tends-b = a.attending.tends kept.first

  tends-d : Tends (own_acts pd.launcher) (own_acts pd.reaping) at2 hand2
  tends-d = e.attending.tends kept.tends

  well : after ≡ None → (worse None end ≡ None) × ((i : ℕ) (v : Worker C) → i < length vs → (slice_index_or vs i v).ended ≡ Ok tt)
  well none = worst-none (worse None end) vs (sym worst_is ∙ (e.whole none).0)

  agrees-d : after ≡ None → asked ≡ Some [] → AgreesOf asked2 fate2 (own_acts pd.launcher) (own_acts pd.reaping)
  agrees-d none q = e.attending.agrees none (kept.keeps q) (kept.agrees (whole-ok given least told shared r end ends_so (well none).0) q)

  -- ---- the clients

  vs-count : length vs ≡ length s.clients
  vs-count = played.count ∙ count

  in-ws : (i : ℕ) → i < length vs → i < length ws
  in-ws i h = let c = played.count in omega arith

  client-number : (i : ℕ) (v : Worker C) → i < length vs → number_of (slice_index_or vs i v).client ≡ i + 1
  client-number i v h =
      let w = some-item ws i (in-ws i h) in
      let hp = played.each i v (in-ws i h) in
      let n = (hired.each i v (in-ws i h)).client.number_is in
      hp.still.number ∙ n

  sufficed : (full : Option ℕ) → after ≡ stop_at full → (i : ℕ) (v : Worker C) → i < length vs → (slice_index_or vs i v).ended ≢ Err stopped.Memory
  sufficed None is i v h bad = let good = (well is).1 i v h in absurd (cc)
  sufficed (Some size) is i v h bad = elim (e.full size is) [
    | inl before ↦ (worst-full (worse None end) vs size (sym worst_is ∙ before)).sufficed i v h bad
    | inr then ↦ (let good = (worst-none (worse None end) vs (sym worst_is ∙ then.0)).1 i v h in absurd (cc))
  ]

  client-ended : (full : Option ℕ) → after ≡ stop_at full → (i : ℕ) (v : Worker C) → i < length vs → IsEnded given shared.fixed s names i (slice_index_or vs i v)
  client-ended full is i v h =
      let hi = hired.each i v (in-ws i h) in
      let hp = played.each i v (in-ws i h) in
      record {
        back = record {
          number_is = client-number i v h;
          own = hp.still.own hi.client.own;
          timed = hp.timed (Some (i + 1)) (none-timed (Some (i + 1)) (given (slice_index_or ws i v).clock) (mine_of (slice_index_or ws i v).client) hi.caller hi.client.mine);
        };
        sufficed = sufficed full is i v h;
        played = λ block at. hp.played hi.client.mine block (subst (λ (k : ℕ). slice_get s.clients k ≡ Some block) (sym hi.place_is) at);
      }

  -- ---- launcher and reaper

  launcher-first : number_of pa.launcher ≡ length s.clients + 1
  launcher-first = ol.number ∙ (let n = hired-count given shared o p0 ws hired in let c = count in let f = first in omega arith)

  launcher-middle : number_of pc.launcher ≡ length s.clients + 1
  launcher-middle = d.launcher.number ∙ (a.launcher.number ∙ launcher-first)

  launcher-number : number_of pd.launcher ≡ length s.clients + 1
  launcher-number = e.launcher.number ∙ launcher-middle

  opened-count : length (retired_of p1) ≡ length (retired_of p0) + 1
  opened-count = ap length ol.retired ∙ length-append (retired_of p0) (None ∷ [])

  reaping-first : number_of pa.reaping ≡ length s.clients + 2
  reaping-first = or.number ∙ (let n = hired-count given shared o p0 ws hired in let c = count in let f = first in let m = opened-count in omega arith)

  reaping-middle : number_of pc.reaping ≡ length s.clients + 2
  reaping-middle = ap (λ (x : Seat). number_of x) same_r ∙ (a.reaping.number ∙ reaping-first)

  own-middle : KnowsItsOwn pc.reaping
  own-middle = subst (λ (x : Seat). KnowsItsOwn x) (sym same_r) (a.reaping.own or.own)

  launcher-timed-first : IsTimed (Some (length s.clients + 1)) (mine_of pa.launcher) (given pa.launcher_clock)
  launcher-timed-first = none-timed (Some (length s.clients + 1)) (given pa.launcher_clock) (mine_of pa.launcher) whose_l ol.mine

  launcher-timed-middle : IsTimed (Some (length s.clients + 1)) (mine_of pc.launcher) (given pc.launcher_clock)
  launcher-timed-middle =
      let one : IsTimed (Some (length s.clients + 1)) (mine_of pb.launcher) (given pb.launcher_clock) =
      still-timed (launcher_at given least shared pa) (launcher_at given least shared pb) a.launcher (launcher-at-once [] (mine_of pb.launcher) tends-b.launches) (Some (length s.clients + 1)) launcher-timed-first in
      subst (λ (es : List Entry). IsTimed (Some (length s.clients + 1)) es (given pc.launcher_clock)) (sym d.mine) (subst (λ (c : C). IsTimed (Some (length s.clients + 1)) (mine_of pb.launcher) (given c)) (sym clock_l) one)

  launcher-timed : IsTimed (Some (length s.clients + 1)) (mine_of pd.launcher) (given pd.launcher_clock)
  launcher-timed =
      still-timed (launcher_at given least shared pc) (launcher_at given least shared pd) e.launcher (launcher-at-once [] (mine_of pd.launcher) tends-d.launches) (Some (length s.clients + 1)) launcher-timed-middle

  reaping-timed-first : IsTimed (Some (length s.clients + 2)) (mine_of pa.reaping) (given pa.reaping_clock)
  reaping-timed-first = none-timed (Some (length s.clients + 2)) (given pa.reaping_clock) (mine_of pa.reaping) whose_r or.mine

  reaping-timed-middle : IsTimed (Some (length s.clients + 2)) (mine_of pc.reaping) (given pc.reaping_clock)
  reaping-timed-middle =
      let one : IsTimed (Some (length s.clients + 2)) (mine_of pb.reaping) (given pb.reaping_clock) =
      still-timed (reaping_at given least shared pa) (reaping_at given least shared pb) a.reaping (reaper-at-once [] (mine_of pb.reaping) tends-b.reports) (Some (length s.clients + 2)) reaping-timed-first in
      subst (λ (x : Seat). IsTimed (Some (length s.clients + 2)) (mine_of x) (given pc.reaping_clock)) (sym same_r) (subst (λ (c : C). IsTimed (Some (length s.clients + 2)) (mine_of pb.reaping) (given c)) (sym clock_r) one)

  reaping-timed : IsTimed (Some (length s.clients + 2)) (mine_of pd.reaping) (given pd.reaping_clock)
  reaping-timed =
      still-timed (reaping_at given least shared pc) (reaping_at given least shared pd) e.reaping (reaper-at-once [] (mine_of pd.reaping) tends-d.reports) (Some (length s.clients + 2)) reaping-timed-middle

  -- a clock that is its caller's, by the number of the caller's client
  by-number : (n : ℕ) (client : Seat) (clock : C) → number_of client ≡ n → IsTimed (Some n) (mine_of client) (given clock) → IsTimed (Some (number_of client)) (mine_of client) (given clock)
  by-number n client clock is t = subst (λ (k : ℕ). IsTimed (Some k) (mine_of client) (given clock)) (sym is) t

  -- ---- from the first work of launcher and reaper to the last, and from the last alone

  launcher-gone : HasGoneOn shared (launcher_at given least shared pa) (launcher_at given least shared pb) (launcher_at given least shared pd)
  launcher-gone = record {
    shared_is = refl;
    number = e.launcher.number ∙ (d.launcher.number ∙ a.launcher.number);
    own = ol.own;
    timed = by-number (length s.clients + 1) pa.launcher pa.launcher_clock launcher-first launcher-timed-first;
    on = subst (λ (c : C). IsStillAt (record { shared = shared; client = pb.launcher; clock = dial (given c) (least c) }) (launcher_at given least shared pd)) clock_l
        (told-on shared pb.launcher pc.launcher (dial (given pc.launcher_clock) (least pc.launcher_clock)) (launcher_at given least shared pd) d.launcher d.mine e.launcher);
  }

  reaping-gone : HasGoneOn shared (reaping_at given least shared pa) (reaping_at given least shared pb) (reaping_at given least shared pd)
  reaping-gone = record {
    shared_is = refl;
    number = e.reaping.number ∙ (ap (λ (x : Seat). number_of x) same_r ∙ a.reaping.number);
    own = or.own;
    timed = by-number (length s.clients + 2) pa.reaping pa.reaping_clock reaping-first reaping-timed-first;
    on = subst (λ (c : C). IsStillAt (record { shared = shared; client = pb.reaping; clock = dial (given c) (least c) }) (reaping_at given least shared pd)) clock_r
        (subst (λ (x : Seat). IsStillAt (record { shared = shared; client = x; clock = dial (given pc.reaping_clock) (least pc.reaping_clock) }) (reaping_at given least shared pd)) same_r e.reaping);
  }

  launcher-ended : HasGoneOn shared (launcher_at given least shared pc) (launcher_at given least shared pd) (launcher_at given least shared pd)
  launcher-ended = record {
    shared_is = refl;
    number = e.launcher.number;
    own = d.launcher.own (a.launcher.own ol.own);
    timed = by-number (length s.clients + 1) pc.launcher pc.launcher_clock launcher-middle launcher-timed-middle;
    on = post-itself (launcher_at given least shared pd) e.launcher.client;
  }

  reaping-ended : HasGoneOn shared (reaping_at given least shared pc) (reaping_at given least shared pd) (reaping_at given least shared pd)
  reaping-ended = record {
    shared_is = refl;
    number = e.reaping.number;
    own = own-middle;
    timed = by-number (length s.clients + 2) pc.reaping pc.reaping_clock reaping-middle reaping-timed-middle;
    on = post-itself (reaping_at given least shared pd) e.reaping.client;
  }

  -- ---- the lists of those that are back

  front-size : length (retired_of o ++ own_lists vs) ≡ length s.clients + 1
  front-size = let a = length-append (retired_of o) (own_lists vs) in let b = length-map vs (λ (w : Worker C). Some (mine_of w.client)) in let c = vs-count in let f = first in omega arith

  lists-both : retired_of p4 ≡ (retired_of o ++ own_lists vs) ++ Some (mine_of pd.launcher) ∷ Some (mine_of pd.reaping) ∷ None ∷ []
  lists-both =
      let nones : Lists = replicate (length vs) None in
      let n : length ws ≡ length vs = sym played.count in
      let two : retired_of p2 ≡ retired_of o ++ (nones ++ None ∷ None ∷ []) =
      or.retired ∙ (ap (λ (l : Lists). l ++ None ∷ []) (ol.retired ∙ ap (λ (l : Lists). l ++ None ∷ []) (hired.retired ∙ ap (λ (k : ℕ). retired_of o ++ replicate k None) n))
      ∙ (append_assoc (retired_of o ++ nones) (None ∷ []) (None ∷ []) ∙ append_assoc (retired_of o) nones (None ∷ None ∷ []))) in
      let all : retired_of ph ≡ retired_of o ++ (nones ++ None ∷ None ∷ None ∷ []) =
      oh.retired ∙ (ap (λ (l : Lists). l ++ None ∷ []) two
      ∙ (append_assoc (retired_of o) (nones ++ None ∷ None ∷ []) (None ∷ []) ∙ ap (λ (l : Lists). retired_of o ++ l) (append_assoc nones (None ∷ None ∷ []) (None ∷ [])))) in
      let three : retired_of p3 ≡ (retired_of o ++ own_lists vs) ++ None ∷ None ∷ None ∷ [] =
      d.retired ∙ (ap (λ (l : Lists). with_back l vs) all
      ∙ (with_back-all (retired_of o) (None ∷ None ∷ None ∷ []) vs (λ i v h. let k = client-number i v h in let f = first in omega arith) ∙ sym (append_assoc (retired_of o) (own_lists vs) (None ∷ None ∷ None ∷ [])))) in
      let ml = Some (mine_of pd.launcher) in
      let mr = Some (mine_of pd.reaping) in
      let four : set (retired_of p3) (number_of pd.launcher) ml ≡ (retired_of o ++ own_lists vs) ++ ml ∷ None ∷ None ∷ [] =
      ap (λ (l : Lists). set l (number_of pd.launcher) ml) three ∙ set-between (retired_of o ++ own_lists vs) None ml (None ∷ None ∷ []) (number_of pd.launcher) (launcher-number ∙ sym front-size) in
      let longer = length-append (retired_of o ++ own_lists vs) (ml ∷ []) in
      let size = front-size in
      let last : number_of pd.reaping ≡ length ((retired_of o ++ own_lists vs) ++ ml ∷ []) = (let k : number_of pd.reaping ≡ length s.clients + 2 = e.reaping.number ∙ reaping-middle in omega arith) in
      rel.retired ∙ (ap (λ (l : Lists). set l (number_of pd.reaping) mr) (four ∙ sym (append_assoc (retired_of o ++ own_lists vs) (ml ∷ []) (None ∷ None ∷ [])))
      ∙ (set-between ((retired_of o ++ own_lists vs) ++ ml ∷ []) None mr (None ∷ []) (number_of pd.reaping) last
      ∙ append_assoc (retired_of o ++ own_lists vs) (ml ∷ []) (mr ∷ None ∷ [])))

  hub_seat-last : number_of hub_seat ≡ length s.clients + 3
  hub_seat-last =
      let m = opened-count in
      let k = ap length or.retired in
      let l = length-append (retired_of p1) (None ∷ []) in
      let n = hired-count given shared o p0 ws hired in
      let c = count in
      let f = first in
      hub_seat_number ∙ (oh.number ∙ omega arith)

  lists : retired_of p5 ≡ retired_of o ++ (own_lists vs ++ Some (mine_of pd.launcher) ∷ Some (mine_of pd.reaping) ∷ Some (mine_of hub_seat) ∷ [])
  lists =
      let ml = Some (mine_of pd.launcher) in
      let mr = Some (mine_of pd.reaping) in
      let mh = Some (mine_of hub_seat) in
      let both : Lists = (retired_of o ++ own_lists vs) ++ ml ∷ mr ∷ [] in
      let longer : length both ≡ length (retired_of o ++ own_lists vs) + 2 = length-append (retired_of o ++ own_lists vs) (ml ∷ mr ∷ []) in
      let size = front-size in
      let number = hub_seat-last in
      back.retired ∙ (ap (λ (l : Lists). set l (number_of hub_seat) mh) (lists-both ∙ sym (append_assoc (retired_of o ++ own_lists vs) (ml ∷ mr ∷ []) (None ∷ [])))
      ∙ (set-between both None mh [] (number_of hub_seat) (omega arith)
      ∙ (append_assoc (retired_of o ++ own_lists vs) (ml ∷ mr ∷ []) (mh ∷ []) ∙ append_assoc (retired_of o) (own_lists vs) (ml ∷ mr ∷ mh ∷ []))))

  all-clocks : clocks3 ≡ clocks0 ++ (map (λ (w : Worker C). w.clock) vs ++ pd.launcher_clock ∷ pd.reaping_clock ∷ clock_h ∷ [])
  all-clocks =
      let theirs = map (λ (w : Worker C). w.clock) vs in
      let two = pd.launcher_clock ∷ pd.reaping_clock ∷ [] in
      clocks_h ∙ (ap (λ (l : List C). l ++ clock_h ∷ []) (clocks_r ∙ (append_assoc clocks1 (pd.launcher_clock ∷ []) (pd.reaping_clock ∷ []) ∙ ap (λ (l : List C). l ++ two) clocks_d))
      ∙ (append_assoc (clocks0 ++ theirs) two (clock_h ∷ []) ∙ append_assoc clocks0 theirs (pd.launcher_clock ∷ pd.reaping_clock ∷ clock_h ∷ [])))

  -- ---- how it ended

  ends-by : (full : Option ℕ) → after ≡ stop_at full → Ends shared vs (launcher_at given least shared pd) (reaping_at given least shared pd) full
  ends-by None is = let so = (e.whole is).1 in record { ended = (well is).1; settled = so.settled; begins = so.begins }
  ends-by (Some size) is = elim (e.full size is) [
    | inl before ↦ elim ((worst-full (worse None end) vs size (sym worst_is ∙ before)).cause) [
      | inl attendants ↦ by_attendant (launcher_at given least shared pa) (launcher_at given least shared pb) (reaping_at given least shared pa) (reaping_at given least shared pb) launcher-gone reaping-gone
          (held-tended _ _ _ _ _ _ kept.first (full-held given least told shared pa pb _ r end size ends_so attendants a.held_up))
      | inr met ↦ by_client met.place met.item met.within met.met
    ]
    | inr then ↦ by_attendant (launcher_at given least shared pc) (launcher_at given least shared pd) (reaping_at given least shared pc) (reaping_at given least shared pd) launcher-ended reaping-ended (held-tended _ _ _ _ _ _ kept.tends then.1)
  ]

  pub others-made : (full : Option ℕ) → after ≡ stop_at full → Others given told s names shared o p5 asked asked2 fate2 clocks0 clocks3 full
  others-made full is = record {
    opener = back.opener;
    begins = begins-o;
    ws = vs;
    count = vs-count;
    clients = client-ended full is;
    launcher = launcher_at given least shared pd;
    launcher_clock = pd.launcher_clock;
    launcher_given = refl;
    launcher_back = record { number_is = launcher-number; own = e.launcher.own (d.launcher.own (a.launcher.own ol.own)); timed = launcher-timed };
    reaping = pd.reaping;
    reaping_clock = pd.reaping_clock;
    reaping_least = least pd.reaping_clock;
    reaping_back = record { number_is = e.reaping.number ∙ reaping-middle; own = e.reaping.own own-middle; timed = reaping-timed };
    hub_seat = hub_seat;
    hub_seat_clock = clock_h;
    hub_seat_mine = hub_seat_mine ∙ oh.mine;
    hub_seat_timed = hub_seat_timed (Some (length s.clients + 3)) (none-timed (Some (length s.clients + 3)) (given clock_h0) (mine_of hub_seat0) whose_h oh.mine);
    retired = lists;
    clocks_are = all-clocks;
    known = at-last (seen_of pd.launcher) rel.launcher;
    known_reaping = at-last (seen_of pd.reaping) rel.reaping;
    known_first = known-first;
    known_clients = λ i v h. begins-both (seen_of (slice_index_or vs i v).client) (seen_of pc.launcher) (seen_of pd.launcher) (d.told i v h) cd;
    at = at2;
    hand = hand2;
    tends = tends-d;
    keeps = λ none. e.attending.keeps (kept.keeps none);
    agrees = λ none. agrees-d (is ∙ ap stop_at none);
    ends = ends-by full is;
  }

  -- the hub with it
  pub heard-made : {B : Type 0} (hub : Following B) (full : Option ℕ) → after ≡ stop_at full → BeginsWith (seen_of hub_seat) (seen_of pd.launcher) → BeginsWith (seen_of hub_seat) (seen_of pd.reaping)
      → FollowsAll shared (seen_of hub_seat) hub → OthersHeard given told s names shared o p5 asked asked2 fate2 clocks0 clocks3 full hub
  unfolding others-made
  heard-made hub full is launched reaped follows = record { others = others-made full is; known = back.known; launcher = launched; reaping = reaped; follows = follows }
