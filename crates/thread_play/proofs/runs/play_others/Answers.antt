use Rattle.std.proofs.Common.{◌≡◌, ℕ, List, [], ◌∷◌, ◌++◌, length-append, Option, Some, None, length, ap, refl, ◌∙◌, subst, arith, slice_index_or}
use Rattle.std.proofs.lemmas.Result.{IfOk-at_ok, IfOk-weaker}
use Rattle.slab.specs.Slab.{Slab, get}
use Rattle.call_history.specs.Clients.{retired_of}
use Rattle.attendant.specs.declared.pairs.Pair.{Pair}
use Rattle.block_play.specs.declared.stops.Stopped.{Stopped}
use Rattle.thread_play.specs.Stages.{HavePlayed, worst}
use Rattle.thread_play.specs.Pairs.{AreReleased}
use Rattle.thread_play.proofs.Clients.{hired-count}
use Rattle.beside_clients.proofs.Keeping.{keeps-both}
use Rattle.thread_play.proofs.Making.{heard-made}
use Rattle.thread_play.proofs.runs.play_others.Goals as goal

pub open_client-requires-clause-room : goal.open_client-requires-clause-room
open_client-requires-clause-room g c =
    let n = hired-count g.K.One.Clock.given c.args.shared.now c.args.opener.now c.hire.new.opener c.in_ok-workers.workers.items c.in_ok-workers.ensures.hired in
    let k = c.in_ok-workers.ensures.count in
    let first = c.requires.first in
    let few = c.requires.few in
    omega arith

pub open_client-requires-2-clause-room : goal.open_client-requires-2-clause-room
open_client-requires-2-clause-room g c =
    let n = hired-count g.K.One.Clock.given c.args.shared.now c.args.opener.now c.hire.new.opener c.in_ok-workers.workers.items c.in_ok-workers.ensures.hired in
    let k = c.in_ok-workers.ensures.count in
    let first = c.requires.first in
    let few = c.requires.few in
    let m = ap length c.open_client.ensures.retired in
    let l = length-append (retired_of c.hire.new.opener) (None ∷ []) in
    omega arith

pub open_client-requires-3-clause-room : goal.open_client-requires-3-clause-room
open_client-requires-3-clause-room g c =
    let n = hired-count g.K.One.Clock.given c.args.shared.now c.args.opener.now c.hire.new.opener c.in_ok-workers.workers.items c.in_ok-workers.ensures.hired in
    let k = c.in_ok-workers.ensures.count in
    let first = c.requires.first in
    let few = c.requires.few in
    let m = ap length c.open_client.ensures.retired in
    let l = length-append (retired_of c.hire.new.opener) (None ∷ []) in
    let m2 = ap length c.open_client-2.ensures.retired in
    let l2 = length-append (retired_of c.open_client.new.opener) (None ∷ []) in
    omega arith

pub play_beside-attended-requires-clause-workers : goal.play_beside-attended-requires-clause-workers
play_beside-attended-requires-clause-workers g c κs within k d below =
    let h = c.in_ok-workers.ensures.hired.each k d below in
    record { free = h.client.free; block = (let n = c.in_ok-workers.ensures.count in let p = h.place_is in omega arith) }

pub dismiss-ended-requires-clause-each : goal.dismiss-ended-requires-clause-each
dismiss-ended-requires-clause-each g c k d below =
    let played : HavePlayed g.K.One.Clock.given c.args.shared.now c.args.script.now c.args.names.now c.in_ok-workers.workers.items c.play_beside-attended.new.workers.items =
    IfOk-at_ok _ c.in_ok-played.was c.play_beside-attended.ensures.workers in
    (played.each k d (let n = played.count in omega arith)).still.client

no-child : {X : Type 0} (children : Slab X) → children.slots ≡ [] → (k : ℕ) → get children k ≡ None
no-child {X = X} children none k = ap (λ (l : List (Option X)). slice_index_or l k None) none

pub returns-clause-others : goal.returns-clause-others
returns-clause-others g c =
    let shared = c.args.shared.now in
    let pa : Pair g.row.K-One.Denot = record { launcher = c.open_client.result; launcher_clock = c.clock.result; reaping = c.open_client-2.result; reaping_clock = c.clock-2.result } in
    let pb = c.play_beside-attended.result.0.pair in
    let pc : Pair g.row.K-One.Denot = record pb { launcher = c.dismiss-ended.new.launcher } in
    let pd = c.end_others-pair.result.0 in
    let hub_seat = c.pump_last.new.hub_seat in
    let at0 = get c.new-reaper.result.children in
    let none : (k : ℕ) → at0 k ≡ None = no-child c.new-reaper.result.children c.new-reaper.ensures.children in
    let laws = c.nothing_is_kept.ensures in
    let played : HavePlayed g.K.One.Clock.given shared c.args.script.now c.args.names.now c.in_ok-workers.workers.items c.play_beside-attended.new.workers.items =
    IfOk-at_ok _ c.in_ok-played.was c.play_beside-attended.ensures.workers in
    let ol = c.open_client.ensures in
    let or = c.open_client-2.ensures in
    let oh = c.open_client-3.ensures in
    let first = c.play_beside-attended.ensures.hub in
    let last = c.pump_last.ensures in
    let released : AreReleased shared c.dismiss-ended.new.opener c.release.new.opener pd = subst (λ (p : Pair g.row.K-One.Denot). AreReleased shared c.dismiss-ended.new.opener c.release.new.opener p) last.pair c.release.ensures.back in
    let clocks : c.release.new.clocks.items ≡ (c.dismiss-ended.new.clocks.items ++ pd.launcher_clock ∷ []) ++ pd.reaping_clock ∷ [] =
    subst (λ (p : Pair g.row.K-One.Denot). c.release.new.clocks.items ≡ (c.dismiss-ended.new.clocks.items ++ p.launcher_clock ∷ []) ++ p.reaping_clock ∷ []) last.pair c.release.ensures.clocks in
    IfOk-weaker c.full_of.result _ _ (λ full is.
    heard-made g.K.One.Clock.given g.K.One.Clock.least g.S.One.Child.told c.args.script.now c.args.names.now shared
    c.args.opener.now c.hire.new.opener c.open_client.new.opener c.open_client-2.new.opener c.open_client-3.new.opener c.dismiss-ended.new.opener c.release.new.opener c.end_hub_seat.new.opener
    c.open_client-3.result hub_seat.client
    c.in_ok-workers.workers.items c.play_beside-attended.new.workers.items pa pb pc pd
    (g.S.Spawner.asked c.args.spawner.now) (g.S.Spawner.asked c.play_beside-attended.new.spawner) (g.S.Spawner.asked c.end_others-pair.new.spawner)
    (g.S.Spawner.fate c.args.spawner.now) (g.S.Spawner.fate c.play_beside-attended.new.spawner) (g.S.Spawner.fate c.end_others-pair.new.spawner)
    at0 (get c.play_beside-attended.new.reaper.children) (get c.end_others-pair.new.reaper.children)
    c.new-reaper.result.order c.play_beside-attended.new.reaper.order c.end_others-pair.new.reaper.order
    c.play_beside-attended.result.0.ended c.stopped_by.result c.dismiss-ended.result c.end_others-pair.result.1
    c.args.given.now.items c.dismiss-ended.new.clocks.items c.release.new.clocks.items c.end_hub_seat.new.clocks.items hub_seat.clock c.clock-3.result
    c.requires.first c.in_ok-workers.ensures.hired (let n = c.in_ok-workers.ensures.count in omega arith)
    (c.clock.ensures.caller ∙ ap Some (let n = ap length c.as_slice.ensures in omega arith)) (c.clock-2.ensures.caller ∙ ap Some (let n = ap length c.as_slice.ensures in omega arith)) (c.clock-3.ensures.caller ∙ ap Some (let n = ap length c.as_slice.ensures in omega arith))
    (record { opener = ol.opener; retired = ol.retired; seen = ol.seen; number = ol.number; begins = ol.begins; mine = ol.mine; own = ol.own })
    (record { opener = or.opener; retired = or.retired; seen = or.seen; number = or.number; begins = or.begins; mine = or.mine; own = or.own })
    (record { opener = oh.opener; retired = oh.retired; seen = oh.seen; number = oh.number; begins = oh.begins; mine = oh.mine; own = oh.own })
    (record { untold = λ fate. laws.untold fate at0 none; keeps = λ fate. laws.keeps fate at0 none; agrees = laws.agrees })
    c.new-reaper.ensures.order c.play_beside-attended.ensures.attended played c.stopped_by.ensures c.dismiss-ended.ensures.back refl refl refl
    (c.dismiss-ended.ensures.ended ∙ ap (λ (k : Option Stopped). worst k c.play_beside-attended.new.workers.items) c.worse.ensures)
    c.end_others-pair.ensures released c.dismiss-ended.ensures.clocks clocks
    c.end_hub_seat.ensures.back (last.on.still.number ∙ first.still.number) (last.on.still.mine ∙ first.still.mine) (λ caller t. last.timed caller (c.play_beside-attended.ensures.timed.timed caller t)) c.end_hub_seat.ensures.clocks
    c.pump_last.new.hub full is last.launcher last.reaping last.follows) c.full_of.ensures

pub returns-clause-keeps : goal.returns-clause-keeps
returns-clause-keeps g c =
    keeps-both g.B.Callback.counted g.B.Callback.told c.args.hub.now c.play_beside-attended.new.hub c.pump_last.new.hub c.play_beside-attended.ensures.hub.keeps c.pump_last.ensures.on.keeps
