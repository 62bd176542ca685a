use Rattle.std.proofs.Common.{◌≡◌, ◌+◌, List, ◌++◌, length, take, drop, refl, sym, ap, ◌∙◌, arith, length-take, length-drop}
use Rattle.drmaa_types.specs.declared.changes.Change.{Change}
use Rattle.drmaa_model.specs.History.{now_of}
use Rattle.change_callbacks.specs.Ears.{Listening}
use Rattle.script_play.proofs.Along.{on-none, on-then, on-batch}
use Rattle.script_play.proofs.Handing.{take-both}
use Rattle.script_play.proofs.hearing.hand_over.Goals as goal

pub overflow_add-next : goal.overflow_add-next
overflow_add-next g c =
    let all = (now_of c.args.player.now.ledger).plan.changes in
    let size = ap length c.changes_from-batch.ensures.value in
    omega (arith, size, length-take 64 (drop c.loop-next.next all), length-drop c.loop-next.next all, c.loop-next.invariant.within, c.counts-count.ensures.changes)

pub loop-next-init : goal.loop-next-init
loop-next-init g c =
    let all = (now_of c.args.player.now.ledger).plan.changes in
    let front = ap length c.requires.front in
    let count = c.requires.count in
    record {
      within = omega (arith, front, count, length-take c.args.from all);
      handed = c.requires.front;
      begun = refl;
      places = refl;
      heard = λ h. h;
      further = on-none g.B.Callback.counted g.B.Callback.told c.args.ears.now;
    }

pub loop-next-preserved : goal.loop-next-preserved
loop-next-preserved g c =
    let all = (now_of c.args.player.now.ledger).plan.changes in
    let batch : c.changes_from-batch.result.now ≡ take 64 (drop c.loop-next.next all) = c.changes_from-batch.ensures.value in
    let size = ap length batch in
    let old = c.loop-next.invariant in
    let before = ap length old.handed in
    let count : c.loop-next.next ≡ length c.loop-next.ears.handed = omega (arith, before, length-take c.loop-next.next all, old.within) in
    record {
      within = omega (arith, size, length-take 64 (drop c.loop-next.next all), length-drop c.loop-next.next all, old.within);
      handed = ap (λ (x : Listening g.row.B.Denot). x.handed) c.hand.ensures.handed
          ∙ (ap (λ (xs : List Change). xs ++ c.changes_from-batch.result.now) old.handed
          ∙ (ap (λ (xs : List Change). take c.loop-next.next all ++ xs) batch
          ∙ (take-both c.loop-next.next 64 all old.within ∙ ap (λ (xs : List Change). take (c.loop-next.next + length xs) all) (sym batch))));
      begun = ap (λ (x : Listening g.row.B.Denot). x.begun) c.hand.ensures.handed ∙ old.begun;
      places = ap (λ (x : Listening g.row.B.Denot). x.places) c.hand.ensures.handed ∙ old.places;
      heard = λ h. c.hand.ensures.heard (old.heard h);
      further = on-then g.B.Callback.counted g.B.Callback.told c.args.ears.now c.loop-next.ears c.hand.new.self (ap (λ (x : Listening g.row.B.Denot). x.places) c.hand.ensures.handed) old.further
          (on-batch g.B.Callback.counted g.B.Callback.told c.loop-next.next c.changes_from-batch.result.now c.loop-next.ears c.hand.new.self count c.hand.ensures.handed c.hand.ensures.hears);
    }
