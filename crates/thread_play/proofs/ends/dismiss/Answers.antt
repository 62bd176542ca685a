use Rattle.std.proofs.Common.{rules, ◌≡◌, ◌∙◌, ap, sym, subst, set, Some, arith, length, ◌++◌, ◌∷◌, [], List, map, append_assoc, append-nil}
use Rattle.std.proofs.lemmas.List.{nil_from_length}
use Rattle.std.specs.Vec.Iter.{into_iter_items, into_iter_len}
use Rattle.call_history.specs.Clients.{Seat, retired_of, number_of, mine_of}
use Rattle.thread_play.specs.declared.workers.Worker.{Worker}
use Rattle.thread_play.proofs.Clients.{Dismissing, dismissing-none, dismissing-more}
use Rattle.thread_play.proofs.ends.dismiss.Goals as goal

more : {C : Type 0} (xs ys : List C) (w : Worker C) (all rest : List (Worker C)) → ys ≡ xs ++ w.clock ∷ [] → all ≡ w ∷ rest → ys ++ map (λ (v : Worker C). v.clock) rest ≡ xs ++ map (λ (v : Worker C). v.clock) all
more {C = C} xs ys w all rest a b = ap (λ l. l ++ map (λ (v : Worker C). v.clock) rest) a ∙ append_assoc xs (w.clock ∷ []) (map (λ (v : Worker C). v.clock) rest) ∙ ap (λ l. xs ++ map (λ (v : Worker C). v.clock) l) (sym b)

pub loop-worker-init : goal.loop-worker-init
loop-worker-init g c =
    let gives : into_iter_items c.into_iter-worker-iterator.result ≡ c.args.workers.items = search rules in
    let size : length (into_iter_items c.into_iter-worker-iterator.result) ≡ into_iter_len c.into_iter-worker-iterator.result = search rules in (
      tt,
      tt,
      size,
      record {
        done = [];
        going = subst (λ (l : List (Worker g.row.C.Denot)). Dismissing c.args.shared.now c.args.opener.now c.args.opener.now c.args.launcher.now c.args.launcher.now c.args.workers.items [] l c.args.ended c.args.ended) (sym gives)
            (dismissing-none c.args.shared.now c.args.opener.now c.args.launcher.now c.args.workers.items c.args.ended c.requires.opener c.requires.launcher c.requires.each);
      },
      ap (λ (l : List (Worker g.row.C.Denot)). c.args.clocks.now.items ++ map (λ (w : Worker g.row.C.Denot). w.clock) l) gives,
      search rules,
      search rules,
    )

pub loop-worker-preserved : goal.loop-worker-preserved
loop-worker-preserved g c =
    let i = c.loop-worker.invariant in
    let t = c.in-Some.ensures.steps in
    let h = c.hand_over.ensures in
    let r = c.retire.ensures in
    let so = i.3 in
    let here = subst (λ (l : List (Worker g.row.C.Denot)). Dismissing c.args.shared.now c.args.opener.now c.loop-worker.opener c.args.launcher.now c.loop-worker.launcher c.args.workers.items so.done l c.args.ended c.loop-worker.ended) t.0 so.going in (
      tt,
      tt,
      (let n = i.2 in let m = t.1 in let k = ap length t.0 in omega arith),
      record {
        done = so.done ++ c.in-Some.worker ∷ [];
        going = dismissing-more c.args.shared.now c.args.opener.now c.loop-worker.opener c.retire.new.opener c.args.launcher.now c.loop-worker.launcher c.hand_over.new.to c.args.workers.items so.done
            (into_iter_items c.next.new.self) c.in-Some.worker c.args.ended c.loop-worker.ended c.worse-ended.result here
            r.opener (subst (λ (x : Seat). retired_of c.retire.new.opener ≡ set (retired_of c.loop-worker.opener) (number_of x) (Some (mine_of x))) h.from r.retired) r.from_old h.to h.number h.mine h.from_old h.from_other h.own h.legal c.worse-ended.ensures;
      },
      more c.loop-worker.clocks.items c.push_reserved.new.self.items c.in-Some.worker (into_iter_items c.loop-worker.worker-iterator) (into_iter_items c.next.new.self) c.push_reserved.ensures.items t.0 ∙ i.4,
      (let n = i.5 in let k = ap length t.0 in let u = ap length c.push_reserved.ensures.items in search rules),
      search rules,
    )

pub returns-clause-clocks : goal.returns-clause-clocks
returns-clause-clocks g c =
    let i = c.loop-worker.invariant in
    let none : into_iter_items c.loop-worker.worker-iterator ≡ [] = nil_from_length (into_iter_items c.loop-worker.worker-iterator) (i.2 ∙ c.in-None.ensures.steps.0) in
    sym (append-nil c.loop-worker.clocks.items) ∙ (ap (λ (l : List (Worker g.row.C.Denot)). c.loop-worker.clocks.items ++ map (λ (w : Worker g.row.C.Denot). w.clock) l) (sym none) ∙ i.4)
