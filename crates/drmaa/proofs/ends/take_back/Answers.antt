use Rattle.std.proofs.Common.{rules, ◌≡◌, ◌∙◌, ap, sym, subst, List, length, arith}
use Rattle.std.specs.Vec.Iter.{into_iter_items, into_iter_len}
use Rattle.call_history.specs.declared.desks.Desk.{Desk}
use Rattle.drmaa.proofs.Back.{TakingBack, taking-none, taking-more, taken-back}
use Rattle.drmaa.proofs.ends.take_back.Goals as goal

pub loop-desk-init : goal.loop-desk-init
loop-desk-init g c =
    let gives : into_iter_items c.into_iter-desk-iterator.result ≡ c.args.desks.items = search rules in
    let size : length (into_iter_items c.into_iter-desk-iterator.result) ≡ into_iter_len c.into_iter-desk-iterator.result = search rules in (
      tt,
      tt,
      size,
      subst (λ (l : List (Desk g.row.C.Denot)). TakingBack c.args.shared.now c.args.opener.now c.args.opener.now c.args.launcher.now c.args.launcher.now c.args.desks.items l) (sym gives)
          (taking-none c.args.shared.now c.args.opener.now c.args.launcher.now c.args.desks.items c.requires.opener c.requires.out c.requires.launcher c.requires.each),
    )

pub loop-desk-preserved : goal.loop-desk-preserved
loop-desk-preserved g c =
    let i = c.loop-desk.invariant in
    let t = c.in-Some.ensures.steps in
    let h = c.hand_over.ensures in
    let r = c.retire.ensures in (
      tt,
      tt,
      (let n = i.2 in let m = t.1 in let k = ap length t.0 in omega arith),
      taking-more c.args.shared.now c.args.opener.now c.args.launcher.now c.args.desks.items c.loop-desk.opener c.retire.new.opener c.loop-desk.launcher c.hand_over.new.to c.hand_over.new.from c.in-Some.desk
          (into_iter_items c.loop-desk.desk-iterator) (into_iter_items c.next.new.self) h.from t.0 i.3
          (record { client = h.to; number = h.number; mine = h.mine; begins = h.from_old }) h.from_other
          (record { opener = r.opener; from_old = r.from_old; from_client = r.from_client; retired = r.retired; was_out = r.was_out; given = r.given; own = r.own }),
    )

pub returns : goal.returns
returns g c =
    let i = c.loop-desk.invariant in
    taken-back c.args.shared.now c.args.opener.now c.loop-desk.opener c.args.launcher.now c.loop-desk.launcher c.args.desks.items (into_iter_items c.loop-desk.desk-iterator)
    (i.2 ∙ c.in-None.ensures.steps.0) i.3
