use Rattle.std.proofs.Common.{ℕ, List, length, ap, sym, subst, arith}
use Rattle.std.specs.Vec.Iter.{into_iter_items}
use Rattle.job_template.specs.declared.templates.ReservationTemplate.{ReservationTemplate}
use Rattle.recurring_reservations.proofs.RequestLaws.{asking-more, gives-up}
use Rattle.recurring_reservations.specs.Steps.{Asking}
use Rattle.recurring_reservations.proofs.asking.ask_for_each.Goals as goal

pub loop-template-preserved : goal.loop-template-preserved
loop-template-preserved c =
    let a = c.args.asker.now in
    let old = c.args.machine.now.ledger in
    let mid = c.loop-template.machine.ledger in
    let new = c.request.new.machine.ledger in
    let all = c.args.templates.items in
    let rest = into_iter_items c.next.new.self in
    let steps = c.in-Some.ensures.steps in
    let before = subst (λ (ts : List ReservationTemplate). Asking a old all ts c.loop-template.numbers.items mid) steps.0 c.loop-template.invariant.asking in
    record {
      can = tt;
      finite = tt;
      left = omega (arith, ap length steps.0, c.loop-template.invariant.left);
      room = omega (arith, c.loop-template.invariant.room, c.put.ensures.len, c.put.ensures.capacity);
      asking = subst (λ (ns : List ℕ). Asking a old all rest ns new) (sym c.put.ensures.items)
          (asking-more a old mid new all rest c.in-Some.template c.loop-template.numbers.items c.in-Ok.number before c.in-Ok.ensures.ok c.in-Ok.ensures.legal);
    }

pub returns-in-Err-clause-answer : goal.returns-in-Err-clause-answer
returns-in-Err-clause-answer c =
    let a = c.args.asker.now in
    let old = c.args.machine.now.ledger in
    let mid = c.loop-template.machine.ledger in
    let all = c.args.templates.items in
    let before = subst (λ (ts : List ReservationTemplate). Asking a old all ts c.loop-template.numbers.items mid) c.in-Some.ensures.steps.0 c.loop-template.invariant.asking in
    gives-up a old mid c.request.new.machine.ledger c.end_all.new.machine.ledger all (into_iter_items c.next.new.self) c.in-Some.template c.loop-template.numbers.items
    (record { refusal = c.in-Err.refusal; kept = c.end_all.result }) before c.in-Err.ensures.err c.in-Err.ensures.legal c.end_all.ensures.back c.end_all.ensures.unended
