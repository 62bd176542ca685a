use Rattle.std.proofs.Common.{ℕ, List, subst}
use Rattle.recurring_reservations.proofs.RequestLaws.{back-more}
use Rattle.recurring_reservations.specs.Steps.{TakesBack}
use Rattle.recurring_reservations.proofs.asking.end_all.Goals as goal

pub loop-number-preserved : goal.loop-number-preserved
loop-number-preserved c =
    let a = c.args.asker.now in
    let old = c.args.machine.now.ledger in
    record {
      legal = c.end.ensures.legal;
      back = λ base holds. back-more a base old c.loop-number.machine.ledger c.end.new.machine.ledger c.args.numbers.items c.pop.new.self.items c.in-Some.number
          (subst (λ (ns : List ℕ). TakesBack a base old c.args.numbers.items ns c.loop-number.machine.ledger) c.in-Some.ensures.items (c.loop-number.invariant.back base holds))
          c.if-not-end.ensures.ended c.end.ensures.legal;
    }
