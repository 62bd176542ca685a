use Rattle.std.proofs.Common.{List, vec_len}
use Rattle.drmaa_model.specs.declared.reservations.Accepted.{Accepted}
use Rattle.recurring_reservations.specs.Steps.{IsLegalLedger, Holds, TakesBack}
use Rattle.recurring_reservations.proofs.asking.end_all.Given as goal

-- those that left the list are ended
abbrev pub invariant-loop-number : goal.invariant-loop-number
invariant-loop-number l = record {
  legal : IsLegalLedger l.machine.ledger;
  back : (base : List Accepted) → Holds l.asker base l.fn.numbers.items l.fn.machine.ledger → TakesBack l.asker base l.fn.machine.ledger l.fn.numbers.items l.numbers.items l.machine.ledger;
}

abbrev pub decreases-loop-number : goal.decreases-loop-number
decreases-loop-number l = vec_len l.numbers
