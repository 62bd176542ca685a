use Rattle.std.proofs.Common.{◌≡◌, ◌+◌, ◌≤◌, length, vec_len, vec_capacity}
use Rattle.std.specs.Vec.Iter.{into_iter_items, into_iter_len}
use Rattle.recurring_reservations.specs.Steps.{Asking}
use Rattle.recurring_reservations.proofs.asking.ask_for_each.Given as goal

-- those that left the iterator were accepted, and there is room for the numbers of the others
abbrev pub invariant-loop-template : goal.invariant-loop-template
invariant-loop-template l = record {
  can : goal.iterator-loop-template.can_next l.template-iterator;
  finite : goal.iterator-loop-template.is_finite l.template-iterator;
  left : length (into_iter_items l.template-iterator) ≡ into_iter_len l.template-iterator;
  room : vec_len l.numbers + into_iter_len l.template-iterator ≤ vec_capacity l.numbers;
  asking : Asking l.asker l.fn.machine.ledger l.fn.templates.items (into_iter_items l.template-iterator) l.numbers.items l.machine.ledger;
}
