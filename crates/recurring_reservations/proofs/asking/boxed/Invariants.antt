use Rattle.std.proofs.Common.{◌≡◌, ◌++◌, length}
use Rattle.std.specs.Vec.Iter.{into_iter_items, into_iter_len}
use Rattle.recurring_reservations.proofs.asking.boxed.Given as goal

-- with what is left they are all
abbrev pub invariant-loop-template : goal.invariant-loop-template
invariant-loop-template l = record {
  can : goal.iterator-loop-template.can_next l.template-iterator;
  finite : goal.iterator-loop-template.is_finite l.template-iterator;
  left : length (into_iter_items l.template-iterator) ≡ into_iter_len l.template-iterator;
  placed : l.boxed.items ++ into_iter_items l.template-iterator ≡ l.fn.templates;
}
