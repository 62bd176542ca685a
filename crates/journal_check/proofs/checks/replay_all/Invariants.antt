use Rattle.std.proofs.Common.{◌≡◌, ◌++◌, length}
use Rattle.std.specs.List.{AllByRecursion}
use Rattle.std.specs.Vec.Iter.{into_iter_items, into_iter_len}
use Rattle.drmaa_model.specs.RecordedCalls.{recorded}
use Rattle.drmaa_model.specs.History.{IsLegal}
use Rattle.drmaa_model.specs.declared.entries.Entry.{Entry}
use Rattle.journal_check.proofs.checks.replay_all.Given as goal

-- what the machine has served is legal, and with what is left it is all of the entries
abbrev pub invariant-loop-entry : goal.invariant-loop-entry
invariant-loop-entry l = record {
  can : goal.iterator-loop-entry.can_next l.entry-iterator;
  finite : goal.iterator-loop-entry.is_finite l.entry-iterator;
  left : length (into_iter_items l.entry-iterator) ≡ into_iter_len l.entry-iterator;
  config : l.machine.ledger.config ≡ l.initial.machine.ledger.config;
  placed : l.machine.ledger.history ++ into_iter_items l.entry-iterator ≡ l.fn.entries.items;
  legal : IsLegal l.machine.ledger.config l.machine.ledger.history;
  recorded : AllByRecursion (λ (e : Entry). recorded e.call ≡ e.call) (into_iter_items l.entry-iterator);
}
