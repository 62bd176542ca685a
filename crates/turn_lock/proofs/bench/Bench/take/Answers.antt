use Rattle.std.proofs.Common.{sym, ap, ◌∙◌, ℕ, List, ◌∷◌, Some}
use Rattle.std.specs.Prelude.{Option}
use Rattle.atomic_table.specs.Table.{rest}
use Rattle.turn_lock.proofs.bench.Bench.take.Goals as goal

pub exchange-requires : goal.exchange-requires
exchange-requires g c =
    let e = c.requires.hand.1 in
    (c.requires.table, (Some c.requires.hand.0, e ∙ ap (λ (l : List (ℕ × Option g.row.V.Denot)). (0, Some c.requires.hand.0) ∷ l) (sym (ap (λ (l : List (ℕ × Option g.row.V.Denot)). rest l) e))))
