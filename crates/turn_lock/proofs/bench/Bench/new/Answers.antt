use Rattle.std.proofs.Common.{sym, ap, ◌∙◌, subst, List, [], ◌∷◌, ◌++◌, ◌≡◌, Some}
use Rattle.std.specs.Prelude.{Option}
use Rattle.atomic_table.specs.Table.{opening}
use Rattle.turn_lock.specs.Rule.{LockHolds}
use Rattle.turn_lock.specs.Views.{opener}
use Rattle.turn_lock.proofs.Quiet.{opens}
use Rattle.turn_lock.proofs.bench.Bench.new.Goals as goal

pub new-requires : goal.new-requires
new-requires g c =
    let items = c.push_reserved.ensures.items ∙ ap (λ (l : List (Option g.row.V.Denot)). l ++ Some c.args.value ∷ []) c.in-Ok.ensures.items in
    let none : g.V.Chronicle.entries c.args.value ≡ [] = c.requires in
    subst (λ (l : List (Option g.row.V.Denot)). LockHolds g.V.Chronicle.entries g.V.Chronicle.fixed g.V.Chronicle.legal (g.V.Chronicle.fixed c.of-first.result.value) (opening (0 ∷ 0 ∷ 0 ∷ []) l (opener (g.V.Chronicle.fixed c.of-first.result.value)))) (sym items)
    (opens g.V.Chronicle.entries g.V.Chronicle.fixed g.V.Chronicle.legal (g.V.Chronicle.fixed c.of-first.result.value) c.args.value none (ap g.V.Chronicle.fixed (sym c.of-first.ensures)))
