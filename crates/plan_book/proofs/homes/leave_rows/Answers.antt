use Rattle.std.proofs.Common.{ap, sym, ◌∙◌, set}
use Rattle.std.proofs.lemmas.List.Edits.{map_over_more}
use Rattle.drmaa_model.specs.declared.rows.Row.{Row}
use Rattle.drmaa_model.specs.Effects.{left_by}
use Rattle.plan_book.proofs.homes.leave_rows.Goals as goal

pub loop-row-preserved : goal.loop-row-preserved
loop-row-preserved c =
    let f : Row → Row = λ (x : Row). record x { home = left_by c.args.home x.home } in
    ap (λ (x : Row). set c.loop-row.row-items c.loop-row.row-index x) (c.leave_row.ensures ∙ ap f (sym c.row-item.is))
    ∙ map_over_more f c.deref_mut-row-items.result.now c.loop-row.row-items c.loop-row.row-index c.row-item.result c.loop-row-test.true c.loop-row.invariant c.row-item.is
