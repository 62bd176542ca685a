use Rattle.std.proofs.Common.{ap, sym, ◌∙◌, set}
use Rattle.std.proofs.lemmas.List.Edits.{map_over_more}
use Rattle.drmaa_model.specs.declared.rows.Row.{Row}
use Rattle.drmaa_model.specs.Controlling.{control_step}
use Rattle.plan_book.proofs.sweeps.control_rows.Goals as goal

pub loop-row-preserved : goal.loop-row-preserved
loop-row-preserved c =
    let f = control_step c.args.moment c.args.target.now c.args.what in
    ap (λ (r : Row). set c.loop-row.rows c.loop-row.row-index r) (c.control_row.ensures ∙ ap f (sym c.row-item.is))
    ∙ map_over_more f c.args.rows.now c.loop-row.rows c.loop-row.row-index c.row-item.result c.loop-row-test.true c.loop-row.invariant c.row-item.is
