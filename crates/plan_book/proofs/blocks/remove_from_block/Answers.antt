use Rattle.std.proofs.Common.{◌∙◌, List, ap, subst, sym}
use Rattle.drmaa_model.specs.declared.rows.Row.{Row}
use Rattle.drmaa_model.specs.Fit.{number_of}
use Rattle.drmaa_model.specs.Rows.{row_of}
use Rattle.plan_book.specs.Places.{IsAt}
use Rattle.plan_book.proofs.BlockRows.{all-others, filter-others, removed-is}
use Rattle.plan_book.proofs.blocks.remove_from_block.Goals as goal

pub returns-in-Ok-clause-rows : goal.returns-in-Ok-clause-rows
returns-in-Ok-clause-rows c =
    let xs = c.args.rows.now.items in
    let at = subst (λ (rows : List Row). IsAt number_of c.args.job.0 rows c.in-Ok.place) c.deref.ensures.value (c.in-Ok.ensures {u = tt}).found in
    c.remove.ensures.items ∙ removed-is c.args.job xs c.in-Ok.place c.remove.result c.requires at

pub returns-in-Err-clause-rows : goal.returns-in-Err-clause-rows
returns-in-Err-clause-rows c =
    let xs = c.args.rows.now.items in
    let none = ap (row_of c.args.job) (sym c.deref.ensures.value) ∙ (c.in-Err.ensures {u = tt}).absent in
    sym (filter-others c.args.job xs (all-others c.args.job xs none))
