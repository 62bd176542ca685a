use Rattle.std.proofs.Common.{◌∙◌, List, set, ap, subst, sym}
use Rattle.drmaa_model.specs.declared.rows.Row.{Row}
use Rattle.drmaa_model.specs.Fit.{number_of}
use Rattle.drmaa_model.specs.Rows.{row_of}
use Rattle.plan_book.specs.Places.{IsAt}
use Rattle.plan_book.proofs.Searched.{set-at}
use Rattle.plan_book.proofs.BlockRows.{all-others, map-others}
use Rattle.plan_book.proofs.blocks.put_in_block.Goals as goal

pub returns-in-Ok-clause-rows : goal.returns-in-Ok-clause-rows
returns-in-Ok-clause-rows c =
    let give : Row → Row = λ (row : Row). record row { course = c.args.course.now } in
    let xs = c.args.rows.now.items in
    let at = subst (λ (rows : List Row). IsAt number_of c.args.job.0 rows c.in-Ok.place) c.deref.ensures.value (c.in-Ok.ensures {u = tt}).found in
    ap (λ (row : Row). set xs c.in-Ok.place (give row)) c.index_mut.ensures.value ∙ set-at number_of c.args.job.0 give xs c.in-Ok.place c.index_mut.result.now c.requires at

pub returns-in-Err-clause-rows : goal.returns-in-Err-clause-rows
returns-in-Err-clause-rows c =
    let xs = c.args.rows.now.items in
    let none = ap (row_of c.args.job) (sym c.deref.ensures.value) ∙ (c.in-Err.ensures {u = tt}).absent in
    sym (map-others c.args.job c.args.course.now xs (all-others c.args.job xs none))
