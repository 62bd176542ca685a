use Rattle.std.proofs.Common.{◌∙◌, ap, sym, Some}
use Rattle.drmaa_model.specs.declared.rows.Row.{Row}
use Rattle.drmaa_model.specs.Fit.{number_of}
use Rattle.plan_book.proofs.Searched.{find-at}
use Rattle.plan_book.proofs.rows.row_of.Goals as goal

pub returns-in-Ok : goal.returns-in-Ok
returns-in-Ok c =
    ap (λ (r : Row). Some r) c.index-rows-place.is
    ∙ sym (find-at number_of c.args.job.0 c.args.rows.now c.in-Ok.place c.index-rows-place.result c.requires (c.in-Ok.ensures {u = tt}).found)
