use Rattle.std.proofs.Common.{◌≡◌, true, sym, ◌∙◌, ap}
use Rattle.drmaa_model.specs.Controlling.{is_done}
use Rattle.drmaa_model.specs.Fit.{number_of}
use Rattle.plan_book.proofs.BlockRows.{all-others, found-at, removed-is}
use Rattle.plan_book.proofs.Searched.{filter-others, removed-at, stays-at}
use Rattle.plan_book.proofs.summed_rows.Rows.drop_done_job.Goals as goal

pub returns-then-is_done-clause-items : goal.returns-then-is_done-clause-items
returns-then-is_done-clause-items c =
    let xs = c.args.self.now.items in
    let row = c.in-Some.row.now in
    let f = found-at c.args.job xs row (sym c.in-Some.ensures) in
    let done : is_done row ≡ true = sym c.is_done.ensures ∙ c.if-is_done.true in
    c.drop_row.ensures.items ∙ sym (removed-is c.args.job xs f.place row c.requires f.at) ∙ removed-at number_of c.args.job.0 is_done xs f.place row c.requires f.at (ap is_done (sym f.is) ∙ done)

pub returns-else-is_done-clause-items : goal.returns-else-is_done-clause-items
returns-else-is_done-clause-items c =
    let xs = c.args.self.now.items in
    let row = c.in-Some.row.now in
    let f = found-at c.args.job xs row (sym c.in-Some.ensures) in
    stays-at number_of c.args.job.0 is_done xs f.place row c.requires f.at (ap is_done (sym f.is) ∙ sym c.is_done.ensures ∙ c.if-is_done.false)

pub returns-in-None-clause-items : goal.returns-in-None-clause-items
returns-in-None-clause-items c =
    let xs = c.args.self.now.items in
    sym (filter-others number_of c.args.job.0 is_done xs (all-others c.args.job xs (sym c.in-None.ensures)))
