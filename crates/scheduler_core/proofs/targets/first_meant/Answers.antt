use Rattle.std.proofs.Common.{◌≡◌, ◌∙◌, Option, find, sym, ap}
use Rattle.std.specs.Option.{option_or}
use Rattle.std.proofs.lemmas.List.Folds.{find-append}
use Rattle.drmaa_model.specs.declared.rows.Row.{Row}
use Rattle.drmaa_model.specs.Targets.{is_meant}
use Rattle.plan_book.specs.Blocks.{rows_in}
use Rattle.plan_book.specs.Meant.{rows_of}
use Rattle.scheduler_core.proofs.Among.{found-among}
use Rattle.scheduler_core.proofs.targets.first_meant.Goals as goal
use Rattle.scheduler_core.proofs.targets.first_meant.Goals.{After-meant_rows-rows}

-- the first of those among these is the first of all
all : (c : After-meant_rows-rows) → option_or (find (is_meant c.args.target.now) c.meant_rows-rows.result.alone.now) (find (is_meant c.args.target.now) (rows_in c.meant_rows-rows.result.blocks.now))
    ≡ find (is_meant c.args.target.now) c.args.book.now.rows.items
all c =
    let rows = c.meant_rows-rows.result in
    sym (find-append (is_meant c.args.target.now) rows.alone.now (rows_in rows.blocks.now)) ∙ found-among c.args.target.now c.args.book.now.rows.items (rows_of rows) c.meant_rows-rows.ensures

pub returns-in-Some : goal.returns-in-Some
returns-in-Some c =
    let behind = find (is_meant c.args.target.now) (rows_in c.meant_rows-rows.result.blocks.now) in
    ap (λ (o : Option Row). option_or o behind) (c.in-Some.ensures {u = tt}) ∙ all (goal.at.returns-in-Some c).After-meant_rows-rows

pub returns-in-None : goal.returns-in-None
returns-in-None c =
    let behind = find (is_meant c.args.target.now) (rows_in c.meant_rows-rows.result.blocks.now) in
    c.first_in_blocks.ensures ∙ ap (λ (o : Option Row). option_or o behind) (c.in-None.ensures {u = tt}) ∙ all (goal.at.returns-in-None c).After-meant_rows-rows
