use Rattle.std.proofs.Common.{◌≡◌, Bool, ◌&&◌, ◌||◌, ◌∙◌, sym, ap}
use Rattle.std.specs.List.{list_any}
use Rattle.std.proofs.lemmas.List.Folds.{list_any-append}
use Rattle.drmaa_model.specs.declared.rows.Row.{Row}
use Rattle.drmaa_model.specs.Targets.{is_meant}
use Rattle.drmaa_model.specs.Time.{rows_at}
use Rattle.plan_book.specs.Blocks.{rows_in}
use Rattle.plan_book.specs.Book.{plan_of}
use Rattle.plan_book.specs.Meant.{rows_of}
use Rattle.scheduler_core.specs.Targets.{may_act, row_then}
use Rattle.scheduler_core.proofs.Among.{any-among}
use Rattle.scheduler_core.proofs.TargetLaws.{any-then}
use Rattle.scheduler_core.proofs.targets.is_any_permitted.Goals as goal
use Rattle.scheduler_core.proofs.targets.is_any_permitted.Goals.{After-is_any_among}

abbrev test : (c : After-is_any_among) → Row → Bool
test c row = is_meant c.args.target.now row && may_act c.args.act (row_then c.args.at (plan_of c.args.book.now) row).course.state

-- those among these are those of all
all : (c : After-is_any_among) → (list_any (test c) c.meant_rows-rows.result.alone.now || list_any (test c) (rows_in c.meant_rows-rows.result.blocks.now))
    ≡ list_any (λ (row : Row). is_meant c.args.target.now row && may_act c.args.act row.course.state) (rows_at c.args.at (plan_of c.args.book.now))
all c =
    let p = plan_of c.args.book.now in
    let acts : Row → Bool = λ (row : Row). may_act c.args.act (row_then c.args.at p row).course.state in
    let rows = c.meant_rows-rows.result in
    sym (list_any-append (test c) rows.alone.now (rows_in rows.blocks.now))
    ∙ any-among (test c) c.args.target.now (λ row none. ap (λ b. b && acts row) none) p.rows (rows_of rows) c.meant_rows-rows.ensures
    ∙ any-then c.args.target.now c.args.at p c.args.act

pub returns-then-is_any_among : goal.returns-then-is_any_among
returns-then-is_any_among c =
    let here = (goal.at.returns-then-is_any_among c).After-is_any_among in
    let others = list_any (test here) (rows_in c.meant_rows-rows.result.blocks.now) in
    c.if-is_any_among.true ∙ ap (λ (b : Bool). b || others) (sym c.if-is_any_among.true ∙ c.is_any_among.ensures) ∙ all here

pub returns-else-is_any_among : goal.returns-else-is_any_among
returns-else-is_any_among c =
    let here = (goal.at.returns-else-is_any_among c).After-is_any_among in
    let others = list_any (test here) (rows_in c.meant_rows-rows.result.blocks.now) in
    c.is_any_in_blocks.ensures ∙ ap (λ (b : Bool). b || others) (sym c.if-is_any_among.false ∙ c.is_any_among.ensures) ∙ all here
