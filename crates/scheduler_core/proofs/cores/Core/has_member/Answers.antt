use Rattle.std.proofs.Common.{◌≡◌, ◌∙◌, ◌||◌, Bool, ap, sym}
use Rattle.std.specs.List.{list_any}
use Rattle.std.proofs.lemmas.List.Folds.{list_any-append}
use Rattle.plan_book.specs.Blocks.{rows_in}
use Rattle.plan_book.specs.Book.{plan_of}
use Rattle.plan_book.specs.Meant.{rows_of}
use Rattle.scheduler_core.specs.Facts.{is_own_member}
use Rattle.scheduler_core.specs.View.{View}
use Rattle.scheduler_core.proofs.PartLaws.{own-part}
use Rattle.scheduler_core.proofs.cores.Core.has_member.Goals as goal
use Rattle.scheduler_core.proofs.cores.Core.has_member.Goals.{After-is_any_own}

-- those among these are those of all
among : (c : After-is_any_own) → (list_any (is_own_member c.args.home c.args.array) c.meant_rows-rows.result.alone.now || list_any (is_own_member c.args.home c.args.array) (rows_in c.meant_rows-rows.result.blocks.now))
    ≡ list_any (is_own_member c.args.home c.args.array) c.args.self.now.plan.rows
among c =
    let test = is_own_member c.args.home c.args.array in
    let rows = c.meant_rows-rows.result in
    sym (list_any-append test rows.alone.now (rows_in rows.blocks.now)) ∙ own-part c.args.array c.args.home (plan_of c.self.inside.book).rows (rows_of rows) c.meant_rows-rows.ensures
    ∙ ap (λ (v : View). list_any test v.plan.rows) c.self.view_is

pub returns-then-is_any_own : goal.returns-then-is_any_own
returns-then-is_any_own c =
    let others = list_any (is_own_member c.args.home c.args.array) (rows_in c.meant_rows-rows.result.blocks.now) in
    c.if-is_any_own.true ∙ sym (ap (λ (b : Bool). b || others) (sym c.is_any_own.ensures ∙ c.if-is_any_own.true)) ∙ among (goal.at.returns-then-is_any_own c).After-is_any_own

pub returns-else-is_any_own : goal.returns-else-is_any_own
returns-else-is_any_own c =
    let others = list_any (is_own_member c.args.home c.args.array) (rows_in c.meant_rows-rows.result.blocks.now) in
    c.is_any_own_in.ensures ∙ sym (ap (λ (b : Bool). b || others) (sym c.is_any_own.ensures ∙ c.if-is_any_own.false)) ∙ among (goal.at.returns-else-is_any_own c).After-is_any_own
