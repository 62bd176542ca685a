use Rattle.std.proofs.Common.{◌≡◌, ◌∙◌, ◌++◌, [], ℕ, false, true, max, List, append-nil, ap, sym, subst}
use Rattle.std.specs.List.{AllByRecursion}
use Rattle.drmaa_model.specs.declared.rows.Row.{Row}
use Rattle.drmaa_model.specs.RowLaws.{all-implied, all-both}
use Rattle.drmaa_model.specs.Time.{is_past}
use Rattle.plan_book.specs.Blocks.{rows_in}
use Rattle.plan_book.specs.Book.{plan_of, course_then}
use Rattle.plan_book.specs.Due.{AreOutside, AreStill}
use Rattle.plan_book.specs.Open.{is_over}
use Rattle.plan_book.specs.Quiet.{block_of, is_left, IsAlarmed, IsOutside}
use Rattle.plan_book.proofs.BlockLaws.{left-course, over-course}
use Rattle.plan_book.proofs.PartLaws.{all-left, all-right}
use Rattle.plan_book.proofs.book.Book.due_blocks.Goals as goal
use Rattle.plan_book.proofs.book.Book.due_blocks.Goals.{After-blocks_of}

-- a reservation ends: all jobs at the front are over
pub returns-then-is_past : goal.returns-then-is_past
returns-then-is_past c =
    let p = plan_of c.args.self.now in
    let rest = c.open_blocks.ensures in
    record {
      before = rest.front;
      behind = [];
      still_before = all-implied (λ (row : Row). is_over row ≡ true) (λ (row : Row). course_then c.args.at p row ≡ row.course) (over-course c.args.at p) rest.front rest.over;
      still_behind = tt;
      parts = rest.parts ∙ ap (λ (rows : List Row). rest.front ++ rows) (sym (append-nil (rows_in c.open_blocks.result.now)));
    }

-- jobs of other blocks are left
still : (c : After-blocks_of) (rows : List Row) → AllByRecursion (IsAlarmed c.args.self.now.alarm.ends.items c.args.self.now.reservations.items) rows → AreOutside c.due_places.result rows
    → AreStill c.args.at (plan_of c.args.self.now) rows
still c rows alarmed outside =
    let s = c.args.self.now in
    let p = plan_of s in
    let at = c.args.at in
    let es = s.alarm.ends.items in
    let rs = s.reservations.items in
    let moment : c.moment_at-moment.result ≡ max p.moment at = c.moment_at-moment.ensures in
    let lasts : is_past (max p.moment at) s.alarm.lasting ≡ false = ap (λ (m : ℕ). is_past m s.alarm.lasting) (sym moment) ∙ sym c.is_past.ensures ∙ c.if-is_past.false in
    all-implied (λ (row : Row). IsAlarmed es rs row × IsOutside c.due_places.result (block_of row.job.0)) (λ (row : Row). course_then at p row ≡ row.course)
    (λ row both.
    (let own = both.0 in
    let ahead = c.due_places.ensures.outside (block_of row.job.0) both.1 in
    left-course s.alarm at p row c.requires.book.quiet lasts (subst (λ (m : ℕ). is_left m rs row ≡ true) moment (own.left c.moment_at-moment.result ahead)))) rows
    (all-both (IsAlarmed es rs) (λ (row : Row). IsOutside c.due_places.result (block_of row.job.0)) rows alarmed outside)

pub returns : goal.returns
returns c =
    let s = c.args.self.now in
    let all = c.blocks_of.ensures in
    let P : Row → Type 0 = IsAlarmed s.alarm.ends.items s.reservations.items in
    let alarmed : AllByRecursion P (all.before ++ (rows_in c.blocks_of.result.now ++ all.behind)) = subst (AllByRecursion P) all.parts c.requires.book.quiet.rows in
    record {
      before = all.before;
      behind = all.behind;
      still_before = still (goal.at.returns c).After-blocks_of all.before (all-left P all.before (rows_in c.blocks_of.result.now ++ all.behind) alarmed) all.none_before;
      still_behind = still (goal.at.returns c).After-blocks_of all.behind (all-right P (rows_in c.blocks_of.result.now) all.behind (all-right P all.before (rows_in c.blocks_of.result.now ++ all.behind) alarmed)) all.none_behind;
      parts = all.parts;
    }
