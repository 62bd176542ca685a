use Rattle.std.proofs.Common.{◌+◌, ◌<◌, List, take, get_or, length, length-set, refl, sym, ◌∙◌, ap, subst, arith}
use Rattle.std.specs.List.{AllByRecursion}
use Rattle.drmaa_types.specs.declared.moments.End.{End}
use Rattle.drmaa_model.specs.declared.rows.Row.{Row}
use Rattle.drmaa_model.specs.Courses.{lesser_end}
use Rattle.drmaa_model.specs.Fit.{number_of}
use Rattle.drmaa_model.specs.RowLaws.{all-implied}
use Rattle.plan_book.specs.Quiet.{block_of, end_of, AreCovered, IsAlarmed, IsLeftUntil}
use Rattle.plan_book.proofs.BlockLaws.{lowered, lowered-alarmed, lowered-here, lowered-quiet}
use Rattle.plan_book.proofs.QuietLaws.{acts-left, all-more}
use Rattle.plan_book.proofs.Searched.{all-at}
use Rattle.plan_book.proofs.alarms.alarm_rows.Goals as goal
use Rattle.plan_book.proofs.alarms.alarm_rows.Goals.{After-acts_at}

-- the block of the job that it has come to is there
covered : (c : After-acts_at) → block_of c.row-item.result.job.0 < length c.loop-row.alarm.ends.items
covered c =
    let xs = c.deref-row-items.result.now in
    let i = c.loop-row.row-index in
    let row = c.row-item.result in
    let within : i < length xs = omega arith in
    let own : block_of (get_or xs i row).job.0 < length c.args.alarm.now.ends.items = all-at number_of (λ (r : Row). block_of r.job.0 < length c.args.alarm.now.ends.items) xs (subst (AreCovered c.args.alarm.now.ends.items) (sym c.deref-row-items.ensures.value) c.requires.covered) i row within in
    omega (arith, own, ap (λ (r : Row). block_of r.job.0) c.row-item.is, c.loop-row.invariant.blocks)

pub lower-requires : goal.lower-requires
lower-requires c = covered c

pub loop-row-preserved : goal.loop-row-preserved
loop-row-preserved c =
    let rs = c.args.rs.now.items in
    let xs = c.deref-row-items.result.now in
    let i = c.loop-row.row-index in
    let row = c.row-item.result in
    let n = row.job.0 in
    let acts = c.acts_at.result in
    let es = c.loop-row.alarm.ends.items in
    let here : block_of n < length es = covered (goal.at.loop-row-preserved c).After-acts_at in
    record {
      rows = subst (λ (all : List End). AllByRecursion (IsAlarmed all rs) (take (i + 1) xs)) (sym c.lower.ensures.ends)
          (all-more (IsAlarmed (lowered es n acts) rs) xs i row (omega arith) c.row-item.is
          (all-implied (IsAlarmed es rs) (IsAlarmed (lowered es n acts) rs) (lowered-alarmed es n acts here rs) (take i xs) c.loop-row.invariant.rows)
          (lowered-here es n acts here rs row refl (subst (λ (e : End). IsLeftUntil e rs row) (sym c.acts_at.ensures) (acts-left rs row))));
      quiet = λ p was. lowered-quiet c.loop-row.alarm c.lower.new.self n acts p here c.lower.ensures.ends c.lower.ensures.lasting c.lower.ensures.soonest (c.loop-row.invariant.quiet p was);
      blocks = ap (λ (all : List End). length all) c.lower.ensures.ends ∙ length-set es (block_of n) (lesser_end (end_of es n) acts) ∙ c.loop-row.invariant.blocks;
    }
