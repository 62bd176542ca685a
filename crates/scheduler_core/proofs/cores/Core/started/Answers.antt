use Rattle.std.proofs.Common.{◌≡◌, Option, Some, sym, ◌∙◌, ap}
use Rattle.std.specs.Option.{option_map}
use Rattle.drmaa_model.specs.declared.rows.Row.{Row}
use Rattle.drmaa_model.specs.declared.rows.Started.{Started}
use Rattle.drmaa_model.specs.Events.{is_started_from, started_from, started_of}
use Rattle.drmaa_model.specs.Fit.{IsRising, number_of}
use Rattle.drmaa_model.specs.Time.{rows_at}
use Rattle.plan_book.specs.Blocks.{rows_in}
use Rattle.plan_book.specs.Book.{plan_of}
use Rattle.scheduler_core.specs.Targets.{row_then}
use Rattle.scheduler_core.specs.View.{View}
use Rattle.scheduler_core.proofs.BlockLaws.{find-from, not-started_from, rising-from}
use Rattle.scheduler_core.proofs.RunningLaws.{started-then}
use Rattle.scheduler_core.proofs.cores.Core.started.Goals as goal
use Rattle.scheduler_core.proofs.cores.Core.started.Goals.{After-blocks_from}

rising : (c : After-blocks_from) → IsRising number_of (rows_in c.blocks_from.result.now)
rising c = rising-from c.args.from.0 (plan_of c.self.inside.book).rows (rows_in c.blocks_from.result.now) c.blocks_from.ensures c.self.invariant.fit.jobs.rising

-- the first of these blocks is the first of all
all : (c : After-blocks_from) → option_map started_of (option_map (row_then c.args.at (plan_of c.self.inside.book)) (started_from c.args.from.0 (rows_in c.blocks_from.result.now)))
    ≡ option_map started_of (started_from c.args.from.0 (rows_at c.args.at (plan_of c.self.inside.book)))
all c =
    let p = plan_of c.self.inside.book in
    let n = c.args.from.0 in
    ap (λ (o : Option Row). option_map started_of (option_map (row_then c.args.at p) o)) (find-from n p.rows (rows_in c.blocks_from.result.now) c.blocks_from.ensures (is_started_from n) (λ row less. not-started_from n row less))
    ∙ sym (ap (option_map started_of) (started-then c.args.at p n))

pub first_in_blocks-requires : goal.first_in_blocks-requires
first_in_blocks-requires c = record { rising = rising (goal.at.first_in_blocks-requires c).After-blocks_from }

pub returns-in-Some : goal.returns-in-Some
returns-in-Some c =
    let p = plan_of c.self.inside.book in
    ap (λ (s : Started). Some s) c.started_then.ensures
    ∙ ap (λ (o : Option Row). option_map started_of (option_map (row_then c.args.at p) o)) (c.in-Some.ensures {u = tt})
    ∙ all (goal.at.returns-in-Some c).After-blocks_from
    ∙ ap (λ (v : View). option_map started_of (started_from c.args.from.0 (rows_at c.args.at v.plan))) c.self.view_is

pub returns-in-None : goal.returns-in-None
returns-in-None c =
    let p = plan_of c.self.inside.book in
    ap (λ (o : Option Row). option_map started_of (option_map (row_then c.args.at p) o)) (c.in-None.ensures {u = tt})
    ∙ all (goal.at.returns-in-None c).After-blocks_from
    ∙ ap (λ (v : View). option_map started_of (started_from c.args.from.0 (rows_at c.args.at v.plan))) c.self.view_is
