use Rattle.std.proofs.Common.{◌∙◌, nat_le, Bool, ap}
use Rattle.std.specs.Option.{option_map}
use Rattle.drmaa_types.specs.declared.identifiers.JobId.{JobId}
use Rattle.drmaa_model.specs.declared.rows.Row.{Row}
use Rattle.plan_book.specs.Blocks.{rows_in}
use Rattle.plan_book.specs.Book.{plan_of}
use Rattle.scheduler_core.specs.Facts.{job_from}
use Rattle.scheduler_core.specs.View.{View}
use Rattle.scheduler_core.proofs.BlockLaws.{find-from, rising-from, too-low}
use Rattle.scheduler_core.proofs.cores.Core.next_row.Goals as goal

pub first_in_blocks-requires : goal.first_in_blocks-requires
first_in_blocks-requires c =
    record { rising = rising-from c.args.from.0 (plan_of c.self.inside.book).rows (rows_in c.blocks_from.result.now) c.blocks_from.ensures c.self.invariant.fit.jobs.rising }

pub returns : goal.returns
returns c =
    let n = c.args.from.0 in
    let test : Row → Bool = λ (row : Row). nat_le n row.job.0 in
    let number : Row → JobId = λ (row : Row). row.job in
    c.first_in_blocks.ensures
    ∙ ap (option_map number) (find-from n (plan_of c.self.inside.book).rows (rows_in c.blocks_from.result.now) c.blocks_from.ensures test (λ row less. too-low n row.job.0 less))
    ∙ ap (λ (v : View). job_from n v.plan) c.self.view_is
