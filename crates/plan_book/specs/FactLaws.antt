-- What is known of jobs that are not kept.
use Rattle.std.proofs.Common.{◌≡◌, List, Some, None, refl}
use Rattle.std.specs.Option.{option_map}
use Rattle.drmaa_types.specs.declared.identifiers.JobId.{JobId}
use Rattle.drmaa_model.specs.declared.rows.Row.{Row}
use Rattle.drmaa_model.specs.Rows.{row_of}
use Rattle.plan_book.specs.Facts.{facts_of}

-- the job is not kept of which nothing is known
pub read-none : (job : JobId) (rows : List Row) → None ≡ option_map facts_of (row_of job rows) → row_of job rows ≡ None
read-none job rows is =
    (elim (row_of job rows) as (λ o. row_of job rows ≡ o → None ≡ option_map facts_of o → row_of job rows ≡ None) [
      | None ↦ λ e same. e
      | Some row ↦ λ e same. absurd (cc)
    ]) refl is
