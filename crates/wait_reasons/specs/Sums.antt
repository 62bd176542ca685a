-- Sums over the rows of all jobs, and what is known of them.
use Rattle.std.specs.Prelude.{◌≡◌, ℕ, ◌^◌, ◌<◌, List, sum_by, Some, None, slice_index_or}
use Rattle.drmaa_model.specs.declared.rows.Row.{Row}
use Rattle.drmaa_model.specs.Fit.{IsFit}
use Rattle.drmaa_model.specs.Load.{holds_in, held_in_queue, held_inside}
use Rattle.drmaa_model.specs.Plan.{Plan}
use Rattle.wait_reasons.specs.declared.sums.Known.{Known}
use Rattle.wait_reasons.specs.declared.sums.Share.{Share}
use Rattle.wait_reasons.specs.declared.sums.Share.TheVariants.{Array, Queue, Reservation}
use Rattle.wait_reasons.specs.declared.sums.Sum.{Sum}

-- what a job adds
abbrev pub adds : Share → Row → ℕ
adds (Array array) = holds_in array
adds (Queue place) = held_in_queue place
adds (Reservation number) = held_inside number

-- the sum over these jobs
abbrev pub sum_of : Share → List Row → ℕ
sum_of share rows = sum_by (adds share) rows

-- each sum that is remembered is that of its share
abbrev pub IsKnown : List Row → Known → Type 0
IsKnown rows known = (place : ℕ) (made : Sum) → slice_index_or known.places place None ≡ Some made → made.sum ≡ sum_of made.share rows

-- the jobs hold no more than the slots, so that no sum is too large
pub record IsSummable (p : Plan) : Type 0 where
  pub fit : IsFit p
  pub total : p.total < 2 ^ 32
