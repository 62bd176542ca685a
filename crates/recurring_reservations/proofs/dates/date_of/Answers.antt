use Rattle.std.proofs.Common.{arith}
use Rattle.std.proofs.lemmas.Int.{ints}
use Rattle.drmaa_types.specs.Moments.{greatest}
use Rattle.recurring_reservations.proofs.dates.date_of.Goals as goal

pub unwrap-requires : goal.unwrap-requires
unfolding greatest
unwrap-requires c = c.from_unix_epoch_day.ensures.succeeds.1 (omega (arith, ints))
