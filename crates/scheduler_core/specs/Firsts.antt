-- The first in order of a job and the first of others: our profile.
use Rattle.std.specs.Prelude.{Option, None, Some}
use Rattle.std.specs.Option.{option_map_or}
use Rattle.drmaa_model.specs.declared.rows.Row.{Row}
use Rattle.drmaa_model.specs.NextLaunch.{better}

-- the best so far, and the first of those that are left
abbrev pub first_of : Option Row → Option Row → Option Row
first_of None rest = rest
first_of (Some best) rest = Some (option_map_or (better best) rest best)
