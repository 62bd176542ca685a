use Rattle.drmaa_model.specs.BoundaryLaws.{fits-from-starts, starts-from-fits}
use Rattle.drmaa_model.proofs.runs.an_interval_fits_where_its_starts_do.Goals as goal

pub returns-clause-fits : goal.returns-clause-fits
returns-clause-fits c = fits-from-starts

pub returns-clause-starts : goal.returns-clause-starts
returns-clause-starts c = starts-from-fits
