use Rattle.drmaa_model.specs.SizeLaws.{advance-size}
use Rattle.drmaa_model.specs.TimeLaws.{weight-advance}
use Rattle.drmaa_model.proofs.laws.time_leaves_the_size.Goals as goal

pub returns-clause-weight : goal.returns-clause-weight
returns-clause-weight c = weight-advance

pub returns-clause-size : goal.returns-clause-size
returns-clause-size c = advance-size
