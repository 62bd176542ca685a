use Rattle.drmaa_model.specs.NextLaunchLaws.{consistent-first, next_launch-none}
use Rattle.drmaa_model.proofs.runs.the_next_launch_is_the_first_ready.Goals as goal

pub returns-clause-first : goal.returns-clause-first
returns-clause-first c = consistent-first

pub returns-clause-none : goal.returns-clause-none
returns-clause-none c = next_launch-none
