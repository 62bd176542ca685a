use Rattle.drmaa_model.specs.Time.{advance}
use Rattle.drmaa_model.specs.WaitLaws.{launch-hands_out, launch-nothing, nothing-launch}
use Rattle.drmaa_model.proofs.answers.a_launch_is_the_next.Goals as goal

pub returns-clause-launched : goal.returns-clause-launched
returns-clause-launched c = λ w at reply next is. launch-hands_out (advance w at) at reply next is

pub returns-clause-nothing : goal.returns-clause-nothing
returns-clause-nothing c = λ w at is. launch-nothing (advance w at) at is

pub returns-clause-only : goal.returns-clause-only
returns-clause-only c = λ w at is. nothing-launch (advance w at) at is
