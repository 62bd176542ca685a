use Rattle.drmaa_model.specs.Time.{advance}
use Rattle.drmaa_model.specs.WaitLaws.{signal-sends_out, signal-nothing, nothing-signal}
use Rattle.drmaa_model.proofs.answers.a_signal_is_the_first_order.Goals as goal

pub returns-clause-sent : goal.returns-clause-sent
returns-clause-sent c = λ w at reply next is. signal-sends_out (advance w at) at reply next is

pub returns-clause-nothing : goal.returns-clause-nothing
returns-clause-nothing c = λ w at is. signal-nothing (advance w at) at is

pub returns-clause-only : goal.returns-clause-only
returns-clause-only c = λ w at is. nothing-signal (advance w at) at is
