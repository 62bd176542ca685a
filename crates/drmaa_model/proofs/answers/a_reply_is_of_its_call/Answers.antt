use Rattle.drmaa_model.specs.declared.replies.Reply.TheVariants as reply
use Rattle.drmaa_model.specs.AnswerLaws.{reply-kind, launch-of-launch, signal-of-signal}
use Rattle.drmaa_model.proofs.answers.a_reply_is_of_its_call.Goals as goal

pub returns-clause-kind : goal.returns-clause-kind
returns-clause-kind c = reply-kind

pub returns-clause-launch : goal.returns-clause-launch
returns-clause-launch c = λ w at call told next is. launch-of-launch call told (reply-kind w at call (reply.Launch told) next is)

pub returns-clause-signal : goal.returns-clause-signal
returns-clause-signal c = λ w at call told next is. signal-of-signal call told (reply-kind w at call (reply.Signal told) next is)
