use Rattle.std.proofs.lemmas.Result.{IfErr-weaker}
use Rattle.client_sessions.specs.Lists.IsUnlisted.{refused, unkept}
use Rattle.client_sessions.proofs.job_sessions.JobSession.jobs.Goals as goal

pub returns-in-Ok-clause-err : goal.returns-in-Ok-clause-err
returns-in-Ok-clause-err g c = IfErr-weaker _ _ _ (λ reason is. unkept is c.in-Ok.numbers c.in-Ok.ensures.ok) c.jobs_of.ensures.err

pub returns-in-Err-clause-err : goal.returns-in-Err-clause-err
returns-in-Err-clause-err g c = refused c.in-Err.ensures.err
