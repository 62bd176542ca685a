use Rattle.drmaa1_face.proofs.Timely.{listing-never}
use Rattle.drmaa1_face.proofs.waiting.every_job.Goals as goal

pub returns-in-Ok-clause-ok : goal.returns-in-Ok-clause-ok
returns-in-Ok-clause-ok g c = rw c.all.ensures at c.in-Ok.ensures.ok

pub returns-in-Err-clause-err : goal.returns-in-Err-clause-err
returns-in-Err-clause-err g c = rw c.all.ensures at c.in-Err.ensures.err

pub returns-in-Err-clause-timely : goal.returns-in-Err-clause-timely
returns-in-Err-clause-timely g c is = listing-never _ _ _ c.args.session _ c.in-Err.why c.ask_for_jobs.ensures.legal c.in-Err.ensures.err (cc)
