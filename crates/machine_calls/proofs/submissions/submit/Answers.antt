use Rattle.std.proofs.Common.{◌≤◌, sym, subst}
use Rattle.machine_readings.specs.Stores.{world_at, world_of}
use Rattle.machine_calls.specs.Runs.{run_call}
use Rattle.machine_calls.specs.Serving.{spare_of, Comes}
use Rattle.machine_calls.proofs.Spares.{after-error}
use Rattle.machine_calls.proofs.Submits.{run-first, run-short}
use Rattle.job_template.specs.declared.templates.JobTemplate.{JobTemplate}
use Rattle.machine_calls.proofs.submissions.submit.Goals as goal

pub returns-in-Some-clause-comes : goal.returns-in-Some-clause-comes
returns-in-Some-clause-comes c = c.refuse.ensures.comes (run_call c.args.session c.args.template.now c.args.indices) (run-first c.args.session c.args.template.now c.args.indices (world_at c.args.at c.args.store.now) c.in-Some.why (sym (c.in-Some.ensures {u = tt})))

pub submit_now-requires-clause-own : goal.submit_now-requires-clause-own
submit_now-requires-clause-own c = sym (c.in-None.ensures {u = tt})

pub returns-in-Some-clause-unspent : goal.returns-in-Some-clause-unspent
returns-in-Some-clause-unspent c = after-error c.refuse.result (spare_of c.args.store.now ≤ spare_of c.refuse.new.store) c.refuse.ensures.spare

pub returns-in-Err-clause-comes : goal.returns-in-Err-clause-comes
returns-in-Err-clause-comes c = run-short c.args.session c.args.template.now c.args.indices c.args.at (world_of c.args.store.now) (sym (c.in-None.ensures {u = tt}))

pub returns-in-Ok-clause-comes : goal.returns-in-Ok-clause-comes
returns-in-Ok-clause-comes c =
    subst (λ (t : JobTemplate). Comes (world_of c.args.store.now) c.args.at (run_call c.args.session t c.args.indices) c.submit_now.result (world_of c.submit_now.new.store)) (c.in-Ok.ensures.cases) c.submit_now.ensures.comes
