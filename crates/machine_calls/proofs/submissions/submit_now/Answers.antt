use Rattle.std.proofs.Common.{◌≤◌, ap}
use Rattle.drmaa_model.specs.Submitting.{submit}
use Rattle.machine_readings.specs.Stores.{world_of, world_at}
use Rattle.scheduler_core.specs.View.{View}
use Rattle.machine_calls.specs.Serving.{spare_of}
use Rattle.machine_calls.proofs.Placed.{comes-unsized, due-after, place-after}
use Rattle.machine_calls.proofs.Spares.{error-only, operation-spare}
use Rattle.machine_calls.specs.Runs.{run_call, told_of}
use Rattle.machine_calls.proofs.Submits.{run-through, run-outcome, run-unsized}
use Rattle.machine_calls.proofs.submissions.submit_now.Goals as goal

pub returns-clause-comes : goal.returns-clause-comes
returns-clause-comes c =
    comes-unsized told_of (submit c.home_number-home.result c.args.template c.args.indices) c.args.store.now c.occasion_for-occasion.new.store c.args.at (run_call c.args.session c.args.template c.args.indices)
    (run-through c.args.session c.args.template c.args.indices c.args.at (world_at c.args.at c.args.store.now) c.requires.own c.home_number-home.result c.home_number-home.ensures)
    c.occasion_for-occasion.result c.occasion_for-occasion.ensures.next c.submit-done.new.self.plan c.submit-done.result c.conclude_submitted.result (world_of c.conclude_submitted.new.store)
    c.occasion_for-occasion.ensures.world c.submit-done.ensures.meets c.conclude_submitted.ensures.concludes (run-unsized c.args.session c.args.template c.args.indices)

pub returns-clause-place : goal.returns-clause-place
returns-clause-place c =
    place-after told_of (submit c.home_number-home.result c.args.template c.args.indices) c.args.store.now c.occasion_for-occasion.new.store c.args.at (run_call c.args.session c.args.template c.args.indices)
    (run-through c.args.session c.args.template c.args.indices c.args.at (world_at c.args.at c.args.store.now) c.requires.own c.home_number-home.result c.home_number-home.ensures)
    c.occasion_for-occasion.result c.occasion_for-occasion.ensures.next c.submit-done.new.self.plan c.submit-done.result c.conclude_submitted.result (world_of c.conclude_submitted.new.store)
    c.occasion_for-occasion.ensures.world c.submit-done.ensures.meets c.conclude_submitted.ensures.concludes c.conclude_submitted.new.store c.occasion_for-occasion.ensures.place (run-outcome c.home_number-home.result c.args.template c.args.indices c.occasion_for-occasion.result.entry)
    c.requires.store.consistent.fit c.conclude_submitted.ensures.keeps.len c.conclude_submitted.ensures.keeps.more (ap (λ (v : View). v.plan) c.conclude_submitted.ensures.core)

pub returns-clause-unspent : goal.returns-clause-unspent
returns-clause-unspent c =
    (let due = due-after told_of (submit c.home_number-home.result c.args.template c.args.indices) c.args.store.now c.occasion_for-occasion.new.store c.args.at (run_call c.args.session c.args.template c.args.indices)
    (run-through c.args.session c.args.template c.args.indices c.args.at (world_at c.args.at c.args.store.now) c.requires.own c.home_number-home.result c.home_number-home.ensures)
    c.occasion_for-occasion.result c.occasion_for-occasion.ensures.next c.submit-done.new.self.plan c.submit-done.result c.conclude_submitted.result (world_of c.conclude_submitted.new.store)
    c.occasion_for-occasion.ensures.world c.submit-done.ensures.meets c.conclude_submitted.ensures.concludes (run-outcome c.home_number-home.result c.args.template c.args.indices c.occasion_for-occasion.result.entry) c.requires.store.consistent.fit in
    error-only told_of c.submit-done.result (record (world_of c.occasion_for-occasion.new.store) { plan = c.submit-done.new.self.plan }) c.conclude_submitted.result (world_of c.conclude_submitted.new.store)
    (c.occasion_for-occasion.new.store.core.spare ≤ c.submit-done.new.self.spare) (spare_of c.args.store.now ≤ spare_of c.conclude_submitted.new.store) c.conclude_submitted.ensures.concludes
    (λ kept. operation-spare c.args.store.now c.occasion_for-occasion.new.store c.conclude_submitted.new.store c.submit-done.new.self c.occasion_for-occasion.ensures.keeps c.occasion_for-occasion.ensures.core
    c.conclude_submitted.ensures.core c.conclude_submitted.ensures.keeps.len c.conclude_submitted.ensures.keeps.more due kept)
    c.submit-done.ensures.err)
