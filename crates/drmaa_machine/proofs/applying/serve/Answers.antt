use Rattle.std.proofs.Common.{sym, subst}
use Rattle.std.specs.Prelude.{Ok, Err}
use Rattle.drmaa_model.specs.declared.calls.Call.{Call}
use Rattle.drmaa_model.specs.declared.faults.NoEntry.TheVariants.{OutOfMemory}
use Rattle.drmaa_model.specs.declared.replies.Reply.{Reply}
use Rattle.drmaa_model.specs.RecordedCalls.{recorded}
use Rattle.machine_readings.specs.Stores.{world_of}
use Rattle.drmaa_machine.specs.Applies.{Applies}
use Rattle.drmaa_machine.specs.Invariant.{IsMachine, ledger_of}
use Rattle.drmaa_machine.proofs.RecordedLaws.{submits, submission-short}
use Rattle.drmaa_machine.proofs.Storing.{applies-ok, applies-err, keeps-all, slots-free}
use Rattle.drmaa_machine.proofs.applying.serve.Goals as goal
use Rattle.drmaa_machine.proofs.applying.serve.Goals.{After-push}

-- a call that makes an entry
made : (c : After-push)
    → IsMachine c.push.new.store × Applies (ledger_of c.args.store.now) c.args.caller c.args.at c.in-Ok.recorded (Ok c.in-Ok-perform.replies.told) (ledger_of c.push.new.store)
made c =
    let promised = c.in-Ok-perform.ensures {u = tt} in
    applies-ok c.args.store.now c.requires.machine c.args.caller c.args.at c.in-Ok.recorded c.perform.new.store c.push.new.store c.in-Ok-perform.replies
    promised.keeps promised.place c.a_moment_is_within.ensures promised.comes c.push.ensures.world c.push.ensures.items c.push.ensures.len c.push.ensures.capacity

pub returns-in-Ok-perform-clause-machine : goal.returns-in-Ok-perform-clause-machine
returns-in-Ok-perform-clause-machine c = (made c).0

pub returns-in-Ok-perform-clause-applies : goal.returns-in-Ok-perform-clause-applies
returns-in-Ok-perform-clause-applies c =
    subst (λ (x : Call). Applies (ledger_of c.args.store.now) c.args.caller c.args.at x (Ok c.push.result) (ledger_of c.push.new.store)) (c.in-Ok.ensures {u = tt}).ok
    (subst (λ (r : Reply). Applies (ledger_of c.args.store.now) c.args.caller c.args.at c.in-Ok.recorded (Ok r) (ledger_of c.push.new.store)) (sym c.push.ensures.told) (made c).1)

pub returns-in-Ok-perform-clause-honoured_slots : goal.returns-in-Ok-perform-clause-honoured_slots
returns-in-Ok-perform-clause-honoured_slots c = slots-free c.args.store.now c.requires.machine c.args.at c.a_moment_is_within.ensures

-- one that makes none
pub returns-in-Err-perform-clause-applies : goal.returns-in-Err-perform-clause-applies
returns-in-Err-perform-clause-applies c =
    (let promised = c.in-Err-perform.ensures {u = tt} in
    subst (λ (x : Call). Applies (ledger_of c.args.store.now) c.args.caller c.args.at x (Err c.in-Err-perform.why) (ledger_of c.perform.new.store)) (c.in-Ok.ensures {u = tt}).ok
    (applies-err c.args.store.now c.requires.machine c.args.caller c.args.at c.in-Ok.recorded c.perform.new.store c.in-Err-perform.why promised.keeps c.a_moment_is_within.ensures promised.comes).1)

pub returns-in-Err-perform-clause-honoured_slots : goal.returns-in-Err-perform-clause-honoured_slots
returns-in-Err-perform-clause-honoured_slots c = slots-free c.args.store.now c.requires.machine c.args.at c.a_moment_is_within.ensures

-- the recorded call wants memory
pub returns-in-Err-clause-applies : goal.returns-in-Err-clause-applies
returns-in-Err-clause-applies c =
    (let s = c.args.store.now in
    (applies-err s c.requires.machine c.args.caller c.args.at (recorded c.args.call) s OutOfMemory (keeps-all s) c.a_moment_is_within.ensures
    (submission-short (world_of s) c.args.at c.args.call (c.in-Err.ensures {u = tt}).err)).1)

pub returns-in-Err-clause-memory : goal.returns-in-Err-clause-memory
returns-in-Err-clause-memory c = λ foreseen more wrong. (let never = (submits c.args.call (c.in-Err.ensures {u = tt}).err).recorded_unforeseen in cc)

pub returns-in-Err-clause-reports : goal.returns-in-Err-clause-reports
returns-in-Err-clause-reports c = λ reports free. (let never = (submits c.args.call (c.in-Err.ensures {u = tt}).err).recorded_no_report in absurd (cc))

pub returns-in-Err-clause-honoured_slots : goal.returns-in-Err-clause-honoured_slots
returns-in-Err-clause-honoured_slots c = slots-free c.args.store.now c.requires.machine c.args.at c.a_moment_is_within.ensures
