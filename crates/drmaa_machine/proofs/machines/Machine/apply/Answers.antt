use Rattle.std.proofs.Common.{◌≡◌, ◌+◌, ◌≤◌, true, inl, inr, sym, ◌∙◌, ap, subst}
use Rattle.std.specs.Prelude.{◌⊎◌, Err, OnErr}
use Rattle.drmaa_model.specs.declared.faults.NoEntry.TheVariants.{OutOfMemory, Journal}
use Rattle.drmaa_model.specs.declared.rows.Row.{Row}
use Rattle.drmaa_model.specs.History.{Ledger, now_of}
use Rattle.drmaa_model.specs.Honoured.{IsOnTime, IsDueInside}
use Rattle.drmaa_model.specs.RecordedCalls.{recorded}
use Rattle.drmaa_model.specs.NextLaunch.{held}
use Rattle.drmaa_model.specs.Refusals.{refusal}
use Rattle.drmaa_model.specs.Time.{advance}
use Rattle.drmaa_model.specs.World.{World}
use Rattle.machine_readings.specs.Stores.{world_of}
use Rattle.machine_calls.specs.Serving.{spare_of}
use Rattle.drmaa_machine.specs.Applies.{Applies}
use Rattle.drmaa_machine.specs.Applying.{is_submission}
use Rattle.drmaa_machine.specs.Invariant.{ledger_of}
use Rattle.drmaa_machine.specs.View.{View}
use Rattle.drmaa_machine.proofs.RecordedLaws.{recorded-foreseen, recorded-frugal, recorded-report, recorded-submits}
use Rattle.drmaa_machine.proofs.Storing.{few-entries, now-consistent}
use Rattle.drmaa_machine.proofs.machines.Machine.apply.Goals as goal
use Rattle.drmaa_machine.proofs.machines.Machine.apply.Goals.{After-serve}

-- all that is promised, of what contracts see
fact : (c : After-serve) → Applies c.args.self.now.ledger c.args.caller c.args.at (recorded c.args.call) c.serve.result (ledger_of c.serve.new.store)
fact c =
    subst (λ (l : Ledger). Applies l c.args.caller c.args.at (recorded c.args.call) c.serve.result (ledger_of c.serve.new.store)) (ap (λ (v : View). v.ledger) c.self.view_is) c.serve.ensures.applies

-- the world that it was in
now : (c : After-serve) → world_of c.self.inside.store ≡ now_of c.args.self.now.ledger
now c = c.self.invariant.replayed ∙ ap (λ (v : View). now_of v.ledger) c.self.view_is

pub returns-clause-step : goal.returns-clause-step
returns-clause-step c = (fact c).comes.step

pub returns-clause-entry : goal.returns-clause-entry
returns-clause-entry c = (fact c).entry

pub returns-clause-legal : goal.returns-clause-legal
returns-clause-legal c = c.serve.ensures.machine.legal

pub returns-clause-consistent : goal.returns-clause-consistent
returns-clause-consistent c = now-consistent c.serve.new.store c.serve.ensures.machine

pub returns-clause-few : goal.returns-clause-few
returns-clause-few c = few-entries c.serve.new.store c.serve.ensures.machine

pub returns-clause-err : goal.returns-clause-err
returns-clause-err c = (fact c).err

pub returns-clause-waits : goal.returns-clause-waits
returns-clause-waits c = (fact c).comes.waits

pub returns-clause-finds_nothing : goal.returns-clause-finds_nothing
returns-clause-finds_nothing c = (fact c).comes.finds_nothing

pub returns-clause-full : goal.returns-clause-full
returns-clause-full c = (fact c).comes.full

pub returns-clause-above : goal.returns-clause-above
returns-clause-above c = λ n large.
    elim ((fact c).comes.above n large) as (λ _. (c.serve.result ≡ Err (Journal n)) ⊎ ((c.serve.result ≡ Err OutOfMemory) × (is_submission c.args.call ≡ true))) [
      | inl is ↦ inl is
      | inr both ↦ inr (both.0, recorded-submits c.args.call both.1)
    ]

pub returns-clause-refuses : goal.returns-clause-refuses
returns-clause-refuses c = (fact c).comes.refuses

pub returns-clause-over : goal.returns-clause-over
returns-clause-over c = (fact c).comes.over

pub returns-clause-refused : goal.returns-clause-refused
returns-clause-refused c = (fact c).comes.refused

pub returns-clause-edges : goal.returns-clause-edges
returns-clause-edges c = (fact c).comes.edges

pub returns-clause-launch : goal.returns-clause-launch
returns-clause-launch c = λ is. (fact c).comes.launch (ap recorded is)

pub returns-clause-signal : goal.returns-clause-signal
returns-clause-signal c = λ is. (fact c).comes.signal (ap recorded is)

pub returns-clause-honoured : goal.returns-clause-honoured
returns-clause-honoured c = λ row is time due. (fact c).comes.honoured row (ap recorded is) time due

pub returns-clause-honoured_slots : goal.returns-clause-honoured_slots
returns-clause-honoured_slots c =
    subst (λ (w : World). (row : Row) → IsOnTime (advance w c.args.at).plan → IsDueInside (advance w c.args.at).plan row → held (advance w c.args.at).plan.rows + row.wants.min ≤ (advance w c.args.at).plan.total) (now c)
    c.serve.ensures.honoured_slots

pub returns-clause-memory : goal.returns-clause-memory
returns-clause-memory c = λ foreseen more. c.serve.ensures.memory (recorded-foreseen c.args.call foreseen) (subst (λ (v : View). 1 ≤ v.spare) (sym c.self.view_is) more)

pub returns-clause-spare : goal.returns-clause-spare
returns-clause-spare c = λ frugal.
    subst (λ (v : View). v.spare ≤ spare_of c.serve.new.store + 1) c.self.view_is (c.serve.ensures.spare (recorded-frugal c.args.call frugal))

pub returns-clause-reports : goal.returns-clause-reports
returns-clause-reports c = λ reports free.
    (let known = recorded-report c.args.call reports in
    c.serve.ensures.reports known.1
    (ap (λ (w : World). refusal (advance w c.args.at) (recorded c.args.call)) (now c) ∙ ap (refusal (advance (now_of c.args.self.now.ledger) c.args.at)) (sym known.0) ∙ free))

pub returns-clause-promised : goal.returns-clause-promised
returns-clause-promised c = λ reports free.
    (let known = recorded-report c.args.call reports in
    subst (λ (v : View). v.spare ≤ spare_of c.serve.new.store) c.self.view_is
    (c.serve.ensures.promised known.1
    (ap (λ (w : World). refusal (advance w c.args.at) (recorded c.args.call)) (now c) ∙ ap (refusal (advance (now_of c.args.self.now.ledger) c.args.at)) (sym known.0) ∙ free)))

pub returns-clause-unspent : goal.returns-clause-unspent
returns-clause-unspent c = subst (λ (v : View). OnErr c.serve.result (v.spare ≤ spare_of c.serve.new.store)) c.self.view_is c.serve.ensures.unspent
