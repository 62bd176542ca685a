-- What a call comes to, by the desk that it goes through, before and after it: our profile.
use Rattle.std.specs.Prelude.{ℕ}
use Rattle.drmaa_types.specs.Readings.{Readings}
use Rattle.drmaa_types.specs.declared.identifiers.JobId.{JobId}
use Rattle.drmaa_types.specs.declared.refusals.Refusal.{Refusal}
use Rattle.drmaa_model.specs.declared.calls.Call.{Call}
use Rattle.drmaa_model.specs.declared.looks.Answer.{Answer}
use Rattle.drmaa_model.specs.declared.looks.Question.{Question}
use Rattle.drmaa_model.specs.declared.replies.Reply.{Reply}
use Rattle.call_history.specs.declared.desks.Desk.{Desk}
use Rattle.call_history.specs.Calls.{IsServed, IsLookedAt}
use Rattle.call_history.specs.Clocks.{Dial, dial}
use Rattle.call_history.specs.Refused.{IsRefused}
use Rattle.wait_calls.specs.Waited.{IsWaited, Reaches, Refuses}

-- the clock of a desk
abbrev pub dial_of : {C : Type 0} → (C → Readings) → (C → ℕ) → Desk C → Dial
dial_of given least desk = dial (given desk.clock) (least desk.clock)

-- the call was served, by one entry
abbrev pub Serves : {C : Type 0} → (C → Readings) → (C → ℕ) → Desk C → Call → Reply → Desk C → Type 0
Serves given least old asked reply new = IsServed (dial_of given least old) old.client asked reply (dial_of given least new) new.client

-- the call was refused, by its one entry or with none
abbrev pub Denies : {C : Type 0} → (C → Readings) → (C → ℕ) → Desk C → Call → Refusal → Desk C → Type 0
Denies given least old asked reason new = IsRefused old.shared.now.fixed (dial_of given least old) old.client asked reason (dial_of given least new) new.client

-- the question was answered, with no entry
abbrev pub LooksUp : {C : Type 0} → (C → Readings) → (C → ℕ) → Desk C → Question → Answer → Desk C → Type 0
LooksUp given least old asked answer new = IsLookedAt old.shared.now.fixed (dial_of given least old) old.client asked answer (dial_of given least new) new.client

-- the wait came to this job
abbrev pub WaitReaches : {C : Type 0} → (C → Readings) → (C → ℕ) → Desk C → (ℕ → Call) → JobId → Desk C → Type 0
WaitReaches given least old asked job new =
    IsWaited old.shared.now.fixed (dial_of given least old) old.client asked (Reaches old.shared.now.fixed old.client job new.client) (dial_of given least new) new.client

-- the wait was refused, by its one entry or with none
abbrev pub WaitDenies : {C : Type 0} → (C → Readings) → (C → ℕ) → Desk C → (ℕ → Call) → Refusal → Desk C → Type 0
WaitDenies given least old asked reason new =
    IsWaited old.shared.now.fixed (dial_of given least old) old.client asked (Refuses old.shared.now.fixed old.client reason new.client) (dial_of given least new) new.client
