-- Waits for each of several jobs, one after another: our profile.
use Rattle.std.specs.Prelude.{◌≡◌, ◌⊎◌, ℕ, List, [], ◌∷◌}
use Rattle.drmaa_types.specs.Readings.{Readings}
use Rattle.drmaa_types.specs.declared.identifiers.ArrayId.{ArrayId}
use Rattle.drmaa_types.specs.declared.identifiers.JobId.{JobId}
use Rattle.drmaa_types.specs.declared.identifiers.SessionId.{SessionId}
use Rattle.drmaa_types.specs.declared.moments.Timeout.{Timeout}
use Rattle.drmaa_types.specs.declared.refusals.Refusal.{Refusal}
use Rattle.drmaa_types.specs.declared.refusals.Refusal.TheVariants.{OutOfMemory}
use Rattle.drmaa_types.specs.declared.states.WaitKind.{WaitKind}
use Rattle.drmaa_model.specs.declared.calls.Call.{Call}
use Rattle.drmaa_model.specs.declared.calls.Call.TheVariants as call
use Rattle.drmaa_model.specs.declared.configs.Config.{Config}
use Rattle.drmaa_model.specs.declared.replies.Reply.TheVariants as reply
use Rattle.call_history.specs.declared.desks.Desk.{Desk}
use Rattle.call_history.specs.Calls.{IsServed}
use Rattle.call_history.specs.Clients.{Seat, number_of, StaysAt}
use Rattle.call_history.specs.Clocks.{Dial}
use Rattle.wait_calls.specs.Waited.{IsWaited, Reaches, Refuses}
use Rattle.client_sessions.specs.declared.jobs.Job.{Job}
use Rattle.client_sessions.specs.Desks.{dial_of, WaitDenies}
use Rattle.client_sessions.specs.Lists.{jobs_of, IsUnlisted}

-- the wait for one job alone, through a session, begun at a moment
abbrev pub wait_for : SessionId → WaitKind → Timeout → Job → ℕ → Call
wait_for session kind timeout job begun = call.Wait session (job.job.0 ∷ []) kind begun timeout

-- the wait for one job was answered, by one entry of the client, that the job has reached the state
pub record HasReached (config : Config) (asked : ℕ → Call) (job : JobId) (before : Dial) (old : Seat) (after : Dial) (new : Seat) : Type 0 where
  pub number : number_of new ≡ number_of old
  pub waited : IsWaited config before old asked (Reaches config old job new) after new

-- The jobs were waited for in their order, and each had reached the state. Each wait is one entry, and the client made no other between.
abbrev pub AreWaited : Config → (Job → ℕ → Call) → Dial → Seat → List Job → Dial → Seat → Type 0
AreWaited config asked before old [] after new = (after ≡ before) × (new ≡ old)
AreWaited config asked before old (job ∷ jobs) after new =
    (clock : Dial) × (client : Seat) × HasReached config (asked job) job.job before old clock client × AreWaited config asked clock client jobs after new

-- The wait for one job was refused, by its entry or with none; or there was no memory for the list of the one job, and nothing has happened.
pub data IsStopped (config : Config) (asked : ℕ → Call) (before : Dial) (old : Seat) (reason : Refusal) (after : Dial) (new : Seat) : Type 0 where
  refused : IsWaited config before old asked (Refuses config old reason new) after new → IsStopped config asked before old reason after new
  unasked : reason ≡ OutOfMemory → after ≡ before → new ≡ old → IsStopped config asked before old reason after new

-- Some of the jobs, from the first on, were waited for in their order and had reached the state; the wait for the next one was refused.
abbrev pub AreStopped : Config → (Job → ℕ → Call) → Dial → Seat → List Job → Refusal → Dial → Seat → Type 0
AreStopped config asked before old [] reason after new = ⊥
AreStopped config asked before old (job ∷ jobs) reason after new =
    IsStopped config (asked job) before old reason after new
    ⊎ ((clock : Dial) × (client : Seat) × HasReached config (asked job) job.job before old clock client × AreStopped config asked clock client jobs reason after new)

-- one entry tells an array's kept jobs, and what follows is so of them
pub record OfMembers (session : SessionId) (array : ArrayId) (before : Dial) (old : Seat) (Follows : List Job → Dial → Seat → Type 0) : Type 0 where
  pub numbers : List ℕ
  pub clock : Dial
  pub client : Seat
  pub number : number_of client ≡ number_of old
  pub told : IsServed before old (call.GetJobArray session array) (reply.Jobs numbers) clock client
  pub follows : Follows (jobs_of session numbers) clock client

-- ---- by the desk that the waits go through

-- each of these jobs had reached the state
abbrev pub AllReach : {C : Type 0} → (C → Readings) → (C → ℕ) → Desk C → (Job → ℕ → Call) → List Job → Desk C → Type 0
AllReach given least old asked jobs new = AreWaited old.shared.now.fixed asked (dial_of given least old) old.client jobs (dial_of given least new) new.client

-- the wait for one of them was refused
abbrev pub OneDenies : {C : Type 0} → (C → Readings) → (C → ℕ) → Desk C → (Job → ℕ → Call) → List Job → Refusal → Desk C → Type 0
OneDenies given least old asked jobs reason new = AreStopped old.shared.now.fixed asked (dial_of given least old) old.client jobs reason (dial_of given least new) new.client

-- each kept job of an array had reached the state
abbrev pub MembersReach : {C : Type 0} → (C → Readings) → (C → ℕ) → Desk C → SessionId → ArrayId → WaitKind → Timeout → Desk C → Type 0
MembersReach given least old session array kind timeout new =
    OfMembers session array (dial_of given least old) old.client (λ jobs clock client. AreWaited old.shared.now.fixed (wait_for session kind timeout) clock client jobs (dial_of given least new) new.client)

-- they were not listed, and nothing was waited for; or the wait for one of them was refused
abbrev pub MemberDenies : {C : Type 0} → (C → Readings) → (C → ℕ) → Desk C → SessionId → ArrayId → WaitKind → Timeout → Refusal → Desk C → Type 0
MemberDenies given least old session array kind timeout reason new =
    IsUnlisted old.shared.now.fixed (dial_of given least old) old.client (call.GetJobArray session array) (λ numbers. reply.Jobs numbers) reason (dial_of given least new) new.client
    ⊎ OfMembers session array (dial_of given least old) old.client (λ jobs clock client. AreStopped old.shared.now.fixed (wait_for session kind timeout) clock client jobs reason (dial_of given least new) new.client)

-- the wait for one job was refused; or there was no memory for the list of the one job, and nothing has happened
abbrev pub JobDenies : {C : Type 0} → (C → Readings) → (C → ℕ) → Desk C → (ℕ → Call) → Refusal → Desk C → Type 0
JobDenies given least old asked reason new =
    (StaysAt old.shared.now old.client new.shared.now new.client × WaitDenies given least old asked reason new) ⊎ ((reason ≡ OutOfMemory) × (new ≡ old))
