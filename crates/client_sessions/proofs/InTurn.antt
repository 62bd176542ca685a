-- Waits one after another: what comes to the jobs that are left comes to all.
use Rattle.std.proofs.Common.{◌≡◌, ℕ, inl, inr, List, ◌∷◌, ap, subst}
use Rattle.drmaa_types.specs.declared.refusals.Refusal.{Refusal}
use Rattle.drmaa_types.specs.Readings.{Readings}
use Rattle.drmaa_model.specs.declared.calls.Call.{Call}
use Rattle.drmaa_model.specs.declared.configs.Config.{Config}
use Rattle.turn_lock.specs.Tokens.{Named}
use Rattle.call_history.specs.Clients.{Seat}
use Rattle.call_history.specs.Clocks.{Dial}
use Rattle.call_history.specs.declared.desks.Desk.{Desk}
use Rattle.client_sessions.specs.declared.jobs.Job.{Job}
use Rattle.client_sessions.specs.AllWaits.{HasReached, AreWaited, AreStopped, IsStopped, JobDenies}
use Rattle.client_sessions.specs.AllWaits.IsStopped.{refused, unasked}
use Rattle.client_sessions.specs.Desks.{dial_of}

-- what comes to the jobs that are left comes to all
pub record Left (config : Config) (asked : Job → ℕ → Call) (before : Dial) (old : Seat) (jobs : List Job) (clock : Dial) (client : Seat) (rest : List Job) : Type 0 where
  pub waited : (after : Dial) (new : Seat) → AreWaited config asked clock client rest after new → AreWaited config asked before old jobs after new
  pub stopped : (reason : Refusal) (after : Dial) (new : Seat) → AreStopped config asked clock client rest reason after new → AreStopped config asked before old jobs reason after new

module _ (shared next : Named Config) (same : next ≡ shared) (asked : Job → ℕ → Call) (before : Dial) (old : Seat) (jobs : List Job) (clock : Dial) (client : Seat) (job : Job) (rest left : List Job) (is : left ≡ job ∷ rest) (later : Dial) (then : Seat) where
  here : Left shared.fixed asked before old jobs clock client left → Left shared.fixed asked before old jobs clock client (job ∷ rest)
  here l = subst (λ (xs : List Job). Left shared.fixed asked before old jobs clock client xs) is l

  -- the first of them was waited for
  pub left-next : Left shared.fixed asked before old jobs clock client left → HasReached next.fixed (asked job) job.job clock client later then
      → Left shared.fixed asked before old jobs later then rest
  left-next l w =
      let v = subst (λ (n : Named Config). HasReached n.fixed (asked job) job.job clock client later then) same w in
      record {
        waited = λ after new more. (here l).waited after new (later, then, v, more);
        stopped = λ reason after new more. (here l).stopped reason after new (inr (later, then, v, more));
      }

  -- the wait for the first of them was refused
  pub left-stops : (reason : Refusal) → Left shared.fixed asked before old jobs clock client left → IsStopped next.fixed (asked job) clock client reason later then
      → AreStopped shared.fixed asked before old jobs reason later then
  left-stops reason l s = (here l).stopped reason later then (inl (subst (λ (n : Named Config). IsStopped n.fixed (asked job) clock client reason later then) same s))

-- why the wait for one job came to nothing
pub stopped : {C : Type 0} (given : C → Readings) (least : C → ℕ) (asked : ℕ → Call) (reason : Refusal) (old new : Desk C) → JobDenies given least old asked reason new
    → IsStopped old.shared.now.fixed asked (dial_of given least old) old.client reason (dial_of given least new) new.client
stopped given least asked reason old new (inl a) = refused a.1
stopped {C = C} given least asked reason old new (inr b) = unasked b.0 (ap (dial_of given least) b.1) (ap (λ (d : Desk C). d.client) b.1)

-- a job that nobody asks for
abbrev pub no_job : Job
no_job = record { session = record { 0 = 0 }; job = record { 0 = 0 } }
