-- A wait for one job alone is answered that job.
use Rattle.std.proofs.Common.{◌≡◌, ℕ, Bool, true, false, cond, List, [], ◌∷◌, ◌++◌, Some, None, ap, subst}
use Rattle.std.specs.List.{find}
use Rattle.drmaa_types.specs.declared.identifiers.JobId.{JobId}
use Rattle.drmaa_types.specs.declared.identifiers.SessionId.{SessionId}
use Rattle.drmaa_types.specs.declared.moments.Timeout.{Timeout}
use Rattle.drmaa_types.specs.declared.states.WaitKind.{WaitKind}
use Rattle.drmaa_model.specs.declared.calls.Call.{Call}
use Rattle.drmaa_model.specs.declared.calls.Call.TheVariants as call
use Rattle.drmaa_model.specs.declared.configs.Config.{Config}
use Rattle.drmaa_model.specs.History.{replay}
use Rattle.drmaa_model.specs.Time.{advance}
use Rattle.drmaa_model.specs.Waiting.{is_reached_by}
use Rattle.drmaa_model.specs.World.{World}
use Rattle.call_history.specs.Clients.{Seat, seen_of}
use Rattle.call_history.specs.Clocks.{Dial}
use Rattle.wait_calls.specs.Waited.{IsWaited, IsReached, Reaches}

found-only : (p : ℕ → Bool) (job told : ℕ) → find p (job ∷ []) ≡ Some told → told ≡ job
found-only p job told =
    elim (p job) as (λ b. cond b (Some job) None ≡ Some told → told ≡ job) [
      | true ↦ λ is. cc
      | false ↦ λ is. absurd cc
    ]

job-of : (told : JobId) (job : ℕ) → told.0 ≡ job → told ≡ record { 0 = job }
job-of told job is = ap (λ (n : ℕ). record { 0 = n }) is

module _ (config : Config) (before : Dial) (old : Seat) (session : SessionId) (job : ℕ) (kind : WaitKind) (timeout : Timeout) (after : Dial) (new : Seat) where
  abbrev waits : List ℕ → ℕ → Call
  waits jobs begun = call.Wait session jobs kind begun timeout

  reached-only : (w : World) (at begun : ℕ) (told : JobId) → IsReached w at (waits (job ∷ []) begun) told → told ≡ record { 0 = job }
  reached-only w at begun told r =
      let listed : r.listed ≡ job ∷ [] = (let e = r.waits in cc) in
      let first : find (is_reached_by r.kind (advance w at).plan.rows) (job ∷ []) ≡ Some told.0 = subst (λ (l : List ℕ). find (is_reached_by r.kind (advance w at).plan.rows) l ≡ Some told.0) listed r.first in
      job-of told job (found-only (is_reached_by r.kind (advance w at).plan.rows) job told.0 first)

  -- whatever job it is told: it is the one that is listed
  pub waits-alone : (jobs : List ℕ) (told : JobId) → jobs ≡ job ∷ [] → IsWaited config before old (waits jobs) (Reaches config old told new) after new
      → IsWaited config before old (waits (job ∷ [])) (Reaches config old (record { 0 = job }) new) after new
  waits-alone jobs told listed w =
      let v : IsWaited config before old (waits (job ∷ [])) (Reaches config old told new) after new = subst (λ (l : List ℕ). IsWaited config before old (waits l) (Reaches config old told new) after new) listed w in
      let is = reached-only (replay config (seen_of old ++ v.decided.made.between)) v.last v.begun told v.decided.first in
      subst (λ (t : JobId). IsWaited config before old (waits (job ∷ [])) (Reaches config old t new) after new) is v
