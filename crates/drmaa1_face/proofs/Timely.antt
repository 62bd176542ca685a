-- Calls that are answered at once are not refused for a time that is over.
use Rattle.std.proofs.Common.{◌≡◌, ◌⊎◌, inl, inr, Bool, true, false, List, [], ◌∷◌, ◌++◌, Some, subst}
use Rattle.drmaa_types.specs.Refusals.{first_refusal}
use Rattle.drmaa_types.specs.declared.filters.JobFilter.{JobFilter}
use Rattle.drmaa_types.specs.declared.identifiers.JobId.{JobId}
use Rattle.drmaa_types.specs.declared.identifiers.SessionId.{SessionId}
use Rattle.drmaa_types.specs.declared.refusals.Refusal.{Refusal}
use Rattle.drmaa_types.specs.declared.refusals.Refusal.TheVariants as why
use Rattle.drmaa_types.specs.declared.sessions.SessionKind.TheVariants.{Jobs}
use Rattle.drmaa_model.specs.declared.calls.Call.{Call}
use Rattle.drmaa_model.specs.declared.calls.Call.TheVariants as call
use Rattle.drmaa_model.specs.declared.calls.Target.TheVariants as target
use Rattle.drmaa_model.specs.declared.configs.Config.{Config}
use Rattle.drmaa_model.specs.declared.faults.NoEntry.{NoEntry}
use Rattle.drmaa_model.specs.declared.faults.NoEntry.TheVariants as fault
use Rattle.drmaa_model.specs.declared.replies.Reply.TheVariants as reply
use Rattle.drmaa_model.specs.AnswerLaws.{answer-cases}
use Rattle.drmaa_model.specs.Controlling.{reap_tests}
use Rattle.drmaa_model.specs.Effects.{StepAnswer, gives}
use Rattle.drmaa_model.specs.History.{IsLegal, replay}
use Rattle.drmaa_model.specs.Homes.{session_test, reap_test, reapers}
use Rattle.drmaa_model.specs.RecordedCalls.{recorded}
use Rattle.drmaa_model.specs.Steps.{answer}
use Rattle.drmaa_model.specs.Time.{advance}
use Rattle.drmaa_model.specs.World.{World}
use Rattle.call_history.specs.Calls.{entry_by, IsServed}
use Rattle.call_history.specs.Clients.{seen_of, number_of}
use Rattle.call_history.specs.Refused.{refusal_of}
use Rattle.wait_calls.proofs.Seats.{made-step}
use Rattle.drmaa1_face.specs.Posts.{Post}
use Rattle.drmaa1_face.specs.Steps.{at_once, Halts}
use Rattle.drmaa1_face.specs.Steps.Halts.{by_entry, by_fault}

-- the reason of one of these tests
abbrev pub IsReason : Refusal → List (Bool × Refusal) → Type 0
IsReason reason [] = ⊥
IsReason reason (t ∷ ts) = (t.1 ≡ reason) ⊎ IsReason reason ts

pub has-reason : (ts : List (Bool × Refusal)) (reason : Refusal) → first_refusal ts ≡ Some reason → IsReason reason ts
has-reason [] reason is = cc
has-reason ((true, r) ∷ ts) reason is = inl cc
has-reason ((false, r) ∷ ts) reason is = inr (has-reason ts reason is)

-- no fault stands for a time that is over
pub fault-timely : (f : NoEntry) → refusal_of f ≡ Some why.Timeout → ⊥
fault-timely fault.OutOfMemory is = cc
fault-timely fault.NotYet is = cc
fault-timely fault.Nothing is = cc
fault-timely (fault.Journal size) is = cc

-- the answer is no entry with that refusal
abbrev IsTimely : StepAnswer → Type 0
IsTimely a = (next : World) → a ≡ gives (reply.Refused why.Timeout) next → ⊥

listing-timely : (w : World) (at : _) (session : SessionId) (filter : JobFilter) → IsTimely (answer w at (call.GetJobs session filter))
listing-timely w at session filter =
    answer-cases at (advance w at) (call.GetJobs session filter) IsTimely
    (λ reason is next same. elim (has-reason (session_test (Jobs ∷ []) session (advance w at) ∷ []) reason is) [ inl a ↦ cc | inr a ↦ elim a [ ] ])
    (λ free next same. cc)

reaping-timely : (w : World) (at : _) (session : SessionId) (job : JobId) → IsTimely (answer w at (call.Reap session (target.Job job)))
reaping-timely w at session job =
    let v = advance w at in
    answer-cases at v (call.Reap session (target.Job job)) IsTimely
    (λ reason is next same. elim (has-reason (session_test (reapers (target.Job job)) session v ∷ reap_test session (target.Job job) v ∷ reap_tests (target.Job job) v.plan) reason is) [
      | inl a ↦ cc
      | inr (inl a) ↦ cc
      | inr (inr (inl a)) ↦ cc
      | inr (inr (inr a)) ↦ elim a [ ]
    ])
    (λ free next same. cc)

module _ (config : Config) (old new : Post) (c : Call) (legal : IsLegal config (seen_of new.client)) (timely : (w : World) (at : _) → IsTimely (answer w at (recorded c))) where
  served-timely : IsServed old.clock old.client c (reply.Refused why.Timeout) new.clock new.client → ⊥
  served-timely s =
      let step = made-step config old.client (entry_by (number_of old.client) s.at c (reply.Refused why.Timeout)) new.client legal s.made in
      timely (replay config (seen_of old.client ++ s.made.between)) s.at _ step.answered

module _ (config : Config) (old new : Post) (c : Call) (legal : IsLegal config (seen_of new.client)) (timely : (w : World) (at : _) → IsTimely (answer w at (recorded c))) where
  halts-timely : Halts config old [] (at_once c) why.Timeout new → ⊥
  halts-timely (by_entry m) =
      served-timely config old m.follows.0 c (subst (λ (p : Post). IsLegal config (seen_of p.client)) m.follows.3 legal) timely m.follows.2
  halts-timely (by_fault mid m fails mine) = fault-timely fails.0 fails.1

pub listing-never : (config : Config) (old new : Post) (session : SessionId) (filter : JobFilter) (reason : Refusal) → IsLegal config (seen_of new.client) → Halts config old [] (at_once (call.GetJobs session filter)) reason new → reason ≡ why.Timeout → ⊥
listing-never config old new session filter reason legal h same =
    halts-timely config old new (call.GetJobs session filter) legal (λ w at. listing-timely w at session filter) (subst (λ (r : Refusal). Halts config old [] (at_once (call.GetJobs session filter)) r new) same h)

pub reaping-never : (config : Config) (old new : Post) (session : SessionId) (job : JobId) (reason : Refusal) → IsLegal config (seen_of new.client) → Halts config old [] (at_once (call.Reap session (target.Job job))) reason new → reason ≡ why.Timeout → ⊥
reaping-never config old new session job reason legal h same =
    halts-timely config old new (call.Reap session (target.Job job)) legal (λ w at. reaping-timely w at session job) (subst (λ (r : Refusal). Halts config old [] (at_once (call.Reap session (target.Job job))) r new) same h)
