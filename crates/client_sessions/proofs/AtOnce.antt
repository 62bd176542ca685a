-- A question for a state that is not waited for: why it is refused.
use Rattle.std.proofs.Common.{◌≡◌, ℕ, Bool, true, false, cond, inl, inr, List, [], ◌∷◌, ◌++◌, refl, IfErr, Result, Ok, Err, Some, None, sym, subst}
use Rattle.drmaa_types.specs.declared.identifiers.JobId.{JobId}
use Rattle.drmaa_types.specs.declared.identifiers.SessionId.{SessionId}
use Rattle.drmaa_types.specs.declared.refusals.Refusal.{Refusal}
use Rattle.drmaa_types.specs.declared.refusals.Refusal.TheVariants as why
use Rattle.drmaa_types.specs.declared.sessions.SessionKind.TheVariants.{Jobs, Monitoring}
use Rattle.drmaa_types.specs.Refusals.{first_refusal}
use Rattle.drmaa_model.specs.declared.calls.Call.{Call}
use Rattle.drmaa_model.specs.declared.calls.Call.TheVariants as call
use Rattle.drmaa_model.specs.declared.configs.Config.{Config}
use Rattle.drmaa_model.specs.declared.entries.Entry.{Entry}
use Rattle.drmaa_model.specs.declared.faults.NoEntry.TheVariants as fault
use Rattle.drmaa_model.specs.declared.replies.Reply.{Reply}
use Rattle.drmaa_model.specs.declared.replies.Reply.TheVariants as reply
use Rattle.drmaa_model.specs.AnswerLaws.{answer-cases, reply-kind}
use Rattle.drmaa_model.specs.Effects.{StepAnswer, gives, nothing, not_yet}
use Rattle.drmaa_model.specs.History.{IsLegal, replay}
use Rattle.drmaa_model.specs.Homes.{session_test, seen_test}
use Rattle.drmaa_model.specs.Refusals.{refusal}
use Rattle.drmaa_model.specs.ReplyKinds.{kind_of_reply, a_state, a_refusal, IsReplyOf}
use Rattle.drmaa_model.specs.Steps.{answer}
use Rattle.drmaa_model.specs.Time.{advance}
use Rattle.drmaa_model.specs.World.{World}
use Rattle.call_history.specs.declared.tries.TryFault.{TryFault}
use Rattle.call_history.specs.declared.tries.TryFault.TheVariants as tried
use Rattle.call_history.specs.Calls.{entry_by, IsServed, IsTriedInVain}
use Rattle.call_history.specs.Clients.{Seat, seen_of, number_of}
use Rattle.call_history.specs.Clocks.{Dial}
use Rattle.call_history.specs.Refused.{IsRefused}
use Rattle.call_history.specs.Refused.IsRefused.{by_fault}
use Rattle.wait_calls.proofs.Seats.{made-step}
use Rattle.client_sessions.specs.Tries.{IsRefusedAtOnce, IsRefusalOf}

-- the refusal does not ask to try later
abbrev pub StandsFirm : Refusal → Type 0
StandsFirm reason = (served drawn : ℕ) → reason ≡ why.TryLater served drawn → ⊥

-- such a refusal is told at once as it would be after waiting
pub told-at-once : (config : Config) (before : Dial) (old : Seat) (asked : Call) (after : Dial) (new : Seat) (reason : Refusal) → StandsFirm reason
    → IsRefused config before old asked reason after new → IsRefusedAtOnce config before old asked after new reason
told-at-once config before old asked after new (why.DeniedByDrms moment) firm is = is
told-at-once config before old asked after new (why.TryLater served drawn) firm is = absurd (firm served drawn refl)
told-at-once config before old asked after new why.Timeout firm is = is
told-at-once config before old asked after new (why.InvalidArgument which) firm is = is
told-at-once config before old asked after new why.InvalidSession firm is = is
told-at-once config before old asked after new (why.InvalidState state) firm is = is
told-at-once config before old asked after new (why.OutOfResource limit) firm is = is
told-at-once config before old asked after new why.OutOfMemory firm is = is
told-at-once config before old asked after new (why.UnsupportedAttribute attribute) firm is = is
told-at-once config before old asked after new why.UnsupportedOperation firm is = is

-- what is true of the refusals of two tests is true of the first that holds
two-tests : (a b : Bool × Refusal) (P : Refusal → Type 0) → P a.1 → P b.1 → (reason : Refusal) → first_refusal (a ∷ b ∷ []) ≡ Some reason → P reason
two-tests a b P first second reason is =
    (elim a.0 as (λ c. cond c (Some a.1) (cond b.0 (Some b.1) None) ≡ Some reason → P reason) [
      | true ↦ λ e. (let same : a.1 ≡ reason = cc in subst P same first)
      | false ↦
          (elim b.0 as (λ c. cond c (Some b.1) None ≡ Some reason → P reason) [
            | true ↦ λ e. (let same : b.1 ≡ reason = cc in subst P same second)
            | false ↦ λ e. absurd (cc)
          ])
    ]) is

-- a question for a state is refused for its session or its job
state-refusal : (w : World) (session : SessionId) (job : JobId) (reason : Refusal) → refusal w (call.GetState session job) ≡ Some reason → StandsFirm reason
state-refusal w session job reason is = two-tests (session_test (Jobs ∷ Monitoring ∷ []) session w) (seen_test session job w) StandsFirm (λ served drawn e. cc) (λ served drawn e. cc) reason is

-- a reply that refuses does not ask to try later
abbrev RefusesFirmly : Reply → Type 0
RefusesFirmly (reply.Refused reason) = StandsFirm reason
RefusesFirmly _ = Unit {0}

-- the answer makes an entry, and its reply does not ask to try later
abbrev AnswersFirmly : StepAnswer → Type 0
AnswersFirmly (gives r next) = RefusesFirmly r
AnswersFirmly nothing = ⊥
AnswersFirmly not_yet = ⊥

state-answer : (w : World) (at : ℕ) (session : SessionId) (job : JobId) → AnswersFirmly (answer w at (call.GetState session job))
state-answer w at session job =
    answer-cases at (advance w at) (call.GetState session job) AnswersFirmly (λ reason is. state-refusal (advance w at) session job reason is) (λ free. tt)

-- What the reply to a question for a state is, where it tells no state.
pub record IsTurnedDown (before : Dial) (old : Seat) (session : SessionId) (job : JobId) (after : Dial) (new : Seat) (reason : Refusal) : Type 0 where
  pub firm : StandsFirm reason
  pub entry : IsServed before old (call.GetState session job) (reply.Refused reason) after new

pub turned-down : (config : Config) (before : Dial) (old : Seat) (session : SessionId) (job : JobId) (r : Reply) (after : Dial) (new : Seat) → IsLegal config (seen_of new)
    → IsServed before old (call.GetState session job) r after new → (reason : Refusal) → (kind_of_reply r ≡ a_state → ⊥) → (kind_of_reply r ≡ a_refusal → r ≡ reply.Refused reason)
    → IsTurnedDown before old session job after new reason
turned-down config before old session job r after new legal s reason other refused =
    let asked : Call = call.GetState session job in
    let front : List Entry = seen_of old ++ s.made.between in
    let step = made-step config old (entry_by (number_of old) s.at asked r) new legal s.made in
    let kind : IsReplyOf asked r = reply-kind (replay config front) s.at asked r _ step.answered in
    let same : r ≡ reply.Refused reason = elim kind as (λ _. r ≡ reply.Refused reason) [ inl is ↦ refused is | inr is ↦ absurd (other is) ] in
    let firm : RefusesFirmly r = subst AnswersFirmly step.answered (state-answer (replay config front) s.at session job) in
    record { firm = subst RefusesFirmly same firm; entry = subst (λ x. IsServed before old asked x after new) same s }

-- a fault of the try is told as the refusal that stands for it
pub failed-try : (config : Config) (before : Dial) (old : Seat) (session : SessionId) (job : JobId) (after : Dial) (new : Seat) (f : TryFault) (reason : Refusal) → IsRefusalOf f reason
    → IsTriedInVain config before old (call.GetState session job) after new f → IsRefusedAtOnce config before old (call.GetState session job) after new reason
failed-try config before old session job after new (tried.Busy served drawn) reason told busy =
    subst (IsRefusedAtOnce config before old (call.GetState session job) after new) (sym told) busy
failed-try config before old session job after new (tried.Not fault.OutOfMemory) reason told u =
    subst (IsRefusedAtOnce config before old (call.GetState session job) after new) (sym told) (by_fault fault.OutOfMemory refl u)
failed-try config before old session job after new (tried.Not fault.NotYet) reason told u =
    absurd (subst AnswersFirmly u.reason.cause (state-answer (replay config (seen_of new)) u.at session job))
failed-try config before old session job after new (tried.Not fault.Nothing) reason told u =
    absurd (subst AnswersFirmly u.reason.cause (state-answer (replay config (seen_of new)) u.at session job))
failed-try config before old session job after new (tried.Not (fault.Journal n)) reason told u =
    subst (IsRefusedAtOnce config before old (call.GetState session job) after new) (sym told) (by_fault (fault.Journal n) refl u)

pub err-both : {A E : Type 0} (r : Result A E) (P Q R : E → Type 0) → IfErr r P → IfErr r Q → ((e : E) → P e → Q e → R e) → IfErr r R
err-both (Ok a) P Q R p q f = tt
err-both (Err e) P Q R p q f = f e p q
