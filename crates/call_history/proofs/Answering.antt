-- Calls that are always answered, and of which kind their replies are.
use Rattle.std.proofs.Common.{◌≡◌, ℕ, true, List, ◌++◌, inl, inr, refl, IfOk, Result, Ok, Err, sym, ap, ◌∙◌, subst, Some}
use Rattle.drmaa_types.specs.declared.refusals.Refusal.{Refusal}
use Rattle.drmaa_model.specs.declared.calls.Call.{Call}
use Rattle.drmaa_model.specs.declared.calls.Call.TheVariants as call
use Rattle.drmaa_model.specs.declared.configs.Config.{Config}
use Rattle.drmaa_model.specs.declared.entries.Entry.{Entry}
use Rattle.drmaa_model.specs.declared.faults.NoEntry.{NoEntry}
use Rattle.drmaa_model.specs.declared.faults.NoEntry.TheVariants as fault
use Rattle.drmaa_model.specs.declared.replies.Reply.{Reply}
use Rattle.drmaa_model.specs.AnswerLaws.{answer-cases, reply-kind}
use Rattle.drmaa_model.specs.Effects.{StepAnswer, gives, nothing, not_yet, effect}
use Rattle.drmaa_model.specs.Faults.{refusal_for}
use Rattle.drmaa_model.specs.History.{IsLegal, replay}
use Rattle.drmaa_model.specs.HistoryLaws.{legal-last}
use Rattle.drmaa_model.specs.RecordedCalls.{recorded}
use Rattle.drmaa_model.specs.ReplyKinds.{kind_of_call, kind_of_reply, a_refusal, IsReplyOf}
use Rattle.drmaa_model.specs.Steps.{answer}
use Rattle.drmaa_model.specs.Time.{advance}
use Rattle.drmaa_model.specs.World.{World}
use Rattle.drmaa_machine.specs.Chronicles.{Explains}
use Rattle.call_history.specs.Calls.{entry_by, IsServed, IsUnserved}
use Rattle.call_history.specs.Clients.{Seat, seen_of, number_of}
use Rattle.call_history.specs.Clocks.{Dial}
use Rattle.call_history.specs.Refused.{is_answered, IsRefused}
use Rattle.call_history.specs.Refused.IsRefused.{by_fault}

-- the recorded call has a reply of the same kind
pub recorded-kind : (c : Call) → kind_of_call (recorded c) ≡ kind_of_call c
recorded-kind call.Register = refl
recorded-kind _ = refl

abbrev pub MakesOne : StepAnswer → Type 0
MakesOne (gives r next) = Unit {0}
MakesOne nothing = ⊥
MakesOne not_yet = ⊥

effect-makes : (at : ℕ) (w : World) (c : Call) → is_answered (kind_of_call c) ≡ true → MakesOne (effect at w c)
effect-makes at w (call.Wait session listed kind begun timeout) is = absurd (cc)
effect-makes at w call.TakeLaunch is = absurd (cc)
effect-makes at w call.TakeSignal is = absurd (cc)
effect-makes at w _ is = tt

pub always : (at : ℕ) (w : World) (c : Call) → is_answered (kind_of_call c) ≡ true → MakesOne (answer w at c)
always at w c is = answer-cases at (advance w at) c MakesOne (λ why e. tt) (λ free. effect-makes at (advance w at) c is)

-- such a call makes no entry only for want of memory or room in the journal
pub never-waits : (w : World) (at : ℕ) (c : Call) → is_answered (kind_of_call c) ≡ true → Explains w at (recorded c) fault.NotYet → ⊥
never-waits w at c is cause = subst MakesOne cause (always at w (recorded c) (ap is_answered (recorded-kind c) ∙ is))

pub never-lacks : (w : World) (at : ℕ) (c : Call) → is_answered (kind_of_call c) ≡ true → Explains w at (recorded c) fault.Nothing → ⊥
never-lacks w at c is cause = subst MakesOne cause (always at w (recorded c) (ap is_answered (recorded-kind c) ∙ is))

kind-of-reply : (c : Call) (r : Reply) → IsReplyOf (recorded c) r → (kind_of_reply r ≡ a_refusal → ⊥) → kind_of_reply r ≡ kind_of_call c
kind-of-reply c r k unrefused = elim k as (λ _. kind_of_reply r ≡ kind_of_call c) [ inl refused ↦ absurd (unrefused refused) | inr same ↦ same ∙ recorded-kind c ]

-- the reply of the one entry of a call, where it is no refusal, is of the call's own kind
pub served-kind : (config : Config) (before : Dial) (old : Seat) (c : Call) (r : Reply) (after : Dial) (new : Seat) → IsLegal config (seen_of new) → IsServed before old c r after new
    → (kind_of_reply r ≡ a_refusal → ⊥) → kind_of_reply r ≡ kind_of_call c
served-kind config before old c r after new legal s unrefused =
    let front : List Entry = seen_of old ++ s.made.between in
    let entry : Entry = entry_by (number_of old) s.at c r in
    let step = legal-last config front entry (subst (IsLegal config) s.made.seen legal) in
    kind-of-reply c r (reply-kind (replay config front) s.at (recorded c) r _ step.answered) unrefused

-- a fault of a call that is always answered is told as the refusal that stands for it
pub refused-by : (config : Config) (before : Dial) (old : Seat) (c : Call) (after : Dial) (new : Seat) (f : NoEntry) (why : Refusal) → is_answered (kind_of_call c) ≡ true
    → why ≡ refusal_for f → IsUnserved config before old c f after new → IsRefused config before old c why after new
refused-by config before old c after new fault.OutOfMemory why is told u = by_fault fault.OutOfMemory (ap Some (sym told)) u
refused-by config before old c after new fault.NotYet why is told u = absurd (never-waits (replay config (seen_of new)) u.at c is u.reason.cause)
refused-by config before old c after new fault.Nothing why is told u = absurd (never-lacks (replay config (seen_of new)) u.at c is u.reason.cause)
refused-by config before old c after new (fault.Journal n) why is told u = by_fault (fault.Journal n) (ap Some (sym told)) u

pub ok-both : {A E : Type 0} (r : Result A E) (P Q R : A → Type 0) → IfOk r P → IfOk r Q → ((a : A) → P a → Q a → R a) → IfOk r R
ok-both (Ok a) P Q R p q f = f a p q
ok-both (Err e) P Q R p q f = tt
