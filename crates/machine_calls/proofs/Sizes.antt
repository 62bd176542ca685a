-- The size of what a call comes to that adds nothing to the journal but its entry.
use Rattle.std.proofs.Common.{◌≡◌, ℕ, ◌+◌, ◌<◌, ◌≤◌, Bool, true, false, inl, inr, List, Some, None, refl, sym, ◌∙◌, ap, subst}
use Rattle.std.specs.Prelude.{Result, Err}
use Rattle.std.specs.Option.{option_map_or}
use Rattle.std.proofs.lemmas.Bool.{cases_lt}
use Rattle.session_table.specs.Sessions.{home_of, destroyed}
use Rattle.drmaa_types.specs.declared.sessions.SessionKind.{SessionKind}
use Rattle.drmaa_types.specs.declared.sessions.SessionKind.TheVariants.{Jobs, Reservations}
use Rattle.drmaa_model.specs.declared.calls.Call.{Call}
use Rattle.drmaa_model.specs.declared.calls.Call.TheVariants as call
use Rattle.drmaa_model.specs.declared.faults.NoEntry.{NoEntry}
use Rattle.drmaa_model.specs.declared.faults.NoEntry.TheVariants as fault
use Rattle.drmaa_model.specs.declared.replies.Reply.{Reply}
use Rattle.drmaa_model.specs.declared.replies.Reply.TheVariants as reply
use Rattle.drmaa_model.specs.AnswerLaws.{refused-gives, served-gives}
use Rattle.drmaa_model.specs.Consistent.{IsConsistent}
use Rattle.drmaa_model.specs.Effects.{StepAnswer, gives, makes, effect, destroy, forget_home}
use Rattle.drmaa_model.specs.Fit.{IsFit}
use Rattle.drmaa_model.specs.FitLaws.{advance-fit}
use Rattle.drmaa_model.specs.Refusals.{refusal}
use Rattle.drmaa_model.specs.Size.{size, weight}
use Rattle.drmaa_model.specs.Steps.{answer}
use Rattle.drmaa_model.specs.Time.{advance}
use Rattle.drmaa_model.specs.TimeLaws.{weight-advance}
use Rattle.drmaa_model.specs.WeightLaws.{forget-weight}
use Rattle.drmaa_model.specs.World.{World, counted}
use Rattle.machine_readings.specs.Telling.{is_reading}
use Rattle.machine_calls.specs.declared.replies.Replies.{Replies}
use Rattle.machine_calls.specs.Serving.{Comes}
use Rattle.machine_calls.specs.Serving.Comes.{is_full, is_short}

-- the call makes an entry, and the journal then has this size
pub record Planned (w : World) (at : ℕ) (asked : Call) (n : ℕ) : Type 0 where
  pub told : Reply
  pub after : World
  pub answered : answer w at asked ≡ gives told after
  pub size_is : size after ≡ n

-- nothing else adds to the journal
pub planned-makes : (w : World) (at : ℕ) (asked : Call) (r : Reply) → answer w at asked ≡ makes r (advance w at) → Planned w at asked (w.entries + 1 + weight w.plan)
planned-makes w at asked r is = record {
  told = r;
  after = counted (advance w at);
  answered = is;
  size_is = ap (λ n. w.entries + 1 + n) (weight-advance (w.entries + 1) at w.plan);
}

pub short-of : {n : ℕ} (w next : World) (at : ℕ) (asked : Call) → Planned w at asked n → n ≤ w.config.journal → next ≡ w → Comes w at asked (Err fault.OutOfMemory) next
short-of w next at asked planned within same =
    is_short planned.told planned.after refl planned.answered (λ sized. subst (λ k. k ≤ w.config.journal) (sym planned.size_is) within) same

-- the journal would be too large, or memory is wanting
pub hindered : {n : ℕ} (w next : World) (at : ℕ) (asked : Call) (m : ℕ) (e : NoEntry) → Planned w at asked n → m ≡ n → (w.config.journal < m → e ≡ fault.Journal m)
    → (m ≤ w.config.journal → e ≡ fault.OutOfMemory) → next ≡ w → Comes w at asked (Err e) next
hindered w next at asked m e planned is if_full if_short same =
    let whole : m ≡ size planned.after = is ∙ sym planned.size_is in
    elim (cases_lt w.config.journal m) as (λ h. Comes w at asked (Err e) next) [
      | inl above ↦
          is_full planned.told planned.after (ap (λ (x : NoEntry). let r : Result Replies NoEntry = Err x in r) (if_full above ∙ ap fault.Journal whole)) planned.answered
          (subst (λ k. w.config.journal < k) whole above) same
      | inr below ↦ subst (λ (x : NoEntry). Comes w at asked (Err x) next) (sym (if_short below)) (short-of w next at asked planned (subst (λ k. k ≤ w.config.journal) is below) same)
    ]

-- ---- the calls of sessions and readings

abbrev pub is_plain : Call → Bool
is_plain (call.RunJob session t) = false
is_plain (call.RunBulk session t indices) = false
is_plain (call.Control session meant what) = false
is_plain (call.Reap session meant) = false
is_plain (call.Wait session listed kind begun timeout) = false
is_plain (call.EndReservation session number) = false
is_plain call.TakeLaunch = false
is_plain (call.Started job attempt) = false
is_plain (call.StartFailed job attempt) = false
is_plain (call.Exited job attempt exit) = false
is_plain (call.ExitUnknown job attempt) = false
is_plain call.TakeSignal = false
is_plain (call.SignalDone job attempt kind) = false
is_plain (call.SignalFailed job attempt kind) = false
is_plain _ = true

record PlannedNow (v : World) (a : StepAnswer) : Type 0 where
  told : Reply
  after : World
  does : a ≡ gives told after
  size_is : size after ≡ v.entries + 1 + weight v.plan

by-makes : (v after : World) (r : Reply) → size (counted after) ≡ v.entries + 1 + weight v.plan → PlannedNow v (makes r after)
by-makes v after r is = record { told = r; after = counted after; does = refl; size_is = is }

destroys : (v : World) (kind : SessionKind) (name : List ℕ) → IsFit v.plan → PlannedNow v (makes reply.Unit (destroy kind name v))
destroys v kind name fit =
    by-makes v (destroy kind name v) reply.Unit
    (elim (home_of kind name v.sessions.named) as (λ o. size (counted (option_map_or (λ (home : ℕ). record v { sessions = destroyed home v.sessions; plan = forget_home home v.plan }) o v)) ≡ v.entries + 1 + weight v.plan) [
      | None ↦ refl
      | Some home ↦ ap (λ n. v.entries + 1 + n) (forget-weight home v.plan fit)
    ])

module _ (at : ℕ) (v : World) (fit : IsFit v.plan) where
  now-planned : (c : Call) → is_plain c ≡ true → PlannedNow v (effect at v c)
  now-planned (call.DestroyJobSession name) p = destroys v Jobs name fit
  now-planned (call.DestroyReservationSession name) p = destroys v Reservations name fit
  now-planned (call.RunJob session t) p = absurd (cc)
  now-planned (call.RunBulk session t indices) p = absurd (cc)
  now-planned (call.Control session meant what) p = absurd (cc)
  now-planned (call.Reap session meant) p = absurd (cc)
  now-planned (call.Wait session listed kind begun timeout) p = absurd (cc)
  now-planned (call.EndReservation session number) p = absurd (cc)
  now-planned call.TakeLaunch p = absurd (cc)
  now-planned (call.Started job attempt) p = absurd (cc)
  now-planned (call.StartFailed job attempt) p = absurd (cc)
  now-planned (call.Exited job attempt exit) p = absurd (cc)
  now-planned (call.ExitUnknown job attempt) p = absurd (cc)
  now-planned call.TakeSignal p = absurd (cc)
  now-planned (call.SignalDone job attempt kind) p = absurd (cc)
  now-planned (call.SignalFailed job attempt kind) p = absurd (cc)
  now-planned _ p = by-makes v _ _ refl

pub planned : (w : World) (at : ℕ) (asked : Call) → IsConsistent w → is_plain asked ≡ true → Planned w at asked (w.entries + 1 + weight w.plan)
planned w at asked ok plain =
    let v = advance w at in
    let same : w.entries + 1 + weight v.plan ≡ w.entries + 1 + weight w.plan = ap (λ n. w.entries + 1 + n) (weight-advance (w.entries + 1) at w.plan) in
    (elim (refusal v asked) as (λ o. refusal v asked ≡ o → Planned w at asked (w.entries + 1 + weight w.plan)) [
      | Some why ↦ λ is. planned-makes w at asked (reply.Refused why) (refused-gives at v asked why is)
      | None ↦ λ is.
          (let now = now-planned at v (advance-fit (w.entries + 1) at w.plan ok.fit) asked plain in
          record { told = now.told; after = now.after; answered = served-gives at v asked is ∙ now.does; size_is = now.size_is ∙ same })
    ]) refl

-- what only reads is plain
pub reading-plain : (c : Call) → is_reading c ≡ true → is_plain c ≡ true
reading-plain (call.RunJob session t) p = absurd (cc)
reading-plain (call.RunBulk session t indices) p = absurd (cc)
reading-plain (call.Control session meant what) p = absurd (cc)
reading-plain (call.Reap session meant) p = absurd (cc)
reading-plain (call.Wait session listed kind begun timeout) p = absurd (cc)
reading-plain (call.EndReservation session number) p = absurd (cc)
reading-plain call.TakeLaunch p = absurd (cc)
reading-plain (call.Started job attempt) p = absurd (cc)
reading-plain (call.StartFailed job attempt) p = absurd (cc)
reading-plain (call.Exited job attempt exit) p = absurd (cc)
reading-plain (call.ExitUnknown job attempt) p = absurd (cc)
reading-plain call.TakeSignal p = absurd (cc)
reading-plain (call.SignalDone job attempt kind) p = absurd (cc)
reading-plain (call.SignalFailed job attempt kind) p = absurd (cc)
reading-plain _ p = refl
