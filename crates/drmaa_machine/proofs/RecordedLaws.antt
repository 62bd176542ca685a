-- The call that an entry keeps is the call itself, but where jobs are submitted.
use Rattle.std.proofs.Common.{◌≡◌, ℕ, true, false, inl, inr, Some, None, refl, sym, ◌∙◌, ap}
use Rattle.std.specs.Prelude.{◌⊎◌, Err}
use Rattle.drmaa_model.specs.declared.calls.Call.{Call}
use Rattle.drmaa_model.specs.declared.calls.Call.TheVariants as call
use Rattle.drmaa_model.specs.declared.faults.NoEntry.TheVariants as fault
use Rattle.drmaa_model.specs.declared.replies.Reply.{Reply}
use Rattle.drmaa_model.specs.declared.replies.Reply.TheVariants as reply
use Rattle.drmaa_model.specs.AnswerLaws.{refused-gives, served-gives}
use Rattle.drmaa_model.specs.Effects.{gives, effect}
use Rattle.drmaa_model.specs.RecordedCalls.{recorded}
use Rattle.drmaa_model.specs.Refusals.{refusal}
use Rattle.drmaa_model.specs.Steps.{answer}
use Rattle.drmaa_model.specs.Time.{advance}
use Rattle.drmaa_model.specs.World.{World, counted}
use Rattle.machine_calls.specs.Serving.{Comes, is_sized_first}
use Rattle.machine_calls.specs.Serving.Comes.{is_short}
use Rattle.drmaa_machine.specs.Applying.{is_submission, is_foreseen, is_frugal, is_run_report}

-- what is known of a call that submits jobs
pub record IsSubmitting (c : Call) : Type 0 where
  pub asked : is_submission c ≡ true
  pub unforeseen : is_foreseen c ≡ false
  pub lavish : is_frugal c ≡ false
  pub no_report : is_run_report c ≡ false
  pub recorded_so : is_submission (recorded c) ≡ true
  pub recorded_unsized : is_sized_first (recorded c) ≡ false
  pub recorded_unforeseen : is_foreseen (recorded c) ≡ false
  pub recorded_no_report : is_run_report (recorded c) ≡ false

-- it is known of each that does
pub submits : (c : Call) → is_submission c ≡ true → IsSubmitting c
submits (call.RunJob session t) is = record { asked = refl; unforeseen = refl; lavish = refl; no_report = refl; recorded_so = refl; recorded_unsized = refl; recorded_unforeseen = refl; recorded_no_report = refl }
submits (call.RunBulk session t indices) is = record { asked = refl; unforeseen = refl; lavish = refl; no_report = refl; recorded_so = refl; recorded_unsized = refl; recorded_unforeseen = refl; recorded_no_report = refl }
submits _ is = absurd (cc)

-- a call that submits none is kept as it is
pub recorded-or : (c : Call) → (c ≡ recorded c) ⊎ IsSubmitting c
recorded-or (call.RunJob session t) = inr (submits (call.RunJob session t) refl)
recorded-or (call.RunBulk session t indices) = inr (submits (call.RunBulk session t indices) refl)
recorded-or _ = inl refl

-- a call for which want of memory may come before a journal that is too large submits jobs
pub sized-or : (c : Call) → (is_sized_first c ≡ true) ⊎ (is_submission c ≡ true)
sized-or (call.RunJob session t) = inr refl
sized-or (call.RunBulk session t indices) = inr refl
sized-or _ = inl refl

-- the call makes an entry
pub record HasEntry (w : World) (at : ℕ) (c : Call) : Type 0 where
  pub told : Reply
  pub after : World
  pub answered : answer w at c ≡ gives told after

entry-cases : (w : World) (at : ℕ) (c : Call) (r : Reply) (v : World) → effect at (advance w at) c ≡ gives r v → HasEntry w at c
entry-cases w at c r v does =
    (elim (refusal (advance w at) c) as (λ o. refusal (advance w at) c ≡ o → HasEntry w at c) [
      | None ↦ λ free. record { told = r; after = v; answered = served-gives at (advance w at) c free ∙ does }
      | Some why ↦ λ is. record { told = reply.Refused why; after = counted (advance w at); answered = refused-gives at (advance w at) c why is }
    ]) refl

-- one that submits jobs always does
pub submission-entry : (w : World) (at : ℕ) (c : Call) → is_submission c ≡ true → HasEntry w at c
submission-entry w at (call.RunJob session t) submits = entry-cases w at (call.RunJob session t) _ _ refl
submission-entry w at (call.RunBulk session t indices) submits = entry-cases w at (call.RunBulk session t indices) _ _ refl
submission-entry w at _ submits = absurd (cc)

-- where memory runs out for the call that the entry keeps, nothing is promised of the journal
pub submission-short : (w : World) (at : ℕ) (c : Call) → is_submission c ≡ true → Comes w at (recorded c) (Err fault.OutOfMemory) w
submission-short w at c is =
    let known = submits c is in
    let entry = submission-entry w at (recorded c) known.recorded_so in
    is_short entry.told entry.after refl entry.answered (λ sized. (let unsized = known.recorded_unsized in absurd (cc))) refl

-- what is asked of a call is asked of the one that is kept
pub recorded-foreseen : (c : Call) → is_foreseen c ≡ true → is_foreseen (recorded c) ≡ true
recorded-foreseen c is =
    elim (recorded-or c) as (λ _. is_foreseen (recorded c) ≡ true) [
      | inl same ↦ ap is_foreseen (sym same) ∙ is
      | inr known ↦ (let never = known.unforeseen in absurd (cc))
    ]

pub recorded-frugal : (c : Call) → is_frugal c ≡ true → is_frugal (recorded c) ≡ true
recorded-frugal c is =
    elim (recorded-or c) as (λ _. is_frugal (recorded c) ≡ true) [
      | inl same ↦ ap is_frugal (sym same) ∙ is
      | inr known ↦ (let never = known.lavish in absurd (cc))
    ]

pub recorded-report : (c : Call) → is_run_report c ≡ true → (c ≡ recorded c) × (is_run_report (recorded c) ≡ true)
recorded-report c is =
    elim (recorded-or c) as (λ _. (c ≡ recorded c) × (is_run_report (recorded c) ≡ true)) [
      | inl same ↦ (same, ap is_run_report (sym same) ∙ is)
      | inr known ↦ (let never = known.no_report in absurd (cc))
    ]

pub recorded-submits : (c : Call) → is_submission (recorded c) ≡ true → is_submission c ≡ true
recorded-submits c is =
    elim (recorded-or c) as (λ _. is_submission c ≡ true) [
      | inl same ↦ ap is_submission same ∙ is
      | inr known ↦ known.asked
    ]
