-- Why a call makes no entry, told as a chronicle tells it.
use Rattle.std.proofs.Common.{◌≡◌, ℕ, true, false, None, Result, Ok, Err, IfErr, IsOk, inl, inr, refl, ◌∙◌, ap}
use Rattle.std.specs.Prelude.{◌⊎◌, ◌↔◌}
use Rattle.drmaa_model.specs.declared.calls.Call.{Call}
use Rattle.drmaa_model.specs.declared.faults.NoEntry.{NoEntry}
use Rattle.drmaa_model.specs.declared.faults.NoEntry.TheVariants as fault
use Rattle.drmaa_model.specs.declared.replies.Reply.{Reply}
use Rattle.drmaa_model.specs.Effects.{nothing, not_yet}
use Rattle.drmaa_model.specs.RecordedCalls.{recorded}
use Rattle.drmaa_model.specs.Refusals.{refusal}
use Rattle.drmaa_model.specs.Steps.{answer}
use Rattle.drmaa_model.specs.Time.{advance}
use Rattle.drmaa_model.specs.World.{World}
use Rattle.drmaa_machine.specs.Applying.{IsTooLarge, is_submission, is_run_report}
use Rattle.drmaa_machine.specs.Chronicles.{Explains, MakesNone}
use Rattle.drmaa_machine.proofs.RecordedLaws.{recorded-or, submits}

-- what `Machine::apply` says of a result
pub record Served (w : World) (at : ℕ) (c : Call) (result : Result Reply NoEntry) : Type 0 where
  pub waits : (result ≡ Err fault.NotYet) ↔ (answer w at (recorded c) ≡ not_yet)
  pub finds_nothing : (result ≡ Err fault.Nothing) ↔ (answer w at (recorded c) ≡ nothing)
  pub full : (n : ℕ) → result ≡ Err (fault.Journal n) → IsTooLarge w at (recorded c) n
  pub above : (n : ℕ) → IsTooLarge w at (recorded c) n → (result ≡ Err (fault.Journal n)) ⊎ ((result ≡ Err fault.OutOfMemory) × (is_submission c ≡ true))
  pub reports : is_run_report c ≡ true → refusal (advance w at) c ≡ None → IsOk result

module _ (w : World) (at : ℕ) (c : Call) where
  explains : (why : NoEntry) → Served w at c (Err why) → Explains w at (recorded c) why
  explains fault.OutOfMemory s = record {
    waits_not = λ is. absurd (let e : Err fault.OutOfMemory ≡ Err fault.NotYet = s.waits.1 is in cc);
    finds = λ is. absurd (let e : Err fault.OutOfMemory ≡ Err fault.Nothing = s.finds_nothing.1 is in cc);
    fits = λ n large. elim (s.above n large) as (λ _. is_submission (recorded c) ≡ true) [
      | inl is ↦ absurd (let e : Err fault.OutOfMemory ≡ Err (fault.Journal n) = is in cc)
      | inr both ↦ (submits c both.1).recorded_so
    ];
  }
  explains fault.NotYet s = s.waits.0 refl
  explains fault.Nothing s = s.finds_nothing.0 refl
  explains (fault.Journal n) s = s.full n refl

  unreported : (why : NoEntry) → Served w at c (Err why) → is_run_report (recorded c) ≡ true → refusal (advance w at) (recorded c) ≡ None → ⊥
  unreported why s is free = elim (recorded-or c) as (λ _. ⊥) [
    | inl same ↦ absurd (let ok : false ≡ true = s.reports (ap is_run_report same ∙ is) (ap (refusal (advance w at)) same ∙ free) in cc)
    | inr both ↦ absurd (let f = both.recorded_no_report in cc)
  ]

  pub makes-none : (result : Result Reply NoEntry) → Served w at c result → IfErr result (MakesNone w at (recorded c))
  makes-none (Ok reply) s = tt
  makes-none (Err why) s = record { cause = explains why s; unreported = unreported why s }
