-- What the function of a call promises is promised of that call.
use Rattle.std.proofs.Common.{◌≡◌, ℕ, ◌+◌, ◌≤◌, true, false, None, sym, ◌∙◌, ap, subst, arith}
use Rattle.std.specs.Prelude.{◌≢◌, Result, Err, IsOk, OnErr}
use Rattle.drmaa_model.specs.declared.calls.Call.{Call}
use Rattle.drmaa_model.specs.declared.faults.NoEntry.{NoEntry}
use Rattle.drmaa_model.specs.declared.faults.NoEntry.TheVariants as fault
use Rattle.drmaa_model.specs.Refusals.{refusal}
use Rattle.drmaa_model.specs.World.{World}
use Rattle.machine_readings.specs.declared.store.Store.{Store}
use Rattle.machine_readings.specs.Stores.{world_at}
use Rattle.machine_calls.specs.declared.replies.Replies.{Replies}
use Rattle.machine_calls.specs.Serving.{Comes, left_of, spare_of}
use Rattle.machine_calls.proofs.Spares.{after-error}
use Rattle.drmaa_machine.specs.Applying.{is_foreseen, is_frugal, is_run_report}
use Rattle.drmaa_machine.specs.Sparing.{Sparing}

pub as-asked : (w : World) (at : ℕ) (c d : Call) (result : Result Replies NoEntry) (next : World) → c ≡ d → Comes w at d result next → Comes w at c result next
as-asked w at c d result next is comes = subst (λ (x : Call). Comes w at x result next) (sym is) comes

-- what leaves all that is spare leaves all but one once its entry is made
pub used : (s t : Store) → spare_of s ≤ spare_of t → spare_of s ≤ left_of t + 1
used s t less = omega (arith, less)

-- a call that is none of those
pub unsparing : (s : Store) (at : ℕ) (c d : Call) (result : Result Replies NoEntry) (t : Store) → c ≡ d → is_foreseen d ≡ false → is_run_report d ≡ false
    → is_frugal d ≡ false → OnErr result (spare_of s ≤ spare_of t) → Sparing s at c result t
unsparing s at c d result t is unforeseen other lavish unspent = record {
  memory = λ has. (let never : is_foreseen c ≡ false = ap is_foreseen is ∙ unforeseen in absurd (cc));
  spare = λ has. (let never : is_frugal c ≡ false = ap is_frugal is ∙ lavish in absurd (cc));
  reports = λ has. (let never : is_run_report c ≡ false = ap is_run_report is ∙ other in absurd (cc));
  promised = λ has. (let never : is_run_report c ≡ false = ap is_run_report is ∙ other in absurd (cc));
  unspent = unspent;
}

-- and that uses one at most
pub plain : (s : Store) (at : ℕ) (c d : Call) (result : Result Replies NoEntry) (t : Store) → c ≡ d → is_foreseen d ≡ false → is_run_report d ≡ false → spare_of s ≤ spare_of t → Sparing s at c result t
plain s at c d result t is unforeseen other less = record {
  memory = λ has. (let never : is_foreseen c ≡ false = ap is_foreseen is ∙ unforeseen in absurd (cc));
  spare = λ has. used s t less;
  reports = λ has. (let never : is_run_report c ≡ false = ap is_run_report is ∙ other in absurd (cc));
  promised = λ has. (let never : is_run_report c ≡ false = ap is_run_report is ∙ other in absurd (cc));
  unspent = after-error result (spare_of s ≤ spare_of t) less;
}

-- a call whose memory is taken ahead
pub foreseeing : (s : Store) (at : ℕ) (c d : Call) (result : Result Replies NoEntry) (t : Store) → c ≡ d → is_run_report d ≡ false
    → (is_foreseen d ≡ true → 1 ≤ spare_of s → result ≢ Err fault.OutOfMemory) → (is_frugal d ≡ true → spare_of s ≤ left_of t + 1)
    → OnErr result (spare_of s ≤ spare_of t) → Sparing s at c result t
foreseeing s at c d result t is other memory spare unspent = record {
  memory = λ has. memory (ap is_foreseen (sym is) ∙ has);
  spare = λ has. spare (ap is_frugal (sym is) ∙ has);
  reports = λ has. (let never : is_run_report c ≡ false = ap is_run_report is ∙ other in absurd (cc));
  promised = λ has. (let never : is_run_report c ≡ false = ap is_run_report is ∙ other in absurd (cc));
  unspent = unspent;
}

-- an accepted report of a run
pub reporting : (s : Store) (at : ℕ) (c d : Call) (result : Result Replies NoEntry) (t : Store) → c ≡ d → is_foreseen d ≡ false
    → (refusal (world_at at s) d ≡ None → IsOk result) → (refusal (world_at at s) d ≡ None → spare_of s ≤ left_of t) → spare_of s ≤ spare_of t → Sparing s at c result t
reporting s at c d result t is unforeseen taken promised less = record {
  memory = λ has. (let never : is_foreseen c ≡ false = ap is_foreseen is ∙ unforeseen in absurd (cc));
  spare = λ has. used s t less;
  reports = λ has free. taken (ap (refusal (world_at at s)) (sym is) ∙ free);
  promised = λ has free. promised (ap (refusal (world_at at s)) (sym is) ∙ free);
  unspent = after-error result (spare_of s ≤ spare_of t) less;
}
