-- What a call that is performed asks of memory.
use Rattle.std.specs.Prelude.{◌≡◌, ◌≢◌, ℕ, ◌+◌, ◌≤◌, true, None, Result, Err, IsOk, OnErr}
use Rattle.drmaa_model.specs.declared.calls.Call.{Call}
use Rattle.drmaa_model.specs.declared.faults.NoEntry.{NoEntry}
use Rattle.drmaa_model.specs.declared.faults.NoEntry.TheVariants as fault
use Rattle.drmaa_model.specs.Refusals.{refusal}
use Rattle.machine_readings.specs.declared.store.Store.{Store}
use Rattle.machine_readings.specs.Stores.{world_at}
use Rattle.machine_calls.specs.declared.replies.Replies.{Replies}
use Rattle.machine_calls.specs.Serving.{left_of, spare_of}
use Rattle.drmaa_machine.specs.Applying.{is_foreseen, is_frugal, is_run_report}

-- What `reserve` takes ahead is enough for some calls, and most calls use one of it at most; an accepted report of a run is always
-- served, and uses none; and no call that makes no entry does.
pub record Sparing (s : Store) (at : ℕ) (asked : Call) (result : Result Replies NoEntry) (t : Store) : Type 0 where
  pub memory : is_foreseen asked ≡ true → 1 ≤ spare_of s → result ≢ Err fault.OutOfMemory
  pub spare : is_frugal asked ≡ true → spare_of s ≤ left_of t + 1
  pub reports : is_run_report asked ≡ true → refusal (world_at at s) asked ≡ None → IsOk result
  pub promised : is_run_report asked ≡ true → refusal (world_at at s) asked ≡ None → spare_of s ≤ left_of t
  pub unspent : OnErr result (spare_of s ≤ spare_of t)
