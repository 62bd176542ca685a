-- How the outside agrees with a whole history.
use Rattle.std.specs.Prelude.{◌≡◌, ℕ, ◌+◌, true, false, not, List, ◌∷◌, ◌++◌, map, Some, IsSome, slice_get, if◌then◌else◌}
use Rattle.std.specs.List.{AllByRecursion}
use Rattle.drmaa_types.specs.declared.states.Exit.{Exit}
use Rattle.drmaa_types.specs.declared.states.Exit.TheVariants as exit
use Rattle.drmaa_types.specs.declared.states.SignalKind.{SignalKind}
use Rattle.child_spawner.specs.declared.fates.Asked.{Asked}
use Rattle.child_spawner.specs.declared.fates.Fate.{Fate}
use Rattle.attendant.specs.Acts.{Duty}
use Rattle.attendant.specs.Acts.{TakeLaunch, Started, StartFailed, Exited, ExitUnknown, TakeSignal, SignalDone, SignalFailed, Other}
use Rattle.attendant.specs.Acts.{Act}
use Rattle.attendant.specs.Runs.{requests_in, is_reported, is_killed}

-- The outside agrees with a history: with the starts that were asked of a spawner, and their fates.
pub record AgreesWithOutside (starts : List Asked) (fate : ℕ → Fate) (history : List Act) : Type 0 where
  -- the launches, in order, are the job, attempt and words of each start
  pub launches : requests_in history ≡ map (λ (a : Asked). record { job = a.job; attempt = a.attempt; words = a.words }) starts
  -- a start began exactly where that is reported of its job and attempt, and failed exactly where that is
  pub began : (n : ℕ) (a : Asked) → slice_get starts n ≡ Some a → is_reported true a.job a.attempt history ≡ a.began
  pub failed : (n : ℕ) (a : Asked) → slice_get starts n ≡ Some a → is_reported false a.job a.attempt history ≡ not a.began
  -- an exit that is reported of its job and attempt is the signal 9 where a kill was reported as delivered before, and else that of its fate
  pub exits : (front back : List Act) (e : Act) (x : Exit) (n : ℕ) (a : Asked) → history ≡ front ++ e ∷ back → e.call ≡ Exited a.job a.attempt x →
      slice_get starts n ≡ Some a → x ≡ (if is_killed a.job a.attempt front then exit.Signal 9 else (fate (n + 1)).exit)
  -- an end that can't be learnt, and a signal that can't be delivered, are reported only where its fate names that
  pub unknown : (front back : List Act) (e : Act) (n : ℕ) (a : Asked) → history ≡ front ++ e ∷ back → e.call ≡ ExitUnknown a.job a.attempt →
      slice_get starts n ≡ Some a → IsSome (fate (n + 1)).failing_poll
  pub undelivered : (front back : List Act) (e : Act) (kind : SignalKind) (n : ℕ) (a : Asked) → history ≡ front ++ e ∷ back → e.call ≡ SignalFailed a.job a.attempt kind →
      slice_get starts n ≡ Some a → IsSome (fate (n + 1)).failing_signal

abbrev pub MayCall : ℕ → ℕ → ℕ → Duty → Type 0
MayCall launcher reaper caller TakeLaunch = caller ≡ launcher
MayCall launcher reaper caller (Started job attempt) = caller ≡ launcher
MayCall launcher reaper caller (StartFailed job attempt) = caller ≡ launcher
MayCall launcher reaper caller (Exited job attempt exit) = caller ≡ reaper
MayCall launcher reaper caller (ExitUnknown job attempt) = caller ≡ reaper
MayCall launcher reaper caller TakeSignal = caller ≡ reaper
MayCall launcher reaper caller (SignalDone job attempt kind) = caller ≡ reaper
MayCall launcher reaper caller (SignalFailed job attempt kind) = caller ≡ reaper
MayCall launcher reaper caller Other = Unit {0}

-- no other caller makes the calls of the launcher and of the reaper
abbrev pub AreAlone : ℕ → ℕ → List Act → Type 0
AreAlone launcher reaper es = AllByRecursion (λ (e : Act). MayCall launcher reaper e.caller.0 e.call) es
