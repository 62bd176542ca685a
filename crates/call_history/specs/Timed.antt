-- Which readings of a clock stand in entries: our profile.
use Rattle.std.specs.Prelude.{◌≡◌, ℕ, List, [], ◌∷◌, ◌++◌, Option, Some, None}
use Rattle.std.specs.List.{flat_map}
use Rattle.drmaa_types.specs.Readings.{Readings}
use Rattle.drmaa_model.specs.declared.calls.Call.{Call}
use Rattle.drmaa_model.specs.declared.calls.Call.TheVariants as call
use Rattle.drmaa_model.specs.declared.entries.Entry.{Entry}

-- when a wait began; nothing for another call
abbrev pub begun_in : Call → List ℕ
begun_in (call.CreateJobSession name) = []
begun_in (call.CreateReservationSession name) = []
begun_in (call.OpenJobSession name) = []
begun_in (call.OpenReservationSession name) = []
begun_in (call.DestroyJobSession name) = []
begun_in (call.DestroyReservationSession name) = []
begun_in call.JobSessionNames = []
begun_in call.ReservationSessionNames = []
begun_in call.OpenMonitoring = []
begun_in (call.CloseSession session) = []
begun_in (call.RunJob session t) = []
begun_in (call.RunBulk session t indices) = []
begun_in (call.GetJobs session filter) = []
begun_in (call.GetJobArray session array) = []
begun_in (call.Control session meant what) = []
begun_in (call.Reap session meant) = []
begun_in (call.GetState session job) = []
begun_in (call.GetInfo session job) = []
begun_in (call.Wait session jobs kind begun timeout) = begun ∷ []
begun_in (call.RequestReservation session t) = []
begun_in (call.GetReservation session number) = []
begun_in (call.GetReservations session) = []
begun_in (call.EndReservation session number) = []
begun_in (call.AllJobs session filter) = []
begun_in (call.AllReservations session) = []
begun_in (call.AllQueues session) = []
begun_in (call.AllMachines session) = []
begun_in call.Register = []
begun_in call.TakeLaunch = []
begun_in (call.Started job attempt) = []
begun_in (call.StartFailed job attempt) = []
begun_in (call.Exited job attempt exit) = []
begun_in (call.ExitUnknown job attempt) = []
begun_in call.TakeSignal = []
begun_in (call.SignalDone job attempt kind) = []
begun_in (call.SignalFailed job attempt kind) = []

-- the moments of an entry: when its wait began, and when it was made
abbrev pub moments_in : Entry → List ℕ
moments_in e = begun_in e.call ++ e.at ∷ []

-- the moments of entries, in order
abbrev pub moments_of : List Entry → List ℕ
moments_of es = flat_map moments_in es

-- these moments stand among the readings, in order: each behind the one before it
abbrev pub StandsIn : List ℕ → List ℕ → Type 0
StandsIn [] readings = Unit {0}
StandsIn (m ∷ ms) readings = (front : List ℕ) × (back : List ℕ) × (readings ≡ front ++ m ∷ back) × StandsIn ms back

-- the moments of these entries stand among what a clock tells, in order, where it tells its readings
abbrev pub HaveStood : List Entry → Option (List ℕ) → Type 0
HaveStood es None = Unit {0}
HaveStood es (Some readings) = StandsIn (moments_of es) readings

-- It is the clock of this caller (None: of nobody), and the moments of these entries stand among its readings, in order, where it
-- tells them.
pub record IsTimed (whose : Option ℕ) (es : List Entry) (readings : Readings) : Type 0 where
  pub caller : readings.caller ≡ whose
  pub moments : HaveStood es readings.told

-- Whosever clock it was, if the moments of the earlier entries stood among its readings, it still is, and those of all entries do.
abbrev pub StaysTimed : List Entry → Readings → List Entry → Readings → Type 0
StaysTimed before early after late = (caller : Option ℕ) → IsTimed caller before early → IsTimed caller after late
