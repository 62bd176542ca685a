-- What a forecast tells, and when there is none: our profile.
use Rattle.std.specs.Prelude.{◌≡◌, ℕ, List, [], ◌∷◌}
use Rattle.std.specs.List.{flat_map}
use Rattle.drmaa_model.specs.declared.calls.Call.TheVariants as call
use Rattle.drmaa_model.specs.declared.entries.Entry.{Entry}
use Rattle.drmaa_model.specs.declared.replies.Reply.{Reply}
use Rattle.drmaa_model.specs.declared.replies.Reply.TheVariants as reply
use Rattle.drmaa_model.specs.History.{replay_from}
use Rattle.drmaa_model.specs.Time.{advance}
use Rattle.drmaa_model.specs.World.{World}
use Rattle.drmaa_machine.specs.Applying.{IsTooLarge}
use Rattle.forecast_laws.specs.Forecasts.{NoneEnds, IsForecast, IsForecastUpTo}
use Rattle.forecast.specs.declared.predictions.Predicted.{Predicted}

-- what a reply at a moment tells of a start: a launch tells its job and its slots
abbrev pub start_in : ℕ → Reply → List Predicted
start_in at (reply.Callback number) = []
start_in at reply.Unit = []
start_in at (reply.Session session) = []
start_in at (reply.Names names) = []
start_in at (reply.Job number) = []
start_in at (reply.Array array first count) = []
start_in at (reply.Jobs jobs) = []
start_in at (reply.State state) = []
start_in at (reply.Info info) = []
start_in at (reply.Reached number) = []
start_in at (reply.Reserved reserved) = []
start_in at (reply.Reservation info) = []
start_in at (reply.Reservations numbers) = []
start_in at (reply.Infos infos) = []
start_in at (reply.ReservationInfos infos) = []
start_in at (reply.Machine info) = []
start_in at (reply.Launch launch) = record { job = launch.job; at = at; slots = launch.slots } ∷ []
start_in at (reply.Signal signal) = []
start_in at (reply.Refused why) = []

-- the launches of some entries, in order
abbrev pub starts_of : List Entry → List Predicted
starts_of entries = flat_map (λ (entry : Entry). start_in entry.at entry.reply) entries

-- The starts are the launches of the one forecast from a world on.
pub record AreForetold (w : World) (starts : List Predicted) : Type 0 where
  pub entries : List Entry
  pub forecast : IsForecast w entries
  pub only : (others : List Entry) → IsForecast w others → others ≡ entries
  pub starts_are : starts ≡ starts_of entries

-- The journal has no room for a launch. The entries are a forecast as far as before a moment; at that moment all ends were
-- made, and launches may be missing. With one launch more the journal would have this size, and that is above the greatest.
pub record IsFull (w : World) (size : ℕ) : Type 0 where
  pub moment : ℕ
  pub entries : List Entry
  pub forecast : IsForecastUpTo moment w entries
  pub ended : NoneEnds (advance (replay_from w entries) moment).plan.rows
  pub large : IsTooLarge (replay_from w entries) moment call.TakeLaunch size
