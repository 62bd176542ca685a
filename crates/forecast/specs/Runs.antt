-- How far a forecast is made, from what a machine had served on: our profile.
use Rattle.std.specs.Prelude.{◌≡◌, ℕ, ◌<◌, List, [], ◌∷◌, ◌++◌, Result, Ok}
use Rattle.std.specs.List.{AllByRecursion}
use Rattle.drmaa_model.specs.declared.entries.Entry.{Entry}
use Rattle.drmaa_model.specs.declared.faults.NoEntry.{NoEntry}
use Rattle.drmaa_model.specs.declared.replies.Reply.{Reply}
use Rattle.drmaa_model.specs.History.{Ledger, IsLegal, now_of}
use Rattle.drmaa_model.specs.Time.{advance}
use Rattle.forecast_laws.specs.Forecasts.{NoneEnds, IsDone, EndsBefore, IsForecastUpTo}
use Rattle.forecast_laws.specs.ForeseenLaws.{NoneEndsBelow}
use Rattle.forecast.specs.Starts.{start_in, starts_of}
use Rattle.forecast.specs.declared.predictions.Predicted.{Predicted}

-- These entries were made from a ledger on: a forecast as far as before this moment, and none of them is later. Their
-- starts are told.
pub record IsMade (moment : ℕ) (first ledger : Ledger) (foretold : List Predicted) (entries : List Entry) : Type 0 where
  pub begun : IsLegal first.config first.history
  pub is : ledger ≡ record first { history = first.history ++ entries }
  pub forecast : IsForecastUpTo moment (now_of first) entries
  pub foretold_is : foretold ≡ starts_of entries

-- nothing was done yet at the moment
pub record IsFresh (moment : ℕ) (first ledger : Ledger) (foretold : List Predicted) : Type 0 where
  pub entries : List Entry
  pub made : IsMade moment first ledger foretold entries
  pub earlier : AllByRecursion (λ (entry : Entry). entry.at < moment) entries

-- the jobs below this number that were to end have ended, and nothing else was done yet at the moment
pub record IsEnding (moment from : ℕ) (first ledger : Ledger) (foretold : List Predicted) : Type 0 where
  pub entries : List Entry
  pub made : IsMade moment first ledger foretold entries
  pub below : AllByRecursion (λ (entry : Entry). entry.at ≡ moment → EndsBefore (record { 0 = from }) entry) entries
  pub ended : NoneEndsBelow from (advance (now_of ledger) moment).plan.rows

-- no job is left that is to end at the moment
pub record IsEnded (moment : ℕ) (first ledger : Ledger) (foretold : List Predicted) : Type 0 where
  pub entries : List Entry
  pub made : IsMade moment first ledger foretold entries
  pub ended : NoneEnds (advance (now_of ledger) moment).plan.rows

-- nothing is left to do at the moment
pub record IsOver (moment : ℕ) (first ledger : Ledger) (foretold : List Predicted) : Type 0 where
  pub entries : List Entry
  pub made : IsMade moment first ledger foretold entries
  pub done : IsDone (now_of ledger) moment

-- the answer at a moment tells of this start
pub record TellsOf (moment : ℕ) (answer : Result Reply NoEntry) (start : Predicted) : Type 0 where
  pub told : Reply
  pub is : answer ≡ Ok told
  pub start_is : start_in moment told ≡ start ∷ []
