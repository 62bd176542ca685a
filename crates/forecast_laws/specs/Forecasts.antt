-- When the jobs that wait would start, if each child ended at the moment at which time or a caller has asked for its kill,
-- and nobody called: our profile.
use Rattle.std.specs.Prelude.{◌≡◌, ℕ, suc, ◌≤◌, ◌<◌, Bool, true, false, ◌&&◌, nat_le, List, [], ◌∷◌, filter}
use Rattle.std.specs.List.{AllByRecursion}
use Rattle.std.specs.Option.{option_map_or}
use Rattle.drmaa_types.specs.Moments.{greatest}
use Rattle.drmaa_types.specs.States.{is_started}
use Rattle.drmaa_types.specs.declared.identifiers.JobId.{JobId}
use Rattle.drmaa_types.specs.declared.states.Exit.{Exit}
use Rattle.drmaa_types.specs.declared.states.Exit.TheVariants.{Code}
use Rattle.drmaa_model.specs.declared.calls.Call.TheVariants as call
use Rattle.drmaa_model.specs.declared.entries.Entry.{Entry}
use Rattle.drmaa_model.specs.declared.replies.Reply.TheVariants as reply
use Rattle.drmaa_model.specs.declared.rows.Row.{Row}
use Rattle.drmaa_model.specs.Courses.{is_asked}
use Rattle.drmaa_model.specs.Effects.{nothing}
use Rattle.drmaa_model.specs.History.{after_entry, replay_from, IsLegalFrom}
use Rattle.drmaa_model.specs.Rows.{row_of}
use Rattle.drmaa_model.specs.Steps.{answer}
use Rattle.drmaa_model.specs.Time.{advance}
use Rattle.drmaa_model.specs.World.{World}

-- ---- what is left to do

-- a started job of which a kill was asked
abbrev pub is_ending : Row → Bool
is_ending row = is_started row.course.state && is_asked row.course.kill

-- none of the jobs is one
abbrev pub NoneEnds : List Row → Type 0
NoneEnds rows = AllByRecursion (λ (row : Row). is_ending row ≡ false) rows

-- Nothing is left to do at this moment: no launch is handed out, and of no started job was a kill asked.
pub record IsDone (w : World) (at : ℕ) : Type 0 where
  pub launched : answer w at call.TakeLaunch ≡ nothing
  pub ended : NoneEnds (advance w at).plan.rows

-- ---- what is done

-- a kill of this job was asked
abbrev pub was_asked : JobId → List Row → Bool
was_asked job rows = option_map_or (λ (row : Row). is_asked row.course.kill) (row_of job rows) false

-- An entry of a forecast: a job of which a kill was asked ends with code 0, or the next job is launched.
pub data IsForeseen (w : World) (entry : Entry) : Type 0 where
  ends : (job : JobId) (attempt : ℕ) → entry.call ≡ call.Exited job attempt (Code 0) → entry.reply ≡ reply.Unit
      → was_asked job (advance w entry.at).plan.rows ≡ true → IsForeseen w entry
  launches : entry.call ≡ call.TakeLaunch → IsForeseen w entry

-- each entry is of caller 0 and foreseen, in the world that those before it lead to
abbrev pub AreForeseen : World → List Entry → Type 0
AreForeseen w [] = Unit {0}
AreForeseen w (entry ∷ entries) = ((entry.caller ≡ record { 0 = 0 }) × IsForeseen w entry) × AreForeseen (after_entry w entry) entries

-- ---- in which order

-- the entry reports the end of a job of a lesser number
pub record EndsBefore (job : JobId) (entry : Entry) : Type 0 where
  pub other : JobId
  pub attempt : ℕ
  pub exit : Exit
  pub reports : entry.call ≡ call.Exited other attempt exit
  pub below : other.0 < job.0

-- Moments never fall. At one moment the ends stand before the launches, by number.
pub record Precedes (first second : Entry) : Type 0 where
  pub time : first.at ≤ second.at
  pub ends_first : first.at ≡ second.at → (job : JobId) (attempt : ℕ) (exit : Exit) → second.call ≡ call.Exited job attempt exit → EndsBefore job first

abbrev pub AreInSequence : List Entry → Type 0
AreInSequence [] = Unit {0}
AreInSequence (entry ∷ entries) = AllByRecursion (Precedes entry) entries × AreInSequence entries

-- ---- forecasts

-- the world after the entries up to a moment
abbrev pub world_by : World → List Entry → ℕ → World
world_by w entries moment = replay_from w (filter (λ (entry : Entry). nat_le entry.at moment) entries)

-- The entries are a forecast from a world on, as far as the moments before this one go: each is a step, and at each of
-- these moments nothing is left to do after the entries up to it.
pub record IsForecastBefore (until : ℕ) (w : World) (entries : List Entry) : Type 0 where
  pub legal : IsLegalFrom w entries
  pub foreseen : AreForeseen w entries
  pub sequence : AreInSequence entries
  pub since : AllByRecursion (λ (entry : Entry). w.plan.moment ≤ entry.at) entries
  pub within : AllByRecursion (λ (entry : Entry). entry.at ≤ greatest) entries
  pub done : (moment : ℕ) → w.plan.moment ≤ moment → moment < until → IsDone (world_by w entries moment) moment

-- The forecast from a world on: at every moment, from the world's own to the greatest one.
abbrev pub IsForecast : World → List Entry → Type 0
IsForecast w entries = IsForecastBefore (suc greatest) w entries

-- The entries are a forecast as far as before this moment, and none of them is later. At it something may be left to do.
pub record IsForecastUpTo (moment : ℕ) (w : World) (entries : List Entry) : Type 0 where
  pub before : IsForecastBefore moment w entries
  pub reached : AllByRecursion (λ (entry : Entry). entry.at ≤ moment) entries
  pub now : w.plan.moment ≤ moment
  pub within : moment ≤ greatest
