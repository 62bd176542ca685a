-- What is true of every world that a legal history leads to, and of every step: our profile.
use Rattle.std.specs.Prelude.{◌≡◌, ℕ, ◌+◌, ◌*◌, ◌≤◌, true, List, ◌++◌, length}
use Rattle.std.specs.List.{AllByRecursion}
use Rattle.session_table.specs.Sessions.{IsSound as AreSound}
use Rattle.drmaa_types.specs.States.{may}
use Rattle.drmaa_types.specs.declared.changes.Change.{Change}
use Rattle.drmaa_model.specs.declared.reservations.Accepted.{Accepted}
use Rattle.drmaa_model.specs.declared.rows.Row.{Row}
use Rattle.drmaa_model.specs.Fit.{IsFit}
use Rattle.drmaa_model.specs.Plan.{Plan}
use Rattle.drmaa_model.specs.Refusals.{most_callbacks}
use Rattle.drmaa_model.specs.Requests.{most_reservations}
use Rattle.drmaa_model.specs.Rows.{state_of}
use Rattle.drmaa_model.specs.Submitting.{most_jobs, most_members, most_kept_text, kept_text}
use Rattle.drmaa_model.specs.World.{World}

-- no more jobs, text of templates and reservations are kept than may be
pub record AreFew (rows : List Row) (reservations : List Accepted) : Type 0 where
  pub jobs : length rows ≤ most_jobs
  pub text : kept_text rows ≤ most_kept_text
  pub reserved : length reservations ≤ most_reservations

pub record IsConsistent (w : World) : Type 0 where
  pub fit : IsFit w.plan
  -- the plan is for the machine's slots
  pub total : w.plan.total ≡ w.config.slots
  -- and has the machine's queues
  pub queues : w.plan.queues ≡ w.config.queues
  pub few : AreFew w.plan.rows w.plan.reservations
  pub sessions : AreSound w.sessions
  -- an entry submits at most 10,000 jobs, and takes at most one of each other number
  pub jobs : w.plan.next_job ≤ most_members * w.entries + 1
  pub arrays : w.plan.next_array ≤ w.entries + 1
  pub reservations : w.plan.next_reservation ≤ w.entries + 1
  pub numbers : w.sessions.next_session ≤ w.entries + 1
  pub homes : w.sessions.next_home ≤ w.entries + 1
  pub registered : w.registrations ≤ w.entries
  pub callbacks : w.registrations ≤ most_callbacks

-- A change of this entry is an edge of the state model, from the state that the job's row has.
pub record IsEdge (entry : ℕ) (rows : List Row) (change : Change) : Type 0 where
  pub edge : may change.from change.to ≡ true
  pub from : state_of change.job rows ≡ change.from
  pub entry_is : change.entry ≡ entry

-- what the list of changes gains are edges
pub record AddsEdges (entry : ℕ) (before after : Plan) : Type 0 where
  pub added : List Change
  pub gained : after.changes ≡ before.changes ++ added
  pub edges : AllByRecursion (IsEdge entry before.rows) added
