-- Which signal is handed out next, by what is kept before time comes to its moment.
use Rattle.std.specs.Prelude.{◌≡◌, ℕ, Bool, not, ◌&&◌, Option, Some, None, MatchOption}
use Rattle.drmaa_model.specs.declared.replies.Signal.{Signal}
use Rattle.drmaa_model.specs.declared.rows.Row.{Row}
use Rattle.drmaa_model.specs.Courses.{is_unasked}
use Rattle.drmaa_model.specs.Launching.{is_alive, next_signal}
use Rattle.drmaa_model.specs.Plan.{Plan}
use Rattle.drmaa_model.specs.Rows.{row_of}
use Rattle.plan_book.specs.declared.moves.Booked.TheVariants.{Same}
use Rattle.plan_book.specs.declared.moves.Edit.TheVariants.{Take}
use Rattle.plan_book.specs.declared.moves.Move.{Move}
use Rattle.plan_book.specs.Facts.{facts_of}
use Rattle.scheduler_core.specs.declared.signals.NextSignal.{NextSignal}
use Rattle.scheduler_core.specs.Targets.{row_then}

-- time asks for a kill of the job on its way to the moment, and the job has a process
abbrev pub is_killed : ℕ → Plan → Row → Bool
is_killed at p row = is_unasked row.course.kill && (not (is_unasked (row_then at p row).course.kill) && is_alive (row_then at p row).course.phase)

-- the order that is next in a plan, and what is known of its job
pub record IsNext (q : Plan) (next : NextSignal) : Type 0 where
  pub first : next_signal q ≡ Some next.order
  pub row : Row
  pub found : row_of next.order.job q.rows ≡ Some row
  pub read : next.facts ≡ facts_of row

abbrev pub IsNextIn : Plan → Option NextSignal → Type 0
IsNextIn q o = MatchOption o (next_signal q ≡ None) (IsNext q)

-- what is handed out
abbrev pub signal_for : NextSignal → Signal
signal_for next = record { job = next.order.job; attempt = next.facts.course.attempt; kind = next.order.kind }

-- the order is handed out, and its job stays as it is
abbrev pub take_move : NextSignal → Move
take_move next = record {
  job = next.facts.job;
  home = next.facts.home;
  before = next.facts.course;
  after = next.facts.course;
  orders = Take next.order.kind;
  booked = Same;
}
