-- What rows come to, as it is kept beside them: our profile.
use Rattle.std.specs.Prelude.{◌≡◌, ℕ, ◌+◌, ◌-◌, ◌<◌, ◌≤◌, ◌^◌, ℤ, List, length, Option}
use Rattle.std.specs.Global.{Vec}
use Rattle.std.specs.List.{AllByRecursion}
use Rattle.drmaa_model.specs.declared.courses.Course.{Course}
use Rattle.drmaa_model.specs.declared.rows.Row.{Row}
use Rattle.drmaa_model.specs.NextLaunch.{held}
use Rattle.drmaa_model.specs.Size.{room_of, promised}
use Rattle.drmaa_model.specs.Submitting.{kept_text}
use Rattle.plan_book.specs.Blocks.{AreBlocks, AreFrontSettled, rows_in}
use Rattle.plan_book.specs.Open.{IsPriorityBound}
use Rattle.plan_book.specs.Owed.{owes, owes_kill, reports_due, owed, owed_kills, reports_to_come}
use Rattle.plan_book.specs.Spans.{AreSpanned}
use Rattle.plan_book.specs.Texts.{IsRoomBeside}
use Rattle.plan_book.specs.Usage.{AreUsed}
use Rattle.plan_book.specs.declared.spans.Spans.{Spans}
use Rattle.plan_book.specs.declared.sums.Sums.{Sums}
use Rattle.plan_book.specs.declared.usage.Usage.{Usage}

-- The sums are those of the rows.
pub record AreSums (rows : List Row) (sums : Sums) : Type 0 where
  pub promised : sums.promised ≡ promised rows
  pub owed : sums.owed ≡ owed rows
  pub owed_kills : sums.owed_kills ≡ owed_kills rows
  pub held : sums.held ≡ held rows
  pub reports : sums.reports ≡ reports_to_come rows
  pub count : sums.count ≡ length rows
  -- so that the sum of what they hold is small too
  pub small : AllByRecursion (λ (row : Row). row.course.held < 2 ^ 32) rows

-- the blocks are, with room for all from one on, and what is kept beside the rows is theirs
pub record AreRows (blocks : List (Vec Row)) (first_seat : ℕ) (sums : Sums) (room : Option ℕ) (front : ℕ) (most : ℤ) (spans : Spans) (usage : Usage) : Type 0 where
  pub ordered : AreBlocks first_seat 0 blocks
  pub totals : AreSums (rows_in blocks) sums
  pub text : IsRoomBeside (kept_text (rows_in blocks)) room
  pub settled : AreFrontSettled front blocks
  pub greatest : IsPriorityBound (rows_in blocks) most
  pub members : AreSpanned (rows_in blocks) spans
  pub used : AreUsed (rows_in blocks) usage

-- the sums leave room for others
pub record AreFew (sums : Sums) : Type 0 where
  pub promised : sums.promised < 2 ^ 127
  pub owed : sums.owed < 2 ^ 127
  pub owed_kills : sums.owed_kills < 2 ^ 127
  pub held : sums.held < 2 ^ 127
  pub reports : sums.reports < 2 ^ 127
  pub count : sums.count < 2 ^ 127

-- what some of the jobs come to is among them
pub record AreAmong (others sums : Sums) : Type 0 where
  pub promised : others.promised ≤ sums.promised
  pub owed : others.owed ≤ sums.owed
  pub owed_kills : others.owed_kills ≤ sums.owed_kills
  pub held : others.held ≤ sums.held
  pub reports : others.reports ≤ sums.reports
  pub count : others.count ≤ sums.count

-- what a job with this course adds is among them
pub record AreParts (course : Course) (sums : Sums) : Type 0 where
  pub promised : room_of course ≤ sums.promised
  pub owed : owes course ≤ sums.owed
  pub owed_kills : owes_kill course ≤ sums.owed_kills
  pub held : course.held ≤ sums.held
  pub reports : reports_due course.phase ≤ sums.reports
  pub count : 1 ≤ sums.count

-- with one job more
abbrev pub with_job : Sums → Course → Sums
with_job sums course = record {
  promised = sums.promised + room_of course;
  owed = sums.owed + owes course;
  owed_kills = sums.owed_kills + owes_kill course;
  held = sums.held + course.held;
  reports = sums.reports + reports_due course.phase;
  count = sums.count + 1;
}

-- with other jobs
abbrev pub with_others : Sums → Sums → Sums
with_others sums others = record {
  promised = sums.promised + others.promised;
  owed = sums.owed + others.owed;
  owed_kills = sums.owed_kills + others.owed_kills;
  held = sums.held + others.held;
  reports = sums.reports + others.reports;
  count = sums.count + others.count;
}

-- without a job that has this course
abbrev pub without_job : Course → Sums → Sums
without_job course sums = record {
  promised = sums.promised - room_of course;
  owed = sums.owed - owes course;
  owed_kills = sums.owed_kills - owes_kill course;
  held = sums.held - course.held;
  reports = sums.reports - reports_due course.phase;
  count = sums.count - 1;
}

-- without some of them
abbrev pub without_others : Sums → Sums → Sums
without_others sums others = record {
  promised = sums.promised - others.promised;
  owed = sums.owed - others.owed;
  owed_kills = sums.owed_kills - others.owed_kills;
  held = sums.held - others.held;
  reports = sums.reports - others.reports;
  count = sums.count - others.count;
}
