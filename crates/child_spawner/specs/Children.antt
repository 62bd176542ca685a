-- What a child tells of itself, and what polls and signals make of it: our profile.
use Rattle.std.specs.Prelude.{ℕ, ◌-◌, Bool, true, false, Option, Some, None, Result, Ok, Err, if◌then◌else◌}
use Rattle.drmaa_types.specs.Readings.{counted_on}
use Rattle.drmaa_types.specs.declared.changes.Failed.{Failed}
use Rattle.drmaa_types.specs.declared.identifiers.JobId.{JobId}
use Rattle.drmaa_types.specs.declared.states.Exit.{Exit}
use Rattle.drmaa_types.specs.declared.states.Exit.TheVariants.{Signal}
use Rattle.drmaa_types.specs.declared.states.SignalKind.{SignalKind}
use Rattle.drmaa_types.specs.declared.states.SignalKind.TheVariants.{Stop, Cont, Kill}
use Rattle.child_spawner.specs.declared.fates.Fate.{Fate}

-- What a child tells: the number of its start, counted from 1, with its job and attempt, its fate, whether it was
-- killed, how many signals of each kind were answered Ok, and how many polls are left before its end is seen.
pub record Told : Type 0 where
  pub start : ℕ
  pub job : JobId
  pub attempt : ℕ
  pub fate : Fate
  pub killed : Bool
  pub stops : ℕ
  pub conts : ℕ
  pub kills : ℕ
  pub polls_left : ℕ

-- a child that has just been started
abbrev pub started_child : ℕ → JobId → ℕ → Fate → Told
started_child start job attempt fate = record {
  start = start;
  job = job;
  attempt = attempt;
  fate = fate;
  killed = false;
  stops = 0;
  conts = 0;
  kills = 0;
  polls_left = fate.polls;
}

-- how many signals of a kind were answered Ok
abbrev pub signals_of : Told → SignalKind → ℕ
signals_of child Stop = child.stops
signals_of child Cont = child.conts
signals_of child Kill = child.kills

-- how a child ends: by the kill, or else as its fate says
abbrev pub exit_of : Told → Exit
exit_of child = if child.killed then Signal 9 else child.fate.exit

-- what a poll leaves: an answer that the child still runs takes one of the polls left
abbrev pub after_poll : Result (Option Exit) Failed → Told → Told
after_poll (Ok None) child = record child { polls_left = child.polls_left - 1 }
after_poll (Ok (Some exit)) child = child
after_poll (Err failed) child = child

-- a signal that was answered Ok
abbrev pub after_delivery : SignalKind → Told → Told
after_delivery Stop child = record child { stops = counted_on child.stops }
after_delivery Cont child = record child { conts = counted_on child.conts }
after_delivery Kill child = record child { kills = counted_on child.kills; killed = true; polls_left = 0 }

-- what a signal leaves: one that was answered Ok raises the number of its kind, and a kill leaves no polls
abbrev pub after_signal : SignalKind → Result (Unit {0}) Failed → Told → Told
after_signal kind (Ok done) child = after_delivery kind child
after_signal kind (Err failed) child = child
