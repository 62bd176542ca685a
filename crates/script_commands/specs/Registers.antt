-- How many callbacks a script asks for, and what callbacks hear of a run: GFD.231, notifications; the lines are our profile.
use Rattle.std.specs.Prelude.{◌≡◌, ℕ, ◌+◌, ◌<◌, nat_lt, filter, List, length, sum_by, slice_index_or, Option, if◌then◌else◌}
use Rattle.drmaa_types.specs.declared.changes.Notification.{Notification}
use Rattle.drmaa_model.specs.History.{Ledger}
use Rattle.change_callbacks.specs.Hearing.{HasHeard}
use Rattle.script_lines.specs.declared.lines.Line.{Line}
use Rattle.script_text.specs.Follows.{lines_of, is_register}
use Rattle.script_text.specs.declared.scripts.Script.{Script}
use Rattle.journal_commands.specs.declared.status.Status.{Status}
use Rattle.journal_commands.specs.declared.status.Status.TheVariants.{Done, Text, Words, ReadFault, WriteFault, Memory, JournalFull, NotLegal}
use Rattle.journal_commands.specs.Statuses.{ended_as}
use Rattle.script_commands.specs.Plays.{new_machine, play_behind}

-- How many of these lines are `register` lines. Of those that a play serves, the first 64 alone give a number.
abbrev pub registers_in : List Line → ℕ
registers_in ls = length (filter is_register ls)

-- how many `register` lines a script has
abbrev pub registers_of : Script → ℕ
registers_of s = registers_in (lines_of s.setup) + sum_by registers_in s.clients

-- how the play of a script ends, on a machine that has served this, where so many callbacks are there, unless memory runs out or
-- writing fails: a script with more register lines is not played
abbrev pub end_behind : ℕ → Ledger → Script → Status
end_behind callbacks before s = if nat_lt callbacks (registers_of s) then Words else ended_as (play_behind before s).full

abbrev pub end_of : ℕ → Script → Status
end_of callbacks s = end_behind callbacks (new_machine s) s

-- a script was played to its end, or to where its journal's size stopped it
abbrev pub HasPlayed : Status → Type 0
HasPlayed Done = Unit {0}
HasPlayed (Text n) = ⊥
HasPlayed Words = ⊥
HasPlayed ReadFault = ⊥
HasPlayed WriteFault = Unit {0}
HasPlayed Memory = ⊥
HasPlayed (JournalFull size) = Unit {0}
HasPlayed (NotLegal entry given machine) = ⊥

-- By what `counted` and `told` say of a callback before and after, and by nothing else, it heard these notifications, or none.
pub record HeardSome {B : Type 0} (counted : B → ℕ) (told : B → Option (List Notification)) (before after : B) : Type 0 where
  pub notifications : List Notification
  pub heard : HasHeard counted told before after notifications

-- There are as many callbacks as before. What `counted` and `told` say of the one at each place is as where the one that was
-- there before heard some notifications, or none: that it is the same one is not said.
pub record AreReturned {B : Type 0} (counted : B → ℕ) (told : B → Option (List Notification)) (before after : List B) : Type 0 where
  pub as_many : length after ≡ length before
  pub each : (i : ℕ) (d : B) → i < length before → HeardSome counted told (slice_index_or before i d) (slice_index_or after i d)
