-- The lanes of the slots, and which of them each launch takes: our profile. A journal tells how many slots a launch holds, and not
-- which; here it takes the first that nobody holds, until its end is reported.
use Rattle.std.specs.Prelude.{ℕ, zero, suc, ◌+◌, ◌-◌, ◌==◌, ◌&&◌, nat_lt, nat_eq, Bool, true, false, map, List, [], ◌∷◌, ◌++◌, Option, Some, None, if◌then◌else◌}
use Rattle.drmaa_model.specs.declared.calls.Call.{Call}
use Rattle.drmaa_model.specs.declared.calls.Call.TheVariants as call
use Rattle.drmaa_model.specs.declared.entries.Entry.{Entry}
use Rattle.drmaa_model.specs.declared.replies.Reply.{Reply}
use Rattle.drmaa_model.specs.declared.replies.Reply.TheVariants as reply
use Rattle.run_chart.specs.declared.lanes.Attempt.{Attempt}
use Rattle.run_chart.specs.declared.lanes.Lane.{Lane}
use Rattle.run_chart.specs.declared.lanes.LaneStep.{LaneStep}
use Rattle.run_chart.specs.declared.lanes.LaneStep.TheVariants.{Takes, Leaves, Stays}
use Rattle.run_chart.specs.declared.lanes.Span.{Span}

-- ---- first fit

-- all lanes, by number, and nobody holds one
abbrev pub opened : ℕ → List Lane
opened zero = []
opened (suc n) = opened n ++ record { number = n; holder = None } ∷ []

abbrev pub is_free : Option Attempt → Bool
is_free None = true
is_free (Some who) = false

-- a launch that lacks so many lanes takes this one
abbrev pub is_taken : ℕ → Lane → Bool
is_taken left lane = nat_lt 0 left && is_free lane.holder

-- the numbers of the first free lanes, so many of them
abbrev pub free_lanes : ℕ → List Lane → List ℕ
free_lanes left [] = []
free_lanes left (lane ∷ others) =
    if is_taken left lane then lane.number ∷ free_lanes (left - 1) others else free_lanes left others

-- the lanes, where a launch holds these
abbrev pub taken : Attempt → ℕ → List Lane → List Lane
taken who left [] = []
taken who left (lane ∷ others) =
    if is_taken left lane then record { number = lane.number; holder = Some who } ∷ taken who (left - 1) others
    else lane ∷ taken who left others

-- a lane that a launch has left, if it held it
abbrev pub is_held : Attempt → Option Attempt → Bool
is_held who None = false
is_held who (Some holder) = nat_eq holder.job.0 who.job.0 && nat_eq holder.attempt who.attempt

abbrev pub without : Attempt → Lane → Lane
without who lane = if is_held who lane.holder then record { number = lane.number; holder = None } else lane

-- ---- lanes next to one another, as one span

abbrev pub behind : ℕ → ℕ
behind lane = lane + 1

-- the span from the first lane on and before the end, if there is a lane in it
abbrev pub span : ℕ → ℕ → List Span
span first end = if nat_lt first end then record { first = first; end = end } ∷ [] else []

-- the spans of lanes, behind one that goes from the first lane to this end
abbrev pub spans_from : ℕ → ℕ → List ℕ → List Span
spans_from first end [] = span first end
spans_from first end (lane ∷ later) =
    if lane == end then spans_from first (behind lane) later else span first end ++ spans_from lane (behind lane) later

abbrev pub spans_of : List ℕ → List Span
spans_of lanes = spans_from 0 0 lanes

-- ---- a history

-- an accepted report of an end gives back the lanes of the launch
abbrev pub ended : Call → LaneStep
ended (call.StartFailed job attempt) = Leaves (record { job = job; attempt = attempt })
ended (call.Exited job attempt exit) = Leaves (record { job = job; attempt = attempt })
ended (call.ExitUnknown job attempt) = Leaves (record { job = job; attempt = attempt })
ended other = Stays

abbrev pub step_of : Call → Reply → LaneStep
step_of c (reply.Launch launch) = Takes (record { job = launch.job; attempt = launch.attempt }) launch.slots
step_of c reply.Unit = ended c
step_of c other = Stays

abbrev pub taken_by : LaneStep → List Lane → List (List Span)
taken_by (Takes who slots) lanes = spans_of (free_lanes slots lanes) ∷ []
taken_by (Leaves who) lanes = []
taken_by Stays lanes = []

abbrev pub after : LaneStep → List Lane → List Lane
after (Takes who slots) lanes = taken who slots lanes
after (Leaves who) lanes = map (without who) lanes
after Stays lanes = lanes

-- what the launches take from here on
abbrev pub lanes_from : List Lane → List Entry → List (List Span)
lanes_from lanes [] = []
lanes_from lanes (entry ∷ later) =
    taken_by (step_of entry.call entry.reply) lanes ++ lanes_from (after (step_of entry.call entry.reply) lanes) later

-- The lanes of each launch of a history, on a machine with so many slots.
abbrev pub lanes_of : ℕ → List Entry → List (List Span)
lanes_of slots entries = lanes_from (opened slots) entries
