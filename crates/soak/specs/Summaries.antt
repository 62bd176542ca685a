-- What a play came to, in numbers: our profile.
use Rattle.std.specs.Prelude.{ℕ, Bool, true, false, List, [], ◌∷◌, ◌++◌, length, filter, codes, decimal}
use Rattle.drmaa_types.specs.States.{is_state}
use Rattle.drmaa_types.specs.declared.changes.Change.{Change}
use Rattle.drmaa_types.specs.declared.states.JobState.{JobState}
use Rattle.drmaa_types.specs.declared.states.JobState.TheVariants.{Done, Failed}
use Rattle.drmaa_model.specs.declared.entries.Entry.{Entry}
use Rattle.drmaa_model.specs.declared.replies.Reply.{Reply}
use Rattle.drmaa_model.specs.declared.replies.Reply.TheVariants as reply
use Rattle.drmaa_model.specs.NextLaunch.{held}
use Rattle.drmaa_model.specs.Size.{size}
use Rattle.drmaa_model.specs.World.{World}
use Rattle.text_lines.specs.Lines.{ended}
use Rattle.soak.specs.declared.summaries.Summary.{Summary}

-- the change leads to this state
abbrev pub leads_to : JobState → Change → Bool
leads_to state change = is_state change.to state

-- the reply is a refusal
abbrev pub is_refusal : Reply → Bool
is_refusal reply.Unit = false
is_refusal (reply.Session session) = false
is_refusal (reply.Names names) = false
is_refusal (reply.Job job) = false
is_refusal (reply.Array array first count) = false
is_refusal (reply.Jobs numbers) = false
is_refusal (reply.State state) = false
is_refusal (reply.Info info) = false
is_refusal (reply.Reached job) = false
is_refusal (reply.Reserved reserved) = false
is_refusal (reply.Reservation info) = false
is_refusal (reply.Reservations numbers) = false
is_refusal (reply.Infos told) = false
is_refusal (reply.ReservationInfos told) = false
is_refusal (reply.Machine info) = false
is_refusal (reply.Callback number) = false
is_refusal (reply.Launch launch) = false
is_refusal (reply.Signal signal) = false
is_refusal (reply.Refused why) = true

unfoldable pub is_refused : Entry → Bool
is_refused entry = is_refusal entry.reply

-- Of a history and the world that it leads to: the entries; the changes, and those to DONE and to FAILED; the entries that are
-- refusals; and the slots that are held, the accepted reservations, and the journal size of that world.
abbrev pub summary : List Entry → World → Summary
summary history w = record {
  entries = length history;
  changes = length w.plan.changes;
  done = length (filter (leads_to Done) w.plan.changes);
  failed = length (filter (leads_to Failed) w.plan.changes);
  refused = length (filter is_refused history);
  held = held w.plan.rows;
  reservations = length w.plan.reservations;
  size = size w;
}

-- a line: a word and a number
abbrev pub count_line : List ℕ → ℕ → List ℕ
count_line word number = word ++ (32 ∷ decimal number)

-- one line each
abbrev pub summary_lines : Summary → List (List ℕ)
summary_lines s =
    count_line (codes "entries") s.entries ∷ count_line (codes "changes") s.changes ∷ count_line (codes "done") s.done
    ∷ count_line (codes "failed") s.failed ∷ count_line (codes "refused") s.refused ∷ count_line (codes "held") s.held
    ∷ count_line (codes "reservations") s.reservations ∷ count_line (codes "size") s.size ∷ []

abbrev pub summary_text : Summary → List ℕ
summary_text s = ended (summary_lines s)
