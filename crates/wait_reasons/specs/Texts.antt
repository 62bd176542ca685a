-- The text of reasons, and of all jobs that wait: our profile.
use Rattle.std.specs.Prelude.{ℕ, List, [], ◌∷◌, ◌++◌, Option, Some, None, codes, decimal, if◌then◌else◌}
use Rattle.std.specs.List.{flat_map, list_any}
use Rattle.std.specs.Option.{option_map_or}
use Rattle.drmaa_types.specs.Queues.{queue_at}
use Rattle.drmaa_types.specs.States.{is_state, is_waiting}
use Rattle.drmaa_types.specs.declared.identifiers.ReservationId.{ReservationId}
use Rattle.drmaa_types.specs.declared.queues.QueueSpec.{QueueSpec}
use Rattle.drmaa_types.specs.declared.states.JobState.{JobState}
use Rattle.drmaa_types.specs.declared.states.JobState.TheVariants.{QueuedHeld, RequeuedHeld}
use Rattle.drmaa_model.specs.declared.rows.Row.{Row}
use Rattle.drmaa_model.specs.Plan.{Plan}
use Rattle.text_codec.specs.Lexical.{quoted}
use Rattle.drmaa_types.specs.Said.{state_name}
use Rattle.wait_reasons.specs.declared.reasons.Reason.{Reason}
use Rattle.wait_reasons.specs.declared.reasons.Reason.TheVariants.{NotQueued, StartsAt, ArrayFull, FewFree, Overfull, QueueFull, ReservationGone, ReservationOutside, ReservationFull}
use Rattle.wait_reasons.specs.Reasons.{reasons}

-- ---- reasons

-- a number between words, and two numbers
unfoldable pub one_number : List ℕ → ℕ → List ℕ → List ℕ
one_number before n behind = before ++ (decimal n ++ behind)

unfoldable pub two_numbers : List ℕ → ℕ → List ℕ → ℕ → List ℕ → List ℕ
two_numbers before n between m behind = before ++ (decimal n ++ (between ++ (decimal m ++ behind)))

-- the state of a job that is not queued: `held`, or which it is
unfoldable pub standing_text : JobState → List ℕ
standing_text state = if list_any (is_state state) (QueuedHeld ∷ RequeuedHeld ∷ []) then codes "held" else codes "is " ++ state_name state

-- a reservation behind a moment that it covers
unfoldable pub covering_text : Option ReservationId → List ℕ
covering_text None = []
covering_text (Some number) = one_number (codes " (reservation ") number.0 (codes ")")

-- the calendar has no room at a moment
unfoldable pub overfull_text : ℕ → ℕ → Option ReservationId → List ℕ
overfull_text wants moment number = two_numbers (codes "no room for ") wants (codes " on the calendar at @") moment [] ++ covering_text number

-- the name of the queue at a place, in quotes
unfoldable pub queue_text : List QueueSpec → ℕ → List ℕ
queue_text queues place = option_map_or (λ (queue : QueueSpec). quoted queue.name) (queue_at place queues) []

-- a reservation, and two numbers between words
unfoldable pub reserved_text : ReservationId → List ℕ → ℕ → List ℕ → ℕ → List ℕ → List ℕ
reserved_text number before n between m behind = one_number (codes "reservation ") number.0 [] ++ two_numbers before n between m behind

-- what is said of a reason on a machine with these queues
unfoldable pub reason_text : List QueueSpec → Reason → List ℕ
reason_text queues (NotQueued state) = standing_text state
reason_text queues (StartsAt moment) = one_number (codes "starts at @") moment []
reason_text queues (ArrayFull holding bound) = two_numbers (codes "its array has ") holding (codes " of ") bound []
reason_text queues (FewFree wants free) = two_numbers (codes "wants ") wants (codes " of ") free (codes " free slots")
reason_text queues (Overfull wants moment number) = overfull_text wants moment number
reason_text queues (QueueFull place used limit) = codes "queue " ++ (queue_text queues place ++ two_numbers (codes " has ") used (codes " of ") limit [])
reason_text queues (ReservationGone number) = one_number (codes "reservation ") number.0 (codes " is gone")
reason_text queues (ReservationOutside number from until) = reserved_text number (codes " is from @") from (codes " to @") until []
reason_text queues (ReservationFull number used slots) = reserved_text number (codes " has ") used (codes " of ") slots (codes " in use")

-- the reasons behind the first
abbrev pub other_texts : List QueueSpec → List Reason → List ℕ
other_texts queues others = flat_map (λ (r : Reason). codes "; " ++ reason_text queues r) others

-- All reasons, parted by `; `; `ready` where there is none.
abbrev pub reasons_text : List QueueSpec → List Reason → List ℕ
reasons_text queues [] = codes "ready"
reasons_text queues (first ∷ others) = reason_text queues first ++ other_texts queues others

-- ---- jobs

-- a job that waits: its number, and why it is not launched now with its minSlots
unfoldable pub waiting_line : Plan → Row → List ℕ
waiting_line p row = decimal row.job.0 ++ (codes "\t" ++ (reasons_text p.queues (reasons p row.wants.min row) ++ codes "\n"))

abbrev pub job_line : Plan → Row → List ℕ
job_line p row = if is_waiting row.course.state then waiting_line p row else []

-- A line for each kept job that waits, by number.
abbrev pub why_text : Plan → List ℕ
why_text p = flat_map (job_line p) p.rows
