-- How a script is made up, and how it is spelled: our profile.
use Rattle.std.specs.Prelude.{◌≡◌, ℕ, ◌&&◌, ◌||◌, not, nat_lt, Bool, true, false, List, [], ◌∷◌, ◌++◌, length, map, Some, None, is_some, codes}
use Rattle.std.specs.List.{AllByRecursion, flat_map}
use Rattle.drmaa_types.specs.declared.queues.QueueSpec.{QueueSpec}
use Rattle.drmaa_types.specs.Queues.{are_queues}
use Rattle.job_template.specs.declared.templates.JobTemplate.{JobTemplate}
use Rattle.job_template.specs.declared.templates.ReservationTemplate.{ReservationTemplate}
use Rattle.text_codec.specs.Words.{name}
use Rattle.text_codec.specs.Queues.{queue}
use Rattle.script_lines.specs.declared.lines.Line.{Line}
use Rattle.script_lines.specs.declared.fields.JobField.{JobField}
use Rattle.script_lines.specs.declared.fields.ReservationField.{ReservationField}
use Rattle.script_lines.specs.declared.draft.Draft.{Draft}
use Rattle.script_lines.specs.Lines.{line_form}
use Rattle.script_lines.specs.Templates.{no_fields, made, IsJobField, job_text, no_reservation_fields, booked, IsReservationField, reservation_text}
use Rattle.script_text.specs.declared.scripts.Mode.{Mode}
use Rattle.script_text.specs.declared.scripts.Script.{Script}
use Rattle.script_text.specs.Names.{is_there}
use Rattle.script_text.specs.Header.{header, queue_text, config_of}
use Rattle.script_text.specs.Follows.{lines_of, may_stand}

-- no block but templates was read
abbrev pub is_nil : {A : Type 0} → List A → Bool
is_nil [] = true
is_nil (x ∷ xs) = false

abbrev pub is_early : Script → Bool
is_early s = not (is_some s.setup) && is_nil s.clients

-- a template of either kind has this name
abbrev pub is_named : Script → List ℕ → Bool
is_named s n = is_there s.jobs n || is_there s.reservations n

-- a block of lines may begin: setup before all clients and once, and at most 32 clients
abbrev pub may_open : Bool → Script → Bool
may_open true s = is_early s
may_open false s = nat_lt (length s.clients) 32

abbrev pub begun : ℕ × (List ℕ × Bool) → List QueueSpec → Script
begun m queues = record { config = config_of m queues; jobs = []; reservations = []; setup = None; clients = [] }

abbrev pub with_queue : Script → QueueSpec → Script
with_queue s q = record s { config = record s.config { queues = s.config.queues ++ q ∷ [] } }

abbrev pub with_template : Script → List ℕ → JobTemplate → Script
with_template s n t = record s { jobs = s.jobs ++ (n, t) ∷ [] }

abbrev pub with_reservation : Script → List ℕ → ReservationTemplate → Script
with_reservation s n t = record s { reservations = s.reservations ++ (n, t) ∷ [] }

abbrev pub with_block : Script → List Line → Bool → Script
with_block s b true = record s { setup = Some b }
with_block s b false = record s { clients = s.clients ++ b ∷ [] }

-- each line is within its ranges, and may stand behind those before it
abbrev pub Follow : Mode → Bool → Script → List Line → List Line → Type 0
Follow m in_setup s earlier [] = Unit {0}
Follow m in_setup s earlier (l ∷ ls) =
    ((line_form l).valid × (may_stand m in_setup s earlier l ≡ true)) × Follow m in_setup s (earlier ++ l ∷ []) ls

abbrev pub line_text : Line → List ℕ
line_text l = (line_form l).text

-- the first lines of blocks
abbrev pub template_head : List ℕ → List ℕ
template_head n = codes "template " ++ name.spell n

abbrev pub reservation_head : List ℕ → List ℕ
reservation_head n = codes "rtemplate " ++ name.spell n

abbrev pub block_head : Bool → List ℕ
block_head true = codes "setup"
block_head false = codes "client"

-- A block, as it is written: a job's template, a reservation's template, or lines in the setup block or a client's.
pub data Part : Type 0 where
  Job : (name : List ℕ) (fields : List JobField) → Part
  Reservation : (name : List ℕ) (fields : List ReservationField) → Part
  Lines : (in_setup : Bool) (lines : List Line) → Part

abbrev pub part_lines : Part → List (List ℕ)
part_lines (Job n fs) = template_head n ∷ (map job_text fs ++ codes "end" ∷ [])
part_lines (Reservation n fs) = reservation_head n ∷ (map reservation_text fs ++ codes "end" ∷ [])
part_lines (Lines k ls) = block_head k ∷ (map line_text ls ++ codes "end" ∷ [])

-- What a block makes of the script before it. Templates stand before all other blocks, each with a new name, and no field
-- is set twice.
abbrev pub After : Mode → Script → Part → Script → Type 0
After m s (Job n fs) t = (d : Draft) × (made no_fields fs ≡ Some d) × (is_early s ≡ true) × (is_named s n ≡ false) × (name.valid n) × (AllByRecursion IsJobField fs) × (t ≡ with_template s n d.template)
After m s (Reservation n fs) t = (r : ReservationTemplate) × (booked no_reservation_fields fs ≡ Some r) × (is_early s ≡ true) × (is_named s n ≡ false) × (name.valid n) × (AllByRecursion IsReservationField fs) × (t ≡ with_reservation s n r)
After m s (Lines k ls) t = (may_open k s ≡ true) × Follow m k s (lines_of s.setup) ls × (t ≡ with_block s ls k)

-- blocks make one script of another, one after the other
abbrev pub Makes : Mode → Script → List Part → Script → Type 0
Makes m s [] t = s ≡ t
Makes m s (p ∷ ps) t = (u : Script) × After m s p u × Makes m u ps t

-- These lines are a script's: its machine, the queues that such a machine may have, each on a line, and blocks that make it.
pub record Spells (m : Mode) (lines : List (List ℕ)) (s : Script) : Type 0 where
  pub machine : ℕ × (List ℕ × Bool)
  pub valid : header.valid machine
  pub queues : List QueueSpec
  pub each : AllByRecursion queue.valid queues
  pub queued : are_queues machine.0 queues ≡ true
  pub parts : List Part
  pub makes : Makes m (begun machine queues) parts s
  pub text : lines ≡ header.spell machine ∷ (map queue_text queues ++ flat_map part_lines parts)
