-- The reader of scripts, as an automaton on lines.
use Rattle.std.specs.Prelude.{◌≡◌, ℕ, ◌&&◌, not, Bool, true, false, List, [], ◌∷◌, ◌++◌, Option, Some, None, codes, if◌then◌else◌}
use Rattle.std.specs.Str.{bytes_eq}
use Rattle.drmaa_types.specs.declared.queues.QueueSpec.{QueueSpec}
use Rattle.drmaa_types.specs.Queues.{are_queues}
use Rattle.job_template.specs.declared.templates.ReservationTemplate.{ReservationTemplate}
use Rattle.text_codec.specs.Formats.{◌>>=◌, choose, strip}
use Rattle.text_codec.specs.Formats as form
use Rattle.text_codec.specs.Words.{name}
use Rattle.text_codec.specs.Queues.{queue}
use Rattle.text_lines.specs.Automata.{Stepping}
use Rattle.script_lines.specs.declared.lines.Line.{Line}
use Rattle.script_lines.specs.declared.fields.JobField.{JobField}
use Rattle.script_lines.specs.declared.fields.ReservationField.{ReservationField}
use Rattle.script_lines.specs.declared.draft.Draft.{Draft}
use Rattle.script_lines.specs.Lines.{read_line}
use Rattle.script_lines.specs.TemplateFields.{read_job_field, read_reservation_field}
use Rattle.script_lines.specs.Templates.{no_fields, is_set, with_field, no_reservation_fields, is_reservation_set, with_reservation_field}
use Rattle.script_text.specs.declared.scripts.Mode.{Mode}
use Rattle.script_text.specs.declared.scripts.Script.{Script}
use Rattle.script_text.specs.declared.states.Reader.{Reader}
use Rattle.script_text.specs.declared.states.Reader.TheVariants.{Start, Queueing, Top, Filling, Reserving, Asking}
use Rattle.script_text.specs.Header.{header}
use Rattle.script_text.specs.Follows.{lines_of, may_stand}
use Rattle.script_text.specs.Scripts.{is_early, is_named, may_open, begun, with_queue, with_template, with_reservation, with_block, Spells}

-- a queue more, where the machine may have it beside those before it
abbrev pub queued : Mode → Script → QueueSpec → Option Reader
queued m s q = if are_queues s.config.slots (s.config.queues ++ q ∷ []) then Some (Queueing m (with_queue s q)) else None

abbrev pub named : Mode → Script → List ℕ → Option Reader
named m s n = if is_early s && not (is_named s n) then Some (Filling m (s, n) no_fields) else None

abbrev pub to_reserve : Mode → Script → List ℕ → Option Reader
to_reserve m s n = if is_early s && not (is_named s n) then Some (Reserving m (s, n) no_reservation_fields) else None

abbrev pub begin_block : Mode → Script → Bool → Option Reader
begin_block m s in_setup = if may_open in_setup s then Some (Asking m s [] in_setup) else None

abbrev pub opened : Mode → Script → List ℕ → Option Reader
opened m s l = if bytes_eq l (codes "setup") then begin_block m s true else (if bytes_eq l (codes "client") then begin_block m s false else None)

abbrev pub filled : Mode → Script → List ℕ → Draft → JobField → Option Reader
filled m s n d f = if is_set d f then None else Some (Filling m (s, n) (with_field d f))

abbrev pub reserved : Mode → Script → List ℕ → ReservationTemplate → ReservationField → Option Reader
reserved m s n t f = if is_reservation_set t f then None else Some (Reserving m (s, n) (with_reservation_field t f))

abbrev pub asked : Mode → Script → List Line → Bool → Line → Option Reader
asked m s b in_setup x = if may_stand m in_setup s (lines_of s.setup ++ b) x then Some (Asking m s (b ++ x ∷ []) in_setup) else None

-- a name that ends its line
unfoldable pub read_name : List ℕ → Option (List ℕ)
read_name l = form.read_line name l

unfoldable pub read_header : List ℕ → Option (ℕ × (List ℕ × Bool))
read_header l = form.read_line header l

unfoldable pub read_queue : List ℕ → Option QueueSpec
read_queue l = form.read_line queue l

-- what the first line of a block leads to
abbrev pub after_top : Mode → Script → List ℕ → Option Reader
after_top m s l = choose (strip (codes "template ") l) (λ r. read_name r >>= named m s) (choose (strip (codes "rtemplate ") l) (λ r. read_name r >>= to_reserve m s) (opened m s l))

abbrev pub next : Reader → List ℕ → Option Reader
next (Start m) l = read_header l >>= λ h. Some (Queueing m (begun h []))
next (Queueing m s) l = choose (strip (codes "queue ") l) (λ r. read_queue r >>= queued m s) (after_top m s l)
next (Top m s) l = after_top m s l
next (Filling m (s, n) d) l = if bytes_eq l (codes "end") then Some (Top m (with_template s n d.template)) else (read_job_field l >>= filled m s n d)
next (Reserving m (s, n) t) l = if bytes_eq l (codes "end") then Some (Top m (with_reservation s n t)) else (read_reservation_field l >>= reserved m s n t)
next (Asking m s b in_setup) l = if bytes_eq l (codes "end") then Some (Top m (with_block s b in_setup)) else (read_line l >>= asked m s b in_setup)

abbrev pub ends : Reader → Option Script
ends (Start m) = None
ends (Queueing m s) = Some s
ends (Top m s) = Some s
ends (Filling m (s, n) d) = None
ends (Reserving m (s, n) t) = None
ends (Asking m s b in_setup) = None

abbrev pub mode_of : Reader → Mode
mode_of (Start m) = m
mode_of (Queueing m s) = m
mode_of (Top m s) = m
mode_of (Filling m (s, n) d) = m
mode_of (Reserving m (s, n) t) = m
mode_of (Asking m s b in_setup) = m

-- the reader of the lines that are not skipped; the first state says which kind of script is read
abbrev pub scripts_stepping : Stepping Reader Script
scripts_stepping = record {
  is_first = λ r. r ≡ Start (mode_of r);
  next = next;
  ends = ends;
  Spells = λ r. Spells (mode_of r);
}
