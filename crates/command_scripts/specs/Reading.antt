-- The reader of commands, as an automaton on lines, and how many bytes the script of a batch has.
use Rattle.std.specs.Prelude.{◌≡◌, ℕ, ◌+◌, ◌-◌, ◌&&◌, nat_lt, nat_le, List, [], ◌∷◌, ◌++◌, length, Option, Some, None, if◌then◌else◌}
use Rattle.text_lines.specs.Lines.{ended}
use Rattle.text_lines.specs.Automata.{Stepping}
use Rattle.command_scripts.specs.declared.batches.Batch.{Batch}
use Rattle.command_scripts.specs.declared.batches.Machine.{Machine}
use Rattle.command_scripts.specs.declared.reading.Reader.{Reader}
use Rattle.command_scripts.specs.Texts.{template_lines, run_line, wait_line, info_line, script_text}
use Rattle.command_scripts.specs.Batches.{is_empty, is_command, most_lines, most_bytes, SpellsBatch}

-- the bytes of a script without commands
abbrev pub frame_size : Machine → ℕ
frame_size m = length (script_text (record { machine = m; commands = [] }))

-- the bytes of a line, and of all lines of a command
abbrev pub line_size : List ℕ → ℕ
line_size l = length l + 1

abbrev pub command_size : ℕ → List ℕ → ℕ
command_size n command = length (ended (template_lines n command)) + line_size (run_line n) + line_size (wait_line n) + line_size (info_line n)

-- nothing was read
pub record IsFirst (r : Reader) : Type 0 where
  pub lines : r.lines ≡ 0
  pub room : r.room + frame_size r.machine ≡ most_bytes
  pub commands : r.commands ≡ []

-- a line more
abbrev pub with_empty : Reader → Reader
with_empty r = record r { lines = r.lines + 1 }

abbrev pub grown : Reader → List ℕ → ℕ → Reader
grown r l size = record r { lines = r.lines + 1; room = r.room - size; commands = r.commands ++ l ∷ [] }

abbrev pub with_command : Reader → List ℕ → Option Reader
with_command r l =
    let n = length r.commands + 1 in
    if is_command n l && nat_le (command_size n l) r.room then Some (grown r l (command_size n l)) else None

abbrev pub next : Reader → List ℕ → Option Reader
next r l = if nat_lt r.lines most_lines then (if is_empty l then Some (with_empty r) else with_command r l) else None

abbrev pub ends : Reader → Option Batch
ends r = Some (record { machine = r.machine; commands = r.commands })

abbrev pub batches_stepping : Stepping Reader Batch
batches_stepping = record { is_first = IsFirst; next = next; ends = ends; Spells = λ r. SpellsBatch r.machine }
