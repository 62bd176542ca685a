-- Which lines are commands of a batch: our profile.
use Rattle.std.specs.Prelude.{◌≡◌, ℕ, ◌+◌, ◌≤◌, ◌&&◌, not, nat_le, Bool, true, false, List, [], ◌∷◌, length, filter, IsUtf8}
use Rattle.std.specs.Str.{is_utf8}
use Rattle.job_template.specs.Texts.{most_text, text_length, has_nul}
use Rattle.script_text.specs.Header.{is_machine}
use Rattle.command_scripts.specs.declared.batches.Batch.{Batch}
use Rattle.command_scripts.specs.declared.batches.Machine.{Machine}
use Rattle.command_scripts.specs.Templates.{template_of}
use Rattle.command_scripts.specs.Texts.{script_text}

abbrev pub is_empty : List ℕ → Bool
is_empty [] = true
is_empty (b ∷ bs) = false

-- the lines that are not empty: each is a command
abbrev pub filled : List (List ℕ) → List (List ℕ)
filled lines = filter (λ l. not (is_empty l)) lines

-- A command with this number: UTF-8 without the character U+0000, and not too long for a template.
abbrev pub is_command : ℕ → List ℕ → Bool
is_command n command = (is_utf8 command && not (has_nul command)) && nat_le (text_length (template_of n command)) most_text

-- commands, which have the numbers from n on
abbrev pub are_commands : ℕ → List (List ℕ) → Bool
are_commands n [] = true
are_commands n (command ∷ commands) = is_command n command && are_commands (n + 1) commands

-- the most lines, and the most bytes of a script
abbrev pub most_lines : ℕ
most_lines = 65_536

abbrev pub most_bytes : ℕ
most_bytes = 16_777_216

-- The lines are commands for this machine: at most 65,536 lines, and a script of at most 16,777,216 bytes.
pub record SpellsBatch (m : Machine) (lines : List (List ℕ)) (b : Batch) : Type 0 where
  pub machine : b.machine ≡ m
  pub commands : b.commands ≡ filled lines
  pub each : are_commands 1 b.commands ≡ true
  pub few : length lines ≤ most_lines
  pub within : length (script_text b) ≤ most_bytes

-- What a script can be printed of: a machine that a script may have, at most 65,536 commands, and a script that is not too long.
pub record IsBatch (b : Batch) : Type 0 where
  pub machine : is_machine b.machine.slots b.machine.name ≡ true
  pub name : IsUtf8 b.machine.name
  pub each : are_commands 1 b.commands ≡ true
  pub few : length b.commands ≤ most_lines
  pub within : length (script_text b) ≤ most_bytes
