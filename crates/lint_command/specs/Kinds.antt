-- A script of either kind, and the line that is bad where the bytes are none: our profile.
use Rattle.std.specs.Prelude.{◌≡◌, ◌⊎◌, ℕ, max, List}
use Rattle.text_lines.specs.Lines.{IsTextOf, IsFirstBad}
use Rattle.text_lines.specs.Skipping.{SpellsUnskipped}
use Rattle.script_text.specs.declared.scripts.Mode.{Mode}
use Rattle.script_text.specs.declared.scripts.Mode.TheVariants.{Serial, Threads}
use Rattle.script_text.specs.declared.scripts.Script.{Script}
use Rattle.script_text.specs.Scripts.{Spells}
use Rattle.script_advice.specs.WarningTexts.{lint_text}

-- the bytes are this script of the kind
abbrev pub IsScript : Mode → List ℕ → Script → Type 0
IsScript mode bytes s = IsTextOf (SpellsUnskipped (Spells mode)) 16_777_216 bytes s

-- the bytes are no script of the kind, and this is the first line after which none can go on
abbrev pub IsBadAt : Mode → List ℕ → ℕ → Type 0
IsBadAt mode bytes line = IsFirstBad (SpellsUnskipped (Spells mode)) 16_777_216 bytes line

-- the script that the bytes are: one for one thread, or where they are none, one for threads
abbrev pub IsJudged : List ℕ → Script → Type 0
IsJudged bytes s = IsScript Serial bytes s ⊎ (((t : Script) → IsScript Serial bytes t → ⊥) × IsScript Threads bytes s)

-- The bytes are a script of neither kind, and this is the line of the kind that goes on longer: the later of both first bad lines.
pub record IsBadLine (bytes : List ℕ) (line : ℕ) : Type 0 where
  pub serial : ℕ
  pub threads : ℕ
  pub bad_serial : IsBadAt Serial bytes serial
  pub bad_threads : IsBadAt Threads bytes threads
  pub later : line ≡ max serial threads

-- what is written of the script that the bytes are
pub record IsLinted (bytes text : List ℕ) : Type 0 where
  pub script : Script
  pub judged : IsJudged bytes script
  pub same : text ≡ lint_text script
