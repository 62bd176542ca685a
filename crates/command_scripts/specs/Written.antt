-- What is written of commands: our profile.
use Rattle.std.specs.Prelude.{◌≡◌, ℕ, List}
use Rattle.text_lines.specs.Lines.{IsTextOf}
use Rattle.text_lines.specs.Skipping.{SpellsUnskipped}
use Rattle.script_text.specs.declared.scripts.Mode.TheVariants.{Threads}
use Rattle.script_text.specs.Scripts.{Spells}
use Rattle.command_scripts.specs.declared.batches.Batch.{Batch}
use Rattle.command_scripts.specs.declared.batches.Machine.{Machine}
use Rattle.command_scripts.specs.Batches.{most_bytes, SpellsBatch}
use Rattle.command_scripts.specs.Scripts.{script_of}
use Rattle.command_scripts.specs.Texts.{script_text}

-- The text is the commands of a batch for this machine; what is written of it is the batch's text, and a script for threads: that
-- which has a template, a run, a wait and an info for each command, and nothing else.
pub record IsWritten (m : Machine) (text written : List ℕ) : Type 0 where
  pub batch : Batch
  pub commands : IsTextOf (SpellsBatch m) most_bytes text batch
  pub same : written ≡ script_text batch
  pub script : IsTextOf (SpellsUnskipped (Spells Threads)) most_bytes written (script_of batch)
