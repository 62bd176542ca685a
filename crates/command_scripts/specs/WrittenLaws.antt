-- What is printed of what was read is written of it.
use Rattle.std.proofs.Common.{◌≡◌, ℕ, true, List, sym, subst, IsUtf8}
use Rattle.text_lines.specs.Lines.{whole_lines, IsTextOf}
use Rattle.text_lines.specs.Skipping.{SpellsUnskipped}
use Rattle.script_text.specs.declared.scripts.Mode.TheVariants.{Threads}
use Rattle.script_text.specs.Header.{is_machine}
use Rattle.script_text.specs.Scripts.{Spells}
use Rattle.command_scripts.specs.declared.batches.Batch.{Batch}
use Rattle.command_scripts.specs.declared.batches.Machine.{Machine}
use Rattle.command_scripts.specs.Batches.{most_bytes, SpellsBatch}
use Rattle.command_scripts.specs.Scripts.{script_of}
use Rattle.command_scripts.specs.TextLaws.{batch_text, read_is_batch}
use Rattle.command_scripts.specs.Texts.{script_text}
use Rattle.command_scripts.specs.Written.{IsWritten}

pub is_written : (m : Machine) (all bytes : List ℕ) (batch : Batch) → is_machine m.slots m.name ≡ true → IsUtf8 m.name → IsTextOf (SpellsBatch m) most_bytes all batch → bytes ≡ script_text batch → IsWritten m all bytes
is_written m all bytes batch machine name read same =
    let h = read_is_batch m (whole_lines all) batch machine name read.spelled in
    record {
      batch = batch;
      commands = read;
      same = same;
      script = subst (λ bs. IsTextOf (SpellsUnskipped (Spells Threads)) most_bytes bs (script_of batch)) (sym same) (batch_text batch h);
    }
