use Rattle.std.proofs.Common.{◌≡◌, ◌⊎◌, ℕ, List, Ok, Err, subst}
use Rattle.text_lines.specs.Lines.{IsFront, IsTextOf, IsFirstBad}
use Rattle.text_lines.specs.declared.reading.TextFault.{TextFault}
use Rattle.command_scripts.specs.declared.batches.Batch.{Batch}
use Rattle.command_scripts.specs.Batches.{SpellsBatch}
use Rattle.command_scripts.proofs.reading.read_batch.Goals as goal

pub returns-clause-only : goal.returns-clause-only
returns-clause-only c =
    subst
    (λ m. (all : List ℕ) (batch : Batch) → IsFront 16_777_216 all c.args.front.now c.args.whole → IsTextOf (SpellsBatch m) 16_777_216 all batch
    → (c.read_lines.result ≡ Ok batch) ⊎ (c.read_lines.result ≡ Err TextFault.OutOfMemory))
    c.new-first.ensures.machine (λ all batch f t. c.read_lines.ensures.only 16_777_216 all batch f t)

pub returns-clause-line : goal.returns-clause-line
returns-clause-line c =
    subst
    (λ m. (all : List ℕ) (n : ℕ) → IsFront 16_777_216 all c.args.front.now c.args.whole → c.read_lines.result ≡ Err (TextFault.Line n) → IsFirstBad (SpellsBatch m) 16_777_216 all n)
    c.new-first.ensures.machine (λ all n f e. c.read_lines.ensures.line 16_777_216 all n f e)
