use Rattle.std.proofs.Common.{◌≡◌, ℕ, List, Result, Err, ap}
use Rattle.std.proofs.lemmas.Option.{IfSome_then}
use Rattle.text_lines.specs.Lines.{IsFirstBad}
use Rattle.command_scripts.specs.Batches.{SpellsBatch}
use Rattle.journal_commands.specs.declared.status.Status.{Status}
use Rattle.journal_commands.specs.declared.status.Status.TheVariants.{Text}
use Rattle.journal_commands.proofs.Somes.{some_all}
use Rattle.batch_command.proofs.Unread.{unread}
use Rattle.batch_command.proofs.running.run_batch.Goals as goal

err_is : (a b : Status) → a ≡ b → ◌≡◌ {A = Result (List ℕ) Status} (Err a) (Err b)
err_is a b e = ap (λ (x : Status). let r : Result (List ℕ) Status = Err x in r) e

pub returns-in-Err-clause-ends : goal.returns-in-Err-clause-ends
returns-in-Err-clause-ends g c =
    let left = g.R.Source.left c.args.source.now in
    IfSome_then left (some_all left (λ n. ◌≡◌ {A = Result (List ℕ) Status} (Err c.in-Err.status) (Err (Text n))) (λ n bytes. IsFirstBad (SpellsBatch c.args.machine) 16_777_216 bytes n) c.in-Err.ensures.line) (λ bytes line.
    unread c.args.machine bytes c.in-Err.status _ _ c.in-Err.ensures.causes (λ n e. line n (err_is c.in-Err.status (Text n) e)))
