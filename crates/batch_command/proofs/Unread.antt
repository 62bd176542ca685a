-- A run that wrote nothing, since nothing was read.
use Rattle.std.proofs.Common.{◌≡◌, ℕ, List, Option}
use Rattle.text_lines.specs.Lines.{IsFirstBad}
use Rattle.command_scripts.specs.declared.batches.Machine.{Machine}
use Rattle.command_scripts.specs.Batches.{most_bytes, SpellsBatch}
use Rattle.journal_commands.specs.declared.status.Status.{Status}
use Rattle.journal_commands.specs.declared.status.Status.TheVariants.{Text}
use Rattle.journal_commands.specs.Statuses.{IsUnread}
use Rattle.journal_commands.specs.StatusLaws.{unread_by}
use Rattle.batch_command.specs.Ends.{BatchEnds}

pub unread : (m : Machine) (bytes : List ℕ) (status : Status) (old new : Option (List ℕ)) → IsUnread status
    → ((n : ℕ) → status ≡ Text n → IsFirstBad (SpellsBatch m) most_bytes bytes n) → BatchEnds m bytes status old new
unread m bytes status old new is line = unread_by (λ s. BatchEnds m bytes s old new) status is tt tt (λ n e. line n e)
