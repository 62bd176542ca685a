-- Where all was written, a text was made, and its verdict is told.
use Rattle.std.proofs.Common.{◌≡◌, List, ℕ, Option}
use Rattle.drmaa_model.specs.History.{Ledger}
use Rattle.journal_commands.specs.declared.running.Made.{Made}
use Rattle.journal_commands.specs.declared.running.Made.TheVariants as made
use Rattle.journal_commands.specs.declared.status.Status.{Status}
use Rattle.journal_commands.specs.declared.status.Status.TheVariants.{Done}
use Rattle.journal_commands.specs.Outcomes.{MadeEnds}
use Rattle.run_views.specs.declared.jobs.Verdict.{Verdict}
use Rattle.view_commands.specs.declared.views.View.{View}
use Rattle.view_commands.specs.Views.{IsJudged, view_verdict}

pub verdict_told : (view : View) (ledger : Ledger) (m : Made) (status : Status) (v : Verdict) (old new : Option (List ℕ)) → MadeEnds m status old new → status ≡ Done → IsJudged view ledger m v → v ≡ view_verdict view ledger
verdict_told view ledger (made.Written output) status v old new ends is judged = judged
verdict_told view ledger (made.NotLegal entry given machine) status v old new ends is judged = absurd (cc)
verdict_told view ledger made.OutOfMemory status v old new ends is judged = absurd (cc)
