use Rattle.std.proofs.Common.{◌≡◌, List, ℕ, Bool, false, sym, ap, subst, ◌∙◌}
use Rattle.std.specs.Prelude.{if◌then◌else◌}
use Rattle.std.specs.Fmt.{HasWritten}
use Rattle.journal_commands.specs.declared.status.Status.{Status}
use Rattle.journal_commands.specs.Statuses.{status_text}
use Rattle.run_views.specs.declared.jobs.Verdict.{Verdict}
use Rattle.view_commands.specs.Numbers.{is_done, verdict_text, outcome_text}
use Rattle.view_commands.proofs.outcomes.OutcomeDisplay.fmt.Goals as goal

other_text : (status : Status) (v : Verdict) (done : Bool) → done ≡ is_done status → done ≡ false → status_text status ≡ outcome_text status v
other_text status v done is other = ap (λ (b : Bool). if b then verdict_text v else status_text status) (sym other ∙ is)

pub returns-else-is_done : goal.returns-else-is_done
returns-else-is_done g c = λ plain ok.
    subst (λ (t : List ℕ). HasWritten {W = g.row.W.Denot} g.W.Write.write_str_gives c.args.f.now t c.fmt.new.f)
    (other_text c.args.self.now.status c.args.self.now.verdict c.is_done.result c.is_done.ensures c.if-is_done.false) (c.fmt.ensures plain ok)
