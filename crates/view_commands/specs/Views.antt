-- What is shown of a legal journal, and how that ends: our profile.
use Rattle.std.specs.Prelude.{◌≡◌, ℕ, ◌++◌, List, Option, None}
use Rattle.drmaa_model.specs.History.{Ledger, now_of}
use Rattle.drmaa_model.specs.Infos.{infos}
use Rattle.journal_text.specs.declared.journals.Journal.{Journal}
use Rattle.journal_commands.specs.declared.running.Made.{Made}
use Rattle.journal_commands.specs.declared.running.Made.TheVariants as made
use Rattle.journal_commands.specs.declared.status.Status.{Status}
use Rattle.journal_commands.specs.Commands.{OfLegal, RefusesFault, Judged, ledger_of}
use Rattle.journal_commands.specs.Outcomes.{JournalEnds, JournalIsWhole}
use Rattle.journal_commands.specs.Texts.{IsJournalText}
use Rattle.run_chart.specs.Charts.{chart_of}
use Rattle.run_chart.specs.Pages.{chart_text}
use Rattle.run_views.specs.declared.jobs.Verdict.{Verdict}
use Rattle.run_views.specs.declared.jobs.Verdict.TheVariants.{AllEnded}
use Rattle.run_views.specs.Jobs.{verdict}
use Rattle.run_views.specs.JobTexts.{jobs_text}
use Rattle.run_views.specs.Runs.{runs_of}
use Rattle.run_views.specs.Texts.{log_text}
use Rattle.wait_reasons.specs.Texts.{why_text}
use Rattle.view_commands.specs.declared.views.View.{View}
use Rattle.view_commands.specs.declared.views.View.TheVariants.{Jobs, Log, Why, Chart}

-- `jobs`: all jobs that ever were, the kept ones as they are in the world that the history leads to, the counts, and why those wait
-- that do; `log`: the runs of the history; `why`: the reasons for which the jobs that wait in that world are not launched; `chart`: the
-- chart of the history, up to the moment of that world
abbrev pub view_text : View → Ledger → List ℕ
view_text Jobs ledger = jobs_text (now_of ledger).plan.moment (infos (now_of ledger)) (now_of ledger).plan.changes ledger.history ++ why_text (now_of ledger).plan
view_text Log ledger = log_text (runs_of ledger.history)
view_text Why ledger = why_text (now_of ledger).plan
view_text Chart ledger = chart_text (chart_of ledger.config.slots (now_of ledger).plan.moment ledger.history)

-- what a script tests after `jobs`; after the others there is nothing to test
abbrev pub view_verdict : View → Ledger → Verdict
view_verdict Jobs ledger = verdict (infos (now_of ledger)) (now_of ledger).plan.changes ledger.history
view_verdict Log ledger = AllEnded
view_verdict Why ledger = AllEnded
view_verdict Chart ledger = AllEnded

-- this is written
abbrev pub Shows : View → Ledger → List ℕ → Option ℕ → Type 0
Shows view ledger text full = (text ≡ view_text view ledger) × (full ≡ None)

-- where a text was made, this is its verdict
abbrev pub IsJudged : View → Ledger → Made → Verdict → Type 0
IsJudged view ledger (made.Written output) v = v ≡ view_verdict view ledger
IsJudged view ledger (made.NotLegal entry given machine) v = Unit {0}
IsJudged view ledger made.OutOfMemory v = Unit {0}

-- ---- how a view ends, by all the bytes that it reads

abbrev pub ViewEnds : View → List ℕ → Status → Option (List ℕ) → Option (List ℕ) → Type 0
ViewEnds view = JournalEnds (OfLegal (Shows view)) RefusesFault

abbrev pub ViewIsWhole : View → List ℕ → Status → Type 0
ViewIsWhole view = JournalIsWhole (Judged (Shows view))

-- the bytes are a text of a journal, and this is its verdict
abbrev pub IsVerdictOf : View → List ℕ → Verdict → Type 0
IsVerdictOf view bytes v = (j : Journal) × IsJournalText bytes j × (v ≡ view_verdict view (ledger_of j))
