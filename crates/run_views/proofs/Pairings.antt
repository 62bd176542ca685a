-- How far the events of a history are gone through, from the last one on.
use Rattle.std.proofs.Common.{◌≡◌, ℕ, List, [], ◌∷◌, ◌++◌, reverse, Option, Some, refl, sym, ap, ◌∙◌}
use Rattle.std.specs.Prelude.{◌&&◌, ◌==◌, if◌then◌else◌}
use Rattle.std.proofs.lemmas.List.{append_assoc, append-nil, reverse-append}
use Rattle.run_views.specs.declared.runs.EndReport.{EndReport}
use Rattle.run_views.specs.declared.runs.Run.{Run}
use Rattle.run_views.specs.declared.runs.RunEnd.{RunEnd}
use Rattle.run_views.specs.declared.runs.RunEvent.{RunEvent}
use Rattle.run_views.specs.declared.runs.RunEvent.TheVariants.{Launched, Ended}
use Rattle.run_views.specs.Ends.{end_in, Notes, Shows}
use Rattle.run_views.specs.Runs.{end_among, paired}

-- The events behind those that are left are gone through: their runs are there, the last one first, and their ends.
pub record IsPaired (events left : List RunEvent) (runs : List Run) (ends : List ((ℕ × ℕ) × RunEnd)) : Type 0 where
  pub later : List RunEvent
  pub placed : left ++ later ≡ events
  pub runs_are : reverse runs ≡ paired later
  pub ends_are : Shows ends later

pub nothing_yet : (events : List RunEvent) → IsPaired events events [] []
nothing_yet events = record { later = []; placed = append-nil events; runs_are = refl; ends_are = λ job attempt. refl }

moved : (left rest later events : List RunEvent) (event : RunEvent) → left ≡ rest ++ event ∷ [] → left ++ later ≡ events → rest ++ event ∷ later ≡ events
moved left rest later events event last placed = sym (append_assoc rest (event ∷ []) later) ∙ ap (λ (es : List RunEvent). es ++ later) (sym last) ∙ placed

pub one_launched : (events left rest : List RunEvent) (runs : List Run) (ends : List ((ℕ × ℕ) × RunEnd)) (run : Run) → left ≡ rest ++ Launched run ∷ []
    → IsPaired events left runs ends → IsPaired events rest (runs ++ record run { end = end_in ends run.job.0 run.attempt } ∷ []) ends
one_launched events left rest runs ends run last was = record {
  later = Launched run ∷ was.later;
  placed = moved left rest was.later events (Launched run) last was.placed;
  runs_are =
      reverse-append runs (record run { end = end_in ends run.job.0 run.attempt } ∷ [])
      ∙ ap (λ (e : Option RunEnd). record run { end = e } ∷ reverse runs) (was.ends_are run.job.0 run.attempt)
      ∙ ap (λ (rs : List Run). record run { end = end_among run.job.0 run.attempt was.later } ∷ rs) was.runs_are;
  ends_are = was.ends_are;
}

pub one_ended : (events left rest : List RunEvent) (runs : List Run) (ends more : List ((ℕ × ℕ) × RunEnd)) (report : EndReport) → left ≡ rest ++ Ended report ∷ []
    → Notes ends report more → IsPaired events left runs ends → IsPaired events rest runs more
one_ended events left rest runs ends more report last notes was = record {
  later = Ended report ∷ was.later;
  placed = moved left rest was.later events (Ended report) last was.placed;
  runs_are = was.runs_are;
  ends_are = λ job attempt. notes job attempt ∙ ap (λ (e : Option RunEnd). if (report.job.0 == job) && (report.attempt == attempt) then Some report.end else e) (was.ends_are job attempt);
}

pub all_paired : (events left : List RunEvent) (runs : List Run) (ends : List ((ℕ × ℕ) × RunEnd)) → left ≡ [] → IsPaired events left runs ends → reverse runs ≡ paired events
all_paired events left runs ends none was =
    was.runs_are ∙ ap paired (ap (λ (es : List RunEvent). es ++ was.later) (sym none) ∙ was.placed)
