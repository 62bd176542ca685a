use Rattle.std.proofs.Common.{◌≡◌, ◌≤◌, ◌||◌, false, [], ◌∷◌, Some, refl, ap, arith, lit≤, lit<}
use Rattle.std.proofs.lemmas.Bool.{ne_eqb}
use Rattle.std.specs.Fmt.{digits}
use Rattle.drmaa_types.specs.Moments.{greatest}
use Rattle.drmaa_model.specs.Consistent.{IsConsistent}
use Rattle.drmaa_model.specs.Events.{next_event}
use Rattle.drmaa_model.specs.History.{IsLegal, replay}
use Rattle.drmaa_model.specs.Load.{first_from}
use Rattle.drmaa_model.specs.Steps.{IsStep}
use Rattle.forecast_laws.specs.Forecasts.{IsDone, ends, launches, IsForecast}
use Rattle.forecast_rows.specs.Histories.{node, two_jobs, second_starts}
use Rattle.forecast_rows.proofs.Foretelling.{at-first, at-more, at-next, at-last, event-at, no-event, foretold}
use Rattle.forecast_rows.proofs.Worlds.{jobs_begun, jobs_ended, jobs_launched, jobs_over, end_at, launch_at}
use Rattle.forecast_rows.proofs.rows.a_job_starts_where_another_ends.Goals as goal

legal : IsLegal node two_jobs
unfolding first_from greatest digits
legal = (record { answered = refl; within = lit≤ tt }, (record { answered = refl; within = lit≤ tt }, (record { answered = refl; within = lit≤ tt }, (record { answered = refl; within = lit≤ tt }, tt))))

begun : replay node two_jobs ≡ jobs_begun
unfolding first_from greatest digits
begun = refl

within : 150 ≤ greatest
unfolding greatest
within = lit≤ tt

-- ---- steps

ended : IsStep jobs_begun (end_at 50 1) jobs_ended
unfolding first_from greatest digits
ended = record { answered = refl; within = lit≤ tt }

launched : IsStep jobs_ended (launch_at 50 2) jobs_launched
unfolding first_from greatest digits
launched = record { answered = refl; within = lit≤ tt }

over : IsStep jobs_launched (end_at 100 2) jobs_over
unfolding first_from greatest digits
over = record { answered = refl; within = lit≤ tt }

-- ---- nothing is left to do

done-begun : IsDone jobs_begun 0
unfolding first_from greatest digits
done-begun = record { launched = refl; ended = (refl, (refl, tt)) }

done-launched : IsDone jobs_launched 50
unfolding first_from greatest digits
done-launched = record { launched = refl; ended = (refl, (refl, tt)) }

done-over : IsDone jobs_over 100
unfolding first_from greatest digits
done-over = record { launched = refl; ended = (refl, (refl, tt)) }

-- ---- events

first-end : next_event jobs_begun.plan 0 ≡ Some 50
first-end = event-at jobs_begun.plan 0 50 (lit< tt) (omega (arith, within)) refl
    (λ m low high. ap (λ b. (b || false) || false) (ne_eqb 50 m (λ same. omega (arith, same, high))))

second-end : next_event jobs_launched.plan 50 ≡ Some 100
second-end = event-at jobs_launched.plan 50 100 (lit< tt) (omega (arith, within)) refl
    (λ m low high. ap (λ b. (b || false) || false) (ne_eqb 100 m (λ same. omega (arith, same, high))))

-- ---- the forecast

forecast : IsConsistent jobs_begun → IsForecast jobs_begun (end_at 50 1 ∷ launch_at 50 2 ∷ end_at 100 2 ∷ [])
forecast ok =
    let first = at-next 0 50 jobs_begun jobs_begun [] ok (at-first jobs_begun (omega (arith, within))) done-begun first-end in
    let freed = at-more 50 jobs_begun jobs_begun jobs_ended [] (end_at 50 1) first refl refl ended (ends _ 1 refl refl refl) tt in
    let filled = at-more 50 jobs_begun jobs_ended jobs_launched (end_at 50 1 ∷ []) (launch_at 50 2) freed refl refl launched (launches refl) (record { time = lit≤ tt; ends_first = λ same job attempt exit reports. absurd (cc) }, tt) in
    let second = at-next 50 100 jobs_begun jobs_launched (end_at 50 1 ∷ launch_at 50 2 ∷ []) ok filled done-launched second-end in
    let empty = at-more 100 jobs_begun jobs_launched jobs_over (end_at 50 1 ∷ launch_at 50 2 ∷ []) (end_at 100 2) second refl refl over (ends _ 1 refl refl refl)
    (record { time = lit≤ tt; ends_first = λ same job attempt exit reports. absurd (omega (arith, same)) }, (record { time = lit≤ tt; ends_first = λ same job attempt exit reports. absurd (omega (arith, same)) }, tt)) in
    at-last 100 jobs_begun jobs_over (end_at 50 1 ∷ launch_at 50 2 ∷ end_at 100 2 ∷ []) ok empty done-over (no-event jobs_over.plan 100 (λ m low. refl))

pub returns-clause-legal : goal.returns-clause-legal
returns-clause-legal c = legal

pub returns-clause-starts : goal.returns-clause-starts
returns-clause-starts c = foretold node two_jobs jobs_begun (end_at 50 1 ∷ launch_at 50 2 ∷ end_at 100 2 ∷ []) (second_starts 50) legal begun forecast refl
