use Rattle.std.proofs.Common.{◌≡◌, ◌≤◌, ◌||◌, ◌==◌, false, [], ◌∷◌, Some, refl, ap, ◌∙◌, arith, lit≤, lit<}
use Rattle.std.proofs.lemmas.Bool.{ne_eqb}
use Rattle.std.specs.Fmt.{digits}
use Rattle.drmaa_types.specs.Moments.{greatest}
use Rattle.drmaa_model.specs.Consistent.{IsConsistent}
use Rattle.drmaa_model.specs.Events.{next_event}
use Rattle.drmaa_model.specs.History.{IsLegal, replay}
use Rattle.drmaa_model.specs.Load.{first_from}
use Rattle.drmaa_model.specs.Steps.{IsStep}
use Rattle.forecast_laws.specs.Forecasts.{IsDone, ends, launches, IsForecast}
use Rattle.forecast_rows.specs.Histories.{node, beside_reservation, second_starts}
use Rattle.forecast_rows.proofs.Foretelling.{at-first, at-more, at-next, at-last, event-at, no-event, foretold}
use Rattle.forecast_rows.proofs.Worlds.{beside_begun, beside_ended, beside_launched, beside_over, end_at, launch_at}
use Rattle.forecast_rows.proofs.rows.a_job_starts_where_a_reservation_ends.Goals as goal

legal : IsLegal node beside_reservation
unfolding first_from greatest digits
legal = (record { answered = refl; within = lit≤ tt }, (record { answered = refl; within = lit≤ tt }, (record { answered = refl; within = lit≤ tt }, (record { answered = refl; within = lit≤ tt }, (record { answered = refl; within = lit≤ tt }, (record { answered = refl; within = lit≤ tt }, tt))))))

begun : replay node beside_reservation ≡ beside_begun
unfolding first_from greatest digits
begun = refl

within : 200 ≤ greatest
unfolding greatest
within = lit≤ tt

-- ---- steps

ended : IsStep beside_begun (end_at 50 1) beside_ended
unfolding first_from greatest digits
ended = record { answered = refl; within = lit≤ tt }

launched : IsStep beside_ended (launch_at 100 2) beside_launched
unfolding first_from greatest digits
launched = record { answered = refl; within = lit≤ tt }

over : IsStep beside_launched (end_at 150 2) beside_over
unfolding first_from greatest digits
over = record { answered = refl; within = lit≤ tt }

-- ---- nothing is left to do

done-begun : IsDone beside_begun 0
unfolding first_from greatest digits
done-begun = record { launched = refl; ended = (refl, (refl, tt)) }

-- job 2 would run into the reservation, both as job 1 ends and as the reservation begins
done-ended : IsDone beside_ended 50
unfolding first_from greatest digits
done-ended = record { launched = refl; ended = (refl, (refl, tt)) }

done-within : IsDone beside_ended 60
unfolding first_from greatest digits
done-within = record { launched = refl; ended = (refl, (refl, tt)) }

done-launched : IsDone beside_launched 100
unfolding first_from greatest digits
done-launched = record { launched = refl; ended = (refl, (refl, tt)) }

done-over : IsDone beside_over 150
unfolding first_from greatest digits
done-over = record { launched = refl; ended = (refl, (refl, tt)) }

-- ---- events

first-end : next_event beside_begun.plan 0 ≡ Some 50
first-end = event-at beside_begun.plan 0 50 (lit< tt) (omega (arith, within)) refl (λ m low high.
    ap (λ b. (b || false) || ((60 == m || 100 == m) || false)) (ne_eqb 50 m (λ same. omega (arith, same, high)))
    ∙ ap (λ b. (b || 100 == m) || false) (ne_eqb 60 m (λ same. omega (arith, same, high)))
    ∙ ap (λ b. b || false) (ne_eqb 100 m (λ same. omega (arith, same, high))))

reservation-begins : next_event beside_ended.plan 50 ≡ Some 60
reservation-begins = event-at beside_ended.plan 50 60 (lit< tt) (omega (arith, within)) refl (λ m low high.
    ap (λ b. (b || 100 == m) || false) (ne_eqb 60 m (λ same. omega (arith, same, high)))
    ∙ ap (λ b. b || false) (ne_eqb 100 m (λ same. omega (arith, same, high))))

reservation-ends : next_event beside_ended.plan 60 ≡ Some 100
reservation-ends = event-at beside_ended.plan 60 100 (lit< tt) (omega (arith, within)) refl (λ m low high.
    ap (λ b. (b || 100 == m) || false) (ne_eqb 60 m (λ same. omega (arith, same, low)))
    ∙ ap (λ b. b || false) (ne_eqb 100 m (λ same. omega (arith, same, high))))

second-end : next_event beside_launched.plan 100 ≡ Some 150
second-end = event-at beside_launched.plan 100 150 (lit< tt) (omega (arith, within)) refl
    (λ m low high. ap (λ b. (b || false) || false) (ne_eqb 150 m (λ same. omega (arith, same, high))))

-- ---- the forecast

forecast : IsConsistent beside_begun → IsForecast beside_begun (end_at 50 1 ∷ launch_at 100 2 ∷ end_at 150 2 ∷ [])
forecast ok =
    let first = at-next 0 50 beside_begun beside_begun [] ok (at-first beside_begun (omega (arith, within))) done-begun first-end in
    let freed = at-more 50 beside_begun beside_begun beside_ended [] (end_at 50 1) first refl refl ended (ends _ 1 refl refl refl) tt in
    let begins = at-next 50 60 beside_begun beside_ended (end_at 50 1 ∷ []) ok freed done-ended reservation-begins in
    let over_there = at-next 60 100 beside_begun beside_ended (end_at 50 1 ∷ []) ok begins done-within reservation-ends in
    let filled = at-more 100 beside_begun beside_ended beside_launched (end_at 50 1 ∷ []) (launch_at 100 2) over_there refl refl launched (launches refl) (record { time = lit≤ tt; ends_first = λ same job attempt exit reports. absurd (cc) }, tt) in
    let second = at-next 100 150 beside_begun beside_launched (end_at 50 1 ∷ launch_at 100 2 ∷ []) ok filled done-launched second-end in
    let empty = at-more 150 beside_begun beside_launched beside_over (end_at 50 1 ∷ launch_at 100 2 ∷ []) (end_at 150 2) second refl refl over (ends _ 1 refl refl refl)
    (record { time = lit≤ tt; ends_first = λ same job attempt exit reports. absurd (omega (arith, same)) }, (record { time = lit≤ tt; ends_first = λ same job attempt exit reports. absurd (omega (arith, same)) }, tt)) in
    at-last 150 beside_begun beside_over (end_at 50 1 ∷ launch_at 100 2 ∷ end_at 150 2 ∷ []) ok empty done-over (no-event beside_over.plan 150 (λ m low. refl))

pub returns-clause-legal : goal.returns-clause-legal
returns-clause-legal c = legal

pub returns-clause-starts : goal.returns-clause-starts
returns-clause-starts c = foretold node beside_reservation beside_begun (end_at 50 1 ∷ launch_at 100 2 ∷ end_at 150 2 ∷ []) (second_starts 100) legal begun forecast refl
