use Rattle.std.proofs.Common.{◌≡◌, ℕ, suc, ◌-◌, Some, refl, sym, ◌∙◌, ap, subst, lit≤}
use Rattle.std.specs.Fmt.{digits}
use Rattle.drmaa_types.specs.Moments.{greatest}
use Rattle.drmaa_model.specs.Events.{is_event, next_event}
use Rattle.drmaa_model.specs.Load.{first_from}
use Rattle.drmaa_model.specs.World.{World, opening_world}
use Rattle.model_rows.specs.Events.{eventful}
use Rattle.model_rows.specs.Machines.{node}
use Rattle.model_rows.proofs.EventWorlds.{begun, passing}
use Rattle.model_rows.proofs.Walks.{IsWalk, walk-legal, walk-ends}
use Rattle.model_rows.proofs.events.time_has_a_next_event.Goals as goal

walk-eventful : IsWalk (opening_world node) eventful passing
unfolding first_from greatest digits
walk-eventful = (record { answered = refl; within = lit≤ tt }, (record { answered = refl; within = lit≤ tt }, (record { answered = refl; within = lit≤ tt }, (record { answered = refl; within = lit≤ tt }, (record { answered = refl; within = lit≤ tt }, (record { answered = refl; within = lit≤ tt }, tt))))))

pub returns-clause-legal : goal.returns-clause-legal
returns-clause-legal c = walk-legal (opening_world node) eventful passing walk-eventful

-- So many moments are looked at, whatever number there are besides.
steps-planned : (rest : ℕ) → first_from 1 (suc (suc (suc rest))) (is_event begun) ≡ Some 3
unfolding first_from
steps-planned rest = refl

count-planned : greatest - 0 ≡ suc (suc (suc 99_999_999_997))
unfolding greatest
count-planned = refl

pub returns-clause-planned : goal.returns-clause-planned
returns-clause-planned c =
    subst (λ (w : World). next_event w.plan 0 ≡ Some 3) (sym (walk-ends (opening_world node) eventful passing walk-eventful))
    (ap (λ (n : ℕ). first_from 1 n (is_event begun)) count-planned ∙ steps-planned 99_999_999_997)

steps-start : (rest : ℕ) → first_from 4 (suc (suc rest)) (is_event begun) ≡ Some 5
unfolding first_from
steps-start rest = refl

count-start : greatest - 3 ≡ suc (suc 99_999_999_995)
unfolding greatest
count-start = refl

pub returns-clause-start : goal.returns-clause-start
returns-clause-start c =
    subst (λ (w : World). next_event w.plan 3 ≡ Some 5) (sym (walk-ends (opening_world node) eventful passing walk-eventful))
    (ap (λ (n : ℕ). first_from 4 n (is_event begun)) count-start ∙ steps-start 99_999_999_995)

steps-deadline : (rest : ℕ) → first_from 6 (suc (suc rest)) (is_event begun) ≡ Some 7
unfolding first_from
steps-deadline rest = refl

count-deadline : greatest - 5 ≡ suc (suc 99_999_999_993)
unfolding greatest
count-deadline = refl

pub returns-clause-deadline : goal.returns-clause-deadline
returns-clause-deadline c =
    subst (λ (w : World). next_event w.plan 5 ≡ Some 7) (sym (walk-ends (opening_world node) eventful passing walk-eventful))
    (ap (λ (n : ℕ). first_from 6 n (is_event begun)) count-deadline ∙ steps-deadline 99_999_999_993)

steps-from : (rest : ℕ) → first_from 8 (suc (suc (suc rest))) (is_event begun) ≡ Some 10
unfolding first_from
steps-from rest = refl

count-from : greatest - 7 ≡ suc (suc (suc 99_999_999_990))
unfolding greatest
count-from = refl

pub returns-clause-from : goal.returns-clause-from
returns-clause-from c =
    subst (λ (w : World). next_event w.plan 7 ≡ Some 10) (sym (walk-ends (opening_world node) eventful passing walk-eventful))
    (ap (λ (n : ℕ). first_from 8 n (is_event begun)) count-from ∙ steps-from 99_999_999_990)

steps-until : (rest : ℕ) → first_from 11 (suc (suc (suc (suc (suc (suc (suc (suc (suc (suc rest)))))))))) (is_event begun) ≡ Some 20
unfolding first_from
steps-until rest = refl

count-until : greatest - 10 ≡ suc (suc (suc (suc (suc (suc (suc (suc (suc (suc 99_999_999_980)))))))))
unfolding greatest
count-until = refl

pub returns-clause-until : goal.returns-clause-until
returns-clause-until c =
    subst (λ (w : World). next_event w.plan 10 ≡ Some 20) (sym (walk-ends (opening_world node) eventful passing walk-eventful))
    (ap (λ (n : ℕ). first_from 11 n (is_event begun)) count-until ∙ steps-until 99_999_999_980)
