use Rattle.std.proofs.Common.{◌≡◌, suc, ◌+◌, ◌<◌, ◌∷◌, ◌++◌, Bool, true, false, not, Option, List, drop, map, filter, length, refl, sym, ◌∙◌, ap, subst, to_z, of_z, w32, rules, arith, drop-cons}
use Rattle.std.specs.Prelude.{ℤ, int_lt}
use Rattle.std.proofs.lemmas.Int.{to_z-of_z}
use Rattle.std.proofs.Math.ListN.{drop_of_length-le}
use Rattle.std.specs.Option.{option_copied, option_map, option_map_or}
use Rattle.drmaa_model.specs.declared.rows.Row.{Row}
use Rattle.drmaa_model.specs.FitLaws.{all-append}
use Rattle.drmaa_model.specs.NextLaunch.{best_of}
use Rattle.drmaa_model.specs.Time.{lasts}
use Rattle.drmaa_model.specs.TimeLaws.{timed-wants}
use Rattle.plan_book.specs.Book.{plan_of}
use Rattle.plan_book.specs.Open.{IsPriorityBound}
use Rattle.scheduler_core.specs.Firsts.{first_of}
use Rattle.scheduler_core.specs.Launches.{seen_row, may_launch}
use Rattle.scheduler_core.proofs.LaunchSteps.{chosen, passed}
use Rattle.scheduler_core.proofs.OpenLaws.{all-drop, none-better}
use Rattle.scheduler_core.proofs.ready.best_among.Goals as goal

pub loop-row-init : goal.loop-row-init
loop-row-init c = ((λ rest. refl), c.requires.known, c.requires.unmet)

pub loop-row-preserved : goal.loop-row-preserved
loop-row-preserved c =
    let p = plan_of c.args.book.now in
    let at = seen_row c.args.moment p in
    let test = may_launch c.args.moment p in
    let xs = c.args.rows.now in
    let i = c.loop-row.row-index in
    let row = c.row-item.result in
    let best = option_copied c.loop-row.best in
    let within : i < length xs = omega arith in
    let front : drop i xs ≡ row ∷ drop (i + 1) xs =
    (let e : suc i ≡ i + 1 = omega arith in drop-cons xs i row within ∙ ap (λ (r : Row). r ∷ drop (suc i) xs) (sym c.row-item.is) ∙ ap (λ n. row ∷ drop n xs) e) in (
      (λ (others : List Row).
          (let rest = drop (i + 1) xs ++ others in
          let all = first_of (option_map at (option_copied c.args.before)) (best_of (filter test (map at (xs ++ others)))) in
          let before : first_of (option_map at best) (best_of (filter test (map at (row ∷ rest)))) ≡ all =
          ap (λ (ys : List Row). first_of (option_map at best) (best_of (filter test (map at (ys ++ others))))) (sym front) ∙ c.loop-row.invariant.0 others in
          let after = λ (o : Option Row). first_of (option_map at o) (best_of (filter test (map at rest))) in
          (elim (test (at row)) as (λ (t : Bool). test (at row) ≡ t → after (option_copied c.best_with-best.result) ≡ all) [
            | true ↦ λ h. ap after (c.best_with-best.ensures.may h) ∙ chosen at (timed-wants c.args.moment (filter (lasts c.args.moment) p.reservations)) test best row rest h ∙ before
            | false ↦ λ h. ap after (c.best_with-best.ensures.not h) ∙ passed at test best row rest h ∙ before
          ]) refl)),
      c.best_with-best.ensures.known,
      c.best_with-best.ensures.unmet,
    )

-- no job that is left has a greater priority
pub returns-then-has_priority : goal.returns-then-has_priority
returns-then-has_priority c =
    let p = plan_of c.args.book.now in
    let at = seen_row c.args.moment p in
    let test = may_launch c.args.moment p in
    let xs = c.args.rows.now in
    let i = c.loop-row.row-index in
    let best = option_copied c.loop-row.best in
    let greatest = c.args.greatest in
    let wants = timed-wants c.args.moment (filter (lasts c.args.moment) p.reservations) in
    let same : to_z w32 (of_z w32 greatest) ≡ greatest = to_z-of_z w32 greatest (search rules) in
    let high : option_map_or (λ (first : Row). not (int_lt first.wants.priority greatest)) best false ≡ true =
    subst (λ (least : ℤ). option_map_or (λ (first : Row). not (int_lt first.wants.priority least)) best false ≡ true) same
    (sym c.has_priority.ensures ∙ c.if-has_priority.true) in
    record {
      value = λ (rest : List Row) (most : IsPriorityBound rest greatest).
          (let left : IsPriorityBound (drop i xs ++ rest) greatest =
          all-append (λ (row : Row). int_lt greatest row.wants.priority ≡ false) (drop i xs) rest (all-drop (λ (row : Row). int_lt greatest row.wants.priority ≡ false) xs i c.requires.bound) most in
          sym (none-better at wants test best greatest high rest most) ∙ none-better at wants test best greatest high (drop i xs ++ rest) left ∙ c.loop-row.invariant.0 rest);
      known = c.loop-row.invariant.1;
      unmet = c.loop-row.invariant.2;
    }

pub returns : goal.returns
returns c =
    let p = plan_of c.args.book.now in
    let at = seen_row c.args.moment p in
    let test = may_launch c.args.moment p in
    let xs = c.args.rows.now in
    record {
      value = λ (rest : List Row) (most : IsPriorityBound rest c.args.greatest).
          ap (λ (ys : List Row). first_of (option_map at (option_copied c.loop-row.best)) (best_of (filter test (map at (ys ++ rest))))) (sym (drop_of_length-le xs c.loop-row-test.false)) ∙ c.loop-row.invariant.0 rest;
      known = c.loop-row.invariant.1;
      unmet = c.loop-row.invariant.2;
    }
