-- Where no job holds slots no order stands, so that a plan is settled where none is ready.
use Rattle.std.proofs.Common.{◌≡◌, ℕ, ◌<◌, ◌≤◌, ◌==◌, ◌&&◌, Bool, true, false, List, [], ◌∷◌, map, filter, length, max, Option, Some, None, refl, sym, ◌∙◌, ap, arith}
use Rattle.std.specs.Prelude.{is_none, is_some, not}
use denote.Bor.{Bor}
use Rattle.std.specs.List.{AllByRecursion}
use Rattle.std.specs.Option.{option_map, option_map_or, option_copied}
use Rattle.std.proofs.lemmas.Bool.{eqb-true, eq-eqb}
use Rattle.drmaa_types.specs.States.{is_started}
use Rattle.drmaa_model.specs.declared.courses.Order.{Order}
use Rattle.drmaa_model.specs.declared.rows.Row.{Row}
use Rattle.drmaa_model.specs.Fit.{IsFit, IsFor, IsSound}
use Rattle.drmaa_model.specs.FitLaws.{advance-fit, held-advance}
use Rattle.drmaa_model.specs.NextLaunch.{held, is_ready, best_of, slots_for, next_launch, settled}
use Rattle.drmaa_model.specs.Plan.{Plan}
use Rattle.drmaa_model.specs.RowLaws.{row_of-all}
use Rattle.drmaa_model.specs.Rows.{is_of, row_of}
use Rattle.drmaa_model.specs.SumLaws.{sum-has}
use Rattle.drmaa_model.specs.Time.{advance_plan}
use Rattle.scheduler_core.specs.Launches.{may_launch, seen_row}
use Rattle.scheduler_core.proofs.LaunchSteps.{look-at}

none-asked : (q : Plan) (orders : List Order) → IsFit q → held q.rows ≡ 0 → AllByRecursion (IsFor q.rows) orders → length orders ≡ 0
none-asked q [] fit none all = refl
none-asked q (o ∷ orders) fit none all =
    (elim (row_of o.job q.rows) as (λ r. row_of o.job q.rows ≡ r → option_map_or (λ (row : Row). is_started row.course.state) r false ≡ true → length (o ∷ orders) ≡ 0) [
      | None ↦ λ e h. absurd (cc)
      | Some row ↦ λ e h.
          (let sound : IsSound row.wants row.course = row_of-all (λ (x : Row). IsSound x.wants x.course) o.job q.rows row fit.sound e in
          let part : row.course.held ≤ held q.rows = sum-has (λ (x : Row). x.course.held) (is_of o.job) row q.rows e in
          let least = sound.least in
          let holds = (sound.started h).1 in
          absurd (omega arith))
    ]) refl all.0.started

none-kept : {A B : Type 0} (f : A → B) (o : Option A) → is_none (option_map f o) ≡ is_none o
none-kept f None = refl
none-kept f (Some x) = refl

-- the look, where no job holds slots
pub settled-look : (at m : ℕ) (p : Plan) (o : Option Row) → IsFit p → m ≡ max p.moment at → held p.rows ≡ 0
    → option_map (seen_row m p) o ≡ best_of (filter (may_launch m p) (map (seen_row m p) p.rows)) → is_none o ≡ settled (advance_plan 0 at p)
settled-look at m p o fit m_is none look =
    let q = advance_plan 0 at p in
    let fit_q : IsFit q = advance-fit 0 at p fit in
    let nothing : held q.rows ≡ 0 = held-advance 0 at p fit ∙ none in
    let idle : (held q.rows == 0) ≡ true = eq-eqb (held q.rows) 0 nothing in
    let quiet : (length q.orders == 0) ≡ true = eq-eqb (length q.orders) 0 (none-asked q q.orders fit_q nothing fit_q.asked) in
    let same : is_none (next_launch q) ≡ is_none o =
    none-kept (λ (r : Row). (r, slots_for q r)) (best_of (filter (λ (r : Row). is_ready q r.wants.min r) q.rows))
    ∙ ap (λ (x : Option Row). is_none x) (sym (look-at at m p o fit m_is look)) ∙ none-kept (seen_row m p) o in
    sym (ap (λ b. (b && (length q.orders == 0)) && is_none (next_launch q)) idle ∙ ap (λ b. b && is_none (next_launch q)) quiet ∙ same)

pub settled-busy : (at : ℕ) (p : Plan) → IsFit p → 0 < held p.rows → false ≡ settled (advance_plan 0 at p)
settled-busy at p fit some =
    let q = advance_plan 0 at p in
    let same = held-advance 0 at p fit in
    let busy : (held q.rows == 0) ≡ false =
    (elim (held q.rows == 0) as (λ b. (held q.rows == 0) ≡ b → b ≡ false) [
      | false ↦ λ e. refl
      | true ↦ λ e. (let none = eqb-true (held q.rows) 0 e in absurd (omega arith))
    ]) refl in
    sym (ap (λ b. (b && (length q.orders == 0)) && is_none (next_launch q)) busy)

-- the answer to whether there is one, of what a look borrows
pub none-copied : (o : Option (Bor Row)) (b : Bool) → is_some o ≡ not b → b ≡ is_none (option_copied o)
none-copied None b is = (elim b as (λ x. is_some (let o : Option (Bor Row) = None in o) ≡ not x → x ≡ true) [ true ↦ λ e. refl | false ↦ λ e. absurd (cc) ]) is
none-copied (Some r) b is = (elim b as (λ x. true ≡ not x → x ≡ false) [ true ↦ λ e. absurd (cc) | false ↦ λ e. refl ]) is
