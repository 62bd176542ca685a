-- A call on one job acts on one job at most.
use Rattle.std.proofs.Common.{◌≡◌, ℕ, ◌<◌, ◌≤◌, true, false, cond, ◌&&◌, List, [], ◌∷◌, filter, length, refl, ◌∙◌, ap, arith}
use Rattle.std.specs.List.{AllByRecursion}
use Rattle.std.proofs.lemmas.Bool.{eqb-true, ne_eqb, not-true}
use Rattle.drmaa_types.specs.declared.identifiers.JobId.{JobId}
use Rattle.drmaa_types.specs.declared.states.Control.{Control}
use Rattle.drmaa_model.specs.declared.calls.Target.{Target}
use Rattle.drmaa_model.specs.declared.calls.Target.TheVariants as target
use Rattle.drmaa_model.specs.declared.rows.Row.{Row}
use Rattle.drmaa_model.specs.Controlling.{is_controlled, permits}
use Rattle.drmaa_model.specs.Fit.{IsRising, IsFit, number_of}
use Rattle.drmaa_model.specs.FitLaws.{advance-fit}
use Rattle.drmaa_model.specs.Growth.{is_growing}
use Rattle.drmaa_model.specs.Plan.{Plan}
use Rattle.drmaa_model.specs.Rows.{is_of}
use Rattle.drmaa_model.specs.Time.{rows_at}
use Rattle.plan_book.specs.Sweeps.{acted, growth, may_add_order}
use Rattle.scheduler_core.specs.Targets.{is_one_quiet}

none-of : (job : JobId) (what : Control) (n : ℕ) (rows : List Row) → n ≡ job.0 → AllByRecursion (λ (y : Row). n < number_of y) rows → length (filter (is_controlled (target.Job job) what) rows) ≡ 0
none-of job what n [] is above = refl
none-of job what n (r ∷ rows) is above =
    let over = above.0 in
    let other : is_of job r ≡ false = ne_eqb r.job.0 job.0 (λ e. omega (arith, e, is, over)) in
    ap (λ b. length (cond (b && permits what r) (r ∷ filter (is_controlled (target.Job job) what) rows) (filter (is_controlled (target.Job job) what) rows))) other
    ∙ none-of job what n rows is above.1

one-of : (job : JobId) (what : Control) (rows : List Row) → IsRising number_of rows → length (filter (is_controlled (target.Job job) what) rows) ≤ 1
one-of job what [] rising = omega arith
one-of job what (r ∷ rows) rising =
    let rest = filter (is_controlled (target.Job job) what) rows in
    (elim (is_of job r) as (λ b. is_of job r ≡ b → length (cond (b && permits what r) (r ∷ rest) rest) ≤ 1) [
      | false ↦ λ e. one-of job what rows rising.1
      | true ↦ λ e.
          (let none = none-of job what r.job.0 rows (eqb-true r.job.0 job.0 e) rising.0 in
          elim (permits what r) as (λ b. length (cond b (r ∷ rest) rest) ≤ 1) [ true ↦ omega (arith, none) | false ↦ omega (arith, none) ])
    ]) refl

growth-few : (what : Control) (n : ℕ) → growth what n ≤ n
growth-few what n = elim (is_growing what) as (λ b. cond {A = ℕ} b n 0 ≤ n) [ true ↦ omega arith | false ↦ omega arith ]

acted-one : (t : Target) (what : Control) (rows : List Row) → IsRising number_of rows → is_one_quiet t what ≡ true → acted t what rows ≤ 1
acted-one (target.Job job) what rows rising quiet = one-of job what rows rising
acted-one (target.Array array) what rows rising quiet = absurd (cc)

-- a call that holds or releases one job wants room for one change
pub grows-one : (t : Target) (what : Control) (at : ℕ) (p : Plan) → IsFit p → is_one_quiet t what ≡ true → growth what (acted t what (rows_at at p)) ≤ 1
grows-one t what at p fit quiet =
    omega (arith, growth-few what (acted t what (rows_at at p)), acted-one t what (rows_at at p) (advance-fit 0 at p fit).jobs.rising quiet)

-- and asks for no signal
pub asks-none : (t : Target) (what : Control) → is_one_quiet t what ≡ true → may_add_order what ≡ false
asks-none (target.Job job) what quiet = not-true (may_add_order what) quiet
asks-none (target.Array array) what quiet = absurd (cc)
