-- Whom a call is for, once time has come to its moment.
use Rattle.std.proofs.Common.{◌≡◌, ℕ, Bool, cond, not, ◌&&◌, ◌||◌, List, [], ◌∷◌, map, filter, find, max, Option, Some, None, refl, sym, ◌∙◌, ap}
use Rattle.std.specs.Prelude.{is_some}
use Rattle.std.specs.List.{list_any}
use Rattle.std.specs.Option.{option_map, option_map_or}
use Rattle.drmaa_types.specs.declared.refusals.Refusal.{Refusal}
use Rattle.drmaa_types.specs.declared.refusals.Refusal.TheVariants.{InvalidArgument, InvalidState}
use Rattle.drmaa_types.specs.declared.states.JobState.{JobState}
use Rattle.drmaa_types.specs.declared.states.JobState.TheVariants.{Undetermined}
use Rattle.drmaa_model.specs.declared.calls.Target.{Target}
use Rattle.drmaa_model.specs.declared.calls.Target.TheVariants as target
use Rattle.drmaa_model.specs.declared.courses.Course.{Course}
use Rattle.drmaa_model.specs.declared.rows.Row.{Row}
use Rattle.drmaa_model.specs.Plan.{Plan}
use Rattle.drmaa_model.specs.Targets.{is_meant, argument_of, first_state}
use Rattle.drmaa_model.specs.Time.{lasts, lapsed, called_in, rows_at}
use Rattle.drmaa_model.specs.TimeLaws.{timed-only, map-twice}
use Rattle.scheduler_core.specs.Targets.{may_act, refusal_of, row_then}
use Rattle.scheduler_core.specs.declared.targets.Act.{Act}
use Rattle.scheduler_core.proofs.RunningLaws.{find-map}
use Rattle.scheduler_core.proofs.Searches.{any-found}

meant-course : (t : Target) (r : Row) (course : Course) → is_meant t (record r { course = course }) ≡ is_meant t r
meant-course (target.Job job) r course = refl
meant-course (target.Array array) r course = refl

-- a step over rows after which the same are meant
module _ (t : Target) (f : Row → Row) (same : (r : Row) → is_meant t (f r) ≡ is_meant t r) where
  any-acts : (a : Act) (rows : List Row) → list_any (λ (row : Row). is_meant t row && may_act a row.course.state) (map f rows) ≡ list_any (λ (row : Row). is_meant t row && may_act a (f row).course.state) rows
  any-acts a [] = refl
  any-acts a (r ∷ rows) =
      ap (λ b. (b && may_act a (f r).course.state) || list_any (λ (row : Row). is_meant t row && may_act a row.course.state) (map f rows)) (same r)
      ∙ ap (λ b. (is_meant t r && may_act a (f r).course.state) || b) (any-acts a rows)

module _ (t : Target) (at : ℕ) (p : Plan) where
  same-meant : (r : Row) → is_meant t (row_then at p r) ≡ is_meant t r
  same-meant r = ap (is_meant t) (timed-only (max p.moment at) (filter (lasts (max p.moment at)) p.reservations) r) ∙ meant-course t r (row_then at p r).course

  rows-then : rows_at at p ≡ map (row_then at p) p.rows
  rows-then =
      let rs = filter (lasts (max p.moment at)) p.reservations in
      sym (map-twice (called_in (max p.moment at) rs) (lapsed (max p.moment at) rs) p.rows)

  pub any-then : (a : Act) → list_any (λ (row : Row). is_meant t row && may_act a (row_then at p row).course.state) p.rows ≡ list_any (λ (row : Row). is_meant t row && may_act a row.course.state) (rows_at at p)
  any-then a = sym (ap (list_any (λ (row : Row). is_meant t row && may_act a row.course.state)) rows-then ∙ any-acts t (row_then at p) same-meant a p.rows)

  pub state-then : option_map (λ (row : Row). (row_then at p row).course.state) (find (is_meant t) p.rows) ≡ option_map (λ (row : Row). row.course.state) (find (is_meant t) (rows_at at p))
  state-then =
      sym (ap (λ rows. option_map (λ (row : Row). row.course.state) (find (is_meant t) rows)) rows-then ∙ ap (option_map (λ (row : Row). row.course.state)) (find-map (is_meant t) (row_then at p) p.rows same-meant)
      ∙ elim (find (is_meant t) p.rows) as (λ o. option_map (λ (row : Row). row.course.state) (option_map (row_then at p) o) ≡ option_map (λ (row : Row). (row_then at p row).course.state) o) [ None ↦ refl | Some row ↦ refl ])

-- the table, by what is read of the jobs that are meant
abbrev table : Target → Bool → Bool → JobState → Option Refusal
table t meant acts state = cond (not meant) (Some (InvalidArgument (argument_of t))) (cond (not acts) (Some (InvalidState state)) None)

module _ (a : Act) (t : Target) (rows : List Row) where
  refusal-is : (o : Option JobState) → o ≡ option_map (λ (row : Row). row.course.state) (find (is_meant t) rows)
      → refusal_of a t rows ≡ table t (is_some o) (list_any (λ (row : Row). is_meant t row && may_act a row.course.state) rows) (option_map_or (λ (s : JobState). s) o Undetermined)
  refusal-is o is =
      let any = list_any (λ (row : Row). is_meant t row && may_act a row.course.state) rows in
      ap (λ b. table t b any (first_state t rows)) (any-found (is_meant t) rows)
      ∙ elim (find (is_meant t) rows) as (λ f. table t (is_some f) any (option_map_or (λ (row : Row). row.course.state) f Undetermined)
      ≡ table t (is_some (option_map (λ (row : Row). row.course.state) f)) any (option_map_or (λ (s : JobState). s) (option_map (λ (row : Row). row.course.state) f) Undetermined)) [ None ↦ refl | Some row ↦ refl ]
      ∙ ap (λ x. table t (is_some x) any (option_map_or (λ (s : JobState). s) x Undetermined)) (sym is)

  pub refusal-lost : None ≡ option_map (λ (row : Row). row.course.state) (find (is_meant t) rows) → refusal_of a t rows ≡ Some (InvalidArgument (argument_of t))
  refusal-lost is = refusal-is None is

  pub refusal-kept : (state : JobState) → Some state ≡ option_map (λ (row : Row). row.course.state) (find (is_meant t) rows)
      → refusal_of a t rows ≡ cond (not (list_any (λ (row : Row). is_meant t row && may_act a row.course.state) rows)) (Some (InvalidState state)) None
  refusal-kept state is = refusal-is (Some state) is
