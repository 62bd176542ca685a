-- Time changes neither the home of a job nor its array.
use Rattle.std.proofs.Common.{◌≡◌, ℕ, ◌&&◌, ◌||◌, Bool, true, false, cond, List, [], ◌∷◌, map, filter, Option, refl, sym, ap, subst, ◌∙◌}
use Rattle.std.specs.List.{list_any}
use Rattle.drmaa_types.specs.declared.identifiers.ArrayId.{ArrayId}
use Rattle.drmaa_model.specs.declared.rows.Row.{Row}
use Rattle.drmaa_model.specs.Homes.{is_same_home}
use Rattle.drmaa_model.specs.Load.{is_member}
use Rattle.drmaa_model.specs.Plan.{Plan}
use Rattle.drmaa_model.specs.Time.{rows_at, called_in, lapsed, let_go, come_to}
use Rattle.drmaa_model.specs.TimeLaws.{timed-only}
use Rattle.scheduler_core.specs.Facts.{is_own_member}

-- the course of a row has no part in whose member it is
members-map : (home : Option ℕ) (array : ArrayId) (f g : Row → Row) → ((r : Row) → f (g r) ≡ record r { course = (f (g r)).course }) → (rows : List Row)
    → list_any (is_own_member home array) rows ≡ list_any (is_member array) (filter (λ (row : Row). is_same_home home row.home) (map f (map g rows)))
members-map home array f g only [] = refl
members-map home array f g only (r ∷ rows) =
    let here : is_same_home home (f (g r)).home ≡ is_same_home home r.home = ap (λ (x : Row). is_same_home home x.home) (only r) in
    let member : is_member array (f (g r)) ≡ is_member array r = ap (λ (x : Row). is_member array x) (only r) in
    let rest = members-map home array f g only rows in
    let left = filter (λ (row : Row). is_same_home home row.home) (map f (map g rows)) in
    subst (λ (h : Bool). list_any (is_own_member home array) (r ∷ rows) ≡ list_any (is_member array) (cond h (f (g r) ∷ left) left)) (sym here)
    ((elim (is_same_home home r.home) as (λ (h : Bool). (h && is_member array r) || list_any (is_own_member home array) rows ≡ list_any (is_member array) (cond h (f (g r) ∷ left) left)) [
      | true ↦ ap (λ (m : Bool). m || list_any (is_own_member home array) rows) (sym member) ∙ ap (λ (b : Bool). is_member array (f (g r)) || b) rest
      | false ↦ rest
    ]))

pub members-then : (at : ℕ) (p : Plan) (home : Option ℕ) (array : ArrayId)
    → list_any (is_own_member home array) p.rows ≡ list_any (is_member array) (filter (λ (row : Row). is_same_home home row.home) (rows_at at p))
members-then at p home array =
    let q = let_go (come_to at p) in
    members-map home array (called_in q.moment q.reservations) (lapsed q.moment q.reservations) (timed-only q.moment q.reservations) p.rows
