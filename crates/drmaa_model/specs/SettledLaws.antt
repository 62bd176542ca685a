-- Laws of a settled plan: it has no job that holds slots and no order, and neither has the plan before time acted.
use Rattle.std.proofs.Common.{◌≡◌, ℕ, ◌+◌, true, ◌&&◌, ◌==◌, List, [], ◌∷◌, ◌++◌, length, map, filter, refl, sym, ◌∙◌, arith, length-append}
use Rattle.std.specs.Prelude.{is_none}
use Rattle.std.specs.List.{AllByRecursion}
use Rattle.std.proofs.lemmas.Bool.{and_parts, eqb-true}
use Rattle.std.proofs.lemmas.List.Sums.{sum_by-cons}
use Rattle.drmaa_model.specs.declared.courses.Order.{Order}
use Rattle.drmaa_model.specs.declared.rows.Row.{Row}
use Rattle.drmaa_model.specs.Fit.{IsFit}
use Rattle.drmaa_model.specs.FitLaws.{held-advance}
use Rattle.drmaa_model.specs.NextLaunch.{held, next_launch, settled}
use Rattle.drmaa_model.specs.Plan.{Plan}
use Rattle.drmaa_model.specs.Time.{is_due, kill_order, come_to, let_go, expire, advance_plan}

-- no job holds slots, and no order stands
pub record IsQuiet (p : Plan) : Type 0 where
  pub held : AllByRecursion (λ (row : Row). row.course.held ≡ 0) p.rows
  pub orders : p.orders ≡ []

holds-none : (rows : List Row) → held rows ≡ 0 → AllByRecursion (λ (row : Row). row.course.held ≡ 0) rows
holds-none [] h = tt
holds-none (r ∷ rows) h =
    let sum : r.course.held + held rows ≡ 0 = sym (sum_by-cons (λ (row : Row). row.course.held) r rows) ∙ h in
    (omega (arith, sum), holds-none rows (omega (arith, sum)))

none-left : (orders : List Order) → length orders ≡ 0 → orders ≡ []
none-left [] h = refl
none-left (o ∷ orders) h = absurd (omega (arith, h))

pub record Settles (p : Plan) : Type 0 where
  pub held : held p.rows ≡ 0
  pub orders : length p.orders ≡ 0

pub settles : (p : Plan) → settled p ≡ true → Settles p
settles p is =
    let all = and_parts ((held p.rows == 0) && (length p.orders == 0)) (is_none (next_launch p)) is in
    let both = and_parts (held p.rows == 0) (length p.orders == 0) all.0 in
    record { held = eqb-true (held p.rows) 0 both.0; orders = eqb-true (length p.orders) 0 both.1 }

pub settled-quiet : (p : Plan) → settled p ≡ true → IsQuiet p
settled-quiet p is = let s = settles p is in record { held = holds-none p.rows s.held; orders = none-left p.orders s.orders }

-- nor does the plan before its advance have any
pub settled-before : (entry at : ℕ) (p : Plan) → IsFit p → settled (advance_plan entry at p) ≡ true → IsQuiet p
settled-before entry at p fit is =
    let s = settles (advance_plan entry at p) is in
    let q = expire entry (let_go (come_to at p)) in
    let more : length (p.orders ++ map kill_order (filter (is_due q.moment q.reservations) q.rows)) ≡ 0 = s.orders in
    let sum = length-append p.orders (map kill_order (filter (is_due q.moment q.reservations) q.rows)) in
    record {
      held = holds-none p.rows (sym (held-advance entry at p fit) ∙ s.held);
      orders = none-left p.orders (omega (arith, more, sum));
    }
