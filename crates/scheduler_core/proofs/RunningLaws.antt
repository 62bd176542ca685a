-- Laws of the started jobs: time starts and stops none.
use Rattle.std.proofs.Common.{◌≡◌, ℕ, Bool, true, false, cond, leb, ◌&&◌, List, [], ◌∷◌, map, filter, Some, refl, sym, ◌∙◌, ap}
use Rattle.std.specs.Prelude.{max, find}
use Rattle.std.specs.Option.{option_map}
use Rattle.drmaa_types.specs.States.{is_started}
use Rattle.drmaa_types.specs.declared.identifiers.JobId.{JobId}
use Rattle.drmaa_model.specs.declared.reservations.Accepted.{Accepted}
use Rattle.drmaa_model.specs.declared.rows.Row.{Row}
use Rattle.drmaa_model.specs.Plan.{Plan}
use Rattle.drmaa_model.specs.Time.{lasts, lapsed, called_in, rows_at}
use Rattle.drmaa_model.specs.TimeLaws.{timed, map-twice, lapsed-cases, called-cases, lapsed-job, called-job, waits-not_started}
use Rattle.drmaa_model.specs.Events.{is_started_from, started_from}

timed-started : (m : ℕ) (rs : List Accepted) (r : Row) → is_started (timed m rs r).course.state ≡ is_started r.course.state
timed-started m rs r =
    called-cases (λ (a b : Row). is_started b.course.state ≡ is_started a.course.state) m rs (lapsed m rs r) (λ h. refl) (λ h s n. refl)
    ∙ lapsed-cases (λ (a b : Row). is_started b.course.state ≡ is_started a.course.state) m rs r (λ h. refl) (λ h w n. sym (waits-not_started r.course.state w))

pub find-map : {X : Type 0} (t : X → Bool) (f : X → X) (xs : List X) → ((x : X) → t (f x) ≡ t x) → find t (map f xs) ≡ option_map f (find t xs)
find-map t f [] same = refl
find-map t f (x ∷ xs) same =
    ap (λ b. cond b (Some (f x)) (find t (map f xs))) (same x)
    ∙ (elim (t x) as (λ b. cond b (Some (f x)) (find t (map f xs)) ≡ option_map f (cond b (Some x) (find t xs))) [
      | true ↦ refl
      | false ↦ find-map t f xs same
    ])

pub started-then : (at : ℕ) (p : Plan) (number : ℕ) → started_from number (rows_at at p) ≡ option_map (timed (max p.moment at) (filter (lasts (max p.moment at)) p.reservations)) (started_from number p.rows)
started-then at p number =
    let m = max p.moment at in
    let rs = filter (lasts (max p.moment at)) p.reservations in
    ap (started_from number) (sym (map-twice (called_in m rs) (lapsed m rs) p.rows))
    ∙ find-map (is_started_from number) (timed (max p.moment at) (filter (lasts (max p.moment at)) p.reservations)) p.rows
    (λ r. ap (λ b. b && leb number (timed m rs r).job.0) (timed-started m rs r) ∙ ap (λ (j : JobId). is_started r.course.state && leb number j.0) (called-job m rs (lapsed m rs r) ∙ lapsed-job m rs r))
