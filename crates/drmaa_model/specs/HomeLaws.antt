-- What becomes of jobs and reservations whose named session is destroyed keeps a plan fit.
use Rattle.std.proofs.Common.{◌≡◌, ℕ, ◌≤◌, Bool, not, map, filter, Some, refl, arith}
use Rattle.std.specs.List.{AllByRecursion}
use Rattle.drmaa_model.specs.declared.reservations.Accepted.{Accepted}
use Rattle.drmaa_model.specs.declared.rows.Row.{Row}
use Rattle.drmaa_model.specs.ControlLaws.{fewer-rows-fit, forgotten-stopped}
use Rattle.drmaa_model.specs.Effects.{left_by, is_forgotten, forget_home}
use Rattle.drmaa_model.specs.Fit.{IsSound, IsFit, reservation_number}
use Rattle.drmaa_model.specs.FitLaws.{Eases, eased, orders-lasting}
use Rattle.drmaa_model.specs.Homes.{is_same_home}
use Rattle.drmaa_model.specs.Load.{slots_at, booked, in_reservation}
use Rattle.drmaa_model.specs.Plan.{Plan}
use Rattle.drmaa_model.specs.RowLaws.{all-map, all-implied, numbered-map}
use Rattle.drmaa_model.specs.SumLaws.{sum-map}

-- a job, and a reservation, that may be left without a session
abbrev left_row : ℕ → Row → Row
left_row home row = record row { home = left_by home row.home }

abbrev left_reservation : ℕ → Accepted → Accepted
left_reservation home a = record a { home = left_by home a.home }

eases-left : (home : ℕ) (r : Row) → IsSound r.wants r.course → Eases r (left_row home r)
eases-left home r s = record { job = refl; wants = refl; held = refl; attempt = refl; dispatched = refl; uses = λ x. refl; using = refl; planned = λ u. refl; sound = s; lasts = record { started = λ e. e; alive = λ e. e } }

left-rows-fit : (home : ℕ) (p : Plan) → IsFit p → IsFit (record p { rows = map (left_row home) p.rows })
left-rows-fit home p fit =
    let all : AllByRecursion (λ r. Eases r (left_row home r)) p.rows = all-implied (λ (r : Row). IsSound r.wants r.course) (λ r. Eases r (left_row home r)) (eases-left home) p.rows fit.sound in
    eased (left_row home) (λ r. refl) (λ r. refl) p fit all p.changes (omega arith) p.orders (orders-lasting (left_row home) (λ r. refl) p.rows all p.orders fit.asked)

left-reservations-fit : (home : ℕ) (p : Plan) → IsFit p → IsFit (record p { reservations = map (left_reservation home) p.reservations })
left-reservations-fit home p fit =
    let books : (x : ℕ) → booked (map (left_reservation home) p.reservations) x ≡ booked p.reservations x = λ x. sum-map (slots_at x) (left_reservation home) p.reservations in
    record {
      within = fit.within;
      sound = fit.sound;
      jobs = fit.jobs;
      reserved = fit.reserved;
      arrays = fit.arrays;
      attempts = fit.attempts;
      asked = fit.asked;
      loads = λ x low high. (let l = fit.loads x low high in let b = books x in omega arith);
      books = λ x high. (let l = fit.books x high in let b = books x in omega arith);
      inside = all-map (λ (a : Accepted). in_reservation a.reservation p.rows ≤ a.slots) (left_reservation home) p.reservations fit.inside;
      queued = fit.queued;
      bounds = fit.bounds;
      alike = fit.alike;
      accepted = numbered-map reservation_number (left_reservation home) (λ a. refl) p.next_reservation p.reservations fit.accepted;
      dispatched = fit.dispatched;
    }

pub forget-fit : (home : ℕ) (p : Plan) → IsFit p → IsFit (forget_home home p)
forget-fit home p fit =
    let stays : Row → Bool = λ (row : Row). not (is_forgotten home row) in
    let q : Plan = record p { rows = filter stays p.rows } in
    left-reservations-fit home (record q { rows = map (left_row home) q.rows })
    (left-rows-fit home q (fewer-rows-fit stays (forgotten-stopped (λ (row : Row). is_same_home (Some home) row.home)) p fit))
