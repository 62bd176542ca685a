-- Time gives no job a process.
use Rattle.std.proofs.Common.{◌≡◌, ℕ, Bool, true, false, ◌&&◌, List, refl, sym}
use Rattle.drmaa_model.specs.declared.reservations.Accepted.{Accepted}
use Rattle.drmaa_model.specs.declared.rows.Row.{Row}
use Rattle.drmaa_model.specs.Launching.{is_alive}
use Rattle.drmaa_model.specs.Time.{lapsed}
use Rattle.drmaa_model.specs.TimeLaws.{lapsed-cases, called-cases, timed}

was-alive : (m : ℕ) (rs : List Accepted) (r : Row) → is_alive (timed m rs r).course.phase ≡ true → is_alive r.course.phase ≡ true
was-alive m rs r alive =
    lapsed-cases (λ (p q : Row). is_alive q.course.phase ≡ true → is_alive p.course.phase ≡ true) m rs r (λ h e. e) (λ h w n e. absurd (cc))
    (called-cases (λ (p q : Row). is_alive q.course.phase ≡ true → is_alive p.course.phase ≡ true) m rs (lapsed m rs r) (λ h e. e) (λ h w n e. e) alive)

-- a job that has none now has none then
pub not-alive : (m : ℕ) (rs : List Accepted) (r : Row) → is_alive r.course.phase ≡ false → is_alive (timed m rs r).course.phase ≡ false
not-alive m rs r dead =
    (elim (is_alive (timed m rs r).course.phase) as (λ (b : Bool). is_alive (timed m rs r).course.phase ≡ b → b ≡ false) [
      | false ↦ λ e. refl
      | true ↦ λ e. (let yes = was-alive m rs r e in absurd (cc))
    ]) refl

-- a part that is false
pub and-last : (a b c : Bool) → c ≡ false → false ≡ (a && (b && c))
and-last true true c e = sym e
and-last true false c e = refl
and-last false b c e = refl
