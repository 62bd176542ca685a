-- Time makes no job queued.
use Rattle.std.proofs.Common.{◌≡◌, ℕ, true, List}
use Rattle.drmaa_model.specs.declared.reservations.Accepted.{Accepted}
use Rattle.drmaa_model.specs.declared.rows.Row.{Row}
use Rattle.drmaa_model.specs.NextLaunch.{is_queued}
use Rattle.drmaa_model.specs.Time.{lapsed}
use Rattle.drmaa_model.specs.TimeLaws.{lapsed-cases, called-cases, timed}

-- a job that is queued once time has come was queued before
pub queued-before : (m : ℕ) (rs : List Accepted) (r : Row) → is_queued (timed m rs r).course.state ≡ true → is_queued r.course.state ≡ true
queued-before m rs r queued =
    lapsed-cases (λ (a b : Row). is_queued b.course.state ≡ true → is_queued a.course.state ≡ true) m rs r (λ h e. e) (λ h waits n e. absurd (cc))
    (called-cases (λ (a b : Row). is_queued b.course.state ≡ true → is_queued a.course.state ≡ true) m rs (lapsed m rs r) (λ h e. e) (λ h is n e. e) queued)
