-- No job is killed that time leaves as it is: the first kill that time asks is among the jobs on which it may act.
use Rattle.std.proofs.Common.{◌≡◌, ℕ, Bool, true, false, not, ◌&&◌, ◌++◌, List, find, refl, sym, ◌∙◌, ap}
use Rattle.drmaa_model.specs.declared.courses.Course.{Course}
use Rattle.drmaa_model.specs.declared.rows.Row.{Row}
use Rattle.drmaa_model.specs.Courses.{is_unasked}
use Rattle.drmaa_model.specs.Launching.{is_alive}
use Rattle.drmaa_model.specs.Plan.{Plan}
use Rattle.drmaa_model.specs.RowLaws.{all-implied}
use Rattle.plan_book.specs.Book.{course_then}
use Rattle.plan_book.specs.Due.{AreStill, HasAllDue}
use Rattle.scheduler_core.specs.Signals.{is_killed}
use Rattle.scheduler_core.proofs.Among.{find-before, find-behind}

never : (a b : Bool) → (a && (not a && b)) ≡ false
never true b = refl
never false b = refl

still-lives : (at : ℕ) (p : Plan) (row : Row) → course_then at p row ≡ row.course → is_killed at p row ≡ false
still-lives at p row same =
    let killed : Course → Bool = λ (then : Course). is_unasked row.course.kill && (not (is_unasked then.kill) && is_alive then.phase) in
    ap killed same ∙ never (is_unasked row.course.kill) (is_alive row.course.phase)

pub due-kills : (at : ℕ) (p : Plan) (rows : List Row) → HasAllDue at p rows → find (is_killed at p) rows ≡ find (is_killed at p) p.rows
due-kills at p rows are =
    let test = is_killed at p in
    let lives = λ (rs : List Row) (still : AreStill at p rs). all-implied (λ (row : Row). course_then at p row ≡ row.course) (λ (row : Row). test row ≡ false) (still-lives at p) rs still in
    sym (ap (find test) are.parts ∙ find-behind test are.before (rows ++ are.behind) (lives are.before are.still_before) ∙ find-before test rows are.behind (lives are.behind are.still_behind))
