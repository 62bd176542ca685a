-- What is read of a job, and which job comes next.
use Rattle.std.proofs.Common.{◌≡◌, ◌==◌, ℕ, ◌<◌, ◌^◌, Bool, false, cond, ◌&&◌, List, [], ◌∷◌, map, filter, Option, Some, None, refl, sym, ◌∙◌, ap, subst, arith}
use Rattle.std.specs.Prelude.{is_some}
use Rattle.std.specs.List.{AllByRecursion, list_any}
use Rattle.std.specs.Option.{option_map, option_map_or, option_and_then}
use Rattle.drmaa_types.specs.declared.identifiers.JobId.{JobId}
use Rattle.drmaa_types.specs.declared.identifiers.ReservationId.{ReservationId}
use Rattle.drmaa_model.specs.declared.reservations.Accepted.{Accepted}
use Rattle.drmaa_model.specs.declared.rows.Row.{Row}
use Rattle.drmaa_model.specs.Fit.{IsFit, IsRising, number_of, reservation_number}
use Rattle.drmaa_model.specs.FitLaws.{advance-fit}
use Rattle.drmaa_model.specs.Infos.{info, home_name}
use Rattle.drmaa_model.specs.Load.{reservation_of}
use Rattle.drmaa_model.specs.Plan.{Plan}
use Rattle.drmaa_model.specs.RowLaws.{rising-found, all-implied, all-both}
use Rattle.std.proofs.lemmas.Bool.{eq-eqb, ne_eqb}
use Rattle.drmaa_model.specs.Rows.{row_of, is_of}
use Rattle.drmaa_model.specs.Time.{rows_at, lapsed, called_in, let_go, come_to}
use Rattle.drmaa_model.specs.TimeLaws.{row_of-advance, timed, timed-only, lapsed-job, called-job}
use Rattle.drmaa_model.specs.World.{World}
use Rattle.scheduler_core.specs.declared.facts.RowFacts.{RowFacts}
use Rattle.scheduler_core.specs.Reservations.{reservation_from}
use Rattle.scheduler_core.specs.Facts.{row_facts, job_from}
use Rattle.machine_readings.specs.Lookups.{any-one, any-found, any-one_both}
use Rattle.machine_readings.specs.Told.{told_of, name_in}
use Rattle.machine_readings.specs.Nexts.{AfterRow, AfterAccepted}
use Rattle.machine_readings.specs.Walks.{from_on, first_on, on-none, on-next, first-map, first-all}

-- ---- facts

pub record AreOf (o : Option Row) (facts : RowFacts) : Type 0 where
  pub row : Row
  pub found : o ≡ Some row
  pub facts_are : facts ≡ row_facts row

pub facts-some : (o : Option Row) (facts : RowFacts) → Some facts ≡ option_map row_facts o → AreOf o facts
facts-some None facts is = absurd (cc)
facts-some (Some row) facts is = record { row = row; found = refl; facts_are = cc }

pub facts-none : (o : Option Row) → None ≡ option_map row_facts o → o ≡ None
facts-none None is = refl
facts-none (Some row) is = absurd (cc)

some-facts : (o : Option Row) → is_some (option_map row_facts o) ≡ is_some o
some-facts None = refl
some-facts (Some row) = refl

pub rising-at : (at : ℕ) (p : Plan) → IsFit p → IsRising number_of (rows_at at p)
rising-at at p fit = (advance-fit 0 at p fit).jobs.rising

pub kept-any : (job : JobId) (rows : List Row) (o : Option RowFacts) → o ≡ option_map row_facts (row_of job rows) → is_some o ≡ list_any (is_of job) rows
kept-any job rows o is = ap is_some is ∙ some-facts (row_of job rows) ∙ sym (any-found (is_of job) rows)

-- a test of a row, asked of the one that is found
pub found-one : (P : Row → Bool) (job : JobId) (rows : List Row) → IsRising number_of rows → (facts : RowFacts) → Some facts ≡ option_map row_facts (row_of job rows)
    → (b : Bool) → ((row : Row) → facts ≡ row_facts row → b ≡ P row) → b ≡ list_any (is_of job) (filter P rows)
found-one P job rows rising facts is b same =
    let f = facts-some (row_of job rows) facts is in
    same f.row f.facts_are ∙ sym (ap (λ (o : Option Row). option_map_or P o false) f.found) ∙ sym (any-one number_of P job.0 rows rising)

pub found-none : (P : Row → Bool) (job : JobId) (rows : List Row) → IsRising number_of rows → None ≡ option_map row_facts (row_of job rows) → false ≡ list_any (is_of job) (filter P rows)
found-none P job rows rising is =
    sym (ap (λ (o : Option Row). option_map_or P o false) (facts-none (row_of job rows) is)) ∙ sym (any-one number_of P job.0 rows rising)

pub both-one : (P : Row → Bool) (job : JobId) (rows : List Row) → IsRising number_of rows → (facts : RowFacts) → Some facts ≡ option_map row_facts (row_of job rows)
    → (b : Bool) → ((row : Row) → facts ≡ row_facts row → b ≡ P row) → b ≡ list_any (λ (row : Row). is_of job row && P row) rows
both-one P job rows rising facts is b same =
    let f = facts-some (row_of job rows) facts is in
    same f.row f.facts_are ∙ sym (ap (λ (o : Option Row). option_map_or P o false) f.found) ∙ sym (any-one_both number_of P job.0 rows rising)

pub both-none : (P : Row → Bool) (job : JobId) (rows : List Row) → IsRising number_of rows → None ≡ option_map row_facts (row_of job rows) → false ≡ list_any (λ (row : Row). is_of job row && P row) rows
both-none P job rows rising is =
    sym (ap (λ (o : Option Row). option_map_or P o false) (facts-none (row_of job rows) is)) ∙ sym (any-one_both number_of P job.0 rows rising)

-- ---- the next one

record IsFirst (from : ℕ) (p : Plan) (job : JobId) : Type 0 where
  row : Row
  found : first_on number_of from p.rows ≡ Some row
  job_is : row.job ≡ job

first-job : (from : ℕ) (p : Plan) (job : JobId) → Some job ≡ job_from from p → IsFirst from p job
first-job from p job is =
    (elim (first_on number_of from p.rows) as (λ o. first_on number_of from p.rows ≡ o → Some job ≡ option_map (λ (row : Row). row.job) o → IsFirst from p job) [
      | None ↦ λ e same. absurd (cc)
      | Some row ↦ λ e same. record { row = row; found = e; job_is = cc }
    ]) refl is

no-job : (from : ℕ) (p : Plan) → None ≡ job_from from p → first_on number_of from p.rows ≡ None
no-job from p is =
    (elim (first_on number_of from p.rows) as (λ o. first_on number_of from p.rows ≡ o → None ≡ option_map (λ (row : Row). row.job) o → first_on number_of from p.rows ≡ None) [
      | None ↦ λ e same. e
      | Some row ↦ λ e same. absurd (cc)
    ]) refl is

first-at : (at from : ℕ) (p : Plan) → let q = let_go (come_to at p) in
    first_on number_of from (rows_at at p) ≡ option_map (called_in q.moment q.reservations) (option_map (lapsed q.moment q.reservations) (first_on number_of from p.rows))
first-at at from p =
    let q = let_go (come_to at p) in
    first-map number_of (called_in q.moment q.reservations) (λ r. ap (λ (j : JobId). j.0) (called-job q.moment q.reservations r)) from (map (lapsed q.moment q.reservations) p.rows)
    ∙ ap (option_map (called_in q.moment q.reservations)) (first-map number_of (lapsed q.moment q.reservations) (λ r. ap (λ (j : JobId). j.0) (lapsed-job q.moment q.reservations r)) from p.rows)

pub after-none : (at from : ℕ) (p : Plan) → None ≡ job_from from p → from_on number_of from (rows_at at p) ≡ []
after-none at from p is =
    let q = let_go (come_to at p) in
    on-none number_of from (rows_at at p) (first-at at from p ∙ ap (λ (o : Option Row). option_map (called_in q.moment q.reservations) (option_map (lapsed q.moment q.reservations) o)) (no-job from p is))

pub after-row : (at from : ℕ) (p : Plan) (job : JobId) (o : Option RowFacts) → IsFit p → p.next_job < 2 ^ 63 → Some job ≡ job_from from p
    → o ≡ option_map row_facts (row_of job (rows_at at p)) → AfterRow (rows_at at p) from o
after-row at from p job o fit small is read =
    let q = let_go (come_to at p) in
    let rows = rows_at at p in
    let f = first-job from p job is in
    let now = timed q.moment q.reservations f.row in
    let first : first_on number_of from rows ≡ Some now =
    first-at at from p ∙ ap (λ (x : Option Row). option_map (called_in q.moment q.reservations) (option_map (lapsed q.moment q.reservations) x)) f.found in
    let fits = advance-fit 0 at p fit in
    let same : now.job ≡ f.row.job = called-job q.moment q.reservations (lapsed q.moment q.reservations f.row) ∙ lapsed-job q.moment q.reservations f.row in
    let job_is : now.job ≡ job = same ∙ f.job_is in
    let found : row_of now.job rows ≡ Some now = first-all number_of (λ (r : Row). row_of r.job rows ≡ Some r) from rows now (rising-found rows fits.jobs.rising) first in
    let below : now.job.0 < p.next_job = first-all number_of (λ (r : Row). r.job.0 < p.next_job) from rows now fits.jobs.below first in
    let read_is : o ≡ Some (row_facts now) = read ∙ ap (λ (j : JobId). option_map row_facts (row_of j rows)) (sym job_is) ∙ ap (option_map row_facts) found in
    subst (AfterRow rows from) (sym read_is)
    (record { row = now; facts_are = refl; found = found; split = on-next number_of from rows now fits.jobs.rising first; small = omega (arith, below, small) })

-- ---- reservations

record IsFirstOf (from : ℕ) (rs : List Accepted) (number : ReservationId) : Type 0 where
  a : Accepted
  found : first_on reservation_number from rs ≡ Some a
  number_is : a.reservation ≡ number

first-number : (from : ℕ) (rs : List Accepted) (number : ReservationId) → Some number ≡ reservation_from from rs → IsFirstOf from rs number
first-number from rs number is =
    (elim (first_on reservation_number from rs) as (λ o. first_on reservation_number from rs ≡ o → Some number ≡ option_map (λ (a : Accepted). a.reservation) o → IsFirstOf from rs number) [
      | None ↦ λ e same. absurd (cc)
      | Some a ↦ λ e same. record { a = a; found = e; number_is = cc }
    ]) refl is

pub after-no_number : (from : ℕ) (rs : List Accepted) → None ≡ reservation_from from rs → from_on reservation_number from rs ≡ []
after-no_number from rs is =
    on-none reservation_number from rs
    ((elim (first_on reservation_number from rs) as (λ o. first_on reservation_number from rs ≡ o → None ≡ option_map (λ (a : Accepted). a.reservation) o → first_on reservation_number from rs ≡ None) [
      | None ↦ λ e same. e
      | Some a ↦ λ e same. absurd (cc)
    ]) refl is)

found-all : (rs : List Accepted) → IsRising reservation_number rs → AllByRecursion (λ (a : Accepted). reservation_of a.reservation rs ≡ Some a) rs
found-all [] rising = tt
found-all (r ∷ rs) rising = (
  ap (λ b. cond b (Some r) (reservation_of r.reservation rs)) (eq-eqb r.reservation.0 r.reservation.0 refl),
  all-implied (λ (a : Accepted). (r.reservation.0 < a.reservation.0) × (reservation_of a.reservation rs ≡ Some a)) (λ (a : Accepted). reservation_of a.reservation (r ∷ rs) ≡ Some a)
      (λ a both. ap (λ b. cond b (Some r) (reservation_of a.reservation rs)) (ne_eqb r.reservation.0 a.reservation.0 (λ e. (let less = both.0 in omega (arith, less, e)))) ∙ both.1) rs
      (all-both (λ (a : Accepted). r.reservation.0 < a.reservation.0) (λ (a : Accepted). reservation_of a.reservation rs ≡ Some a) rs rising.0 (found-all rs rising.1)),
)

found-rising : (rs : List Accepted) → IsRising reservation_number rs → (from : ℕ) (a : Accepted) → first_on reservation_number from rs ≡ Some a → reservation_of a.reservation rs ≡ Some a
found-rising rs rising from a first = first-all reservation_number (λ (x : Accepted). reservation_of x.reservation rs ≡ Some x) from rs a (found-all rs rising) first

pub after-number : (from next : ℕ) (rs : List Accepted) (number : ReservationId) (o : Option Accepted) → IsRising reservation_number rs → AllByRecursion (λ (a : Accepted). a.reservation.0 < next) rs → next < 2 ^ 63
    → Some number ≡ reservation_from from rs → o ≡ reservation_of number rs → AfterAccepted rs from o
after-number from next rs number o rising all small is read =
    let f = first-number from rs number is in
    let found = found-rising rs rising from f.a f.found in
    let below : f.a.reservation.0 < next = first-all reservation_number (λ (a : Accepted). a.reservation.0 < next) from rs f.a all f.found in
    let read_is : o ≡ Some f.a = read ∙ ap (λ (n : ReservationId). reservation_of n rs) (sym f.number_is) ∙ found in
    subst (AfterAccepted rs from) (sym read_is)
    (record { split = on-next reservation_number from rs f.a rising f.found; small = omega (arith, below, small) })

pub own-reservation : (P : Accepted → Bool) (number : ReservationId) (rs : List Accepted) → IsRising reservation_number rs → (a : Accepted) → Some a ≡ reservation_of number rs
    → P a ≡ list_any (λ (x : Accepted). x.reservation.0 == number.0) (filter P rs)
own-reservation P number rs rising a is =
    ap (λ (o : Option Accepted). option_map_or P o false) is ∙ sym (any-one reservation_number P number.0 rs rising)

pub no-reservation : (P : Accepted → Bool) (number : ReservationId) (rs : List Accepted) → IsRising reservation_number rs → None ≡ reservation_of number rs
    → false ≡ list_any (λ (x : Accepted). x.reservation.0 == number.0) (filter P rs)
no-reservation P number rs rising is =
    ap (λ (o : Option Accepted). option_map_or P o false) is ∙ sym (any-one reservation_number P number.0 rs rising)

-- ---- infos

pub name-at : (at : ℕ) (p : Plan) (job : JobId) (row : Row) → row_of job (rows_at at p) ≡ Some row
    → option_and_then (λ (r : Row). r.template.job_name) (row_of job p.rows) ≡ row.template.job_name
name-at at p job row found =
    let q = let_go (come_to at p) in
    (elim (row_of job p.rows) as (λ o. option_map (called_in q.moment q.reservations) (option_map (lapsed q.moment q.reservations) o) ≡ Some row → option_and_then (λ (r : Row). r.template.job_name) o ≡ row.template.job_name) [
      | None ↦ λ e. absurd (cc)
      | Some r ↦ λ e.
          (let same : timed q.moment q.reservations r ≡ row = cc in
          sym (ap (λ (x : Row). x.template.job_name) (timed-only q.moment q.reservations r)) ∙ ap (λ (x : Row). x.template.job_name) same)
    ]) (sym (row_of-advance 0 at p job) ∙ found)

-- what is told of facts is the info of their row
pub facts-info : (w : World) (row : Row) (facts : RowFacts) (name : Option (List ℕ)) (moment : ℕ) → facts ≡ row_facts row → name ≡ row.template.job_name → moment ≡ w.plan.moment
    → told_of w.plan.queues facts (home_name w.sessions facts.home) name moment ≡ info w row
facts-info w row facts name moment is name_is moment_is =
    ap (λ n. told_of w.plan.queues facts (home_name w.sessions facts.home) n moment) name_is
    ∙ ap (λ m. told_of w.plan.queues facts (home_name w.sessions facts.home) row.template.job_name m) moment_is
    ∙ ap (λ (f : RowFacts). told_of w.plan.queues f (home_name w.sessions f.home) row.template.job_name w.plan.moment) is

-- ---- as they are now

pub row-now : (from : ℕ) (p : Plan) (job : JobId) (o : Option RowFacts) → IsFit p → p.next_job < 2 ^ 63 → Some job ≡ job_from from p
    → o ≡ option_map row_facts (row_of job p.rows) → AfterRow p.rows from o
row-now from p job o fit small is read =
    let f = first-job from p job is in
    let found : row_of f.row.job p.rows ≡ Some f.row = first-all number_of (λ (r : Row). row_of r.job p.rows ≡ Some r) from p.rows f.row (rising-found p.rows fit.jobs.rising) f.found in
    let below : f.row.job.0 < p.next_job = first-all number_of (λ (r : Row). r.job.0 < p.next_job) from p.rows f.row fit.jobs.below f.found in
    let read_is : o ≡ Some (row_facts f.row) = read ∙ ap (λ (j : JobId). option_map row_facts (row_of j p.rows)) (sym f.job_is) ∙ ap (option_map row_facts) found in
    subst (AfterRow p.rows from) (sym read_is)
    (record { row = f.row; facts_are = refl; found = found; split = on-next number_of from p.rows f.row fit.jobs.rising f.found; small = omega (arith, below, small) })

pub none-now : (from : ℕ) (p : Plan) → None ≡ job_from from p → from_on number_of from p.rows ≡ []
none-now from p is = on-none number_of from p.rows (no-job from p is)

pub name-now : (job : JobId) (rows : List Row) (row : Row) → row_of job rows ≡ Some row → name_in job rows ≡ row.template.job_name
name-now job rows row found = ap (option_and_then (λ (r : Row). r.template.job_name)) found
