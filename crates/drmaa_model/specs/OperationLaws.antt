-- What an operation comes to, and what keeps a plan fit: one job goes on that takes no more than it took.
use Rattle.std.proofs.Common.{◌≡◌, ℕ, ◌+◌, ◌≤◌, Bool, true, false, cond, ◌&&◌, List, [], ◌∷◌, ◌++◌, length, Option, Some, None, refl, sym, ap, subst, arith, length-append, ltb}
use Rattle.std.specs.Prelude.{IfSome, Ok, Err}
use Rattle.std.specs.List.{flat_map}
use Rattle.std.specs.Option.{option_map_or}
use Rattle.std.proofs.lemmas.Bool.{ltb-true, lt-ltb}
use Rattle.drmaa_types.specs.Queues.{queue_at}
use Rattle.drmaa_types.specs.Refusals.{first_refusal}
use Rattle.drmaa_types.specs.States.{is_started}
use Rattle.drmaa_types.specs.declared.identifiers.ArrayId.{ArrayId}
use Rattle.drmaa_types.specs.declared.identifiers.JobId.{JobId}
use Rattle.drmaa_types.specs.declared.identifiers.ReservationId.{ReservationId}
use Rattle.drmaa_types.specs.declared.queues.QueueSpec.{QueueSpec}
use Rattle.drmaa_types.specs.declared.refusals.Refusal.{Refusal}
use Rattle.drmaa_model.specs.declared.courses.Course.{Course}
use Rattle.drmaa_model.specs.declared.reservations.Accepted.{Accepted}
use Rattle.drmaa_model.specs.declared.rows.Row.{Row}
use Rattle.drmaa_model.specs.declared.rows.Wants.{Wants}
use Rattle.drmaa_model.specs.Fit.{IsSound, IsFit, IsBound, launched_at}
use Rattle.drmaa_model.specs.FitLaws.{GoesOn, unused}
use Rattle.drmaa_model.specs.Load.{is_in_queue, in_queue, held_in_queue, uses_at, names, held_inside, holds_in, is_member, in_reservation, in_array}
use Rattle.drmaa_model.specs.Operation.{Operation, Outcome, outcome}
use Rattle.drmaa_model.specs.NextLaunch.{held}
use Rattle.drmaa_model.specs.Plan.{Plan}
use Rattle.drmaa_model.specs.RowLaws.{all-implied, row_of-all, row_of-is}
use Rattle.drmaa_model.specs.Rows.{row_of, change_of, with_course, go_on}

-- ---- outcomes

-- an operation that is not refused keeps a plan fit
pub record KeepsFit {A : Type 0} (op : Operation A) : Type 0 where
  pub keeps : (entry : ℕ) (p : Plan) → IsFit p → op.refusal p ≡ None → IsFit (op.effect entry p)

pub outcome-fit : {A : Type 0} (op : Operation A) → KeepsFit op → (entry : ℕ) (p : Plan) → IsFit p → IsFit (outcome op entry p).plan
outcome-fit {A} op keeps entry p fit =
    (elim (op.refusal p) as (λ o. op.refusal p ≡ o →
    IsFit (option_map_or {U = Outcome A} (λ (why : Refusal). record { answer = Err why; plan = p }) o (record { answer = Ok (op.told p); plan = op.effect entry p })).plan) [
      | None ↦ λ is. keeps.keeps entry p fit is
      | Some why ↦ λ is. fit
    ]) refl

pub outcome-refused : {A : Type 0} (op : Operation A) (entry : ℕ) (p : Plan) (why : Refusal) → op.refusal p ≡ Some why → outcome op entry p ≡ record { answer = Err why; plan = p }
outcome-refused {A} op entry p why is =
    ap (λ (o : Option Refusal). option_map_or {U = Outcome A} (λ (r : Refusal). record { answer = Err r; plan = p }) o (record { answer = Ok (op.told p); plan = op.effect entry p })) is

pub outcome-served : {A : Type 0} (op : Operation A) (entry : ℕ) (p : Plan) → op.refusal p ≡ None → outcome op entry p ≡ record { answer = Ok (op.told p); plan = op.effect entry p }
outcome-served {A} op entry p is =
    ap (λ (o : Option Refusal). option_map_or {U = Outcome A} (λ (r : Refusal). record { answer = Err r; plan = p }) o (record { answer = Ok (op.told p); plan = op.effect entry p })) is

-- ---- tables of tests

-- the first of two tables is asked first
pub refusal-append : (ts us : List (Bool × Refusal)) → first_refusal (ts ++ us) ≡ None → (first_refusal ts ≡ None) × (first_refusal us ≡ None)
refusal-append [] us free = (refl, free)
refusal-append (t ∷ ts) us free =
    (elim t.0 as (λ b. cond b (Some t.1) (first_refusal (ts ++ us)) ≡ None → (cond b (Some t.1) (first_refusal ts) ≡ None) × (first_refusal us ≡ None)) [
      | true ↦ λ e. absurd (cc)
      | false ↦ λ e. refusal-append ts us e
    ]) free

-- a table that refuses nothing has no test that holds
pub no_test : (t : Bool × Refusal) (ts : List (Bool × Refusal)) → first_refusal (t ∷ ts) ≡ None → (t.0 ≡ false) × (first_refusal ts ≡ None)
no_test t ts free =
    (elim t.0 as (λ b. cond b (Some t.1) (first_refusal ts) ≡ None → (b ≡ false) × (first_refusal ts ≡ None)) [
      | true ↦ λ e. absurd (cc)
      | false ↦ λ e. (refl, e)
    ]) free

-- ---- one job goes on

more-changes : (entry : ℕ) (p : Plan) (job : JobId) (next : Course) → length p.changes ≤ length (go_on entry job next p).changes
more-changes entry p job next = omega (arith, length-append p.changes (flat_map (λ r. change_of entry r (with_course job next r)) p.rows))

-- a job takes no more than it took
pub record TakesNoMore (row : Row) (next : Course) : Type 0 where
  pub held : next.held ≤ row.course.held
  pub uses : (x : ℕ) → uses_at x (record row { course = next }) ≤ uses_at x row

inside-less : (number : ReservationId) (row : Row) (next : Course) → next.held ≤ row.course.held → held_inside number (record row { course = next }) ≤ held_inside number row
inside-less number row next less = elim (names number row) as (λ b. cond b next.held 0 ≤ cond b row.course.held 0) [ true ↦ less | false ↦ omega arith ]

queue-less : (place : ℕ) (row : Row) (next : Course) → next.held ≤ row.course.held → held_in_queue place (record row { course = next }) ≤ held_in_queue place row
queue-less place row next less = elim (is_in_queue place row) as (λ b. cond b next.held 0 ≤ cond b row.course.held 0) [ true ↦ less | false ↦ omega arith ]

queue-room : (o : Option QueueSpec) (held next own : ℕ) → next ≤ own → IfSome o (λ (queue : QueueSpec). held ≤ queue.limit) → IfSome o (λ (queue : QueueSpec). held + next ≤ queue.limit + own)
queue-room None held next own less h = tt
queue-room (Some queue) held next own less h = omega arith

array-cases : (a b : ℕ) (m : Bool) → a ≤ b → cond {A = ℕ} (m && ltb 0 a) 1 0 ≤ cond {A = ℕ} (m && ltb 0 b) 1 0
array-cases a b false less = omega arith
array-cases a b true less =
    (elim (ltb 0 a) as (λ t. ltb 0 a ≡ t → cond {A = ℕ} t 1 0 ≤ cond {A = ℕ} (ltb 0 b) 1 0) [
      | true ↦ λ e. (let pos = ltb-true 0 a e in let pos' : ltb 0 b ≡ true = lt-ltb 0 b (omega arith) in let one : cond {A = ℕ} (ltb 0 b) 1 0 ≡ 1 = ap (λ t. cond {A = ℕ} t 1 0) pos' in omega arith)
      | false ↦ λ e. omega arith
    ]) refl

array-less : (array : ArrayId) (row : Row) (next : Course) → next.held ≤ row.course.held → holds_in array (record row { course = next }) ≤ holds_in array row
array-less array row next less = array-cases next.held row.course.held (is_member array row) less

-- a bound of an array in which no more members hold slots than the row did
bound-less : (w : Wants) (rows : List Row) (row after : Row) → ((array : ArrayId) → holds_in array after ≤ holds_in array row)
    → IfSome w.bound (λ (bound : ℕ). IfSome w.array (λ (array : ArrayId). in_array array rows ≤ bound))
    → IfSome w.bound (λ (bound : ℕ). IfSome w.array (λ (array : ArrayId). in_array array rows + holds_in array after ≤ bound + holds_in array row))
bound-less w rows row after under =
    (elim w.bound as (λ b. IfSome b (λ (bound : ℕ). IfSome w.array (λ (array : ArrayId). in_array array rows ≤ bound))
    → IfSome b (λ (bound : ℕ). IfSome w.array (λ (array : ArrayId). in_array array rows + holds_in array after ≤ bound + holds_in array row))) [
      | None ↦ λ h. h
      | Some bound ↦
          (elim w.array as (λ o. IfSome o (λ (array : ArrayId). in_array array rows ≤ bound) → IfSome o (λ (array : ArrayId). in_array array rows + holds_in array after ≤ bound + holds_in array row)) [
            | None ↦ λ h. h
            | Some array ↦ λ h. (let less = under array in omega arith)
          ])
    ])

-- a job that takes no more, and was launched as often, goes on
pub goes-on : (entry : ℕ) (p : Plan) (row : Row) (next : Course) → IsFit p → row_of row.job p.rows ≡ Some row → IsSound row.wants next
    → TakesNoMore row next → next.attempt ≡ row.course.attempt → next.dispatched ≡ row.course.dispatched → GoesOn entry p row next
goes-on entry p row next fit found sound takes attempt dispatched =
    let before = row_of-all (λ (r : Row). r.course.attempt ≤ length p.changes) row.job p.rows row fit.attempts found in
    let more = more-changes entry p row.job next in
    let less = takes.held in
    record {
      found = found;
      sound = sound;
      fits = (let within = fit.within in omega arith);
      attempt = omega arith;
      dispatched = subst (λ (o : Option ℕ). option_map_or (λ (m : ℕ). m) o 0 ≤ p.moment) (sym dispatched) (row_of-all (λ (r : Row). launched_at r.course ≤ p.moment) row.job p.rows row fit.dispatched found);
      loads = λ x low high. (let l = fit.loads x low high in let u = takes.uses x in omega arith);
      inside = all-implied (λ (a : Accepted). in_reservation a.reservation p.rows ≤ a.slots) (λ (a : Accepted). in_reservation a.reservation p.rows + held_inside a.reservation (record row { course = next }) ≤ a.slots + held_inside a.reservation row)
          (λ a h. (let u = inside-less a.reservation row next less in omega arith)) p.reservations fit.inside;
      queued = λ place. queue-room (queue_at place p.queues) (in_queue place p.rows) (held_in_queue place (record row { course = next })) (held_in_queue place row) (queue-less place row next less) (fit.queued place);
      bounds = all-implied (IsBound p.rows) (λ (r : Row). IfSome r.wants.bound (λ (bound : ℕ). IfSome r.wants.array (λ (array : ArrayId). in_array array p.rows + holds_in array (record row { course = next }) ≤ bound + holds_in array row)))
          (λ r h. bound-less r.wants p.rows row (record row { course = next }) (λ array. array-less array row next less) h) p.rows fit.bounds;
    }

pub takes-started : (row : Row) (next : Course) → next.held ≡ row.course.held → is_started next.state ≡ is_started row.course.state → next.planned ≡ row.course.planned → TakesNoMore row next
takes-started row next held started planned = record {
  held = omega arith;
  uses = λ x. (let same : uses_at x (record row { course = next }) ≡ uses_at x row = cc in omega arith);
}

pub takes-stopped : (row : Row) (next : Course) → next.held ≡ 0 → is_started next.state ≡ false → TakesNoMore row next
takes-stopped row next held stopped = record {
  held = omega arith;
  uses = λ x. (let none = unused x (record row { course = next }) stopped in omega arith);
}

pub own-job : (job : JobId) (p : Plan) (row : Row) → row_of job p.rows ≡ Some row → row_of row.job p.rows ≡ Some row
own-job job p row found =
    let job_is : job ≡ row.job = ap (λ (n : ℕ). let j : JobId = record { 0 = n } in j) (sym (row_of-is job p.rows row found)) in
    subst (λ (j : JobId). row_of j p.rows ≡ Some row) job_is found

pub row-sound : (job : JobId) (p : Plan) (row : Row) → IsFit p → row_of job p.rows ≡ Some row → IsSound row.wants row.course
row-sound job p row fit found = row_of-all (λ (r : Row). IsSound r.wants r.course) job p.rows row fit.sound found
