-- Which signal is next once time has come to a moment, and what its handing out comes to.
use Rattle.std.proofs.Common.{◌≡◌, ℕ, Bool, true, false, cond, not, ◌&&◌, ◌==◌, List, [], ◌∷◌, ◌++◌, map, filter, find, max, Option, Some, None, refl, sym, ◌∙◌, ap, subst, append-nil}
use Rattle.std.specs.List.{AllByRecursion, flat_map}
use Rattle.std.specs.Option.{option_map, option_map_or}
use Rattle.std.proofs.lemmas.Bool.{and_parts, and_from, eqb-true, eq-eqb}
use Rattle.drmaa_types.specs.States.{is_state, is_started, state_number}
use Rattle.drmaa_types.specs.declared.changes.Change.{Change}
use Rattle.drmaa_types.specs.declared.identifiers.JobId.{JobId}
use Rattle.drmaa_types.specs.declared.states.JobState.{JobState}
use Rattle.drmaa_model.specs.declared.courses.Order.{Order}
use Rattle.drmaa_model.specs.declared.replies.Signal.{Signal}
use Rattle.drmaa_model.specs.declared.reservations.Accepted.{Accepted}
use Rattle.drmaa_model.specs.declared.rows.Row.{Row}
use Rattle.drmaa_model.specs.Courses.{is_unasked}
use Rattle.drmaa_model.specs.Fit.{IsFit}
use Rattle.drmaa_model.specs.FitLaws.{advance-fit}
use Rattle.drmaa_model.specs.Launching.{is_alive, is_due_now, next_signal, signal, signal_of, take_first}
use Rattle.drmaa_model.specs.OperationLaws.{own-job}
use Rattle.drmaa_model.specs.Plan.{Plan}
use Rattle.drmaa_model.specs.ReportLaws.{signal-keeps}
use Rattle.drmaa_model.specs.Reporting.{signal_number}
use Rattle.drmaa_model.specs.RowLaws.{all-implied, rising-found, changes_with_course, row_of-is}
use Rattle.drmaa_model.specs.Rows.{row_of, is_of, with_course, change_of, go_on}
use Rattle.drmaa_model.specs.Time.{kill_order, advance_plan, lasts, lapsed, called_in, is_due, come_to, let_go, rows_at}
use Rattle.drmaa_model.specs.TimeLaws.{lapsed-cases, called-cases, lapsed-job, row_of-advance}
use Rattle.plan_book.specs.declared.book.Book.{Book}
use Rattle.plan_book.specs.declared.occasions.Occasion.{Occasion}
use Rattle.plan_book.specs.Occasions.{plan_at}
use Rattle.plan_book.specs.Book.{IsBook, IsMove, plan_of, moved, is_order}
use Rattle.plan_book.specs.Facts.{facts_of}
use Rattle.plan_book.specs.TieLaws.{tied-same}
use Rattle.plan_book.specs.Ties.{KeepsTie}
use Rattle.scheduler_core.specs.declared.signals.NextSignal.{NextSignal}
use Rattle.scheduler_core.specs.Signals.{is_killed, IsNext, IsNextIn, signal_for, take_move}
use Rattle.scheduler_core.specs.Targets.{row_then}
use Rattle.scheduler_core.specs.View.{View}
use Rattle.scheduler_core.proofs.ViewSteps.{view_of}

-- ---- the first element that meets a test

pub find-meets : {X : Type 0} (test : X → Bool) (xs : List X) (x : X) → find test xs ≡ Some x → test x ≡ true
find-meets test [] x found = absurd (cc)
find-meets test (y ∷ xs) x found =
    (elim (test y) as (λ b. test y ≡ b → cond b (Some y) (find test xs) ≡ Some x → test x ≡ true) [
      | true ↦ λ e f. (let same : y ≡ x = cc in subst (λ z. test z ≡ true) same e)
      | false ↦ λ e f. find-meets test xs x f
    ]) refl found

pub find-before : {X : Type 0} (test : X → Bool) (xs ys : List X) (x : X) → find test xs ≡ Some x → find test (xs ++ ys) ≡ Some x
find-before test [] ys x found = absurd (cc)
find-before test (y ∷ xs) ys x found =
    (elim (test y) as (λ b. cond b (Some y) (find test xs) ≡ Some x → cond b (Some y) (find test (xs ++ ys)) ≡ Some x) [
      | true ↦ λ f. f
      | false ↦ λ f. find-before test xs ys x f
    ]) found

pub find-behind : {X : Type 0} (test : X → Bool) (xs ys : List X) → find test xs ≡ None → find test (xs ++ ys) ≡ find test ys
find-behind test [] ys none = refl
find-behind test (y ∷ xs) ys none =
    (elim (test y) as (λ b. cond b (Some y) (find test xs) ≡ None → cond b (Some y) (find test (xs ++ ys)) ≡ find test ys) [
      | true ↦ λ f. absurd (cc)
      | false ↦ λ f. find-behind test xs ys f
    ]) none

-- ---- the kills that time asks

lapsed-kill : (m : ℕ) (rs : List Accepted) (r : Row) → (lapsed m rs r).course.kill ≡ r.course.kill
lapsed-kill m rs r = lapsed-cases (λ (a b : Row). b.course.kill ≡ a.course.kill) m rs r (λ h. refl) (λ h w n. refl)

called-kill : (m : ℕ) (rs : List Accepted) (r : Row) (x : Bool) → (is_unasked r.course.kill && (not (is_unasked (called_in m rs r).course.kill) && x)) ≡ (is_due m rs r && x)
called-kill m rs r x =
    called-cases (λ (a b : Row). (is_unasked a.course.kill && (not (is_unasked b.course.kill) && x)) ≡ (is_due m rs a && x)) m rs r
    (λ h. (elim (is_unasked r.course.kill) as (λ u. (u && (not u && x)) ≡ false) [ true ↦ refl | false ↦ refl ]) ∙ sym (ap (λ b. b && x) h))
    (λ h started n. (let due = (and_parts (is_started r.course.state) (is_unasked r.course.kill && _) h).1 in ap (λ u. u && (true && x)) (and_parts (is_unasked r.course.kill) _ due).0) ∙ sym (ap (λ b. b && x) h))

pub kill-due : (at : ℕ) (p : Plan) (r : Row) → (let m = max p.moment at in let rs = filter (lasts m) p.reservations in
    is_killed at p r ≡ (is_due m rs (lapsed m rs r) && is_alive (row_then at p r).course.phase))
kill-due at p r =
    let m = max p.moment at in
    let rs = filter (lasts m) p.reservations in
    let later = row_then at p r in
    ap (λ k. is_unasked k && (not (is_unasked later.course.kill) && is_alive later.course.phase)) (sym (lapsed-kill m rs r))
    ∙ called-kill m rs (lapsed m rs r) (is_alive later.course.phase)

kills-then : (at : ℕ) (p : Plan) (rows : List Row) → AllByRecursion (λ (r : Row). row_of r.job (rows_at at p) ≡ Some (row_then at p r)) rows → (let m = max p.moment at in let rs = filter (lasts m) p.reservations in
    find (is_due_now (rows_at at p)) (map kill_order (filter (is_due m rs) (map (lapsed m rs) rows))) ≡ option_map kill_order (find (is_killed at p) rows))
kills-then at p [] there = refl
kills-then at p (r ∷ rows) there =
    let m = max p.moment at in
    let rs = filter (lasts m) p.reservations in
    let test = is_due_now (rows_at at p) in
    let l = lapsed m rs r in
    let rest = filter (is_due m rs) (map (lapsed m rs) rows) in
    let alive = is_alive (row_then at p r).course.phase in
    let order : kill_order l ≡ kill_order r = ap (λ (j : JobId). let o : Order = record (kill_order r) { job = j } in o) (lapsed-job m rs r) in
    let lives : test (kill_order l) ≡ alive = ap test order ∙ ap (λ (o : Option Row). option_map_or (λ (row : Row). is_alive row.course.phase) o false) there.0 in
    let later = kills-then at p rows there.1 in
    (elim (is_due m rs l) as (λ b. find test (map kill_order (cond b (l ∷ rest) rest)) ≡ option_map kill_order (cond (b && alive) (Some r) (find (is_killed at p) rows))) [
      | false ↦ later
      | true ↦
          ap (λ b. cond b (Some (kill_order l)) (find test (map kill_order rest))) lives
          ∙ (elim alive as (λ b. cond b (Some (kill_order l)) (find test (map kill_order rest)) ≡ option_map kill_order (cond b (Some r) (find (is_killed at p) rows))) [
            | true ↦ ap (λ (o : Order). Some o) order
            | false ↦ later
          ])
    ]) ∙ sym (ap (λ b. option_map kill_order (cond b (Some r) (find (is_killed at p) rows))) (kill-due at p r))

there-then : (at : ℕ) (p : Plan) → IsFit p → AllByRecursion (λ (r : Row). row_of r.job (rows_at at p) ≡ Some (row_then at p r)) p.rows
there-then at p fit =
    let q = let_go (come_to at p) in
    all-implied (λ (r : Row). row_of r.job p.rows ≡ Some r) (λ (r : Row). row_of r.job (rows_at at p) ≡ Some (row_then at p r))
    (λ r found. row_of-advance 0 at p r.job ∙ ap (λ (o : Option Row). option_map (called_in q.moment q.reservations) (option_map (lapsed q.moment q.reservations) o)) found)
    p.rows (rising-found p.rows fit.jobs.rising)

-- an order that was asked is next
pub next-asked : (at : ℕ) (p : Plan) (order : Order) → Some order ≡ find (is_due_now (rows_at at p)) p.orders → Some order ≡ next_signal (advance_plan 0 at p)
next-asked at p order found =
    let m = max p.moment at in
    let rs = filter (lasts m) p.reservations in
    sym (find-before (is_due_now (rows_at at p)) p.orders (map kill_order (filter (is_due m rs) (map (lapsed m rs) p.rows))) order (sym found))

-- or else a kill that time asks
pub next-killed : (at : ℕ) (p : Plan) → IsFit p → None ≡ find (is_due_now (rows_at at p)) p.orders → option_map kill_order (find (is_killed at p) p.rows) ≡ next_signal (advance_plan 0 at p)
next-killed at p fit none =
    let m = max p.moment at in
    let rs = filter (lasts m) p.reservations in
    sym (find-behind (is_due_now (rows_at at p)) p.orders (map kill_order (filter (is_due m rs) (map (lapsed m rs) p.rows))) (sym none) ∙ kills-then at p p.rows (there-then at p fit))

-- the job of an order that is next is kept
pub next-kept : (q : Plan) (order : Order) → next_signal q ≡ Some order → row_of order.job q.rows ≡ None → ⊥
next-kept q order first lost =
    let due = find-meets (is_due_now q.rows) q.orders order first in
    let alive = (and_parts (not order.taken) (option_map_or (λ (row : Row). is_alive row.course.phase) (row_of order.job q.rows) false) due).1 in
    let no : option_map_or (λ (row : Row). is_alive row.course.phase) (row_of order.job q.rows) false ≡ false = ap (λ (o : Option Row). option_map_or (λ (row : Row). is_alive row.course.phase) o false) lost in
    absurd (cc)

-- ---- the order that is taken

-- what is known of the order that is next
module _ (rows : List Row) (order : Order) (due : is_due_now rows order ≡ true) (job : JobId) (same : order.job.0 ≡ job.0) where
  own : is_order job order.kind false order ≡ true
  own =
      let free = (and_parts (not order.taken) (option_map_or (λ (row : Row). is_alive row.course.phase) (row_of order.job rows) false) due).0 in
      let name = eq-eqb order.job.0 job.0 same in
      let kind = eq-eqb (signal_number order.kind) (signal_number order.kind) refl in
      ap (λ a. a && (order.job.0 == job.0) && (signal_number order.kind == signal_number order.kind)) free
      ∙ ap (λ a. true && a && (signal_number order.kind == signal_number order.kind)) name
      ∙ ap (λ a. true && true && a) kind

  -- an earlier one that can't be delivered is none for its job that was not handed out
  other : (o : Order) → is_due_now rows o ≡ false → is_order job order.kind false o ≡ false
  other o fails =
      (elim (is_order job order.kind false o) as (λ b. is_order job order.kind false o ≡ b → b ≡ false) [
        | false ↦ λ e. refl
        | true ↦ λ e.
            (let parts = and_parts (not o.taken) (o.job.0 == job.0) (and_parts (not o.taken && (o.job.0 == job.0)) (signal_number o.kind == signal_number order.kind) e).0 in
            let name = eqb-true o.job.0 job.0 parts.1 in
            let alive = (and_parts (not order.taken) (option_map_or (λ (row : Row). is_alive row.course.phase) (row_of order.job rows) false) due).1 in
            let number : order.job.0 ≡ o.job.0 = same ∙ sym name in
            let lives : option_map_or (λ (row : Row). is_alive row.course.phase) (row_of o.job rows) false ≡ true =
            subst (λ (n : ℕ). option_map_or (λ (row : Row). is_alive row.course.phase) (row_of (record { 0 = n }) rows) false ≡ true) number alive in
            let meets : is_due_now rows o ≡ true = and_from (not o.taken) (option_map_or (λ (row : Row). is_alive row.course.phase) (row_of o.job rows) false) parts.0 lives in
            absurd (cc))
      ]) refl

  pub take-same : (orders : List Order) → find (is_due_now rows) orders ≡ Some order → take_first (is_order job order.kind false) orders ≡ take_first (is_due_now rows) orders
  take-same [] found = absurd (cc)
  take-same (o ∷ orders) found =
      let test = is_order job order.kind false in
      let taken : Order = record o { taken = true } in
      (elim (is_due_now rows o) as (λ b. is_due_now rows o ≡ b → cond b (Some o) (find (is_due_now rows) orders) ≡ Some order
      → cond (test o) (taken ∷ orders) (o ∷ take_first test orders) ≡ cond b (taken ∷ orders) (o ∷ take_first (is_due_now rows) orders)) [
        | true ↦ λ e f. (let is : order ≡ o = cc in ap (λ b. cond b (taken ∷ orders) (o ∷ take_first test orders)) (subst (λ (x : Order). test x ≡ true) is own))
        | false ↦ λ e f. ap (λ b. cond b (taken ∷ orders) (o ∷ take_first test orders)) (other o e) ∙ ap (λ os. o ∷ os) (take-same orders f)
      ]) refl found

-- ---- a job that goes on by its own course stays

state-same : (s : JobState) → is_state s s ≡ true
state-same s = eq-eqb (state_number s) (state_number s) refl

map-same : (f : Row → Row) (rows : List Row) → AllByRecursion (λ r. f r ≡ r) rows → map f rows ≡ rows
map-same f [] all = refl
map-same f (r ∷ rows) all = ap (λ (x : Row). x ∷ map f rows) all.0 ∙ ap (λ xs. r ∷ xs) (map-same f rows all.1)

own-course : (q : Plan) (row r : Row) → row_of row.job q.rows ≡ Some row → row_of r.job q.rows ≡ Some r → with_course row.job row.course r ≡ r
own-course q row r found kept =
    (elim (is_of row.job r) as (λ t. is_of row.job r ≡ t → cond t (record r { course = row.course }) r ≡ r) [
      | false ↦ λ e. refl
      | true ↦ λ e.
          (let own : r.job ≡ row.job = ap (λ (n : ℕ). let j : JobId = record { 0 = n } in j) (eqb-true r.job.0 row.job.0 e) in
          let there : row_of row.job q.rows ≡ Some r = subst (λ (j : JobId). row_of j q.rows ≡ Some r) own kept in
          let same : row ≡ r = cc in
          ap (λ (x : Row). let y : Row = record r { course = x.course } in y) same)
    ]) refl

go_on-same : (entry : ℕ) (q : Plan) (row : Row) → IsFit q → row_of row.job q.rows ≡ Some row → go_on entry row.job row.course q ≡ q
go_on-same entry q row fit found =
    let rows : map (with_course row.job row.course) q.rows ≡ q.rows =
    map-same (with_course row.job row.course) q.rows
    (all-implied (λ (r : Row). row_of r.job q.rows ≡ Some r) (λ (r : Row). with_course row.job row.course r ≡ r) (λ r kept. own-course q row r found kept) q.rows (rising-found q.rows fit.jobs.rising)) in
    let none : change_of entry row row ≡ [] = ap (λ b. cond b [] (record { entry = entry; job = row.job; home = row.home; from = row.course.state; to = row.course.state } ∷ [])) (state-same row.course.state) in
    let changes : q.changes ++ flat_map (λ r. change_of entry r (with_course row.job row.course r)) q.rows ≡ q.changes =
    ap (λ (cs : List Change). q.changes ++ cs) (changes_with_course row.job row.course entry q.rows row fit.jobs.rising found ∙ none) ∙ append-nil q.changes in
    ap (λ (rs : List Row). let x : Plan = record q { rows = rs; changes = q.changes ++ flat_map (λ r. change_of entry r (with_course row.job row.course r)) q.rows } in x) rows
    ∙ ap (λ (cs : List Change). let x : Plan = record q { changes = cs } in x) changes

-- ---- what the handing out comes to

pub record Takes (entry : ℕ) (q : Plan) (next : NextSignal) : Type 0 where
  pub is : IsMove q (take_move next)
  pub fits : IsFit (moved entry (take_move next) q)
  pub ties : KeepsTie (take_move next).booked (take_move next).job q (moved entry (take_move next) q)
  pub leads : signal.effect entry q ≡ moved entry (take_move next) q

told-of : (q : Plan) (next : NextSignal) → IsNext q next → signal_of q next.order ≡ signal_for next
told-of q next n =
    ap (λ (o : Option Row). let s : Signal = record { job = next.order.job; attempt = option_map_or (λ (row : Row). row.course.attempt) o 0; kind = next.order.kind } in s) n.found
    ∙ sym (ap (λ f. let s : Signal = record { job = next.order.job; attempt = f.course.attempt; kind = next.order.kind } in s) n.read)

told-next : (q : Plan) (next : NextSignal) → IsNext q next → signal.told q ≡ Some (signal_for next)
told-next q next n = ap (option_map (signal_of q)) n.first ∙ ap (λ (s : Signal). Some s) (told-of q next n)

takes-next : (entry : ℕ) (q : Plan) (next : NextSignal) → IsFit q → IsNext q next → Takes entry q next
takes-next entry q next fit n =
    let row = n.row in
    let order = next.order in
    let found = own-job order.job q row n.found in
    let at : NextSignal = record { order = order; facts = facts_of row } in
    let same : at ≡ next = ap (λ f. let x : NextSignal = record { order = order; facts = f } in x) (sym n.read) in
    let m = take_move at in
    let due = find-meets (is_due_now q.rows) q.orders order n.first in
    let orders = take-same q.rows order due row.job (sym (row_of-is order.job q.rows row n.found)) q.orders n.first in
    let effect : signal.effect entry q ≡ moved entry m q =
    sym (ap (λ (x : Plan). let y : Plan = record x { orders = take_first (is_order row.job order.kind false) q.orders } in y) (go_on-same entry q row fit found)
    ∙ ap (λ os. let y : Plan = record q { orders = os } in y) orders) in
    subst (Takes entry q) same (record {
      is = record { row = row; found = found; home = refl; before = refl };
      fits = subst IsFit effect (signal-keeps.keeps entry q fit refl);
      ties = record { keeps = λ s tied. tied-same row.job row.course q row fit found (moved entry m q) refl refl refl (λ f. refl) s tied };
      leads = effect;
    })

-- what the book wants of the move of an order that is next in the plan that has come to an occasion, and what it comes to
pub takes-at : (o : Occasion) (b : Book) (v : View) (next : NextSignal) → IsBook b → view_of b ≡ v → IsNext (plan_at o v.plan) next → Takes o.entry (plan_at o (plan_of b)) next
takes-at o b v next is_book seen said =
    takes-next o.entry (plan_at o (plan_of b)) next (advance-fit o.entry o.at (plan_of b) is_book.fit) (subst (λ (w : View). IsNext (plan_at o w.plan) next) (sym seen) said)

-- it hands out what the definition tells
pub signal-told : (q : Plan) (o : Option NextSignal) → IsNextIn q o → option_map signal_for o ≡ signal.told q
signal-told q None is = sym (ap (option_map (signal_of q)) is)
signal-told q (Some next) is = sym (told-next q next is)
