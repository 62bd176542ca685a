-- Jobs that are over: none may be launched, and none has an event at any moment. So the first in order and the first event are those of the jobs behind them.
use Rattle.std.proofs.Common.{◌≡◌, ℕ, Bool, true, false, cond, not, ◌&&◌, ◌||◌, ◌+◌, ◌<◌, List, [], ◌∷◌, ◌++◌, drop, take, length, get_or, zero, suc, map, filter, Option, Some, None, refl, sym, ◌∙◌, ap, subst, arith}
use Rattle.std.specs.Prelude.{ℤ, int_lt, is_none, nat_le}
use Rattle.std.specs.Global.{Vec}
use Rattle.std.specs.List.{AllByRecursion, list_any}
use Rattle.std.specs.Option.{option_map, option_map_or}
use Rattle.std.proofs.lemmas.Bool.{and_parts, not-true}
use Rattle.drmaa_types.specs.States.{is_waiting, is_started}
use Rattle.drmaa_types.specs.declared.moments.End.{End}
use Rattle.drmaa_types.specs.declared.states.JobState.{JobState}
use Rattle.drmaa_types.specs.declared.states.JobState.TheVariants.{Undetermined, Queued, QueuedHeld, Running, Suspended, Requeued, RequeuedHeld, Done, Failed}
use Rattle.drmaa_model.specs.declared.reservations.Accepted.{Accepted}
use Rattle.drmaa_model.specs.declared.rows.Row.{Row}
use Rattle.drmaa_model.specs.Events.{is_end_at, is_set_to, is_row_event}
use Rattle.drmaa_model.specs.NextLaunch.{better, best_of, has_slots, is_within_bound, held, is_queued, is_reached}
use Rattle.drmaa_model.specs.Plan.{Plan}
use Rattle.drmaa_model.specs.Time.{called_in, lapsed, lasts}
use Rattle.drmaa_model.specs.TimeLaws.{timed, lapsed-cases, called-cases}
use Rattle.plan_book.specs.BlockWalks.{back-more, both-parts}
use Rattle.plan_book.specs.Blocks.{rows_in}
use Rattle.plan_book.specs.Open.{AreOpen, IsPriorityBound, is_over}
use Rattle.scheduler_core.specs.Afters.{first_row_event}
use Rattle.scheduler_core.specs.Launches.{may_launch, seen, seen_row}
use Rattle.scheduler_core.proofs.AfterLaws.{after-same}
use Rattle.scheduler_core.proofs.BlockLaws.{all-front}
use Rattle.scheduler_core.proofs.LaunchSteps.{chosen, passed}
use Rattle.scheduler_core.specs.Firsts.{first_of}

-- ---- what is known of a job that is over

pub record OverFacts (row : Row) : Type 0 where
  pub idle : is_waiting row.course.state ≡ false
  pub still : is_started row.course.state ≡ false
  pub planned : is_none row.course.planned ≡ true

pub over-facts : (row : Row) → is_over row ≡ true → OverFacts row
over-facts row over =
    let waits = is_waiting row.course.state in
    let started = is_started row.course.state in
    let all = and_parts (not waits && not started) (is_none row.course.planned) over in
    let both = and_parts (not waits) (not started) all.0 in
    record { idle = not-true waits both.0; still = not-true started both.1; planned = all.1 }

idle-not_queued : (s : JobState) → is_waiting s ≡ false → is_queued s ≡ false
idle-not_queued Undetermined h = refl
idle-not_queued Queued h = absurd (cc)
idle-not_queued QueuedHeld h = refl
idle-not_queued Running h = refl
idle-not_queued Suspended h = refl
idle-not_queued Requeued h = absurd (cc)
idle-not_queued RequeuedHeld h = refl
idle-not_queued Done h = refl
idle-not_queued Failed h = refl

-- time leaves it as it is
timed-over : (moment : ℕ) (rs : List Accepted) (row : Row) → OverFacts row → timed moment rs row ≡ row
timed-over moment rs row facts =
    let idle = facts.idle in
    let still = facts.still in
    let first : lapsed moment rs row ≡ row = lapsed-cases (λ (p q : Row). is_waiting p.course.state ≡ false → q ≡ p) moment rs row (λ h i. refl) (λ h w n i. absurd (cc)) idle in
    let then : called_in moment rs row ≡ row = called-cases (λ (p q : Row). is_started p.course.state ≡ false → q ≡ p) moment rs row (λ h i. refl) (λ h s n i. absurd (cc)) still in
    ap (called_in moment rs) first ∙ then

over-not : (m : ℕ) (p : Plan) (row : Row) → is_over row ≡ true → may_launch m p (seen_row m p row) ≡ false
over-not m p row over =
    let facts = over-facts row over in
    ap (may_launch m p) (timed-over m (filter (lasts m) p.reservations) row facts)
    ∙ ap (λ (b : Bool). (b && is_reached m row.wants.start && is_within_bound p.rows row.wants) && (nat_le (held p.rows + row.wants.min) p.total && has_slots (seen m p) row.wants.min row))
    (idle-not_queued row.course.state facts.idle)

over-no_event : (x : ℕ) (row : Row) → is_over row ≡ true → is_row_event x row ≡ false
over-no_event x row over =
    let facts = over-facts row over in
    ap (λ (b : Bool). (b && (is_set_to x row.wants.start || is_set_to x row.wants.deadline)) || option_map_or (is_end_at x) row.course.planned false) facts.idle
    ∙ (elim row.course.planned as (λ (o : Option End). is_none o ≡ true → option_map_or (is_end_at x) o false ≡ false) [ None ↦ λ e. refl | Some end ↦ λ e. absurd (cc) ]) facts.planned

-- ---- lists that begin with jobs that are over

front-not : (m : ℕ) (p : Plan) (front rows : List Row) → AllByRecursion (λ (row : Row). is_over row ≡ true) front
    → filter (may_launch m p) (map (seen_row m p) (front ++ rows)) ≡ filter (may_launch m p) (map (seen_row m p) rows)
front-not m p [] rows over = refl
front-not m p (row ∷ front) rows over =
    ap (λ (b : Bool). cond b (seen_row m p row ∷ filter (may_launch m p) (map (seen_row m p) (front ++ rows))) (filter (may_launch m p) (map (seen_row m p) (front ++ rows)))) (over-not m p row over.0)
    ∙ front-not m p front rows over.1

pub open-launches : (m : ℕ) (p : Plan) (rows : List Row) → AreOpen p.rows rows
    → best_of (filter (may_launch m p) (map (seen_row m p) rows)) ≡ best_of (filter (may_launch m p) (map (seen_row m p) p.rows))
open-launches m p rows are =
    ap best_of (sym (ap (λ (all : List Row). filter (may_launch m p) (map (seen_row m p) all)) are.parts ∙ front-not m p are.front rows are.over))

front-events : (x : ℕ) (front rows : List Row) → AllByRecursion (λ (row : Row). is_over row ≡ true) front → list_any (is_row_event x) (front ++ rows) ≡ list_any (is_row_event x) rows
front-events x [] rows over = refl
front-events x (row ∷ front) rows over =
    ap (λ (b : Bool). b || list_any (is_row_event x) (front ++ rows)) (over-no_event x row over.0) ∙ front-events x front rows over.1

pub open-events : (after : ℕ) (all rows : List Row) → AreOpen all rows → first_row_event after rows ≡ first_row_event after all
open-events after all rows are =
    sym (ap (first_row_event after) are.parts
    ∙ after-same after (λ x. list_any (is_row_event x) (are.front ++ rows)) (λ x. list_any (is_row_event x) rows) (λ x. front-events x are.front rows are.over))

-- ---- a job that none behind it stands before

all-behind : {X : Type 0} (P : X → Type 0) (front xs : List X) → AllByRecursion P (front ++ xs) → AllByRecursion P xs
all-behind P [] xs all = all
all-behind P (x ∷ front) xs all = all-behind P front xs all.1

pub all-drop : {X : Type 0} (P : X → Type 0) (xs : List X) (i : ℕ) → AllByRecursion P xs → AllByRecursion P (drop i xs)
all-drop P xs zero all = all
all-drop P [] (suc i) all = tt
all-drop P (x ∷ xs) (suc i) all = all-drop P xs i all.1

-- the jobs that are open
pub greatest-open : (greatest : ℤ) (all rows : List Row) → IsPriorityBound all greatest → AreOpen all rows → IsPriorityBound rows greatest
greatest-open greatest all rows most are =
    all-behind (λ (row : Row). int_lt greatest row.wants.priority ≡ false) are.front rows (subst (λ (rs : List Row). IsPriorityBound rs greatest) are.parts most)

-- those of the blocks from one on
pub greatest-back : (greatest : ℤ) (blocks : List (Vec Row)) (i : ℕ) → IsPriorityBound (rows_in blocks) greatest → IsPriorityBound (rows_in (drop i blocks)) greatest
greatest-back greatest blocks i most =
    all-behind (λ (row : Row). int_lt greatest row.wants.priority ≡ false) (rows_in (take i blocks)) (rows_in (drop i blocks)) (subst (λ (rs : List Row). IsPriorityBound rs greatest) (both-parts blocks i) most)

-- those of one block
pub greatest-block : (greatest : ℤ) (blocks : List (Vec Row)) (i : ℕ) (b : Vec Row) (rows : List Row) → i < length blocks → b ≡ get_or blocks i b → rows ≡ b.items → IsPriorityBound (rows_in blocks) greatest → IsPriorityBound rows greatest
greatest-block greatest blocks i b rows within is same most =
    all-front (λ (row : Row). int_lt greatest row.wants.priority ≡ false) rows (rows_in (drop (i + 1) blocks))
    (subst (λ (rs : List Row). IsPriorityBound rs greatest) (back-more blocks i b within is ∙ ap (λ (rs : List Row). rs ++ rows_in (drop (i + 1) blocks)) (sym same)) (greatest-back greatest blocks i most))

not-less : (a b c : ℤ) → int_lt a b ≡ false → int_lt b c ≡ false → int_lt a c ≡ false
not-less a b c high low = grind arith

stays : (best row : Row) (greatest : ℤ) → int_lt best.wants.priority greatest ≡ false → int_lt greatest row.wants.priority ≡ false → better best row ≡ best
stays best row greatest high low = ap (λ (b : Bool). cond b row best) (not-less best.wants.priority greatest row.wants.priority high low)

last-word : (at : Row → Row) → ((r : Row) → (at r).wants ≡ r.wants) → (test : Row → Bool) (best : Row) (greatest : ℤ) → int_lt best.wants.priority greatest ≡ false
    → (rows : List Row) → IsPriorityBound rows greatest → first_of (Some (at best)) (best_of (filter test (map at rows))) ≡ Some (at best)
last-word at same test best greatest high [] most = refl
last-word at same test best greatest high (row ∷ rows) most =
    (elim (test (at row)) as (λ (t : Bool). test (at row) ≡ t → first_of (Some (at best)) (best_of (filter test (map at (row ∷ rows)))) ≡ Some (at best)) [
      | true ↦ λ h. sym (chosen at same test (Some best) row rows h)
          ∙ ap (λ (r : Row). first_of (Some (at r)) (best_of (filter test (map at rows)))) (stays best row greatest high most.0)
          ∙ last-word at same test best greatest high rows most.1
      | false ↦ λ h. sym (passed at test (Some best) row rows h) ∙ last-word at same test best greatest high rows most.1
    ]) refl

-- none of these jobs stands before the best so far
pub none-better : (at : Row → Row) → ((r : Row) → (at r).wants ≡ r.wants) → (test : Row → Bool) (best : Option Row) (greatest : ℤ)
    → option_map_or (λ (first : Row). not (int_lt first.wants.priority greatest)) best false ≡ true
    → (rows : List Row) → IsPriorityBound rows greatest → option_map at best ≡ first_of (option_map at best) (best_of (filter test (map at rows)))
none-better at same test None greatest high rows most = absurd (cc)
none-better at same test (Some best) greatest high rows most =
    sym (last-word at same test best greatest (not-true (int_lt best.wants.priority greatest) high) rows most)

-- there are none
pub none-left : (at : Row → Row) (test : Row → Bool) (best : Option Row) (rows : List Row) → rows ≡ [] → option_map at best ≡ first_of (option_map at best) (best_of (filter test (map at rows)))
none-left at test best rows none =
    (elim (option_map at best) as (λ o. o ≡ first_of o None) [ None ↦ refl | Some first ↦ refl ])
    ∙ ap (λ (rs : List Row). first_of (option_map at best) (best_of (filter test (map at rs)))) (sym none)
