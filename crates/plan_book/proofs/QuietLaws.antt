-- What time leaves as it is, and when it does something.
use Rattle.std.proofs.Common.{◌≡◌, ℕ, Bool, true, false, cond, not, ◌&&◌, ◌||◌, max, List, [], ◌∷◌, ◌++◌, map, filter, take, length, get_or, eqb, ◌<◌, ◌+◌, Option, Some, None, refl, sym, ◌∙◌, ap, subst, arith}
use Rattle.std.specs.Prelude.{nat_le, nat_lt}
use Rattle.std.specs.Option.{option_map_or}
use Rattle.std.specs.List.{AllByRecursion, list_all, flat_map}
use Rattle.std.proofs.lemmas.Bool.Decides.{nat_tests}
use Rattle.std.proofs.lemmas.Bool.{and_parts}
use Rattle.std.proofs.lemmas.List.{append-nil, take_more}
use Rattle.drmaa_types.specs.States.{is_waiting, is_started}
use Rattle.drmaa_types.specs.declared.changes.Change.{Change}
use Rattle.drmaa_types.specs.declared.moments.End.{End}
use Rattle.drmaa_types.specs.declared.moments.End.TheVariants.{At, Never}
use Rattle.drmaa_types.specs.declared.states.Note.TheVariants as note
use Rattle.drmaa_model.specs.declared.courses.Order.{Order}
use Rattle.drmaa_model.specs.declared.reservations.Accepted.{Accepted}
use Rattle.drmaa_model.specs.declared.rows.Row.{Row}
use Rattle.drmaa_model.specs.Plan.{Plan}
use Rattle.drmaa_model.specs.Rows.{change_of}
use Rattle.drmaa_model.specs.Courses.{failed, called, is_unasked, lesser_end, optional_end}
use Rattle.drmaa_model.specs.RowLaws.{all-implied, all-push}
use Rattle.drmaa_model.specs.Time.{come_to, let_go, lasts, is_late, is_past, is_over, is_stranded, lapses, lapsed, expire, is_due, called_in, call_in, kill_order}
use Rattle.drmaa_model.specs.TimeLaws.{changes-lapsed, expiry, waits-not_started}
use Rattle.reservation_calendar.specs.declared.bookings.Booking.{Booking}
use Rattle.reservation_calendar.specs.declared.bookings.Key.{Key}
use Rattle.reservation_calendar.specs.declared.bookings.Key.TheVariants.{Job, Reservation}
use Rattle.reservation_calendar.specs.Schedules.{Schedule}
use Rattle.plan_book.specs.Quiet.{is_left, IsLeftUntil, LastsUntil, acts_at}
use Rattle.plan_book.specs.Ties.{is_gone, let_go_of}

pub not-true : (b : Bool) → not b ≡ true → b ≡ false
not-true true h = absurd (cc)
not-true false h = refl

pub lapsed-same : (m : ℕ) (rs : List Accepted) (r : Row) → lapses m rs r ≡ false → lapsed m rs r ≡ r
lapsed-same m rs r h = ap (λ (b : Bool). cond {A = Row} b (record r { course = failed m (cond (is_late m r) note.PastDeadline note.ReservationGone) r.course }) r) h

pub called-same : (m : ℕ) (rs : List Accepted) (r : Row) → is_due m rs r ≡ false → called_in m rs r ≡ r
called-same m rs r h = ap (λ (b : Bool). cond {A = Row} b (record r { course = called (cond (is_over m r) note.PastLimit note.ReservationGone) r.course }) r) h

record Stays (m : ℕ) (rs : List Accepted) (rows : List Row) : Type 0 where
  pub lapsed_is : map (lapsed m rs) rows ≡ rows
  pub called_is : map (called_in m rs) rows ≡ rows
  pub none_lapses : filter (lapses m rs) rows ≡ []
  pub none_is_due : filter (is_due m rs) rows ≡ []

-- rows of which each is left
rows-stay : (m : ℕ) (rs : List Accepted) (rows : List Row) → list_all (is_left m rs) rows ≡ true → Stays m rs rows
rows-stay m rs [] h = record { lapsed_is = refl; called_is = refl; none_lapses = refl; none_is_due = refl }
rows-stay m rs (r ∷ rows) h =
    let both = and_parts (is_left m rs r) (list_all (is_left m rs) rows) h in
    let own = and_parts (not (lapses m rs r)) (not (is_due m rs r)) both.0 in
    let lives : lapses m rs r ≡ false = not-true (lapses m rs r) own.0 in
    let free : is_due m rs r ≡ false = not-true (is_due m rs r) own.1 in
    let rest = rows-stay m rs rows both.1 in
    record {
      lapsed_is = ap (λ (x : Row). x ∷ map (lapsed m rs) rows) (lapsed-same m rs r lives) ∙ ap (λ (xs : List Row). r ∷ xs) rest.lapsed_is;
      called_is = ap (λ (x : Row). x ∷ map (called_in m rs) rows) (called-same m rs r free) ∙ ap (λ (xs : List Row). r ∷ xs) rest.called_is;
      none_lapses = ap (λ (b : Bool). cond b (r ∷ filter (lapses m rs) rows) (filter (lapses m rs) rows)) lives ∙ rest.none_lapses;
      none_is_due = ap (λ (b : Bool). cond b (r ∷ filter (is_due m rs) rows) (filter (is_due m rs) rows)) free ∙ rest.none_is_due;
    }

-- a plan of which each job is left
pub quiet : (p : Plan) (entry : ℕ) → list_all (is_left p.moment p.reservations) p.rows ≡ true → call_in (expire entry p) ≡ p
quiet p entry h =
    let stays = rows-stay p.moment p.reservations p.rows h in
    let none : flat_map (λ row. change_of entry row (lapsed p.moment p.reservations row)) p.rows ≡ [] =
    changes-lapsed entry p.moment p.reservations p.rows ∙ ap (map (expiry entry)) stays.none_lapses in
    let expired : expire entry p ≡ p =
    ap (λ (rows : List Row). let q : Plan = record p { rows = rows; changes = p.changes ++ flat_map (λ row. change_of entry row (lapsed p.moment p.reservations row)) p.rows } in q) stays.lapsed_is
    ∙ ap (λ (cs : List Change). let q : Plan = record p { changes = p.changes ++ cs } in q) none
    ∙ ap (λ (cs : List Change). let q : Plan = record p { changes = cs } in q) (append-nil p.changes) in
    ap call_in expired
    ∙ ap (λ (rows : List Row). let q : Plan = record p { rows = rows; orders = p.orders ++ map kill_order (filter (is_due p.moment p.reservations) p.rows) } in q) stays.called_is
    ∙ ap (λ (rows : List Row). let q : Plan = record p { orders = p.orders ++ map kill_order rows } in q) stays.none_is_due
    ∙ ap (λ (os : List Order). let q : Plan = record p { orders = os } in q) (append-nil p.orders)

-- ---- until an end

past-later : (a b m : ℕ) → nat_le a b ≡ false → nat_le b m ≡ false → nat_le a m ≡ false
past-later a b m later ahead = grind (arith, nat_tests)

past-sooner : (a b m : ℕ) → nat_le a b ≡ true → nat_le a m ≡ false → nat_le b m ≡ false
past-sooner a b m sooner ahead = grind (arith, nat_tests)

pub lesser-first : (m : ℕ) (a b : End) → is_past m (lesser_end a b) ≡ false → is_past m a ≡ false
lesser-first m Never b ahead = refl
lesser-first m (At x) Never ahead = ahead
lesser-first m (At x) (At y) ahead =
    (elim (nat_le x y) as (λ (t : Bool). nat_le x y ≡ t → is_past m (cond t (At x) (At y)) ≡ false → nat_le x m ≡ false) [
      | true ↦ λ e h. h
      | false ↦ λ e h. past-later x y m e h
    ]) refl ahead

pub lesser-second : (m : ℕ) (a b : End) → is_past m (lesser_end a b) ≡ false → is_past m b ≡ false
lesser-second m Never b ahead = ahead
lesser-second m (At x) Never ahead = refl
lesser-second m (At x) (At y) ahead =
    (elim (nat_le x y) as (λ (t : Bool). nat_le x y ≡ t → is_past m (cond t (At x) (At y)) ≡ false → nat_le y m ≡ false) [
      | true ↦ λ e h. past-sooner x y m e h
      | false ↦ λ e h. h
    ]) refl ahead

pub lesser-both : (m : ℕ) (a b : End) → is_past m a ≡ false → is_past m b ≡ false → is_past m (lesser_end a b) ≡ false
lesser-both m Never b first second = second
lesser-both m (At x) Never first second = first
lesser-both m (At x) (At y) first second = elim (nat_le x y) as (λ (t : Bool). is_past m (cond t (At x) (At y)) ≡ false) [ true ↦ first | false ↦ second ]

pub left-first : (a b : End) (rs : List Accepted) (r : Row) → IsLeftUntil a rs r → IsLeftUntil (lesser_end a b) rs r
left-first a b rs r left = λ m ahead. left m (lesser-first m a b ahead)

pub lasting-first : (a b : End) (rs : List Accepted) → AllByRecursion (LastsUntil a) rs → AllByRecursion (LastsUntil (lesser_end a b)) rs
lasting-first a b rs all = all-implied (LastsUntil a) (LastsUntil (lesser_end a b)) (λ r lasts m ahead. lasts m (lesser-first m a b ahead)) rs all

pub lasting-second : (a b : End) (rs : List Accepted) → AllByRecursion (LastsUntil b) rs → AllByRecursion (LastsUntil (lesser_end a b)) rs
lasting-second a b rs all = all-implied (LastsUntil b) (LastsUntil (lesser_end a b)) (λ r lasts m ahead. lasts m (lesser-second m a b ahead)) rs all

not-past : (until m : ℕ) → nat_le until m ≡ false → nat_lt m until ≡ true
not-past until m ahead = grind (arith, nat_tests)

-- a reservation lasts until its end
pub lasts-until : (r : Accepted) → LastsUntil (At r.until) r
lasts-until r = λ m ahead. not-past r.until m ahead

never-ahead : {A : Type 0} (m : ℕ) → nat_le 0 m ≡ false → A
never-ahead m ahead = absurd (let yes : nat_le 0 m ≡ true = grind (arith, nat_tests) in cc)

left-ahead : (m : ℕ) (stranded : Bool) (deadline : Option ℕ) (planned : Option End) (waits starts free : Bool) → (waits ≡ true → starts ≡ false)
    → is_past m (cond waits (cond stranded (At 0) (optional_end deadline)) (cond (starts && free) (cond stranded (At 0) (option_map_or (λ (end : End). end) planned Never)) Never)) ≡ false
    → (not (waits && (option_map_or (λ (d : ℕ). nat_le d m) deadline false || stranded))
    && not (starts && (free && (option_map_or (is_past m) planned false || stranded)))) ≡ true
left-ahead m stranded deadline planned true true free apart ahead = absurd (let no : true ≡ false = apart refl in cc)
left-ahead m true deadline planned true false free apart ahead = never-ahead m ahead
left-ahead m false None planned true false free apart ahead = refl
left-ahead m false (Some d) planned true false free apart ahead = ap (λ (b : Bool). not (b || false) && true) ahead
left-ahead m true deadline planned false true true apart ahead = never-ahead m ahead
left-ahead m false deadline None false true true apart ahead = refl
left-ahead m false deadline (Some Never) false true true apart ahead = refl
left-ahead m false deadline (Some (At e)) false true true apart ahead = ap (λ (b : Bool). not (b || false)) ahead
left-ahead m stranded deadline planned false true false apart ahead = refl
left-ahead m stranded deadline planned false false free apart ahead = refl

-- a job is left until time may act on it
pub acts-left : (rs : List Accepted) (r : Row) → IsLeftUntil (acts_at rs r) rs r
acts-left rs r = λ m ahead.
    left-ahead m (is_stranded rs r) r.wants.deadline r.course.planned (is_waiting r.course.state) (is_started r.course.state) (is_unasked r.course.kill)
    (waits-not_started r.course.state) ahead

-- ---- before its alarm time does nothing to a plan

pub filter-each : {X : Type 0} (test : X → Bool) (xs : List X) → AllByRecursion (λ x. test x ≡ true) xs → filter test xs ≡ xs
filter-each test [] all = refl
filter-each test (x ∷ xs) all = ap (λ b. cond b (x ∷ filter test xs) (filter test xs)) all.0 ∙ ap (λ ys. x ∷ ys) (filter-each test xs all.1)

pub all-last : (m : ℕ) (alarm : End) (rs : List Accepted) → is_past m alarm ≡ false → AllByRecursion (LastsUntil alarm) rs → AllByRecursion (λ (r : Accepted). lasts m r ≡ true) rs
all-last m alarm rs ahead all = all-implied (LastsUntil alarm) (λ (r : Accepted). lasts m r ≡ true) (λ r until. until m ahead) rs all

-- where the reservations last, none is let go
pub gone-none : (alarm : End) (at : ℕ) (p : Plan) → AllByRecursion (LastsUntil alarm) p.reservations → is_past (max p.moment at) alarm ≡ false → let_go (come_to at p) ≡ come_to at p
gone-none alarm at p last ahead =
    let m = max p.moment at in
    ap (λ (rs : List Accepted). let q : Plan = record (come_to at p) { reservations = rs } in q) (filter-each (lasts m) p.reservations (all-last m alarm p.reservations ahead last))

none-gone : (m : ℕ) (rs : List Accepted) → AllByRecursion (λ (r : Accepted). lasts m r ≡ true) rs → (key : Key) → is_gone m rs key ≡ false
none-gone m rs all (Job job) = refl
none-gone m [] all (Reservation number) = refl
none-gone m (r ∷ rs) all (Reservation number) =
    ap (λ (b : Bool). (not b && eqb r.reservation.0 number.0) || is_gone m rs (Reservation number)) all.0 ∙ none-gone m rs all.1 (Reservation number)

-- the calendar stays
pub quiet-calendar : (alarm : End) (m : ℕ) (rs : List Accepted) (s : Schedule) → AllByRecursion (LastsUntil alarm) rs → is_past m alarm ≡ false → let_go_of m rs s ≡ s
quiet-calendar alarm m rs s all ahead =
    ap (λ (bs : List Booking). let t : Schedule = record s { bookings = bs } in t)
    (filter-each (λ (b : Booking). not (is_gone m rs b.key)) s.bookings (each s.bookings))
  where
    each : (bs : List Booking) → AllByRecursion (λ (b : Booking). not (is_gone m rs b.key) ≡ true) bs
    each [] = tt
    each (b ∷ bs) = (ap not (none-gone m rs (all-last m alarm rs ahead all) b.key), each bs)

-- ---- loops

-- one more element
pub all-more : {X : Type 0} (P : X → Type 0) (xs : List X) (i : ℕ) (x : X) → i < length xs → x ≡ get_or xs i x → AllByRecursion P (take i xs) → P x → AllByRecursion P (take (i + 1) xs)
all-more P xs i x within is all here =
    subst (AllByRecursion P) (sym (take_more xs i x within ∙ ap (λ y. take i xs ++ y ∷ []) (sym is))) (all-push P (take i xs) x all here)
