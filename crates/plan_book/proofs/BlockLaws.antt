-- The alarm, block by block.
use Rattle.std.proofs.Common.{◌≡◌, ⊎_elim, ℕ, ◌<◌, ◌≤◌, Bool, true, false, cond, not, ◌&&◌, max, filter, List, [], ◌∷◌, ◌++◌, map, set, get_or, length, refl, sym, ◌∙◌, ap, subst, arith, length-set, get_or-set_other, get_or-set_same}
use Rattle.std.specs.List.{AllByRecursion, list_all, flat_map}
use Rattle.std.proofs.lemmas.Bool.{cases_eq, and_parts}
use Rattle.std.proofs.lemmas.Grind.{flat_map-append}
use Rattle.std.proofs.lemmas.List.{map-append, append-nil}
use Rattle.drmaa_types.specs.declared.moments.End.{End}
use Rattle.drmaa_types.specs.declared.moments.End.TheVariants.{Never}
use Rattle.drmaa_model.specs.declared.reservations.Accepted.{Accepted}
use Rattle.drmaa_model.specs.declared.rows.Row.{Row}
use Rattle.drmaa_model.specs.Courses.{lesser_end}
use Rattle.drmaa_model.specs.Plan.{Plan}
use Rattle.drmaa_model.specs.FitLaws.{all-append}
use Rattle.drmaa_model.specs.RowLaws.{all-implied, all-both}
use Rattle.drmaa_model.specs.Time.{come_to, lasts, is_past, lapses, expire, is_due, called_in, call_in, advance_plan, kill_order}
use Rattle.drmaa_model.specs.TimeLaws.{expiry, timed}
use Rattle.plan_book.specs.declared.alarm_blocks.Alarm.{Alarm}
use Rattle.plan_book.specs.declared.rows.Places.{Places}
use Rattle.plan_book.specs.Book.{course_then}
use Rattle.plan_book.specs.Lapses.{ends, kills, kills_then}
use Rattle.plan_book.specs.Open.{is_over}
use Rattle.plan_book.specs.Quiet.{block_of, end_of, is_left, IsLeftUntil, LastsUntil, IsOutside, IsAlarmed, IsSpared, IsQuiet, AreCovered}
use Rattle.plan_book.specs.Settled.{is_settled}
use Rattle.plan_book.proofs.MeantLaws.{flat-none, map-stays}
use Rattle.plan_book.proofs.QuietLaws.{not-true, lapsed-same, called-same, left-first, lasting-first, lesser-first, lesser-second, lesser-both, quiet, gone-none, filter-each, all-last}
use Rattle.plan_book.proofs.SettledLaws.{left-settled, over-left}

-- ---- an end that is lowered

abbrev pub lowered : List End → ℕ → End → List End
lowered ends n end = set ends (block_of n) (lesser_end (end_of ends n) end)

module _ (ends : List End) (n : ℕ) (end : End) (within : block_of n < length ends) where
  -- that of the number's own block
  same-block : (k : ℕ) → k ≡ block_of n → get_or (lowered ends n end) k Never ≡ lesser_end (get_or ends k Never) end
  same-block k is =
      ap (λ (i : ℕ). get_or (lowered ends n end) i Never) is ∙ get_or-set_same ends (block_of n) (lesser_end (end_of ends n) end) Never within
      ∙ ap (λ (i : ℕ). lesser_end (get_or ends i Never) end) (sym is)

  -- and that of another
  other-block : (k : ℕ) → (k ≡ block_of n → ⊥) → get_or (lowered ends n end) k Never ≡ get_or ends k Never
  other-block k other = get_or-set_other ends (block_of n) k (lesser_end (end_of ends n) end) Never other

  pub lowered-alarmed : (rs : List Accepted) (row : Row) → IsAlarmed ends rs row → IsAlarmed (lowered ends n end) rs row
  lowered-alarmed rs row is = record {
    covered = omega (arith, is.covered, length-set ends (block_of n) (lesser_end (end_of ends n) end));
    left = ⊎_elim
        (λ (same : block_of row.job.0 ≡ block_of n). subst (λ (e : End). IsLeftUntil e rs row) (sym (same-block (block_of row.job.0) same)) (left-first (end_of ends row.job.0) end rs row is.left))
        (λ (other : block_of row.job.0 ≡ block_of n → ⊥). subst (λ (e : End). IsLeftUntil e rs row) (sym (other-block (block_of row.job.0) other)) is.left)
        (cases_eq (block_of row.job.0) (block_of n));
  }

  -- the job itself
  pub lowered-here : (rs : List Accepted) (row : Row) → row.job.0 ≡ n → IsLeftUntil end rs row → IsAlarmed (lowered ends n end) rs row
  lowered-here rs row is left = record {
    covered = omega (arith, within, ap block_of is, length-set ends (block_of n) (lesser_end (end_of ends n) end));
    left = subst (λ (e : End). IsLeftUntil e rs row) (sym (same-block (block_of row.job.0) (ap block_of is)))
        (λ m ahead. left m (lesser-second m (end_of ends row.job.0) end ahead));
  }

  lowered-ahead : (m : ℕ) → is_past m end ≡ false → ((k : ℕ) → is_past m (get_or ends k Never) ≡ false) → (k : ℕ) → is_past m (get_or (lowered ends n end) k Never) ≡ false
  lowered-ahead m ahead all k = ⊎_elim
      (λ (same : k ≡ block_of n). ap (is_past m) (same-block k same) ∙ lesser-both m (get_or ends k Never) end (all k) ahead)
      (λ (other : k ≡ block_of n → ⊥). ap (is_past m) (other-block k other) ∙ all k)
      (cases_eq k (block_of n))

pub lowered-quiet : (old new : Alarm) (n : ℕ) (end : End) (p : Plan) → block_of n < length old.ends.items → new.ends.items ≡ lowered old.ends.items n end → new.lasting ≡ old.lasting
    → new.soonest ≡ lesser_end old.soonest end → IsQuiet old p → IsQuiet new p
lowered-quiet old new n end p within are lasts soon quiet = record {
  rows = subst (λ (es : List End). AllByRecursion (IsAlarmed es p.reservations) p.rows) (sym are)
      (all-implied (IsAlarmed old.ends.items p.reservations) (IsAlarmed (lowered old.ends.items n end) p.reservations) (lowered-alarmed old.ends.items n end within p.reservations) p.rows quiet.rows);
  reservations = subst (λ (e : End). AllByRecursion (LastsUntil e) p.reservations) (sym lasts) quiet.reservations;
  soonest = λ m ahead.
      (let both : is_past m (lesser_end old.soonest end) ≡ false = ap (is_past m) (sym soon) ∙ ahead in
      let was = quiet.soonest m (lesser-first m old.soonest end both) in
      record {
        lasting = ap (is_past m) lasts ∙ was.lasting;
        ends = λ k. ap (λ (es : List End). is_past m (get_or es k Never)) are ∙ lowered-ahead old.ends.items n end within m (lesser-second m old.soonest end both) was.ends k;
      });
  few = omega (arith, quiet.few, ap (λ (es : List End). length es) are, length-set old.ends.items (block_of n) (lesser_end (end_of old.ends.items n) end));
}

-- ---- a reservation's end

pub lasting-quiet : (old new : Alarm) (end : End) (p : Plan) → new.ends.items ≡ old.ends.items → new.lasting ≡ lesser_end old.lasting end → new.soonest ≡ lesser_end old.soonest end → IsQuiet old p → IsQuiet new p
lasting-quiet old new end p are lasts soon quiet = record {
  rows = subst (λ (es : List End). AllByRecursion (IsAlarmed es p.reservations) p.rows) (sym are) quiet.rows;
  reservations = subst (λ (e : End). AllByRecursion (LastsUntil e) p.reservations) (sym lasts) (lasting-first old.lasting end p.reservations quiet.reservations);
  soonest = λ m ahead.
      (let both : is_past m (lesser_end old.soonest end) ≡ false = ap (is_past m) (sym soon) ∙ ahead in
      let was = quiet.soonest m (lesser-first m old.soonest end both) in
      record {
        lasting = ap (is_past m) lasts ∙ lesser-both m old.lasting end was.lasting (lesser-second m old.soonest end both);
        ends = λ k. ap (λ (es : List End). is_past m (get_or es k Never)) are ∙ was.ends k;
      });
  few = omega (arith, quiet.few, ap (λ (es : List End). length es) are);
}

-- ---- a block more

-- ---- jobs that are spared

pub covered-quiet : (alarm : Alarm) (p : Plan) → IsQuiet alarm p → AreCovered alarm.ends.items p.rows
covered-quiet alarm p quiet = all-implied (IsAlarmed alarm.ends.items p.reservations) (λ (row : Row). block_of row.job.0 < length alarm.ends.items) (λ row own. own.covered) p.rows quiet.rows

-- none is of all blocks' outside
pub spared-none : (m : ℕ) (ends : List End) (rs : List Accepted) (blocks : Places) (rows : List Row) → blocks.from ≡ 0 → blocks.until ≡ length ends → AreCovered ends rows
    → AllByRecursion (λ (row : Row). IsOutside blocks (block_of row.job.0) → IsSpared m ends rs row) rows
spared-none m ends rs blocks rows first last covered =
    all-implied (λ (row : Row). block_of row.job.0 < length ends) (λ (row : Row). IsOutside blocks (block_of row.job.0) → IsSpared m ends rs row)
    (λ row within outside. absurd (⊎_elim
    (λ (less : block_of row.job.0 < blocks.from). omega (arith, less, first))
    (λ (more : blocks.until ≤ block_of row.job.0). omega (arith, more, last, within)) outside)) rows covered

-- the same of a plan that was quiet, with other reservations
pub covered-after : (alarm : Alarm) (p : Plan) (ends : List End) (rows : List Row) → ends ≡ alarm.ends.items → rows ≡ p.rows → IsQuiet alarm p → AreCovered ends rows
covered-after alarm p ends rows are same quiet =
    subst (λ (es : List End). AreCovered es rows) (sym are) (subst (AreCovered alarm.ends.items) (sym same) (covered-quiet alarm p quiet))

-- before what is soonest all are
pub left-soon : (alarm : Alarm) (p : Plan) (m : ℕ) → IsQuiet alarm p → is_past m alarm.soonest ≡ false → AllByRecursion (λ (row : Row). is_left m p.reservations row ≡ true) p.rows
left-soon alarm p m quiet ahead =
    let is = quiet.soonest m ahead in
    all-implied (IsAlarmed alarm.ends.items p.reservations) (λ (row : Row). is_left m p.reservations row ≡ true) (λ row own. own.left m (is.ends (block_of row.job.0))) p.rows quiet.rows

-- ---- time does nothing to a job that is left

module _ (m : ℕ) (rs : List Accepted) (row : Row) (left : is_left m rs row ≡ true) where
  lives : lapses m rs row ≡ false
  lives = not-true (lapses m rs row) (and_parts (not (lapses m rs row)) (not (is_due m rs row)) left).0

  free : is_due m rs row ≡ false
  free = not-true (is_due m rs row) (and_parts (not (lapses m rs row)) (not (is_due m rs row)) left).1

  pub left-timed : timed m rs row ≡ row
  left-timed = ap (called_in m rs) (lapsed-same m rs row lives) ∙ called-same m rs row free

  pub left-ends : (entry : ℕ) → ends entry m rs row ≡ []
  left-ends entry = ap (λ (b : Bool). cond b (expiry entry row ∷ []) []) lives

  pub left-kills : kills_then m rs row ≡ []
  left-kills = ap (kills m rs) (lapsed-same m rs row lives) ∙ ap (λ (b : Bool). cond b (kill_order row ∷ []) []) free

abbrev pub Left : ℕ → List Accepted → Row → Type 0
Left m rs row = is_left m rs row ≡ true

-- ---- the jobs between two places are all that it goes over

module _ (m : ℕ) (rs : List Accepted) (rows before part behind : List Row) (parts : rows ≡ before ++ (part ++ behind)) (front : AllByRecursion (Left m rs) before) (back : AllByRecursion (Left m rs) behind) where
  flat-part : {Y : Type 0} (f : Row → List Y) → ((row : Row) → Left m rs row → f row ≡ []) → flat_map f part ≡ flat_map f rows
  flat-part f none =
      let nothing = λ (xs : List Row) (all : AllByRecursion (Left m rs) xs). flat-none f xs (all-implied (Left m rs) (λ (row : Row). f row ≡ []) none xs all) in
      sym (ap (flat_map f) parts ∙ flat_map-append f before (part ++ behind) ∙ ap (λ ys. ys ++ flat_map f (part ++ behind)) (nothing before front)
      ∙ flat_map-append f part behind ∙ ap (λ ys. flat_map f part ++ ys) (nothing behind back) ∙ append-nil (flat_map f part))

  pub ends-part : (entry : ℕ) → flat_map (ends entry m rs) part ≡ flat_map (ends entry m rs) rows
  ends-part entry = flat-part (ends entry m rs) (λ row left. left-ends m rs row left entry)

  pub kills-part : flat_map (kills_then m rs) part ≡ flat_map (kills_then m rs) rows
  kills-part = flat-part (kills_then m rs) (λ row left. left-kills m rs row left)

  pub timed-part : before ++ (map (timed m rs) part ++ behind) ≡ map (timed m rs) rows
  timed-part =
      let f = timed m rs in
      let stays = λ (xs : List Row) (all : AllByRecursion (Left m rs) xs). map-stays f xs (all-implied (Left m rs) (λ (row : Row). f row ≡ row) (λ row left. left-timed m rs row left) xs all) in
      sym (ap (map f) parts ∙ map-append f before (part ++ behind) ∙ ap (λ (xs : List Row). map f before ++ xs) (map-append f part behind)
      ∙ ap (λ (xs : List Row). xs ++ (map f part ++ map f behind)) (stays before front) ∙ ap (λ (xs : List Row). before ++ (map f part ++ xs)) (stays behind back))

-- ---- before what is soonest time sets the moment alone

list-left : (m : ℕ) (rs : List Accepted) (rows : List Row) → AllByRecursion (Left m rs) rows → list_all (is_left m rs) rows ≡ true
list-left m rs [] all = refl
list-left m rs (r ∷ rows) all = ap (λ (b : Bool). b && list_all (is_left m rs) rows) all.0 ∙ list-left m rs rows all.1

pub quiet-advance : (alarm : Alarm) (entry at : ℕ) (p : Plan) → IsQuiet alarm p → is_past (max p.moment at) alarm.soonest ≡ false → advance_plan entry at p ≡ come_to at p
quiet-advance alarm entry at p is ahead =
    let m = max p.moment at in
    ap (λ (q : Plan). call_in (expire entry q)) (gone-none alarm.lasting at p is.reservations (is.soonest m ahead).lasting)
    ∙ quiet (come_to at p) entry (list-left m p.reservations p.rows (left-soon alarm p m is ahead))

-- ---- the jobs that keep their course

-- a job that is left does, where no reservation ends
pub left-course : (alarm : Alarm) (at : ℕ) (p : Plan) (row : Row) → IsQuiet alarm p → is_past (max p.moment at) alarm.lasting ≡ false → Left (max p.moment at) p.reservations row → course_then at p row ≡ row.course
left-course alarm at p row is ahead left =
    let m = max p.moment at in
    let rs = p.reservations in
    let same : filter (lasts m) rs ≡ rs = filter-each (lasts m) rs (all-last m alarm.lasting rs ahead is.reservations) in
    ap (λ (xs : List Accepted). (timed m xs row).course) same ∙ ap (λ (x : Row). x.course) (left-timed m rs row left)

-- and one that is over, wherever a reservation ends
pub over-course : (at : ℕ) (p : Plan) (row : Row) → is_over row ≡ true → course_then at p row ≡ row.course
over-course at p row over =
    let m = max p.moment at in
    let rs = filter (lasts m) p.reservations in
    ap (λ (x : Row). x.course) (left-timed m rs row (over-left m rs row over))

-- ---- the jobs that it leaves out

pub settled-spared : (m : ℕ) (es : List End) (rs : List Accepted) (row : Row) → is_settled row ≡ true → IsSpared m es rs row
settled-spared m es rs row settled = record { now = left-settled Never rs row settled m refl; left = left-settled (end_of es row.job.0) rs row settled }

-- they stay alarmed
pub alarmed-part : (m : ℕ) (old new : List End) (rs : List Accepted) (before part behind : List Row) → ((row : Row) → IsAlarmed old rs row → IsAlarmed new rs row)
    → AreCovered old before → AllByRecursion (IsSpared m old rs) before → AreCovered old behind → AllByRecursion (IsSpared m old rs) behind
    → AllByRecursion (IsAlarmed new rs) part → AllByRecursion (IsAlarmed new rs) (before ++ (part ++ behind))
alarmed-part m old new rs before part behind kept front_covered front back_covered back own =
    let stay = λ (rows : List Row) (covered : AreCovered old rows) (spared : AllByRecursion (IsSpared m old rs) rows).
    all-implied (λ (row : Row). (block_of row.job.0 < length old) × IsSpared m old rs row) (IsAlarmed new rs)
    (λ (row : Row) (both : (block_of row.job.0 < length old) × IsSpared m old rs row). kept row (record { covered = both.0; left = both.1.left })) rows
    (all-both (λ (row : Row). block_of row.job.0 < length old) (IsSpared m old rs) rows covered spared) in
    all-append (IsAlarmed new rs) before (part ++ behind) (stay before front_covered front) (all-append (IsAlarmed new rs) part behind own (stay behind back_covered back))
