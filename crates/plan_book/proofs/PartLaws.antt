-- Some of the jobs go on or leave, between places outside of which none is meant.
use Rattle.std.proofs.Common.{◌≡◌, ℕ, ◌+◌, ◌-◌, ◌<◌, ◌≤◌, ◌^◌, Bool, true, false, cond, not, ◌&&◌, List, [], ◌∷◌, ◌++◌, map, filter, take, drop, length, sum_by, Option, Some, refl, sym, ◌∙◌, ap, subst, arith, length-append}
use Rattle.std.specs.Prelude.{IfSome}
use Rattle.std.specs.List.{AllByRecursion}
use Rattle.std.proofs.lemmas.List.{map-append}
use Rattle.std.proofs.lemmas.List.Edits.{split_between}
use Rattle.std.proofs.lemmas.List.Sums.{sum_by-append}
use Rattle.drmaa_types.specs.declared.states.Control.{Control}
use Rattle.drmaa_model.specs.declared.calls.Target.{Target}
use Rattle.drmaa_model.specs.declared.rows.Row.{Row}
use Rattle.drmaa_model.specs.Controlling.{control_step, is_done}
use Rattle.drmaa_model.specs.Fit.{IsSound}
use Rattle.drmaa_model.specs.RowLaws.{all-filter, all-implied}
use Rattle.drmaa_model.specs.Size.{room_of}
use Rattle.drmaa_model.specs.Submitting.{kept_text}
use Rattle.drmaa_model.specs.Targets.{is_meant}
use Rattle.plan_book.specs.declared.sums.Sums.{Sums}
use Rattle.plan_book.specs.Meant.{NoneMeant, HasAllMeant}
use Rattle.plan_book.specs.Owed.{owes, owes_kill, reports_due}
use Rattle.plan_book.specs.Settled.{is_settled}
use Rattle.plan_book.specs.Sums.{AreSums, AreFew, AreAmong, with_others, without_others}
use Rattle.plan_book.specs.Texts.{IsRoomBeside}
use Rattle.plan_book.proofs.ArrivalLaws.{left-promised, left-owed, left-owed_kills, left-held, left-reports}
use Rattle.plan_book.proofs.MeantLaws.{map-stays, step-stays, filter-part}
use Rattle.plan_book.proofs.SumLaws.{all-append}
use Rattle.plan_book.proofs.TextLaws.{same-room, text-both}

-- ---- the part between two places

-- ---- they go on

pub all-left : (P : Row → Type 0) (xs ys : List Row) → AllByRecursion P (xs ++ ys) → AllByRecursion P xs
all-left P [] ys all = tt
all-left P (x ∷ xs) ys all = (all.0, all-left P xs ys all.1)

pub all-right : (P : Row → Type 0) (xs ys : List Row) → AllByRecursion P (xs ++ ys) → AllByRecursion P ys
all-right P [] ys all = all
all-right P (x ∷ xs) ys all = all-right P xs ys all.1

-- what some of the jobs come to is among what all come to, and may be exchanged
module _ (before part behind : List Row) (sums of_part : Sums) (are : AreSums (before ++ (part ++ behind)) sums) (own : AreSums part of_part) where
  sum-parts : (f : Row → ℕ) (others : List Row) → sum_by f (before ++ (others ++ behind)) ≡ sum_by f before + (sum_by f others + sum_by f behind)
  sum-parts f others = sum_by-append f before (others ++ behind) ∙ ap (λ n. sum_by f before + n) (sum_by-append f others behind)

  long : (others : List Row) → length (before ++ (others ++ behind)) ≡ length before + (length others + length behind)
  long others = omega (arith, length-append before (others ++ behind), length-append others behind)

  pub part-among : AreAmong of_part sums
  part-among = record {
    promised = omega (arith, are.promised, own.promised, sum-parts (λ (row : Row). room_of row.course) part);
    owed = omega (arith, are.owed, own.owed, sum-parts (λ (row : Row). owes row.course) part);
    owed_kills = omega (arith, are.owed_kills, own.owed_kills, sum-parts (λ (row : Row). owes_kill row.course) part);
    held = omega (arith, are.held, own.held, sum-parts (λ (row : Row). row.course.held) part);
    reports = omega (arith, are.reports, own.reports, sum-parts (λ (row : Row). reports_due row.course.phase) part);
    count = omega (arith, are.count, own.count, long part);
  }

  pub part-exchanged : (next : List Row) (of_next : Sums) → AreSums next of_next → AreSums (before ++ (next ++ behind)) (with_others (without_others sums of_part) of_next)
  part-exchanged next of_next new =
      let small = λ (row : Row). row.course.held < 2 ^ 32 in
      record {
        promised = omega (arith, are.promised, own.promised, new.promised, sum-parts (λ (row : Row). room_of row.course) part, sum-parts (λ (row : Row). room_of row.course) next);
        owed = omega (arith, are.owed, own.owed, new.owed, sum-parts (λ (row : Row). owes row.course) part, sum-parts (λ (row : Row). owes row.course) next);
        owed_kills = omega (arith, are.owed_kills, own.owed_kills, new.owed_kills, sum-parts (λ (row : Row). owes_kill row.course) part, sum-parts (λ (row : Row). owes_kill row.course) next);
        held = omega (arith, are.held, own.held, new.held, sum-parts (λ (row : Row). row.course.held) part, sum-parts (λ (row : Row). row.course.held) next);
        reports = omega (arith, are.reports, own.reports, new.reports, sum-parts (λ (row : Row). reports_due row.course.phase) part, sum-parts (λ (row : Row). reports_due row.course.phase) next);
        count = omega (arith, are.count, own.count, new.count, long part, long next);
        small = all-append small before (next ++ behind) (all-left small before (part ++ behind) are.small)
            (all-append small next behind new.small (all-right small part behind (all-right small before (part ++ behind) are.small)));
      }

-- those between two places
abbrev pub between : ℕ → ℕ → List Row → List Row
between from until rows = take (until - from) (drop from rows)

module _ (xs : List Row) (from until : ℕ) (order : from ≤ until) where
  pub split : xs ≡ take from xs ++ (between from until xs ++ drop until xs)
  split = split_between xs from until order

  module _ (sums of_part : Sums) (are : AreSums xs sums) (list : List Row) (same : list ≡ xs) (own : AreSums (between from until list) of_part) where
    whole : AreSums (take from xs ++ (between from until xs ++ drop until xs)) sums
    whole = subst (λ (rows : List Row). AreSums rows sums) split are

    inner : AreSums (between from until xs) of_part
    inner = subst (λ (rows : List Row). AreSums (between from until rows) of_part) same own

    pub among : AreAmong of_part sums
    among = part-among (take from xs) (between from until xs) (drop until xs) sums of_part whole inner

    pub exchanged : (next : List Row) (of_next : Sums) → AreSums next of_next → AreSums (take from xs ++ (next ++ drop until xs)) (with_others (without_others sums of_part) of_next)
    exchanged = part-exchanged (take from xs) (between from until xs) (drop until xs) sums of_part whole inner

pub few-without : (sums of_part : Sums) → AreFew sums → AreFew (without_others sums of_part)
few-without sums of_part few = record {
  promised = omega (arith, few.promised);
  owed = omega (arith, few.owed);
  owed_kills = omega (arith, few.owed_kills);
  held = omega (arith, few.held);
  reports = omega (arith, few.reports);
  count = omega (arith, few.count);
}

-- a call leaves those outside
pub step-parts : (moment : ℕ) (t : Target) (what : Control) (rows before part behind : List Row) → rows ≡ before ++ (part ++ behind) → NoneMeant t before → NoneMeant t behind
    → before ++ (map (control_step moment t what) part ++ behind) ≡ map (control_step moment t what) rows
step-parts moment t what rows before part behind parts none_before none_behind =
    let step = control_step moment t what in
    let stays = λ (rs : List Row) (none : NoneMeant t rs). map-stays step rs (all-implied (λ (row : Row). is_meant t row ≡ false) (λ (row : Row). step row ≡ row) (step-stays moment t what) rs none) in
    sym (ap (map step) parts ∙ map-append step before (part ++ behind) ∙ ap (λ (rs : List Row). map step before ++ rs) (map-append step part behind)
    ∙ ap (λ (rs : List Row). rs ++ (map step part ++ map step behind)) (stays before none_before) ∙ ap (λ (rs : List Row). before ++ (map step part ++ rs)) (stays behind none_behind))

-- ---- ended ones leave

abbrev Settled : Row → Type 0
Settled row = is_settled row ≡ true

-- they take nothing with them but themselves
pub sums-left : (meant : Row → Bool) (rows : List Row) (sums : Sums) (n : ℕ) → AllByRecursion (λ (row : Row). IsSound row.wants row.course) rows → n ≡ length (filter (λ (row : Row). not (meant row && is_done row)) rows) → AreSums rows sums
    → AreSums (filter (λ (row : Row). not (meant row && is_done row)) rows) (record sums { count = n })
sums-left meant rows sums n sound long are = record {
  promised = are.promised ∙ sym (left-promised meant rows sound);
  owed = are.owed ∙ sym (left-owed meant rows sound);
  owed_kills = are.owed_kills ∙ sym (left-owed_kills meant rows sound);
  held = are.held ∙ sym (left-held meant rows sound);
  reports = are.reports ∙ sym (left-reports meant rows sound);
  count = long;
  small = all-filter (λ (row : Row). row.course.held < 2 ^ 32) (λ (row : Row). not (meant row && is_done row)) rows are.small;
}

filter-all : (test : Row → Bool) (rows : List Row) → AllByRecursion (λ (row : Row). test row ≡ true) rows → filter test rows ≡ rows
filter-all test [] all = refl
filter-all test (row ∷ rows) all = ap (λ (b : Bool). cond b (row ∷ filter test rows) (filter test rows)) all.0 ∙ ap (λ (rs : List Row). row ∷ rs) (filter-all test rows all.1)

-- the room without the text of those that leave, which are among the part
pub room-part : (t : Target) (rows part : List Row) (room known : Option ℕ) → HasAllMeant t rows part → IsRoomBeside (kept_text rows) room
    → ((text : ℕ) → IsRoomBeside (text + kept_text (filter (λ (row : Row). is_meant t row && is_done row) part)) room → IfSome known (λ (n : ℕ). IsRoomBeside text (Some n)))
    → IfSome known (λ (n : ℕ). IsRoomBeside (kept_text (filter (λ (row : Row). not (is_meant t row && is_done row)) rows)) (Some n))
room-part t rows part room known all beside says =
    let leaves : Row → Bool = λ (row : Row). is_meant t row && is_done row in
    let stay : ℕ = kept_text (filter (λ (row : Row). not (leaves row)) rows) in
    let same : filter leaves part ≡ filter leaves rows = filter-part leaves t (λ row none. ap (λ (b : Bool). b && is_done row) none) rows part all in
    says stay (same-room (kept_text rows) (stay + kept_text (filter leaves part)) room (omega (arith, ap kept_text same, text-both leaves rows)) beside)
