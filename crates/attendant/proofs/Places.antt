-- What the polls of a round come to, place by place.
use Rattle.std.proofs.Common.{◌≡◌, ◌⊎◌, inl, inr, ℕ, ◌+◌, Bool, true, false, ◌||◌, ◌&&◌, cond, List, [], ◌∷◌, ◌++◌, length, Option, Some, None, refl, sym, ap, ◌∙◌, subst, append_assoc, append-nil, arith, ◌≤◌, ◌<◌, ◌-◌, min, leb, eqb, length-append}
use Rattle.std.proofs.Math.Bool.{or-false, or-true}
use Rattle.std.specs.Prelude.{IsOk, Result, Ok, Err, IfOk, IfErr, IfSome, is_none, unwrap_or, ◌^◌}
use Rattle.std.proofs.lemmas.Option.{IfSome_then, same_Some, none-some}
use Rattle.std.specs.List.{AllByRecursion}
use Rattle.std.proofs.lemmas.Bool.{and_parts, and_from, leb-true, leb-false, eqb-true, eqb-false, false_from_ne_true, both_ways}
use Rattle.std.proofs.lemmas.List.Folds.{list_any-append}
use Rattle.std.proofs.lemmas.List.{get_or_past}
use Rattle.slab.specs.Slab.{Slab, get, SameValues, Updates}
use Rattle.drmaa_types.specs.declared.refusals.Refusal.{Refusal}
use Rattle.drmaa_types.specs.declared.refusals.Refusal.TheVariants.{OutOfMemory}
use Rattle.drmaa_model.specs.declared.faults.NoEntry.{NoEntry}
use Rattle.turn_lock.specs.Tokens.{IsFree}
use Rattle.drmaa_types.specs.declared.identifiers.JobId.{JobId}
use Rattle.drmaa_types.specs.declared.states.Exit.{Exit}
use Rattle.drmaa_model.specs.declared.replies.Reply.{Reply}
use Rattle.child_spawner.specs.Children.{Told}
use Rattle.attendant.specs.declared.reaper.Held.{Held}
use Rattle.attendant.specs.declared.reaper.Hand.{Hand}
use Rattle.attendant.specs.declared.reaping.Polled.TheVariants.{Running}
use Rattle.attendant.specs.Acts.{Act, is_run}
use Rattle.attendant.specs.Posts.{Post, acts_at, IsStillAt, Fails}
use Rattle.attendant.specs.Runs.{is_end_report, is_ended}
use Rattle.attendant.specs.Steps.{entry_of}
use Rattle.attendant.specs.Rounds.{Leaves, PollSteps, end_call, asked_end, is_over, hand_without, EndReports, IsPolled, IsEndOf, HasLeft, KeepsOrder, OrderAfter, PollsPlaces, LosesEnd, PollsAll, IsEndIn, ReportsEach}
use Rattle.attendant.specs.PairLaws.{post-itself}
use Rattle.attendant.proofs.Desks.{still-free, within, fails-on, fails-from}
use Rattle.attendant.proofs.Entries.{any_kept, run_same}
use Rattle.attendant.proofs.Launches.{run_refl}
use Rattle.attendant.proofs.Ends.{end_is}

no_answer_is : (o : Option Bool) → is_none o ≡ true → o ≡ None
no_answer_is None is = refl
no_answer_is (Some b) is = absurd (cc)

none_stays : {T : Type 0} (told : T → Option Told) (faults : T → ℕ) (a b : Option (Held T)) → IsPolled told faults a b → a ≡ None → b ≡ None
none_stays told faults None None p is = refl
none_stays told faults None (Some h) p is = absurd p
none_stays told faults (Some h) b p is = absurd (none-some h (sym is))

pub ends_mono : {T : Type 0} (told : T → Option Told) (faults : T → ℕ) (at now later : ℕ → Option (Held T)) (es : List Act) → ((k : ℕ) → now k ≡ None → later k ≡ None)
    → AllByRecursion (IsEndOf told faults at now) es → AllByRecursion (IsEndOf told faults at later) es
ends_mono told faults at now later [] gone all = tt
ends_mono told faults at now later (e ∷ es) gone all = (
  record { key = all.0.key; held = all.0.held; there = all.0.there; left = gone all.0.key all.0.left; exit = all.0.exit; seen = all.0.seen; call = all.0.call },
  ends_mono told faults at now later es gone all.1,
)

pub ends_back : {T : Type 0} (told : T → Option Told) (faults : T → ℕ) (first at now : ℕ → Option (Held T)) (es : List Act) → ((k : ℕ) (h : Held T) → at k ≡ Some h → now k ≡ None → first k ≡ Some h)
    → AllByRecursion (IsEndOf told faults at now) es → AllByRecursion (IsEndOf told faults first now) es
ends_back told faults first at now [] back all = tt
ends_back told faults first at now (e ∷ es) back all = (
  record { key = all.0.key; held = all.0.held; there = back all.0.key all.0.held all.0.there all.0.left; left = all.0.left; exit = all.0.exit; seen = all.0.seen; call = all.0.call },
  ends_back told faults first at now es back all.1,
)

pub all_append : (P : Act → Type 0) (xs ys : List Act) → AllByRecursion P xs → AllByRecursion P ys → AllByRecursion P (xs ++ ys)
all_append P [] ys a b = b
all_append P (x ∷ xs) ys a b = (a.0, all_append P xs ys a.1 b)

-- ---- the order in hand

run_back : (job : JobId) (attempt : ℕ) (other : JobId) (n : ℕ) → is_run job attempt other n ≡ true → is_run other n job attempt ≡ true
run_back job attempt other n is = (let same = run_same job attempt other n is in
    subst (λ (j : JobId). is_run other n j attempt ≡ true) (sym same.0) (subst (λ (a : ℕ). is_run other n other a ≡ true) (sym same.1) (run_refl other n)))

order_same : {T : Type 0} (at now : ℕ → Option (Held T)) (hand : Option Hand) → ((k : ℕ) (h : Held T) → at k ≡ Some h → now k ≡ None → ⊥) → OrderAfter [] at now hand hand
order_same at now None stay = refl
order_same at now (Some h) stay = inl (record { stays = refl; goes_on = refl; attended = λ no_answer left. stay left.key left.held left.there left.left })

pub order_none : {T : Type 0} (at : ℕ → Option (Held T)) (hand : Option Hand) → OrderAfter [] at at hand hand
order_none at hand = order_same at at hand (λ k h there left. none-some h (sym left ∙ there))

-- one place
stays_on : {T : Type 0} (key : ℕ) (after : Held T) (old new : Slab (Held T)) → Updates old new key (Some after) → (k : ℕ) (h : Held T) → get old k ≡ Some h → get new k ≡ None → ⊥
stays_on key after old new u k h there left = (elim (eqb k key) as (λ b. eqb k key ≡ b → ⊥) [
  | true ↦ λ e. none-some after (sym left ∙ ap (get new) (eqb-true k key e) ∙ u.changed)
  | false ↦ λ e. none-some h (sym left ∙ u.others k (eqb-false k key e) ∙ there)
]) refl

-- where one child leaves, whoever has left is of its run
left_run : {T : Type 0} (told : T → Option Told) (faults : T → ℕ) (key : ℕ) (job : JobId) (attempt : ℕ) (x : Option Exit) (old new : Slab (Held T)) (h : Hand)
    → Leaves told faults key job attempt x old new → HasLeft (get old) (get new) h → is_run h.signal.job h.signal.attempt job attempt ≡ true
left_run {T = T} told faults key job attempt x old new h l left = (elim (eqb left.key key) as (λ b. eqb left.key key ≡ b → is_run h.signal.job h.signal.attempt job attempt ≡ true) [
  | true ↦ λ e. (let same = same_Some left.held l.held (sym left.there ∙ ap (get old) (eqb-true left.key key e) ∙ l.there) in
      subst (λ (j : JobId). is_run h.signal.job h.signal.attempt j attempt ≡ true) (ap (λ (z : Held T). z.job) same ∙ l.of_job)
      (subst (λ (a : ℕ). is_run h.signal.job h.signal.attempt left.held.job a ≡ true) (ap (λ (z : Held T). z.attempt) same ∙ l.of_attempt) left.same))
  | false ↦ λ e. absurd (none-some left.held (sym left.left ∙ l.updates.others left.key (eqb-false left.key key e) ∙ left.there))
]) refl

has_left : {T : Type 0} (told : T → Option Told) (faults : T → ℕ) (key : ℕ) (job : JobId) (attempt : ℕ) (x : Option Exit) (old new : Slab (Held T)) (h : Hand)
    → Leaves told faults key job attempt x old new → is_run h.signal.job h.signal.attempt job attempt ≡ true → HasLeft (get old) (get new) h
has_left told faults key job attempt x old new h l is = record {
  key = key;
  held = l.held;
  there = l.there;
  left = l.updates.changed;
  same = subst (λ (j : JobId). is_run h.signal.job h.signal.attempt j l.held.attempt ≡ true) (sym l.of_job) (subst (λ (a : ℕ). is_run h.signal.job h.signal.attempt job a ≡ true) (sym l.of_attempt) is);
}

order_ended : {T : Type 0} (told : T → Option Told) (faults : T → ℕ) (n : ℕ) (key : ℕ) (job : JobId) (attempt : ℕ) (x : Option Exit) (r : Reply) (old new : Slab (Held T)) (hand hand2 : Option Hand)
    → Leaves told faults key job attempt x old new → hand2 ≡ hand_without true job attempt hand → OrderAfter (entry_of n (end_call job attempt x) r ∷ []) (get old) (get new) hand hand2
order_ended told faults n key job attempt x r old new None hand2 l is = is
order_ended told faults n key job attempt x r old new (Some h) hand2 l is =
    (elim (is_run h.signal.job h.signal.attempt job attempt) as (λ b. is_run h.signal.job h.signal.attempt job attempt ≡ b → OrderAfter (entry_of n (end_call job attempt x) r ∷ []) (get old) (get new) (Some h) hand2) [
      | true ↦ λ same. inr (record {
        gone = is ∙ ap (λ (b : Bool). cond (b && true) None (Some h)) same;
        why = inl (ap (λ (b : Bool). b || false) (end_is job attempt x h.signal.job h.signal.attempt ∙ run_back h.signal.job h.signal.attempt job attempt same));
      })
      | false ↦ λ apart. inl (record {
        stays = is ∙ ap (λ (b : Bool). cond (b && true) None (Some h)) apart;
        goes_on = or-false _ ∙ end_is job attempt x h.signal.job h.signal.attempt ∙ false_from_ne_true _ (λ t. both_ways _ apart (run_back job attempt h.signal.job h.signal.attempt t));
        attended = λ no_answer left. both_ways _ apart (left_run told faults key job attempt x old new h l left);
      })
    ]) refl

order_lost : {T : Type 0} (told : T → Option Told) (faults : T → ℕ) (key : ℕ) (job : JobId) (attempt : ℕ) (x : Option Exit) (old new : Slab (Held T)) (hand hand2 : Option Hand)
    → Leaves told faults key job attempt x old new → hand2 ≡ hand_without false job attempt hand → OrderAfter [] (get old) (get new) hand hand2
order_lost told faults key job attempt x old new None hand2 l is = is
order_lost told faults key job attempt x old new (Some h) hand2 l is =
    (elim (is_over false job attempt h) as (λ b. is_over false job attempt h ≡ b → OrderAfter [] (get old) (get new) (Some h) hand2) [
      | true ↦ λ over. (let both = and_parts (is_run h.signal.job h.signal.attempt job attempt) (is_none h.answer) over in inr (record {
        gone = is ∙ ap (λ (b : Bool). cond b None (Some h)) over;
        why = inr (no_answer_is h.answer both.1, has_left told faults key job attempt x old new h l both.0);
      }))
      | false ↦ λ on. inl (record {
        stays = is ∙ ap (λ (b : Bool). cond b None (Some h)) on;
        goes_on = refl;
        attended = λ no_answer left. both_ways _ on (and_from _ _ (left_run told faults key job attempt x old new h l left) (ap is_none no_answer));
      })
    ]) refl

pub places_none : {T : Type 0} (told : T → Option Told) (faults : T → ℕ) (from : ℕ) (mine : List Act) (at : ℕ → Option (Held T)) (hand : Option Hand) (Clean : Type 0) → PollsPlaces told faults from from mine mine at at hand hand 0 Clean
places_none told faults from mine at hand Clean = record {
  polled = λ k low high. absurd (omega arith);
  before = λ k low. refl;
  after = λ k high. refl;
  added = [];
  mine_is = sym (append-nil mine);
  ends = tt;
  counted = refl;
  order = order_none at hand;
  whole = λ clean k h is none. absurd (none-some h (sym none ∙ is));
}

pub gone_on : {T : Type 0} (told : T → Option Told) (faults : T → ℕ) (from to : ℕ) (mine mine2 : List Act) (at now : ℕ → Option (Held T)) (hand hand2 : Option Hand) (count : ℕ) (Clean : Type 0) → PollsPlaces told faults from to mine mine2 at now hand hand2 count Clean
    → (k : ℕ) → at k ≡ None → now k ≡ None
gone_on told faults from to mine mine2 at now hand hand2 count Clean p k none =
    (elim (leb from k) as (λ b. leb from k ≡ b → now k ≡ None) [
      | false ↦ λ low. p.before k (let h = leb-false from k low in omega arith) ∙ none
      | true ↦ λ low. (elim (leb to k) as (λ b. leb to k ≡ b → now k ≡ None) [
        | true ↦ λ high. p.after k (leb-true to k high) ∙ none
        | false ↦ λ high. none_stays told faults (at k) (now k) (p.polled k (leb-true from k low) (let h = leb-false to k high in omega arith)) none
      ]) refl
    ]) refl

pub whole_on : {T : Type 0} (h : Held T) (xs ys : List Act) (o : Option (Held T)) → (o ≡ None → is_ended h.job h.attempt xs ≡ true) → ((i : Held T) → o ≡ Some i → is_ended h.job h.attempt ys ≡ true)
    → (o ≡ o) → is_ended h.job h.attempt (xs ++ ys) ≡ true
whole_on h xs ys None a b same = any_kept (λ (e : Act). is_end_report h.job h.attempt e.call) xs ys (a refl)
whole_on h xs ys (Some i) a b same = list_any-append (λ (e : Act). is_end_report h.job h.attempt e.call) xs ys ∙ ap (λ (t : Bool). is_ended h.job h.attempt xs || t) (b i refl) ∙ or-true _

pub record SameRun {T : Type 0} (i h : Held T) : Type 0 where
  pub of_job : i.job ≡ h.job
  pub of_attempt : i.attempt ≡ h.attempt

polled_same : {T : Type 0} (told : T → Option Told) (faults : T → ℕ) (h i : Held T) (a b : Option (Held T)) → IsPolled told faults a b → a ≡ Some h → b ≡ Some i → SameRun i h
polled_same told faults h i None b p is at = absurd (none-some h is)
polled_same told faults h i (Some x) None p is at = absurd (none-some i at)
polled_same {T = T} told faults h i (Some x) (Some y) p is at = record {
  of_job = sym (ap (λ (z : Held T). z.job) (same_Some y i at)) ∙ p.of_job ∙ ap (λ (z : Held T). z.job) (same_Some x h is);
  of_attempt = sym (ap (λ (z : Held T). z.attempt) (same_Some y i at)) ∙ p.of_attempt ∙ ap (λ (z : Held T). z.attempt) (same_Some x h is);
}

same_run : {T : Type 0} (h i : Held T) → i ≡ h → SameRun i h
same_run {T = T} h i e = record { of_job = ap (λ (z : Held T). z.job) e; of_attempt = ap (λ (z : Held T). z.attempt) e }

pub kept_run : {T : Type 0} (told : T → Option Told) (faults : T → ℕ) (from to : ℕ) (mine mine2 : List Act) (at now : ℕ → Option (Held T)) (hand hand2 : Option Hand) (count : ℕ) (Clean : Type 0) → PollsPlaces told faults from to mine mine2 at now hand hand2 count Clean
    → (k : ℕ) (h i : Held T) → at k ≡ Some h → now k ≡ Some i → SameRun i h
kept_run told faults from to mine mine2 at now hand hand2 count Clean p k h i is there =
    (elim (leb from k) as (λ b. leb from k ≡ b → SameRun i h) [
      | false ↦ λ low. same_run h i (same_Some i h (sym there ∙ p.before k (let g = leb-false from k low in omega arith) ∙ is))
      | true ↦ λ low. (elim (leb to k) as (λ b. leb to k ≡ b → SameRun i h) [
        | true ↦ λ high. same_run h i (same_Some i h (sym there ∙ p.after k (leb-true to k high) ∙ is))
        | false ↦ λ high. polled_same told faults h i (at k) (now k) (p.polled k (leb-true from k low) (let g = leb-false to k high in omega arith)) is there
      ]) refl
    ]) refl

-- a child that left in the first or the second stretch has left
left_early : {T : Type 0} (a0 a1 a2 : ℕ → Option (Held T)) (h : Hand) → ((k : ℕ) → a1 k ≡ None → a2 k ≡ None) → HasLeft a0 a1 h → HasLeft a0 a2 h
left_early a0 a1 a2 h gone left = record { key = left.key; held = left.held; there = left.there; left = gone left.key left.left; same = left.same }

run_as : {T : Type 0} (h : Hand) (i held : Held T) → SameRun i held → is_run h.signal.job h.signal.attempt i.job i.attempt ≡ true → is_run h.signal.job h.signal.attempt held.job held.attempt ≡ true
run_as h i held same is = subst (λ (j : JobId). is_run h.signal.job h.signal.attempt j held.attempt ≡ true) same.of_job (subst (λ (a : ℕ). is_run h.signal.job h.signal.attempt i.job a ≡ true) same.of_attempt is)

same_back : {T : Type 0} (i h : Held T) → SameRun i h → SameRun h i
same_back i h s = record { of_job = sym s.of_job; of_attempt = sym s.of_attempt }

left_late : {T : Type 0} (a0 a1 a2 : ℕ → Option (Held T)) (h : Hand) → ((k : ℕ) → a0 k ≡ None → a1 k ≡ None) → ((k : ℕ) (g i : Held T) → a0 k ≡ Some g → a1 k ≡ Some i → SameRun i g) → HasLeft a1 a2 h → HasLeft a0 a2 h
left_late {T = T} a0 a1 a2 h gone kept left = (elim (a0 left.key) as (λ o. a0 left.key ≡ o → HasLeft a0 a2 h) [
  | None ↦ λ none. absurd (none-some left.held (sym (gone left.key none) ∙ left.there))
  | Some g ↦ λ some. record { key = left.key; held = g; there = some; left = left.left; same = run_as h left.held g (kept left.key g left.held some left.there) left.same }
]) refl

left_once : {T : Type 0} (a0 a1 a2 : ℕ → Option (Held T)) (h : Hand) → ((k : ℕ) (g i : Held T) → a0 k ≡ Some g → a1 k ≡ Some i → SameRun i g) → (HasLeft a0 a1 h → ⊥) → (HasLeft a1 a2 h → ⊥) → HasLeft a0 a2 h → ⊥
left_once {T = T} a0 a1 a2 h kept first second left = (elim (a1 left.key) as (λ o. a1 left.key ≡ o → ⊥) [
  | None ↦ λ none. first (record { key = left.key; held = left.held; there = left.there; left = none; same = left.same })
  | Some i ↦ λ some. second (record { key = left.key; held = i; there = some; left = left.left; same = run_as h left.held i (same_back i left.held (kept left.key left.held i left.there some)) left.same })
]) refl

order_next : {T : Type 0} (a0 a1 a2 : ℕ → Option (Held T)) (first second : List Act) (h : Hand) (h2 : Option Hand) → ((k : ℕ) → a0 k ≡ None → a1 k ≡ None) → ((k : ℕ) (g i : Held T) → a0 k ≡ Some g → a1 k ≡ Some i → SameRun i g)
    → KeepsOrder first a0 a1 h (Some h) → OrderAfter second a1 a2 (Some h) h2 → OrderAfter (first ++ second) a0 a2 (Some h) h2
order_next a0 a1 a2 first second h h2 gone kept k (inl l) = inl (record {
  stays = l.stays;
  goes_on = list_any-append (λ (e : Act). is_end_report h.signal.job h.signal.attempt e.call) first second ∙ ap (λ (b : Bool). b || is_ended h.signal.job h.signal.attempt second) k.goes_on ∙ l.goes_on;
  attended = λ no_answer. left_once a0 a1 a2 h kept (k.attended no_answer) (l.attended no_answer);
})
order_next a0 a1 a2 first second h h2 gone kept k (inr d) = inr (record {
  gone = d.gone;
  why = elim d.why [
    | inl ended ↦ inl (list_any-append (λ (e : Act). is_end_report h.signal.job h.signal.attempt e.call) first second ∙ ap (λ (b : Bool). is_ended h.signal.job h.signal.attempt first || b) ended ∙ or-true _)
    | inr left ↦ inr (left.0, left_late a0 a1 a2 h gone kept left.1)
  ];
})

order_gone : {T : Type 0} (added : List Act) (at now : ℕ → Option (Held T)) (hand hand2 : Option Hand) → hand ≡ None → OrderAfter added at now hand hand2 → hand2 ≡ None
order_gone added at now None hand2 none o = o
order_gone added at now (Some h) hand2 none o = absurd (none-some h (sym none))

order_steps : {T : Type 0} (told : T → Option Told) (a0 a1 a2 : ℕ → Option (Held T)) (first second : List Act) (h0 h1 h2 : Option Hand) → ((k : ℕ) → a0 k ≡ None → a1 k ≡ None) → ((k : ℕ) → a1 k ≡ None → a2 k ≡ None)
    → ((k : ℕ) (g i : Held T) → a0 k ≡ Some g → a1 k ≡ Some i → SameRun i g) → OrderAfter first a0 a1 h0 h1 → OrderAfter second a1 a2 h1 h2 → OrderAfter (first ++ second) a0 a2 h0 h2
order_steps told a0 a1 a2 first second None h1 h2 early late kept o l = order_gone second a1 a2 h1 h2 o l
order_steps told a0 a1 a2 first second (Some h) h1 h2 early late kept (inl k) l =
    order_next a0 a1 a2 first second h h2 early kept (record { stays = refl; goes_on = k.goes_on; attended = k.attended }) (subst (λ (o : Option Hand). OrderAfter second a1 a2 o h2) k.stays l)
order_steps told a0 a1 a2 first second (Some h) h1 h2 early late kept (inr d) l = inr (record {
  gone = order_gone second a1 a2 h1 h2 d.gone l;
  why = elim d.why [
    | inl ended ↦ inl (any_kept (λ (e : Act). is_end_report h.signal.job h.signal.attempt e.call) first second ended)
    | inr left ↦ inr (left.0, left_early a0 a1 a2 h late left.1)
  ];
})

-- two stretches of polls
pub order_both : {T : Type 0} (told : T → Option Told) (faults : T → ℕ) (from mid to : ℕ) (m0 m1 m2 : List Act) (a0 a1 a2 : ℕ → Option (Held T)) (h0 h1 h2 : Option Hand) (c d : ℕ) (C D : Type 0)
    → (p : PollsPlaces told faults from mid m0 m1 a0 a1 h0 h1 c C) → (q : PollsPlaces told faults mid to m1 m2 a1 a2 h1 h2 d D) → OrderAfter (p.added ++ q.added) a0 a2 h0 h2
order_both told faults from mid to m0 m1 m2 a0 a1 a2 h0 h1 h2 c d C D p q = order_steps told a0 a1 a2 p.added q.added h0 h1 h2
    (gone_on told faults from mid m0 m1 a0 a1 h0 h1 c C p) (gone_on told faults mid to m1 m2 a1 a2 h1 h2 d D q) (kept_run told faults from mid m0 m1 a0 a1 h0 h1 c C p) p.order q.order

-- a child that left in the second stretch was not polled before
pub back_on : {T : Type 0} (told : T → Option Told) (faults : T → ℕ) (from mid to : ℕ) (m0 m1 m2 : List Act) (a0 a1 a2 : ℕ → Option (Held T)) (h0 h1 h2 : Option Hand) (c d : ℕ) (C D : Type 0)
    → PollsPlaces told faults from mid m0 m1 a0 a1 h0 h1 c C → PollsPlaces told faults mid to m1 m2 a1 a2 h1 h2 d D → (k : ℕ) (h : Held T) → a1 k ≡ Some h → a2 k ≡ None → a0 k ≡ Some h
back_on told faults from mid to m0 m1 m2 a0 a1 a2 h0 h1 h2 c d C D p q k h there left =
    (elim (leb mid k) as (λ b. leb mid k ≡ b → a0 k ≡ Some h) [
      | true ↦ λ is. sym (p.after k (leb-true mid k is)) ∙ there
      | false ↦ λ is. absurd (none-some h (sym left ∙ q.before k (let g = leb-false mid k is in omega arith) ∙ there))
    ]) refl

abbrev pub places_on : {T : Type 0} (told : T → Option Told) (faults : T → ℕ) (from mid to : ℕ) (m0 m1 m2 : List Act) (a0 a1 a2 : ℕ → Option (Held T)) (h0 h1 h2 : Option Hand) (c d : ℕ) (C D E : Type 0) → from ≤ mid → mid ≤ to → (E → C) → (E → D)
    → PollsPlaces told faults from mid m0 m1 a0 a1 h0 h1 c C → PollsPlaces told faults mid to m1 m2 a1 a2 h1 h2 d D → PollsPlaces told faults from to m0 m2 a0 a2 h0 h2 (c + d) E
places_on told faults from mid to m0 m1 m2 a0 a1 a2 h0 h1 h2 c d C D E low high left right p q = record {
  polled = λ k above below. (elim (leb mid k) as (λ b. leb mid k ≡ b → IsPolled told faults (a0 k) (a2 k)) [
    | true ↦ λ is. (let h = leb-true mid k is in subst (λ (o : Option (Held _)). IsPolled told faults o (a2 k)) (p.after k h) (q.polled k h below))
    | false ↦ λ is. (let h : k < mid = (let g = leb-false mid k is in omega arith) in subst (λ (o : Option (Held _)). IsPolled told faults (a0 k) o) (sym (q.before k h)) (p.polled k above h))
  ]) refl;
  before = λ k less. q.before k (omega arith) ∙ p.before k less;
  after = λ k more. q.after k more ∙ p.after k (omega arith);
  added = p.added ++ q.added;
  mine_is = q.mine_is ∙ ap (λ (l : List Act). l ++ q.added) p.mine_is ∙ append_assoc m0 p.added q.added;
  ends = all_append (IsEndOf told faults a0 a2) p.added q.added
      (ends_mono told faults a0 a1 a2 p.added (gone_on told faults mid to m1 m2 a1 a2 h1 h2 d D q) p.ends)
      (ends_back told faults a0 a1 a2 q.added (back_on told faults from mid to m0 m1 m2 a0 a1 a2 h0 h1 h2 c d C D p q) q.ends);
  counted = (let e = p.counted in let f = q.counted in let g = length-append p.added q.added in omega arith);
  order = order_both told faults from mid to m0 m1 m2 a0 a1 a2 h0 h1 h2 c d C D p q;
  whole = λ clean k h is none. whole_on h p.added q.added (a1 k) (λ mid_none. p.whole (left clean) k h is mid_none)
      (λ i mid_some. (let same = kept_run told faults from mid m0 m1 a0 a1 h0 h1 c C p k h i is mid_some in
      subst (λ (j : JobId). is_ended j h.attempt q.added ≡ true) same.of_job (subst (λ (n : ℕ). is_ended i.job n q.added ≡ true) same.of_attempt (q.whole (right clean) k i mid_some none)))) refl;
}

-- what a poll of one place leaves
place_is : {T : Type 0} (told : T → Option Told) (faults : T → ℕ) (key : ℕ) (mine mine2 : List Act) (old new : Slab (Held T)) (added : List Act) (slot : Option (Held T))
    → Updates old new key slot → IsPolled told faults (get old key) (get new key) → mine2 ≡ mine ++ added → AllByRecursion (IsEndOf told faults (get old) (get new)) added → (Clean : Type 0)
    → (Clean → (h : Held T) → get old key ≡ Some h → get new key ≡ None → is_ended h.job h.attempt added ≡ true) → (hand hand2 : Option Hand) → OrderAfter added (get old) (get new) hand hand2
    → PollsPlaces told faults key (key + 1) mine mine2 (get old) (get new) hand hand2 (length added) Clean
place_is told faults key mine mine2 old new added slot u p is ends Clean all hand hand2 order = record {
  polled = λ k low high. (let same : key ≡ k = omega arith in subst (λ (n : ℕ). IsPolled told faults (get old n) (get new n)) same p);
  before = λ k less. u.others k (λ same. absurd (omega arith));
  after = λ k more. u.others k (λ same. absurd (omega arith));
  added = added;
  mine_is = is;
  ends = ends;
  counted = refl;
  order = order;
  whole = λ clean k h there none. (elim (eqb k key) as (λ b. eqb k key ≡ b → is_ended h.job h.attempt added ≡ true) [
    | true ↦ λ e. (let same = eqb-true k key e in all clean h (ap (get old) (sym same) ∙ there) (ap (get new) (sym same) ∙ none))
    | false ↦ λ e. absurd (none-some h (sym none ∙ u.others k (eqb-false k key e) ∙ there))
  ]) refl;
}

same_updates : {T : Type 0} (old new : Slab (Held T)) (key : ℕ) → SameValues old new → Updates old new key (get old key)
same_updates old new key same = record { changed = same key; others = λ other apart. same other }

left_polled : {T : Type 0} (told : T → Option Told) (faults : T → ℕ) (key : ℕ) (job : JobId) (attempt : ℕ) (x : Option Exit) (old new : Slab (Held T)) → Leaves told faults key job attempt x old new
    → IsPolled told faults (get old key) (get new key)
left_polled {T = T} told faults key job attempt x old new l = subst (λ (o : Option (Held T)). IsPolled told faults o (get new key)) (sym l.there)
    (subst (λ (o : Option (Held T)). IsPolled told faults (Some l.held) o) (sym l.updates.changed) (x, l.seen))

pub place_running : {T : Type 0} (told : T → Option Told) (faults : T → ℕ) (key : ℕ) (mine : List Act) (old new : Slab (Held T)) (hand : Option Hand)
    → (Clean : Type 0) → PollSteps told faults key old new Running
    → PollsPlaces told faults key (key + 1) mine mine (get old) (get new) hand hand 0 Clean
place_running {T = T} told faults key mine old new hand Clean (inl n) =
    place_is told faults key mine mine old new [] _ (same_updates old new key n.same)
    (subst (λ (o : Option (Held T)). IsPolled told faults o (get new key)) (sym n.none) (subst (λ (o : Option (Held T)). IsPolled told faults None o) (sym (n.same key ∙ n.none)) tt)) (sym (append-nil mine)) tt Clean (λ clean h is gone. absurd (none-some h (sym n.none ∙ is)))
    hand hand (order_same (get old) (get new) hand (λ k h there left. none-some h (sym left ∙ n.same k ∙ there)))
place_running {T = T} told faults key mine old new hand Clean (inr r) =
    place_is told faults key mine mine old new [] _ r.1.updates
    (subst (λ (o : Option (Held T)). IsPolled told faults o (get new key)) (sym r.1.there)
    (subst (λ (o : Option (Held T)). IsPolled told faults (Some r.0) o) (sym r.1.updates.changed) (record { of_job = refl; of_attempt = refl; told_is = r.1.told_is; counted = r.1.counted }))) (sym (append-nil mine)) tt Clean (λ clean h is gone. absurd (none-some (record r.0 { child = r.1.child }) (sym gone ∙ r.1.updates.changed)))
    hand hand (order_same (get old) (get new) hand (λ k h there left. stays_on key _ old new r.1.updates k h there left))

pub place_ended : {T : Type 0} (told : T → Option Told) (faults : T → ℕ) (n : ℕ) (key : ℕ) (job : JobId) (attempt : ℕ) (x : Option Exit) (mine mine2 : List Act) (old new : Slab (Held T)) (hand hand2 : Option Hand)
    → Leaves told faults key job attempt x old new → (Clean : Type 0) → EndReports n job attempt x true mine mine2 hand hand2 → PollsPlaces told faults key (key + 1) mine mine2 (get old) (get new) hand hand2 1 Clean
place_ended {T = T} told faults n key job attempt x mine mine2 old new hand hand2 l Clean e =
    place_is told faults key mine mine2 old new (entry_of n (end_call job attempt x) e.0.0 ∷ []) None l.updates
    (left_polled told faults key job attempt x old new l) e.0.1 (
      record {
        key = key;
        held = l.held;
        there = l.there;
        left = l.updates.changed;
        exit = x;
        seen = l.seen;
        call = sym (ap (λ (j : JobId). end_call j l.held.attempt x) l.of_job ∙ ap (λ (a : ℕ). end_call job a x) l.of_attempt);
      },
      tt,
    ) Clean
    (λ clean h is gone. (let same = same_Some l.held h (sym l.there ∙ is) in
    ap (λ (b : Bool). b || false) (end_is job attempt x h.job h.attempt ∙ subst (λ (j : JobId). is_run j attempt h.job h.attempt ≡ true) (ap (λ (z : Held T). z.job) (sym same) ∙ l.of_job)
    (subst (λ (a : ℕ). is_run h.job a h.job h.attempt ≡ true) (ap (λ (z : Held T). z.attempt) (sym same) ∙ l.of_attempt) (run_refl h.job h.attempt)))))
    hand hand2 (order_ended told faults n key job attempt x e.0.0 old new hand hand2 l e.1)

pub place_lost : {T : Type 0} (told : T → Option Told) (faults : T → ℕ) (n : ℕ) (key : ℕ) (job : JobId) (attempt : ℕ) (x : Option Exit) (mine mine2 : List Act) (old new : Slab (Held T)) (hand hand2 : Option Hand)
    → Leaves told faults key job attempt x old new → (Clean : Type 0) → (Clean → ⊥) → EndReports n job attempt x false mine mine2 hand hand2 → PollsPlaces told faults key (key + 1) mine mine2 (get old) (get new) hand hand2 0 Clean
place_lost told faults n key job attempt x mine mine2 old new hand hand2 l Clean never e =
    place_is told faults key mine mine2 old new [] None l.updates (left_polled told faults key job attempt x old new l) (e.0 ∙ sym (append-nil mine)) tt Clean (λ clean h is gone. absurd (never clean))
    hand hand2 (order_lost told faults key job attempt x old new hand hand2 l e.1)

-- with another condition for a clean stretch
abbrev pub places_as : {T : Type 0} (told : T → Option Told) (faults : T → ℕ) (from to : ℕ) (mine mine2 : List Act) (at now : ℕ → Option (Held T)) (hand hand2 : Option Hand) (count : ℕ) (C D : Type 0) → (D → C)
    → PollsPlaces told faults from to mine mine2 at now hand hand2 count C → PollsPlaces told faults from to mine mine2 at now hand hand2 count D
places_as told faults from to mine mine2 at now hand hand2 count C D given p = record {
  polled = p.polled;
  before = p.before;
  after = p.after;
  added = p.added;
  mine_is = p.mine_is;
  ends = p.ends;
  counted = p.counted;
  order = p.order;
  whole = λ clean. p.whole (given clean);
}

pub count_on : (r2 r1 reports count c u m : ℕ) → r2 ≡ r1 → r1 ≡ min (reports + c) m → reports ≡ min count m → u ≡ c → r2 ≡ min (count + u) m
count_on r2 r1 reports count c u m a b d e = omega arith

pub count_same : (r2 reports count u m : ℕ) → r2 ≡ reports → reports ≡ min count m → u ≡ 0 → r2 ≡ min (count + u) m
count_same r2 reports count u m a b d = omega arith

-- where all places are polled
pub polls_all : {T : Type 0} (told : T → Option Told) (faults : T → ℕ) (to : ℕ) (before after : Post) (old new : Slab (Held T)) (hand hand2 : Option Hand) (count : ℕ) (r : Result ℕ Refusal)
    → length old.slots ≤ to → (p : PollsPlaces told faults 0 to (acts_at before) (acts_at after) (get old) (get new) hand hand2 count (IsOk r)) → IfOk r (λ n. n ≡ min count (2 ^ 32 - 1))
    → IfErr r (LosesEnd told faults before after (get old) (get new)) → ReportsEach told faults before after (get old) (get new) p.added → PollsAll told faults before after (get old) (get new) hand hand2 r
polls_all {T = T} told faults to before after old new hand hand2 count r within p counted lost all = record {
  polled = λ k. (elim (leb to k) as (λ b. leb to k ≡ b → IsPolled told faults (get old k) (get new k)) [
    | false ↦ λ low. p.polled k (omega arith) (let h = leb-false to k low in omega arith)
    | true ↦ λ high. (let h = leb-true to k high in let none : get old k ≡ None = get_or_past old.slots k None (omega arith) in
        subst (λ (o : Option (Held T)). IsPolled told faults o (get new k)) (sym none) (subst (λ (o : Option (Held T)). IsPolled told faults None o) (sym (p.after k h ∙ none)) tt))
  ]) refl;
  added = p.added;
  mine_is = p.mine_is;
  ends = p.ends;
  order = p.order;
  whole = p.whole;
  counted = subst (λ (n : ℕ). IfOk r (λ m. m ≡ min n (2 ^ 32 - 1))) p.counted counted;
  lost = lost;
  all = all;
}

-- ---- an end that was not reported

abbrev lower_ends : {T : Type 0} → (T → Option Told) → (T → ℕ) → (ℕ → Option (Held T)) → (ℕ → Option (Held T)) → ℕ → List Act → Type 0
lower_ends told faults at now key es = AllByRecursion (IsEndIn told faults at now (λ k. k < key)) es

abbrev higher_ends : {T : Type 0} → (T → Option Told) → (T → ℕ) → (ℕ → Option (Held T)) → (ℕ → Option (Held T)) → ℕ → List Act → Type 0
higher_ends told faults at now key es = AllByRecursion (IsEndIn told faults at now (λ k. key < k)) es

-- a child that leaves while some places are polled has one of these
below_to : {T : Type 0} (told : T → Option Told) (faults : T → ℕ) (from to : ℕ) (mine mine2 : List Act) (at now : ℕ → Option (Held T)) (hand hand2 : Option Hand) (count : ℕ) (Clean : Type 0)
    → PollsPlaces told faults from to mine mine2 at now hand hand2 count Clean → (k : ℕ) (h : Held T) → at k ≡ Some h → now k ≡ None → k < to
below_to told faults from to mine mine2 at now hand hand2 count Clean p k h there left =
    (elim (leb to k) as (λ b. leb to k ≡ b → k < to) [
      | true ↦ λ is. absurd (none-some h (sym left ∙ p.after k (leb-true to k is) ∙ there))
      | false ↦ λ is. (let g = leb-false to k is in omega arith)
    ]) refl

not_below : {T : Type 0} (told : T → Option Told) (faults : T → ℕ) (from to : ℕ) (mine mine2 : List Act) (at now : ℕ → Option (Held T)) (hand hand2 : Option Hand) (count : ℕ) (Clean : Type 0)
    → PollsPlaces told faults from to mine mine2 at now hand hand2 count Clean → (k : ℕ) (h : Held T) → at k ≡ Some h → now k ≡ None → from ≤ k
not_below told faults from to mine mine2 at now hand hand2 count Clean p k h there left =
    (elim (leb from k) as (λ b. leb from k ≡ b → from ≤ k) [
      | true ↦ λ is. leb-true from k is
      | false ↦ λ is. absurd (none-some h (sym left ∙ p.before k (let g = leb-false from k is in omega arith) ∙ there))
    ]) refl

in_mono : {T : Type 0} (told : T → Option Told) (faults : T → ℕ) (at now later : ℕ → Option (Held T)) (Here : ℕ → Type 0) (es : List Act) → ((k : ℕ) → now k ≡ None → later k ≡ None)
    → AllByRecursion (IsEndIn told faults at now Here) es → AllByRecursion (IsEndIn told faults at later Here) es
in_mono told faults at now later Here [] gone all = tt
in_mono told faults at now later Here (e ∷ es) gone all = (
  record {
    reports = record { key = all.0.reports.key; held = all.0.reports.held; there = all.0.reports.there; left = gone all.0.reports.key all.0.reports.left; exit = all.0.reports.exit; seen = all.0.reports.seen; call = all.0.reports.call };
    here = all.0.here;
  },
  in_mono told faults at now later Here es gone all.1,
)

in_back : {T : Type 0} (told : T → Option Told) (faults : T → ℕ) (first at now : ℕ → Option (Held T)) (Here : ℕ → Type 0) (es : List Act) → ((k : ℕ) (h : Held T) → at k ≡ Some h → now k ≡ None → first k ≡ Some h)
    → AllByRecursion (IsEndIn told faults at now Here) es → AllByRecursion (IsEndIn told faults first now Here) es
in_back told faults first at now Here [] back all = tt
in_back told faults first at now Here (e ∷ es) back all = (
  record {
    reports = record { key = all.0.reports.key; held = all.0.reports.held; there = back all.0.reports.key all.0.reports.held all.0.reports.there all.0.reports.left; left = all.0.reports.left; exit = all.0.reports.exit; seen = all.0.reports.seen; call = all.0.reports.call };
    here = all.0.here;
  },
  in_back told faults first at now Here es back all.1,
)

in_here : {T : Type 0} (told : T → Option Told) (faults : T → ℕ) (at now : ℕ → Option (Held T)) (Here : ℕ → Type 0) (es : List Act) → ((k : ℕ) (h : Held T) → at k ≡ Some h → now k ≡ None → Here k)
    → AllByRecursion (IsEndOf told faults at now) es → AllByRecursion (IsEndIn told faults at now Here) es
in_here told faults at now Here [] here all = tt
in_here told faults at now Here (e ∷ es) here all = (
  record { reports = all.0; here = here all.0.key all.0.held all.0.there all.0.left },
  in_here told faults at now Here es here all.1,
)

-- in two stretches of polls: an end that was lost in the first
pub loses_later : {T : Type 0} (told : T → Option Told) (faults : T → ℕ) (from mid to : ℕ) (first old new : Post) (a0 a1 a2 : ℕ → Option (Held T)) (h0 h1 h2 : Option Hand) (c d : ℕ) (C D : Type 0) (why : Refusal)
    → IsStillAt old new → PollsPlaces told faults from mid (acts_at first) (acts_at old) a0 a1 h0 h1 c C → PollsPlaces told faults mid to (acts_at old) (acts_at new) a1 a2 h1 h2 d D
    → (l : LosesEnd told faults first old a0 a1 why) → (m : LosesEnd told faults first new a0 a2 why) × (m.key ≡ l.key)
loses_later {T = T} told faults from mid to first old new a0 a1 a2 h0 h1 h2 c d C D why still p q l =
    let gone = gone_on told faults mid to (acts_at old) (acts_at new) a1 a2 h1 h2 d D q in
    let low : l.key < mid = below_to told faults from mid (acts_at first) (acts_at old) a0 a1 h0 h1 c C p l.key l.held l.there l.left in (
      record {
        key = l.key;
        held = l.held;
        there = l.there;
        left = gone l.key l.left;
        exit = l.exit;
        seen = l.seen;
        fault = l.fault;
        fails = fails-on first old new _ _ l.fails still;
        wants = l.wants;
        front = l.front;
        back = l.back ++ q.added;
        behind = l.behind;
        ahead = q.mine_is ∙ ap (λ (es : List Act). es ++ q.added) l.ahead ∙ append_assoc _ l.back q.added;
        lower = in_mono told faults a0 a1 a2 (λ k. k < l.key) l.front gone l.lower;
        higher = all_append (IsEndIn told faults a0 a2 (λ k. l.key < k)) l.back q.added
            (in_mono told faults a0 a1 a2 (λ k. l.key < k) l.back gone l.higher)
            (in_back told faults a0 a1 a2 (λ k. l.key < k) q.added (back_on told faults from mid to (acts_at first) (acts_at old) (acts_at new) a0 a1 a2 h0 h1 h2 c d C D p q)
            (in_here told faults a1 a2 (λ k. l.key < k) q.added (λ k h there left. (let high = not_below told faults mid to (acts_at old) (acts_at new) a1 a2 h1 h2 d D q k h there left in omega arith)) q.ends));
      },
      refl,
    )

-- one that was lost in the second
pub loses_early : {T : Type 0} (told : T → Option Told) (faults : T → ℕ) (from mid to : ℕ) (first old new : Post) (a0 a1 a2 : ℕ → Option (Held T)) (h0 h1 h2 : Option Hand) (c d : ℕ) (C D : Type 0) (why : Refusal)
    → IsStillAt first old → PollsPlaces told faults from mid (acts_at first) (acts_at old) a0 a1 h0 h1 c C → PollsPlaces told faults mid to (acts_at old) (acts_at new) a1 a2 h1 h2 d D
    → (l : LosesEnd told faults old new a1 a2 why) → (m : LosesEnd told faults first new a0 a2 why) × (m.key ≡ l.key)
loses_early {T = T} told faults from mid to first old new a0 a1 a2 h0 h1 h2 c d C D why still p q l =
    let gone = gone_on told faults mid to (acts_at old) (acts_at new) a1 a2 h1 h2 d D q in
    let back = back_on told faults from mid to (acts_at first) (acts_at old) (acts_at new) a0 a1 a2 h0 h1 h2 c d C D p q in
    let high : mid ≤ l.key = not_below told faults mid to (acts_at old) (acts_at new) a1 a2 h1 h2 d D q l.key l.held l.there l.left in (
      record {
        key = l.key;
        held = l.held;
        there = back l.key l.held l.there l.left;
        left = l.left;
        exit = l.exit;
        seen = l.seen;
        fault = l.fault;
        fails = fails-from first old new _ _ still l.fails;
        wants = l.wants;
        front = p.added ++ l.front;
        back = l.back;
        behind = l.behind ∙ ap (λ (es : List Act). es ++ l.front) p.mine_is ∙ append_assoc _ p.added l.front;
        ahead = l.ahead;
        lower = all_append (IsEndIn told faults a0 a2 (λ k. k < l.key)) p.added l.front
            (in_mono told faults a0 a1 a2 (λ k. k < l.key) p.added gone
            (in_here told faults a0 a1 (λ k. k < l.key) p.added (λ k h there left. (let low = below_to told faults from mid (acts_at first) (acts_at old) a0 a1 h0 h1 c C p k h there left in omega arith)) p.ends))
            (in_back told faults a0 a1 a2 (λ k. k < l.key) l.front back l.lower);
        higher = in_back told faults a0 a1 a2 (λ k. l.key < k) l.back back l.higher;
      },
      refl,
    )

pub loses_one : {T : Type 0} (told : T → Option Told) (faults : T → ℕ) (key : ℕ) (job : JobId) (attempt : ℕ) (x : Option Exit) (before after : Post) (old new : Slab (Held T)) (fault : NoEntry)
    → Leaves told faults key job attempt x old new → IsFree before.shared before.client → IsStillAt before after → acts_at after ≡ acts_at before → Fails before (asked_end job attempt x) fault after
    → LosesEnd told faults before after (get old) (get new) OutOfMemory
loses_one told faults key job attempt x before after old new fault l free still same f = record {
  key = key;
  held = l.held;
  there = l.there;
  left = l.updates.changed;
  exit = x;
  seen = l.seen;
  fault = fault;
  fails = within before before after after (asked_end l.held.job l.held.attempt x) fault (post-itself before free)
      (subst (λ (j : JobId). Fails before (asked_end j l.held.attempt x) fault after) (sym l.of_job) (subst (λ (a : ℕ). Fails before (asked_end job a x) fault after) (sym l.of_attempt) f))
      (post-itself after (still-free before after still));
  wants = refl;
  front = [];
  back = [];
  behind = sym (append-nil _);
  ahead = sym (append-nil _);
  lower = tt;
  higher = tt;
}

-- ---- whether each end was reported

-- a lost end is answered as want of memory alone
lost_memory : {T : Type 0} (told : T → Option Told) (faults : T → ℕ) (old new : Post) (at now : ℕ → Option (Held T)) (why : Refusal) → (l : LosesEnd told faults old new at now why)
    → (m : LosesEnd told faults old new at now OutOfMemory) × (m.key ≡ l.key)
lost_memory told faults old new at now why l = (
  record {
    key = l.key;
    held = l.held;
    there = l.there;
    left = l.left;
    exit = l.exit;
    seen = l.seen;
    fault = l.fault;
    fails = l.fails;
    wants = refl;
    front = l.front;
    back = l.back;
    behind = l.behind;
    ahead = l.ahead;
    lower = l.lower;
    higher = l.higher;
  },
  refl,
)

-- one place
each_one : {T : Type 0} (told : T → Option Told) (faults : T → ℕ) (key : ℕ) (old new : Post) (at now : ℕ → Option (Held T)) (hand hand2 : Option Hand) (count : ℕ) (r : Result ℕ Refusal)
    → (p : PollsPlaces told faults key (key + 1) (acts_at old) (acts_at new) at now hand hand2 count (IsOk r)) → IfErr r (LosesEnd told faults old new at now) → ReportsEach told faults old new at now p.added
each_one told faults key old new at now hand hand2 count (Ok n) p lost = record { each = λ k h there left. inl (p.whole refl k h there left) }
each_one {T = T} told faults key old new at now hand hand2 count (Err why) p lost =
    let m = lost_memory told faults old new at now why lost in
    record {
      each = λ k h there left. inr (
        m.0,
        (let a = below_to told faults key (key + 1) (acts_at old) (acts_at new) at now hand hand2 count _ p k h there left in
            let b = not_below told faults key (key + 1) (acts_at old) (acts_at new) at now hand hand2 count _ p k h there left in
            let c = below_to told faults key (key + 1) (acts_at old) (acts_at new) at now hand hand2 count _ p m.0.key m.0.held m.0.there m.0.left in
            let d = not_below told faults key (key + 1) (acts_at old) (acts_at new) at now hand hand2 count _ p m.0.key m.0.held m.0.there m.0.left in
            omega arith),
      );
    }

-- no place
pub each_none : {T : Type 0} (told : T → Option Told) (faults : T → ℕ) (old : Post) (at : ℕ → Option (Held T)) → ReportsEach told faults old old at at []
each_none told faults old at = record { each = λ k h there left. absurd (none-some h (sym left ∙ there)) }

-- one place more
pub each_on : {T : Type 0} (told : T → Option Told) (faults : T → ℕ) (from key : ℕ) (first old new : Post) (a0 a1 a2 : ℕ → Option (Held T)) (h0 h1 h2 : Option Hand) (c d : ℕ) (C : Type 0) (r : Result ℕ Refusal)
    → IsStillAt first old → IsStillAt old new
    → (p : PollsPlaces told faults from key (acts_at first) (acts_at old) a0 a1 h0 h1 c C) → (q : PollsPlaces told faults key (key + 1) (acts_at old) (acts_at new) a1 a2 h1 h2 d (IsOk r))
    → ReportsEach told faults first old a0 a1 p.added → IfErr r (LosesEnd told faults old new a1 a2) → ReportsEach told faults first new a0 a2 (p.added ++ q.added)
each_on {T = T} told faults from key first old new a0 a1 a2 h0 h1 h2 c d C r early late p q before lost = record {
  each = λ k h there left. (elim (a1 k) as (λ o. a1 k ≡ o → (is_ended h.job h.attempt (p.added ++ q.added) ≡ true) ⊎ ((l : LosesEnd told faults first new a0 a2 OutOfMemory) × (l.key ≡ k))) [
    | None ↦ λ none. (elim (before.each k h there none) [
      | inl ended ↦ inl (any_kept (λ (e : Act). is_end_report h.job h.attempt e.call) p.added q.added ended)
      | inr l ↦ (let m = loses_later told faults from key (key + 1) first old new a0 a1 a2 h0 h1 h2 c d C (IsOk r) OutOfMemory late p q l.0 in inr (m.0, m.1 ∙ l.1))
    ])
    | Some i ↦ λ some. (elim ((each_one told faults key old new a1 a2 h1 h2 d r q lost).each k i some left) [
      | inl ended ↦ (let same = kept_run told faults from key (acts_at first) (acts_at old) a0 a1 h0 h1 c C p k h i there some in
          let is : is_ended h.job h.attempt q.added ≡ true = subst (λ (j : JobId). is_ended j h.attempt q.added ≡ true) same.of_job (subst (λ (n : ℕ). is_ended i.job n q.added ≡ true) same.of_attempt ended) in
          inl (list_any-append (λ (e : Act). is_end_report h.job h.attempt e.call) p.added q.added ∙ ap (λ (t : Bool). is_ended h.job h.attempt p.added || t) is ∙ or-true _))
      | inr l ↦ (let m = loses_early told faults from key (key + 1) first old new a0 a1 a2 h0 h1 h2 c d C (IsOk r) OutOfMemory early p q l.0 in inr (m.0, m.1 ∙ l.1))
    ])
  ]) refl;
}

-- ---- the refusal that was met first

pub kept_some : (o p : Option Refusal) (P Q : Refusal → Type 0) → p ≡ o → ((why : Refusal) → P why → Q why) → IfSome o P → IfSome p Q
kept_some o p P Q same each has = subst (λ (x : Option Refusal). IfSome x Q) (sym same) (IfSome_then o has each)

pub first_some : (kept new : Option Refusal) (why : Refusal) (P Q : Refusal → Type 0) → new ≡ Some (unwrap_or kept why) → ((w : Refusal) → P w → Q w) → IfSome kept P → Q why → IfSome new Q
first_some None new why P Q is each has here = subst (λ (x : Option Refusal). IfSome x Q) (sym is) here
first_some (Some first) new why P Q is each has here = subst (λ (x : Option Refusal). IfSome x Q) (sym is) (each first has)
