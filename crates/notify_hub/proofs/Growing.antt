-- How the changes of a history go on: each is of the entry that brought it.
use Rattle.std.proofs.Common.{◌≡◌, ℕ, ◌+◌, ◌-◌, ◌<◌, ◌≤◌, zero, suc, Bool, true, false, cond, List, [], ◌∷◌, ◌++◌, length, drop, take, refl, sym, ◌∙◌, ap, subst, arith, append-nil, append_assoc}
use Rattle.std.specs.Prelude.{min}
use Rattle.std.specs.List.{AllByRecursion, prefix_len}
use Rattle.std.proofs.lemmas.Bool.{le-leb, lt-leb}
use Rattle.std.proofs.lemmas.List.{drop-append-le, length-append, length-drop}
use Rattle.drmaa_types.specs.declared.changes.Change.{Change}
use Rattle.drmaa_model.specs.declared.configs.Config.{Config}
use Rattle.drmaa_model.specs.declared.entries.Entry.{Entry}
use Rattle.drmaa_model.specs.Consistent.{IsConsistent, IsEdge}
use Rattle.drmaa_model.specs.History.{after_entry, replay_from, replay, IsLegalFrom, IsLegal}
use Rattle.drmaa_model.specs.HistoryLaws.{replay_from-append, legal_from-front, legal_from-back}
use Rattle.drmaa_model.specs.StepLaws.{step-consistent, step-edges, step-entries, opening-consistent, legal-consistent, legal-entries}
use Rattle.drmaa_model.specs.Steps.{IsStep}
use Rattle.drmaa_model.specs.World.{World, opening_world}
use Rattle.turn_lock.specs.Histories.{BeginsWith}
use Rattle.change_callbacks.specs.Places.{changes_of, is_up_to}

-- of entries up to this one, and of later ones
pub UpTo : ℕ → Change → Type 0
UpTo entry change = change.entry ≤ entry

pub Later : ℕ → Change → Type 0
Later entry change = entry < change.entry

-- what the changes gain, of entries from one to another
pub record Gains (w next : World) : Type 0 where
  pub added : List Change
  pub gained : next.plan.changes ≡ w.plan.changes ++ added
  pub later : AllByRecursion (Later w.entries) added
  pub up_to : AllByRecursion (UpTo next.entries) added
  pub entries : w.entries ≤ next.entries

all-with : {P Q : Change → Type 0} → ((c : Change) → P c → Q c) → (xs : List Change) → AllByRecursion P xs → AllByRecursion Q xs
all-with f [] all = tt
all-with f (x ∷ xs) all = (f x all.0, all-with f xs all.1)

all-both : (P : Change → Type 0) (xs ys : List Change) → AllByRecursion P xs → AllByRecursion P ys → AllByRecursion P (xs ++ ys)
all-both P [] ys first second = second
all-both P (x ∷ xs) ys first second = (first.0, all-both P xs ys first.1 second)

all-drop : (P : Change → Type 0) (n : ℕ) (xs : List Change) → AllByRecursion P xs → AllByRecursion P (drop n xs)
all-drop P zero xs all = all
all-drop P (suc n) [] all = tt
all-drop P (suc n) (x ∷ xs) all = all-drop P n xs all.1

step-gains : (w : World) (entry : Entry) (next : World) → IsConsistent w → IsStep w entry next → Gains w next
unfolding UpTo Later
step-gains w entry next ok step =
    let e = step-edges w entry next ok step in
    let count = step-entries w entry next ok step in
    record {
      added = e.added;
      gained = e.gained;
      later = all-with (λ (c : Change) (edge : IsEdge (w.entries + 1) w.plan.rows c). let is = edge.entry_is in omega (arith, is)) e.added e.edges;
      up_to = all-with (λ (c : Change) (edge : IsEdge (w.entries + 1) w.plan.rows c). let is = edge.entry_is in omega (arith, is, count)) e.added e.edges;
      entries = omega (arith, count);
    }

pub run-gains : (w : World) (entries : List Entry) → IsConsistent w → IsLegalFrom w entries → Gains w (replay_from w entries)
unfolding UpTo Later
run-gains w [] ok legal = record { added = []; gained = sym (append-nil w.plan.changes); later = tt; up_to = tt; entries = omega arith }
run-gains w (x ∷ xs) ok legal =
    let next : World = after_entry w x in
    let one = step-gains w x next ok legal.0 in
    let rest = run-gains next xs (step-consistent w x next ok legal.0) legal.1 in
    let first = one.entries in
    let second = rest.entries in
    record {
      added = one.added ++ rest.added;
      gained = rest.gained ∙ (ap (λ (l : List Change). l ++ rest.added) one.gained ∙ append_assoc w.plan.changes one.added rest.added);
      later = all-both (Later w.entries) one.added rest.added one.later (all-with (λ (c : Change) (l : next.entries < c.entry). omega (arith, l, first)) rest.added rest.later);
      up_to = all-both (UpTo (replay_from next xs).entries) one.added rest.added (all-with (λ (c : Change) (l : c.entry ≤ next.entries). omega (arith, l, second)) one.added one.up_to) rest.up_to;
      entries = omega (arith, first, second);
    }

-- the changes of a history are of its entries
pub changes-within : (config : Config) (history : List Entry) → IsLegal config history → AllByRecursion (UpTo (length history)) (changes_of config history)
changes-within config history legal =
    let g = run-gains (opening_world config) history (opening-consistent config) legal in
    subst (AllByRecursion (UpTo (length history))) (sym g.gained)
    (subst (λ (n : ℕ). AllByRecursion (UpTo n) g.added) (legal-entries config history legal) g.up_to)

-- the changes of a longer history are these, and then changes of later entries
pub record GoesOnLater (n : ℕ) (before after : List Change) : Type 0 where
  pub added : List Change
  pub gained : after ≡ before ++ added
  pub later : AllByRecursion (Later n) added

pub changes-later : (config : Config) (history rest : List Entry) → IsLegal config (history ++ rest) → GoesOnLater (length history) (changes_of config history) (changes_of config (history ++ rest))
changes-later config history rest legal =
    let front = legal_from-front (opening_world config) history rest legal in
    let w : World = replay config history in
    let g = run-gains w rest (legal-consistent config history front) (legal_from-back (opening_world config) history rest legal) in
    record {
      added = g.added;
      gained = ap (λ (v : World). v.plan.changes) (replay_from-append (opening_world config) history rest) ∙ g.gained;
      later = subst (λ (n : ℕ). AllByRecursion (Later n) g.added) (legal-entries config history front) g.later;
    }

-- so they begin with them
pub changes-begin : (config : Config) (old new : List Entry) → IsLegal config new → BeginsWith new old → BeginsWith (changes_of config new) (changes_of config old)
changes-begin config old new legal b =
    let g = changes-later config old b.rest (subst (IsLegal config) b.whole legal) in
    record { rest = g.added; whole = ap (changes_of config) b.whole ∙ g.gained }

pub begins-changes : (a b c : List Change) → BeginsWith b a → BeginsWith c b → BeginsWith c a
begins-changes a b c f s = record { rest = f.rest ++ s.rest; whole = s.whole ∙ (ap (λ (l : List Change). l ++ s.rest) f.whole ∙ append_assoc a f.rest s.rest) }

pub begins-length : (a b : List Change) → BeginsWith b a → length a ≤ length b
begins-length a b s =
    let same = ap length s.whole in
    let both = length-append a s.rest in
    omega (arith, same, both)

-- ---- how many of a stretch are of an entry or of earlier ones

yes-up-to : (n : ℕ) (c : Change) → UpTo n c → is_up_to n c ≡ true
unfolding UpTo
yes-up-to n c h = le-leb c.entry n h

no-up-to : (n : ℕ) (c : Change) → Later n c → is_up_to n c ≡ false
unfolding Later
no-up-to n c h = lt-leb c.entry n h

prefix-none : (n k : ℕ) (ys : List Change) → AllByRecursion (Later n) ys → prefix_len (is_up_to n) (take k ys) ≡ 0
prefix-none n zero ys all = refl
prefix-none n (suc k) [] all = refl
prefix-none n (suc k) (y ∷ ys) all = ap (λ (b : Bool). cond b (1 + prefix_len (is_up_to n) (take k ys)) 0) (no-up-to n y all.0)

prefix-front : (n k : ℕ) (xs ys : List Change) → AllByRecursion (UpTo n) xs → AllByRecursion (Later n) ys → prefix_len (is_up_to n) (take k (xs ++ ys)) ≡ min k (length xs)
prefix-front n zero xs ys front back = omega arith
prefix-front n (suc k) [] ys front back = prefix-none n (suc k) ys back ∙ omega arith
prefix-front n (suc k) (x ∷ xs) ys front back =
    let rest = prefix-front n k xs ys front.1 back in
    ap (λ (b : Bool). cond b (1 + prefix_len (is_up_to n) (take k (xs ++ ys))) 0) (yes-up-to n x front.0) ∙ omega (arith, rest)

-- of a batch from a place on, those of these entries are as many as there are behind the place, up to 64
pub count-batch : (n from : ℕ) (before after : List Change) → AllByRecursion (UpTo n) before → GoesOnLater n before after → from ≤ length before
    → prefix_len (is_up_to n) (take 64 (drop from after)) ≡ min 64 (length before - from)
count-batch n from before after front more inside =
    ap (λ (l : List Change). prefix_len (is_up_to n) (take 64 (drop from l))) more.gained
    ∙ ap (λ (l : List Change). prefix_len (is_up_to n) (take 64 l)) (drop-append-le from before more.added inside)
    ∙ prefix-front n 64 (drop from before) more.added (all-drop (UpTo n) from before front) more.later
    ∙ ap (min 64) (length-drop from before)

-- of a batch that a look finds behind a history, from a place on in it, those of the history's entries are what it has from there on, up to 64
pub place-count : (config : Config) (old new : List Entry) (entry place : ℕ) → IsLegal config new → BeginsWith new old → entry ≡ length old → place ≤ length (changes_of config old)
    → prefix_len (is_up_to entry) (take 64 (drop place (changes_of config new))) ≡ min 64 (length (changes_of config old) - place)
place-count config old new entry place legal b is inside =
    let whole : IsLegal config (old ++ b.rest) = subst (IsLegal config) b.whole legal in
    let front = legal_from-front (opening_world config) old b.rest whole in
    let more = changes-later config old b.rest whole in
    subst (λ (n : ℕ). prefix_len (is_up_to n) (take 64 (drop place (changes_of config new))) ≡ min 64 (length (changes_of config old) - place)) (sym is)
    (count-batch (length old) place (changes_of config old) (changes_of config new) (changes-within config old front)
    (record { added = more.added; gained = ap (changes_of config) b.whole ∙ more.gained; later = more.later }) inside)
