-- The first line after which no text can go on, for every grammar that is read line by line.
use Rattle.std.proofs.Common.{◌≡◌, ℕ, ◌+◌, ◌<◌, ◌≤◌, List, [], ◌∷◌, ◌++◌, length, take, Option, Some, refl, sym, ap, subst, ◌∙◌, arith, append_assoc, append-nil, length-append}
use Rattle.std.proofs.Math.Seq.{take-append_seam, take-append-add}
use Rattle.std.proofs.lemmas.List.{take_all}
use Rattle.text_lines.specs.Lines.{whole_lines, first_lines, ended, IsTextOf, Begins, GoesOn, IsFirstBad}

-- the lines lead from one state to another
abbrev pub Runs : {S : Type 0} → (S → List ℕ → S → Type 0) → S → List (List ℕ) → S → Type 0
Runs Goes s [] t = s ≡ t
Runs {S} Goes s (l ∷ ls) t = (m : S) × Goes s l m × Runs Goes m ls t

pub runs-append : {S : Type 0} (Goes : S → List ℕ → S → Type 0) (s t u : S) (ls ms : List (List ℕ)) → Runs Goes s ls t → Runs Goes t ms u → Runs Goes s (ls ++ ms) u
runs-append Goes s t u [] ms r q = subst (λ x. Runs Goes x ms u) (sym r) q
runs-append Goes s t u (l ∷ ls) ms r q = (r.0, r.1, runs-append Goes r.0 t u ls ms r.2 q)

-- what stands between the parts of a run
pub record Between {S : Type 0} (Goes : S → List ℕ → S → Type 0) (s : S) (ls ms : List (List ℕ)) (u : S) : Type 0 where
  pub mid : S
  pub first : Runs Goes s ls mid
  pub second : Runs Goes mid ms u

pub runs_split : {S : Type 0} (Goes : S → List ℕ → S → Type 0) (s u : S) (ls ms : List (List ℕ)) → Runs Goes s (ls ++ ms) u → Between Goes s ls ms u
runs_split Goes s u [] ms r = record { mid = s; first = refl; second = r }
runs_split Goes s u (l ∷ ls) ms r =
    let b = runs_split Goes r.0 u ls ms r.2 in
    record { mid = b.mid; first = (r.0, r.1, b.first); second = b.second }

-- the automaton reads the texts of the grammar, and from every state that it reaches some text goes on
pub record Reads {S Q : Type 0} (Goes : S → List ℕ → S → Type 0) (start : S) (ends : S → Option Q) (Spells : List (List ℕ) → Q → Type 0) : Type 0 where
  pub sound : (ls : List (List ℕ)) (t : S) (q : Q) → Runs Goes start ls t → ends t ≡ Some q → Spells ls q
  pub complete : (ls : List (List ℕ)) (q : Q) → Spells ls q → (t : S) × Runs Goes start ls t × (ends t ≡ Some q)
  pub goes_on : (ls : List (List ℕ)) (t : S) → Runs Goes start ls t → GoesOn Spells ls

-- the automaton has read the front, reached this state and no other
pub record Reached {S : Type 0} (Goes : S → List ℕ → S → Type 0) (start : S) (front : List (List ℕ)) (state : S) : Type 0 where
  pub run : Runs Goes start front state
  pub only : (u : S) → Runs Goes start front u → u ≡ state

-- why no text is read: no state follows by the next line, or there is none and the bytes are no whole text that may end here
abbrev pub Stops : {S Q : Type 0} → (S → List ℕ → S → Type 0) → (S → Option Q) → ℕ → List ℕ → List (List ℕ) → S → Type 0
Stops {S} {Q} Goes ends limit bytes [] state = (q : Q) → ends state ≡ Some q → length bytes ≤ limit → bytes ≡ ended (whole_lines bytes) → ⊥
Stops {S} {Q} Goes ends limit bytes (l ∷ ls) state = (t : S) → Goes state l t → ⊥

none_within : {S Q : Type 0} (Goes : S → List ℕ → S → Type 0) (start : S) (ends : S → Option Q) (Spells : List (List ℕ) → Q → Type 0) → Reads Goes start ends Spells
    → (limit : ℕ) (bytes : List ℕ) (front more : List (List ℕ)) (state : S) → first_lines limit bytes ≡ front ++ more → Reached Goes start front state → Stops Goes ends limit bytes more state
    → (q : Q) → IsTextOf Spells limit bytes q → ⊥
none_within Goes start ends Spells reads limit bytes front [] state lines reached stops q text =
    let all : whole_lines bytes ≡ front = ap whole_lines (sym (take_all limit bytes text.within)) ∙ lines ∙ append-nil front in
    let run = reads.complete (whole_lines bytes) q text.spelled in
    let same = reached.only run.0 (subst (λ ls. Runs Goes start ls run.0) all run.1) in
    stops q (ap ends (sym same) ∙ run.2) text.within text.whole
none_within Goes start ends Spells reads limit bytes front (l ∷ ls) state lines reached stops q text =
    let all : whole_lines bytes ≡ front ++ l ∷ ls = ap whole_lines (sym (take_all limit bytes text.within)) ∙ lines in
    let run = reads.complete (whole_lines bytes) q text.spelled in
    let parts = runs_split Goes start run.0 front (l ∷ ls) (subst (λ ks. Runs Goes start ks run.0) all run.1) in
    let same = reached.only parts.mid parts.first in
    stops parts.second.0 (subst (λ s. Goes s l parts.second.0) same parts.second.1)

stuck : {S Q : Type 0} (Goes : S → List ℕ → S → Type 0) (start : S) (ends : S → Option Q) (Spells : List (List ℕ) → Q → Type 0) → Reads Goes start ends Spells
    → (limit : ℕ) (bytes : List ℕ) (front more : List (List ℕ)) (state : S) → Reached Goes start front state → Stops Goes ends limit bytes more state
    → length front < length (front ++ more) → Begins Spells (take (length front + 1) (front ++ more)) → ⊥
stuck Goes start ends Spells reads limit bytes front [] state reached stops within b = omega (arith, length-append front [])
stuck Goes start ends Spells reads limit bytes front (l ∷ ls) state reached stops within b =
    let one : take (length front + 1) (front ++ l ∷ ls) ≡ front ++ l ∷ [] = take-append-add front (l ∷ ls) 1 in
    let run = reads.complete (take (length front + 1) (front ++ l ∷ ls) ++ b.more) b.text b.spelled in
    let lines : take (length front + 1) (front ++ l ∷ ls) ++ b.more ≡ front ++ l ∷ b.more = ap (λ ks. ks ++ b.more) one ∙ append_assoc front (l ∷ []) b.more in
    let parts = runs_split Goes start run.0 front (l ∷ b.more) (subst (λ ks. Runs Goes start ks run.0) lines run.1) in
    let same = reached.only parts.mid parts.first in
    stops parts.second.0 (subst (λ s. Goes s l parts.second.0) same parts.second.1)

begins : {Q : Type 0} {Spells : List (List ℕ) → Q → Type 0} {lines : List (List ℕ)} → GoesOn Spells lines → Begins Spells lines
begins g = record { more = g.more; are_lines = g.are_lines; text = g.text; spelled = g.spelled }

-- the line behind those that were read is the first bad one
pub first_bad : {S Q : Type 0} (Goes : S → List ℕ → S → Type 0) (start : S) (ends : S → Option Q) (Spells : List (List ℕ) → Q → Type 0) → Reads Goes start ends Spells
    → (limit : ℕ) (bytes : List ℕ) (front more : List (List ℕ)) (state : S) → first_lines limit bytes ≡ front ++ more → Reached Goes start front state → Stops Goes ends limit bytes more state
    → IsFirstBad Spells limit bytes (length front + 1)
first_bad Goes start ends Spells reads limit bytes front more state lines reached stops =
    let P : List (List ℕ) → Type 0 = λ all. (length front ≤ length all) × Begins Spells (take (length front) all) × (length front < length all → Begins Spells (take (length front + 1) all) → ⊥) in
    let whole : P (front ++ more) = (
      omega (arith, length-append front more),
      subst (Begins Spells) (sym (take-append_seam front more)) (begins (reads.goes_on front state reached.run)),
      stuck Goes start ends Spells reads limit bytes front more state reached stops,
    ) in
    let facts : P (first_lines limit bytes) = subst P (sym lines) whole in
    record {
      before = length front;
      number = refl;
      within = facts.0;
      good = facts.1;
      bad = facts.2;
      none = none_within Goes start ends Spells reads limit bytes front more state lines reached stops;
    }

-- what was read to its end is the one text
pub read_text : {S Q : Type 0} (Goes : S → List ℕ → S → Type 0) (start : S) (ends : S → Option Q) (Spells : List (List ℕ) → Q → Type 0) → Reads Goes start ends Spells
    → (limit : ℕ) (bytes : List ℕ) (front : List (List ℕ)) (state : S) (q : Q) → first_lines limit bytes ≡ front → Reached Goes start front state
    → length bytes ≤ limit → bytes ≡ ended front → ends state ≡ Some q
    → IsTextOf Spells limit bytes q × ((p : Q) → IsTextOf Spells limit bytes p → p ≡ q)
read_text Goes start ends Spells reads limit bytes front state q lines reached within whole e =
    let all : whole_lines bytes ≡ front = ap whole_lines (sym (take_all limit bytes within)) ∙ lines in (
      record {
        within = within;
        whole = whole ∙ ap ended (sym all);
        spelled = subst (λ ls. Spells ls q) (sym all) (reads.sound front state q reached.run e);
      },
      λ p text.
          let run = reads.complete (whole_lines bytes) p text.spelled in
          let same = reached.only run.0 (subst (λ ls. Runs Goes start ls run.0) all run.1) in
          some_same (sym run.2 ∙ ap ends same ∙ e),
    )
  where
    some_same : {A : Type 0} {x y : A} → ◌≡◌ {A = Option A} (Some x) (Some y) → x ≡ y
    some_same h = cc

-- the states of a reader of lines, and the texts that it reads
pub record Lined (S Q : Type 0) : Type 1 where
  pub start : S
  pub next : S → List ℕ → Option S
  pub ends : S → Option Q
  pub Spells : List (List ℕ) → Q → Type 0

abbrev pub GoesBy : {S Q : Type 0} → Lined S Q → S → List ℕ → S → Type 0
GoesBy L s line t = L.next s line ≡ Some t

-- The same, where the first state says which texts are read, as the kind of script that is wanted.
pub record Stepping (S Q : Type 0) : Type 1 where
  pub is_first : S → Type 0
  pub next : S → List ℕ → Option S
  pub ends : S → Option Q
  pub Spells : S → List (List ℕ) → Q → Type 0

abbrev pub from : {S Q : Type 0} → Stepping S Q → S → Lined S Q
from A s = record { start = s; next = A.next; ends = A.ends; Spells = A.Spells s }
