-- How far a text was read.
use Rattle.std.proofs.Common.{◌≡◌, ℕ, ◌+◌, ◌<◌, ◌≤◌, nat_le, Bool, true, false, List, [], ◌∷◌, ◌++◌, length, Option, Some, None, Err, Result, refl, sym, ap, subst, ◌∙◌, arith, append_assoc, append-nil, length-append}
use Rattle.std.proofs.lemmas.Grind.{flat_map-append}
use Rattle.std.proofs.lemmas.List.{take_all}
use Rattle.std.proofs.lemmas.Option.{none-some}
use Rattle.std.proofs.lemmas.Bool.Decides.{nat_tests}
use Rattle.text_lines.specs.declared.reading.TextFault.{TextFault}
use Rattle.text_lines.specs.declared.reading.TextFault.TheVariants.{Line}
use Rattle.text_lines.specs.Lines.{whole_lines, ended, first_lines, IsFront, IsTextOf, IsFirstBad}
use Rattle.text_lines.specs.Splitting.{first_line}
use Rattle.text_lines.specs.Automata.{Lined, GoesBy, Reads, runs-append, runs_split, Reached, first_bad, read_text}
use Rattle.text_lines.specs.SplitLaws.{line_found, no_line}

-- these lines were read, and the rest was not
pub record Progress {S Q : Type 0} (L : Lined S Q) (front rest : List ℕ) (reader : S) (number : ℕ) : Type 0 where
  pub lines : List (List ℕ)
  pub reached : Reached (GoesBy L) L.start lines reader
  pub all : whole_lines front ≡ lines ++ whole_lines rest
  pub bytes : front ≡ ended lines ++ rest
  pub count : number ≡ length lines + 1
  pub room : number + length rest ≤ length front + 1

pub begun : {S Q : Type 0} (L : Lined S Q) → Reads (GoesBy L) L.start L.ends L.Spells → (front : List ℕ) → Progress L front front L.start 1
begun {S = S} {Q = Q} L reads front = record { lines = []; reached = record { run = refl; only = λ u r. sym r }; all = refl; bytes = refl; count = refl; room = omega arith }

reached_more : {S Q : Type 0} (L : Lined S Q) → Reads (GoesBy L) L.start L.ends L.Spells → (lines : List (List ℕ)) (line : List ℕ) (reader next : S) → Reached (GoesBy L) L.start lines reader → GoesBy L reader line next → ((to : S) → GoesBy L reader line to → ◌≡◌ {A = Option S} (Some next) (Some to))
    → Reached (GoesBy L) L.start (lines ++ line ∷ []) next
reached_more {S = S} {Q = Q} L reads lines line reader next r g only = record {
  run = runs-append (GoesBy L) L.start reader next lines (line ∷ []) r.run (next, g, refl);
  only = λ u run.
      let parts = runs_split (GoesBy L) L.start u lines (line ∷ []) run in
      let same = r.only parts.mid parts.first in
      let to = only parts.second.0 (subst (λ s. (GoesBy L) s line parts.second.0) same parts.second.1) in
      sym parts.second.2 ∙ some_same next parts.second.0 to;
}
  where
    some_same : {S : Type 0} (x y : S) → ◌≡◌ {A = Option S} (Some x) (Some y) → y ≡ x
    some_same x y h = cc

ended_more : (ls : List (List ℕ)) (l bs : List ℕ) → ended ls ++ (l ++ 10 ∷ bs) ≡ ended (ls ++ l ∷ []) ++ bs
ended_more ls l bs =
    ap (λ r. ended ls ++ r) (sym (append_assoc l (10 ∷ []) bs)) ∙ sym (append_assoc (ended ls) (l ++ 10 ∷ []) bs)
    ∙ ap (λ r. (ended ls ++ r) ++ bs) (sym (append-nil (l ++ 10 ∷ []))) ∙ ap (λ r. r ++ bs) (sym (flat_map-append (λ k. k ++ 10 ∷ []) ls (l ∷ [])))

pub one_line_more : {S Q : Type 0} (L : Lined S Q) → Reads (GoesBy L) L.start L.ends L.Spells → (front rest line behind : List ℕ) (reader next : S) (number : ℕ) → Progress L front rest reader number → ◌≡◌ {A = Option (List ℕ × List ℕ)} (Some (line, behind)) (first_line rest)
    → GoesBy L reader line next → ((to : S) → GoesBy L reader line to → ◌≡◌ {A = Option S} (Some next) (Some to)) → Progress L front behind next (number + 1)
one_line_more {S = S} {Q = Q} L reads front rest line behind reader next number p e g only =
    let f = line_found rest line behind (sym e) in
    record {
      lines = p.lines ++ line ∷ [];
      reached = reached_more L reads p.lines line reader next p.reached g only;
      all = p.all ∙ ap (λ ls. p.lines ++ ls) f.lines ∙ sym (append_assoc p.lines (line ∷ []) (whole_lines behind));
      bytes = p.bytes ∙ ap (λ bs. ended p.lines ++ bs) f.bytes ∙ ended_more p.lines line behind;
      count = ap (λ n. n + 1) p.count ∙ ap (λ n. n + 1) (sym (length-append p.lines (line ∷ [])));
      room = omega (arith, p.room, ap length f.bytes, length-append line (10 ∷ behind));
    }

pub smaller : (rest line behind : List ℕ) → ◌≡◌ {A = Option (List ℕ × List ℕ)} (Some (line, behind)) (first_line rest) → length behind < length rest
smaller rest line behind e = let f = line_found rest line behind (sym e) in omega (arith, ap length f.bytes, length-append line (10 ∷ behind))

-- no script goes on with the next line
pub stop_at_line : {S Q : Type 0} (L : Lined S Q) → Reads (GoesBy L) L.start L.ends L.Spells → (front rest line behind : List ℕ) (reader : S) (number : ℕ) (is_whole : Bool) → Progress L front rest reader number → ◌≡◌ {A = Option (List ℕ × List ℕ)} (Some (line, behind)) (first_line rest)
    → ((to : S) → GoesBy L reader line to → ⊥) → (limit : ℕ) (all : List ℕ) → IsFront limit all front is_whole → IsFirstBad L.Spells limit all number
stop_at_line {S = S} {Q = Q} L reads front rest line behind reader number is_whole p e stuck limit all f =
    let l = line_found rest line behind (sym e) in
    let lines : first_lines limit all ≡ p.lines ++ line ∷ whole_lines behind = ap whole_lines (sym f.first) ∙ p.all ∙ ap (λ ls. p.lines ++ ls) l.lines in
    subst (IsFirstBad L.Spells limit all) (sym p.count) (first_bad (GoesBy L) L.start L.ends L.Spells reads limit all p.lines (line ∷ whole_lines behind) reader lines p.reached stuck)

-- no line is left, and the text may not end here
pub stop_at_end : {S Q : Type 0} (L : Lined S Q) → Reads (GoesBy L) L.start L.ends L.Spells → (front rest : List ℕ) (reader : S) (number : ℕ) (is_whole : Bool) → Progress L front rest reader number → ◌≡◌ {A = Option (List ℕ × List ℕ)} None (first_line rest)
    → (limit : ℕ) (all : List ℕ) → IsFront limit all front is_whole → ((q : Q) → L.ends reader ≡ Some q → length all ≤ limit → all ≡ ended (whole_lines all) → ⊥) → IsFirstBad L.Spells limit all number
stop_at_end {S = S} {Q = Q} L reads front rest reader number is_whole p e limit all f why =
    let lines : first_lines limit all ≡ p.lines ++ [] = ap whole_lines (sym f.first) ∙ p.all ∙ ap (λ ls. p.lines ++ ls) (no_line rest (sym e)) in
    subst (IsFirstBad L.Spells limit all) (sym p.count) (first_bad (GoesBy L) L.start L.ends L.Spells reads limit all p.lines [] reader lines p.reached why)

not_within : (n limit : ℕ) → false ≡ nat_le n limit → n ≤ limit → ⊥
not_within n limit e h = grind (arith, nat_tests)

is_within : (n limit : ℕ) → true ≡ nat_le n limit → n ≤ limit
is_within n limit e = grind (arith, nat_tests)

pub cut_off : {S Q : Type 0} (L : Lined S Q) → Reads (GoesBy L) L.start L.ends L.Spells → (front rest : List ℕ) (reader : S) (number : ℕ) → Progress L front rest reader number → ◌≡◌ {A = Option (List ℕ × List ℕ)} None (first_line rest)
    → (limit : ℕ) (all : List ℕ) → IsFront limit all front false → IsFirstBad L.Spells limit all number
cut_off {S = S} {Q = Q} L reads front rest reader number p e limit all f = stop_at_end L reads front rest reader number false p e limit all f (λ q h within whole. not_within (length all) limit f.whole within)

pub unfinished : {S Q : Type 0} (L : Lined S Q) → Reads (GoesBy L) L.start L.ends L.Spells → (front rest : List ℕ) (reader : S) (number : ℕ) (is_whole : Bool) → Progress L front rest reader number → ◌≡◌ {A = Option (List ℕ × List ℕ)} None (first_line rest) → 0 < length rest
    → (limit : ℕ) (all : List ℕ) → IsFront limit all front is_whole → IsFirstBad L.Spells limit all number
unfinished {S = S} {Q = Q} L reads front rest reader number is_whole p e some limit all f = stop_at_end L reads front rest reader number is_whole p e limit all f (λ q h within whole.
    let same : front ≡ all = f.first ∙ take_all limit all within in
    let lines : whole_lines all ≡ p.lines = ap whole_lines (sym same) ∙ p.all ∙ ap (λ ls. p.lines ++ ls) (no_line rest (sym e)) ∙ append-nil p.lines in
    let text : ended p.lines ++ rest ≡ ended p.lines = sym p.bytes ∙ same ∙ whole ∙ ap ended lines in
    omega (arith, ap length text, length-append (ended p.lines) rest))

pub too_early : {S Q : Type 0} (L : Lined S Q) → Reads (GoesBy L) L.start L.ends L.Spells → (front rest : List ℕ) (reader : S) (number : ℕ) (is_whole : Bool) → Progress L front rest reader number → ◌≡◌ {A = Option (List ℕ × List ℕ)} None (first_line rest) → ◌≡◌ {A = Option Q} None (L.ends reader)
    → (limit : ℕ) (all : List ℕ) → IsFront limit all front is_whole → IsFirstBad L.Spells limit all number
too_early {S = S} {Q = Q} L reads front rest reader number is_whole p e h limit all f = stop_at_end L reads front rest reader number is_whole p e limit all f (λ q k within whole. none-some q (h ∙ k))

-- the text was read to its end
pub done : {S Q : Type 0} (L : Lined S Q) → Reads (GoesBy L) L.start L.ends L.Spells → (front rest : List ℕ) (reader : S) (number : ℕ) (q : Q) → Progress L front rest reader number → ◌≡◌ {A = Option (List ℕ × List ℕ)} None (first_line rest) → length rest ≡ 0 → ◌≡◌ {A = Option Q} (Some q) (L.ends reader)
    → (limit : ℕ) (all : List ℕ) → IsFront limit all front true → IsTextOf L.Spells limit all q × ((s : Q) → IsTextOf L.Spells limit all s → s ≡ q)
done {S = S} {Q = Q} L reads front [] reader number q p e empty h limit all f =
    let within = is_within (length all) limit f.whole in
    let same : front ≡ all = f.first ∙ take_all limit all within in
    let lines : first_lines limit all ≡ p.lines = ap whole_lines (sym f.first) ∙ p.all ∙ append-nil p.lines in
    read_text (GoesBy L) L.start L.ends L.Spells reads limit all p.lines reader q lines p.reached within (sym same ∙ p.bytes ∙ append-nil (ended p.lines)) (sym h)
done {S = S} {Q = Q} L reads front (b ∷ bs) reader number q p e empty h limit all f = absurd (omega arith)

-- the clauses of a refusal
pub refused_line : {S Q : Type 0} (L : Lined S Q) → Reads (GoesBy L) L.start L.ends L.Spells → (number n : ℕ) (limit : ℕ) (all : List ℕ) → IsFirstBad L.Spells limit all number → ◌≡◌ {A = Result Q TextFault} (Err (Line number)) (Err (Line n)) → IsFirstBad L.Spells limit all n
refused_line {S = S} {Q = Q} L reads number n limit all bad e = let same : number ≡ n = cc in subst (IsFirstBad L.Spells limit all) same bad
