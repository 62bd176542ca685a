-- What lines that were played say of a block.
use Rattle.std.specs.Prelude.{◌≡◌, ℕ, List, [], ◌∷◌, ◌++◌, take, length, Option}
use Rattle.std.proofs.Common.{refl, sym, ap, subst, ◌∙◌, append_assoc, append-nil, inl, inr}
use Rattle.std.proofs.Math.Seq.{take-append_seam}
use Rattle.drmaa_model.specs.declared.calls.Call.{Call}
use Rattle.drmaa_model.specs.declared.entries.Entry.{Entry}
use Rattle.text_codec.specs.Formats.{choose}
use Rattle.script_lines.specs.declared.lines.Line.{Line}
use Rattle.script_text.specs.declared.scripts.Script.{Script}
use Rattle.script_asks.specs.declared.given.Given.{Given}
use Rattle.script_asks.specs.Plays.{Plays, PlaysPart, names_told, behind_first, names_by}
use Rattle.script_asks.specs.Replies.{names_after}
use Rattle.block_play.specs.Played.{PlaysLine, PlaysLines, last_moment}
use Rattle.block_play.specs.Played.PlaysLine.{asks_nothing, asks_once}

-- one line more
pub plays-more : (s : Script) (names mid after : List (List ℕ × Given)) (before at then : ℕ) (ls : List Line) (l : Line) (es more : List Entry)
    → PlaysLines s names before ls es mid at → PlaysLine s mid at l more after then → PlaysLines s names before (ls ++ l ∷ []) (es ++ more) after then
plays-more s names mid after before at then [] l es more (none, same, time) p =
    let here : PlaysLine s names before l more after then = subst (λ (k : ℕ). PlaysLine s names k l more after then) time (subst (λ (n : List (List ℕ × Given)). PlaysLine s n at l more after then) same p) in
    (more, [], after, then, ap (λ (x : List Entry). x ++ more) none ∙ sym (append-nil more), here, (refl, refl, refl))
plays-more s names mid after before at then (x ∷ ls) l es more (first, rest, n, k, is, head, tail) p =
    (first, rest ++ more, n, k, ap (λ (t : List Entry). t ++ more) is ∙ append_assoc first rest more, head, plays-more s n mid after k at then ls l rest more tail p)

-- the entries are what the lines ask
pub plays-asked : (s : Script) (names after : List (List ℕ × Given)) (before then : ℕ) (ls : List Line) (es : List Entry) → PlaysLines s names before ls es after then → Plays s names before ls es
plays-asked s names after before then [] es (none, same, time) = none
plays-asked s names after before then (l ∷ ls) es (first, rest, mid, at, is, asks_nothing un none same time, tail) =
    let here : es ≡ rest = is ∙ ap (λ (x : List Entry). x ++ rest) none in
    inl (
      un,
      subst (λ (x : List Entry). Plays s names before ls x) (sym here)
          (subst (λ (k : ℕ). Plays s names k ls rest) time (subst (λ (n : List (List ℕ × Given)). Plays s n at ls rest) same (plays-asked s mid after at then ls rest tail))),
    )
plays-asked s names after before then (l ∷ ls) es (first, rest, mid, at, is, asks_once e c asked one of_line same time, tail) =
    inr (
      e,
      rest,
      is ∙ ap (λ (x : List Entry). x ++ rest) one,
      of_line,
      subst (λ (k : ℕ). Plays s (names_after l e.reply names) k ls rest) time (subst (λ (n : List (List ℕ × Given)). Plays s n at ls rest) same (plays-asked s mid after at then ls rest tail)),
    )

-- the names after lines are those that their entries tell
pub plays-names : (s : Script) (names after : List (List ℕ × Given)) (before then : ℕ) (ls : List Line) (es : List Entry) → PlaysLines s names before ls es after then → names_by s names ls es ≡ after
plays-names s names after before then [] es (none, same, time) = sym same
plays-names s names after before then (l ∷ ls) es (first, rest, mid, at, is, asks_nothing un none same time, tail) =
    let here : es ≡ rest = is ∙ ap (λ (x : List Entry). x ++ rest) none in
    ap (λ (o : Option Call). choose o (λ c. names_by s (names_told l es names) ls (behind_first es)) (names_by s names ls es)) un
    ∙ (ap (λ (x : List Entry). names_by s names ls x) here
    ∙ (ap (λ (n : List (List ℕ × Given)). names_by s n ls rest) (sym same) ∙ plays-names s mid after at then ls rest tail))
plays-names s names after before then (l ∷ ls) es (first, rest, mid, at, is, asks_once e c asked one of_line same time, tail) =
    let here : es ≡ e ∷ rest = is ∙ ap (λ (x : List Entry). x ++ rest) one in
    ap (λ (o : Option Call). choose o (λ d. names_by s (names_told l es names) ls (behind_first es)) (names_by s names ls es)) asked
    ∙ (ap (λ (x : List Entry). names_by s (names_told l x names) ls (behind_first x)) here
    ∙ (ap (λ (n : List (List ℕ × Given)). names_by s n ls rest) (sym same) ∙ plays-names s mid after at then ls rest tail))

-- the moment behind lines is that of their last entry
pub plays-then : (s : Script) (names after : List (List ℕ × Given)) (before then : ℕ) (ls : List Line) (es : List Entry) → PlaysLines s names before ls es after then → last_moment before es ≡ then
plays-then s names after before then [] es (none, same, time) = ap (λ (x : List Entry). last_moment before x) none ∙ sym time
plays-then s names after before then (l ∷ ls) es (first, rest, mid, at, is, asks_nothing un none same time, tail) =
    let here : es ≡ rest = is ∙ ap (λ (x : List Entry). x ++ rest) none in
    ap (λ (x : List Entry). last_moment before x) here ∙ (ap (λ (k : ℕ). last_moment k rest) (sym time) ∙ plays-then s mid after at then ls rest tail)
plays-then s names after before then (l ∷ ls) es (first, rest, mid, at, is, asks_once e c asked one of_line same time, tail) =
    let here : es ≡ e ∷ rest = is ∙ ap (λ (x : List Entry). x ++ rest) one in
    ap (λ (x : List Entry). last_moment before x) here ∙ (ap (λ (k : ℕ). last_moment k rest) (sym time) ∙ plays-then s mid after at then ls rest tail)

-- the entries of the first lines are what a part of the block asks
pub plays-part : (s : Script) (names after : List (List ℕ × Given)) (before then : ℕ) (ls front back : List Line) (es : List Entry) → ls ≡ front ++ back
    → PlaysLines s names before front es after then → PlaysPart s names before ls es
plays-part s names after before then ls front back es is p =
    (length front, subst (λ (x : List Line). Plays s names before x es) (sym (ap (λ (x : List Line). take (length front) x) is ∙ take-append_seam front back)) (plays-asked s names after before then front es p))
