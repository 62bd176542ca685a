-- Texts of whole lines, and the first line after which no text can go on: our profile.
use Rattle.std.specs.Prelude.{◌≡◌, ℕ, ◌+◌, ◌<◌, ◌≤◌, ◌==◌, Bool, true, not, filter, nat_le, List, [], ◌∷◌, ◌++◌, length, take, if◌then◌else◌}
use Rattle.std.specs.List.{flat_map, list_all, AllByRecursion}
use Rattle.text_codec.specs.Lexical.{no_feed}

-- a byte in front of the first line
abbrev pub onto_first : ℕ → List (List ℕ) → List (List ℕ)
onto_first b [] = []
onto_first b (l ∷ ls) = (b ∷ l) ∷ ls

-- the lines that end with a line feed, each without it
abbrev pub whole_lines : List ℕ → List (List ℕ)
whole_lines [] = []
whole_lines (b ∷ bs) = if b == 10 then [] ∷ whole_lines bs else onto_first b (whole_lines bs)

-- lines, each with its line feed
abbrev pub ended : List (List ℕ) → List ℕ
ended lines = flat_map (λ l. l ++ 10 ∷ []) lines

-- a line that a reader may skip: an empty one, or one that begins with #
abbrev pub is_skipped : List ℕ → Bool
is_skipped [] = true
is_skipped (b ∷ bs) = b == 35

-- the lines that are not skipped
abbrev pub unskipped_lines : List (List ℕ) → List (List ℕ)
unskipped_lines lines = filter (λ l. not (is_skipped l)) lines

-- the bytes, of which there are at most so many, are the whole lines of a text
pub record IsTextOf {Q : Type 0} (Spells : List (List ℕ) → Q → Type 0) (limit : ℕ) (bytes : List ℕ) (q : Q) : Type 0 where
  pub within : length bytes ≤ limit
  pub whole : bytes ≡ ended (whole_lines bytes)
  pub spelled : Spells (whole_lines bytes) q

-- lines without a line feed
abbrev pub AreLines : List (List ℕ) → Type 0
AreLines lines = AllByRecursion (λ line. list_all no_feed line ≡ true) lines

-- some text begins with these lines, and goes on with lines
pub record Begins {Q : Type 0} (Spells : List (List ℕ) → Q → Type 0) (lines : List (List ℕ)) : Type 0 where
  pub more : List (List ℕ)
  pub are_lines : AreLines more
  pub text : Q
  pub spelled : Spells (lines ++ more) text

-- the same, where the lines that follow are not skipped by a reader that skips
pub record GoesOn {Q : Type 0} (Spells : List (List ℕ) → Q → Type 0) (lines : List (List ℕ)) : Type 0 where
  pub more : List (List ℕ)
  pub are_lines : AreLines more
  pub text : Q
  pub spelled : Spells (lines ++ more) text
  pub unskipped : unskipped_lines more ≡ more

-- the whole lines within the limit
abbrev pub first_lines : ℕ → List ℕ → List (List ℕ)
first_lines limit bytes = whole_lines (take limit bytes)

-- The bytes are no text, and n is the number of the first line after which none can go on. A last piece without its
-- line feed, the line that is missing, and the line of the first byte beyond the limit count as such a line.
pub record IsFirstBad {Q : Type 0} (Spells : List (List ℕ) → Q → Type 0) (limit : ℕ) (bytes : List ℕ) (n : ℕ) : Type 0 where
  pub before : ℕ
  pub number : n ≡ before + 1
  pub within : before ≤ length (first_lines limit bytes)
  pub good : Begins Spells (take before (first_lines limit bytes))
  pub bad : before < length (first_lines limit bytes) → Begins Spells (take (before + 1) (first_lines limit bytes)) → ⊥
  pub none : (q : Q) → IsTextOf Spells limit bytes q → ⊥

-- the first bytes up to a limit, and whether they are all of them
pub record IsFront (limit : ℕ) (all front : List ℕ) (is_whole : Bool) : Type 0 where
  pub first : front ≡ take limit all
  pub whole : is_whole ≡ nat_le (length all) limit
