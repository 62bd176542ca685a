-- Forms of text: how a value is spelled, and how it is read from the front of some bytes.
use Rattle.std.specs.Prelude.{◌≡◌, ℕ, zero, suc, ◌<◌, ◌==◌, ◌&&◌, nat_lt, Bool, true, false, List, [], ◌∷◌, ◌++◌, length, take, drop, Option, Some, None, Result, Ok, Err, decimal, codes, if◌then◌else◌}
use Rattle.std.specs.List.{prefix_len, find, AllByRecursion}
use Rattle.std.specs.Str.{bytes_eq}
use Rattle.std.specs.Str.Parse.{digits_value}
use Rattle.text_codec.specs.Lexical.{is_letter, parts, is_plain, IsClean}
use Rattle.drmaa_types.specs.Moments.{greatest}
use Rattle.text_codec.specs.declared.unread.Unread.{Unread}
use Rattle.text_codec.specs.declared.unread.Unread.TheVariants.{Unspelled, OutOfMemory}

-- how a value is spelled, which values are, and what is read at the front of some bytes, with what follows it
pub record Format (A : Type 0) : Type 1 where
  pub spell : A → List ℕ
  pub valid : A → Type 0
  pub read : List ℕ → Option (A × List ℕ)

-- What is read was spelled so, and what is spelled so is read, where what follows parts it. It may stand in a line.
pub record IsFormat {A : Type 0} (f : Format A) : Type 0 where
  pub found : (bs : List ℕ) (p : A × List ℕ) → f.read bs ≡ Some p → f.valid p.0 × (bs ≡ f.spell p.0 ++ p.1)
  pub again : (x : A) (rest : List ℕ) → f.valid x → parts rest ≡ true → f.read (f.spell x ++ rest) ≡ Some (x, rest)
  pub clean : (x : A) → f.valid x → IsClean (f.spell x)

-- What a reader of this form answers: the value with what it leaves, or that nothing is spelled; want of memory says nothing.
abbrev pub Answers : {A : Type 0} → (List ℕ → Option (A × List ℕ)) → List ℕ → Result A Unread → List ℕ → Type 0
Answers read old (Ok x) new = read old ≡ Some (x, new)
Answers read old (Err Unspelled) new = read old ≡ None
Answers read old (Err OutOfMemory) new = Unit {0}

infixl 10 ◌>>=◌
abbrev pub ◌>>=◌ : {A B : Type 0} → Option A → (A → Option B) → Option B
None >>= f = None
(Some x) >>= f = f x

-- what follows these bytes, where they stand at the front
abbrev pub strip : List ℕ → List ℕ → Option (List ℕ)
strip [] bs = Some bs
strip (k ∷ ks) [] = None
strip (k ∷ ks) (b ∷ bs) = if b == k then strip ks bs else None

-- the word at the front, and what follows it
unfoldable pub first_word : List ℕ → List ℕ
first_word bs = take (prefix_len is_letter bs) bs

unfoldable pub behind_word : List ℕ → List ℕ
behind_word bs = drop (prefix_len is_letter bs) bs

-- a value that is spelled as one word
abbrev pub worded : {A : Type 0} → (A → List ℕ) → (A → Type 0) → (List ℕ → Option A) → Format A
worded text valid value = record {
  spell = text;
  valid = valid;
  read = λ bs. value (first_word bs) >>= λ x. Some (x, behind_word bs);
}

-- the number below a bound that a word spells
unfoldable pub number_of : ℕ → List ℕ → Option ℕ
number_of bound w = if nat_lt (digits_value 10 w) bound && bytes_eq (decimal (digits_value 10 w)) w then Some (digits_value 10 w) else None

unfoldable pub number : ℕ → Format ℕ
number bound = worded decimal (λ n. n < bound) (number_of bound)

-- the first of these that is spelled so
abbrev pub first_spelled : {A : Type 0} → (A → List ℕ) → List A → List ℕ → Option A
first_spelled text all w = find (λ x. bytes_eq (text x) w) all

-- one of some values, each spelled by a word of its own
abbrev pub one_of : {A : Type 0} → (A → List ℕ) → List A → Format A
one_of text all = worded text (λ x. first_spelled text all (text x) ≡ Some x) (first_spelled text all)

-- a choice by what was found
abbrev pub choose : {A B : Type 0} → Option A → (A → B) → B → B
choose None f other = other
choose (Some x) f other = f x

-- whether nothing is left
abbrev pub is_end : List ℕ → Bool
is_end [] = true
is_end (b ∷ bs) = false

-- whether two bytes at the same place differ
abbrev pub apart : List ℕ → List ℕ → Bool
apart [] ks = false
apart (j ∷ js) [] = false
apart (j ∷ js) (k ∷ ks) = if k == j then apart js ks else true

-- a value behind these bytes
unfoldable pub behind : {A : Type 0} → List ℕ → Format A → Format A
behind key f = record {
  spell = λ x. key ++ f.spell x;
  valid = f.valid;
  read = λ bs. strip key bs >>= f.read;
}

-- a moment
unfoldable pub moment : Format ℕ
moment = behind (codes "@") (number (suc greatest))

-- two values with a space between
unfoldable pub pair : {A B : Type 0} → Format A → Format B → Format (A × B)
pair f g = record {
  spell = λ p. f.spell p.0 ++ 32 ∷ g.spell p.1;
  valid = λ p. f.valid p.0 × g.valid p.1;
  read = λ bs. f.read bs >>= λ p. strip (codes " ") p.1 >>= λ rest. g.read rest >>= λ q. Some ((p.0, q.0), q.1);
}

-- the same values under another type
unfoldable pub mapped : {A B : Type 0} → (A → B) → (B → A) → Format A → Format B
mapped make parts f = record {
  spell = λ y. f.spell (parts y);
  valid = λ y. f.valid (parts y);
  read = λ bs. f.read bs >>= λ p. Some (make p.0, p.1);
}

-- a value, or these bytes where there is none
abbrev pub spell_or : {A : Type 0} → List ℕ → (A → List ℕ) → Option A → List ℕ
spell_or dash spell None = dash
spell_or dash spell (Some x) = spell x

abbrev pub valid_or : {A : Type 0} → (A → Type 0) → Option A → Type 0
valid_or valid None = Unit {0}
valid_or valid (Some x) = valid x

abbrev pub read_or : {A : Type 0} → List ℕ → (List ℕ → Option (A × List ℕ)) → List ℕ → Option (Option A × List ℕ)
read_or dash read bs = choose (strip dash bs) (λ rest. Some (None, rest)) (read bs >>= λ p. Some (Some p.0, p.1))

unfoldable pub or_else : {A : Type 0} → List ℕ → Format A → Format (Option A)
or_else dash f = record {
  spell = spell_or dash f.spell;
  valid = valid_or f.valid;
  read = read_or dash f.read;
}

-- the same form, of those values alone that pass a test
unfoldable pub checked : {A : Type 0} → (A → Bool) → Format A → Format A
checked test f = record {
  spell = f.spell;
  valid = λ x. f.valid x × (test x ≡ true);
  read = λ bs. f.read bs >>= λ p. if test p.0 then Some p else None;
}

-- a value behind one of two keys, and which
abbrev pub spell_tagged : {A : Type 0} → List ℕ → List ℕ → (A → List ℕ) → Bool × A → List ℕ
spell_tagged key other spell (true, x) = key ++ spell x
spell_tagged key other spell (false, x) = other ++ spell x

abbrev pub read_tagged : {A : Type 0} → List ℕ → List ℕ → (List ℕ → Option (A × List ℕ)) → List ℕ → Option ((Bool × A) × List ℕ)
read_tagged key other read bs =
    choose (strip key bs) (λ rest. read rest >>= λ p. Some ((true, p.0), p.1)) (strip other bs >>= λ rest. read rest >>= λ p. Some ((false, p.0), p.1))

-- two plain keys that differ at some place
abbrev pub is_tag : List ℕ → List ℕ → Bool
is_tag key other = apart key other && (is_plain key && is_plain other)

unfoldable pub tagged : {A : Type 0} → List ℕ → List ℕ → Format A → Format (Bool × A)
tagged key other f = record { spell = spell_tagged key other f.spell; valid = λ p. f.valid p.1; read = read_tagged key other f.read }

-- values, each behind these bytes, as many as there are; at most so many
abbrev pub spell_each : {A : Type 0} → List ℕ → (A → List ℕ) → List A → List ℕ
spell_each key spell [] = []
spell_each key spell (x ∷ xs) = (key ++ spell x) ++ spell_each key spell xs

abbrev pub read_each : {A : Type 0} → List ℕ → (List ℕ → Option (A × List ℕ)) → ℕ → List ℕ → Option (List A × List ℕ)
read_each key read zero bs = Some ([], bs)
read_each key read (suc n) bs =
    choose (strip key bs) (λ rest. read rest >>= λ p. read_each key read n p.1 >>= λ q. Some (p.0 ∷ q.0, q.1)) (Some ([], bs))

unfoldable pub read_all : {A : Type 0} → List ℕ → (List ℕ → Option (A × List ℕ)) → List ℕ → Option (List A × List ℕ)
read_all key read bs = read_each key read (length bs) bs

-- values after those that were read
abbrev pub onto : {A : Type 0} → List A → Option (List A × List ℕ) → Option (List A × List ℕ)
onto first o = o >>= λ p. Some (first ++ p.0, p.1)

abbrev pub read_on : {A : Type 0} → List ℕ → (List ℕ → Option (A × List ℕ)) → List A → List ℕ → Option (List A × List ℕ)
read_on key read first bs = onto first (read_all key read bs)

-- a list
abbrev pub spell_list : {A : Type 0} → (A → List ℕ) → List A → List ℕ
spell_list spell [] = 91 ∷ 93 ∷ []
spell_list spell (x ∷ xs) = 91 ∷ (spell x ++ spell_each (32 ∷ []) spell xs ++ 93 ∷ [])

unfoldable pub list_of : {A : Type 0} → Format A → Format (List A)
list_of f = record {
  spell = spell_list f.spell;
  valid = AllByRecursion f.valid;
  read = λ bs. strip (91 ∷ []) bs >>= λ a. choose (strip (93 ∷ []) a)
      (λ rest. Some ([], rest))
      (f.read a >>= λ p. read_all (32 ∷ []) f.read p.1 >>= λ q. strip (93 ∷ []) q.1 >>= λ rest. Some (p.0 ∷ q.0, rest));
}

-- these bytes never begin the form
abbrev pub Avoids : {A : Type 0} → List ℕ → Format A → Type 0
Avoids {A} dash f = (x : A) (rest : List ℕ) → f.valid x → strip dash (f.spell x ++ rest) ≡ None

-- a value, where nothing follows it
abbrev pub whole : {A : Type 0} → A → List ℕ → Option A
whole x [] = Some x
whole x (b ∷ bs) = None

-- the value that a whole line spells
abbrev pub read_line : {A : Type 0} → Format A → List ℕ → Option A
read_line f line = f.read line >>= λ p. whole p.0 p.1

-- What the reader of a line answers; want of memory says nothing.
abbrev pub Says : {A : Type 0} → Option A → Result A Unread → Type 0
Says o (Ok x) = o ≡ Some x
Says o (Err Unspelled) = o ≡ None
Says o (Err OutOfMemory) = Unit {0}
