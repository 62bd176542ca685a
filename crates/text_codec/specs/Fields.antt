-- Fields in their order, of which each may be left out or not, and what they stand in.
use Rattle.std.specs.Prelude.{◌≡◌, ℕ, ◌==◌, ◌&&◌, Bool, true, false, List, [], ◌∷◌, ◌++◌, Option, Some, None}
use Rattle.std.specs.List.{list_all, AllByRecursion}
use Rattle.text_codec.specs.Lexical.{is_plain, parts, IsClean}
use Rattle.text_codec.specs.Formats.{Format, ◌>>=◌, choose, strip, apart, valid_or, spell_each, read_all}

-- Fields in their order. One of the keys stands at their front, where something does; none of those that are barred may follow them.
pub record Fields (A : Type 0) : Type 1 where
  pub body : Format A
  pub keys : List (List ℕ)
  pub barred : List (List ℕ)

-- no further field
unfoldable pub no_more : Fields (Unit {0})
no_more = record { body = record { spell = λ u. []; valid = λ u. Unit {0}; read = λ bs. Some (tt, bs) }; keys = []; barred = [] }

-- a value behind a key, where there is one
abbrev pub spell_set : {A : Type 0} → List ℕ → (A → List ℕ) → Option A → List ℕ
spell_set key spell None = []
spell_set key spell (Some x) = key ++ spell x

-- a value behind a key, where the key stands there
abbrev pub read_set : {A : Type 0} → List ℕ → (List ℕ → Option (A × List ℕ)) → List ℕ → Option (Option A × List ℕ)
read_set key read bs = choose (strip key bs) (λ rest. read rest >>= λ p. Some (Some p.0, p.1)) (Some (None, bs))

-- one after the other
abbrev pub read_both : {A B : Type 0} → (List ℕ → Option (A × List ℕ)) → (List ℕ → Option (B × List ℕ)) → List ℕ → Option ((A × B) × List ℕ)
read_both first others bs = first bs >>= λ p. others p.1 >>= λ q. Some ((p.0, q.0), q.1)

-- a value that may be left out, and the fields after it
unfoldable pub field : {A B : Type 0} → List ℕ → Format A → Fields B → Fields (Option A × B)
field key f fs = record {
  body = record {
    spell = λ p. spell_set key f.spell p.0 ++ fs.body.spell p.1;
    valid = λ p. valid_or f.valid p.0 × fs.body.valid p.1;
    read = read_both (read_set key f.read) fs.body.read;
  };
  keys = key ∷ fs.keys;
  barred = key ∷ fs.barred;
}

-- a value that always stands, and the fields after it
unfoldable pub always : {A B : Type 0} → List ℕ → Format A → Fields B → Fields (A × B)
always key f fs = record {
  body = record {
    spell = λ p. key ++ f.spell p.0 ++ fs.body.spell p.1;
    valid = λ p. f.valid p.0 × fs.body.valid p.1;
    read = λ bs. strip key bs >>= read_both f.read fs.body.read;
  };
  keys = key ∷ [];
  barred = fs.barred;
}

-- a key alone, where it is set
abbrev pub spell_flag : List ℕ → Bool → List ℕ
spell_flag key true = key
spell_flag key false = []

-- whether the key stands there
abbrev pub read_mark : List ℕ → List ℕ → Option (Bool × List ℕ)
read_mark key bs = choose (strip key bs) (λ rest. Some (true, rest)) (Some (false, bs))

-- a word that stands where it is set, and the fields after it
unfoldable pub flag : {B : Type 0} → List ℕ → Fields B → Fields (Bool × B)
flag key fs = record {
  body = record {
    spell = λ p. spell_flag key p.0 ++ fs.body.spell p.1;
    valid = λ p. fs.body.valid p.1;
    read = read_both (read_mark key) fs.body.read;
  };
  keys = key ∷ fs.keys;
  barred = key ∷ fs.barred;
}

-- a value that stands any number of times, and the fields after it
unfoldable pub repeated : {A B : Type 0} → List ℕ → Format A → Fields B → Fields (List A × B)
repeated key f fs = record {
  body = record {
    spell = λ p. spell_each key f.spell p.0 ++ fs.body.spell p.1;
    valid = λ p. AllByRecursion f.valid p.0 × fs.body.valid p.1;
    read = read_both (read_all key f.read) fs.body.read;
  };
  keys = key ∷ fs.keys;
  barred = key ∷ fs.barred;
}

-- a first value that always stands, and fields, in braces
unfoldable pub in_braces : {A B : Type 0} → List ℕ → Format A → Fields B → Format (A × B)
in_braces key f fs = record {
  spell = λ p. 123 ∷ (key ++ f.spell p.0 ++ fs.body.spell p.1 ++ 125 ∷ []);
  valid = λ p. f.valid p.0 × fs.body.valid p.1;
  read = λ bs. strip (123 ∷ key) bs >>= λ a. f.read a >>= λ p. fs.body.read p.1 >>= λ q. strip (125 ∷ []) q.1 >>= λ rest. Some ((p.0, q.0), rest);
}

-- fields, and a value behind a key that ends them
unfoldable pub joined : {A B : Type 0} → List ℕ → Fields A → Format B → Format (A × B)
joined key fs f = record {
  spell = λ p. fs.body.spell p.0 ++ (key ++ f.spell p.1);
  valid = λ p. fs.body.valid p.0 × f.valid p.1;
  read = λ bs. fs.body.read bs >>= λ p. strip key p.1 >>= λ rest. f.read rest >>= λ q. Some ((p.0, q.0), q.1);
}

-- a space, first
abbrev pub spaced : List ℕ → Bool
spaced [] = false
spaced (k ∷ ks) = k == 32

-- the key begins with a space, is plain, and is apart from all these
abbrev pub is_new : List ℕ → List (List ℕ) → Bool
is_new key keys = (spaced key && is_plain key) && list_all (apart key) keys

-- none of the keys stands at the front
abbrev pub is_none : {A : Type 0} → Option A → Bool
is_none None = true
is_none (Some x) = false

abbrev pub clear : List (List ℕ) → List ℕ → Bool
clear keys tail = list_all (λ k. is_none (strip k tail)) keys

-- nothing, or a space first
abbrev pub led : List ℕ → Bool
led [] = true
led (b ∷ bs) = b == 32

-- What is read was spelled so, and what is spelled so is read, where what follows parts it and nothing barred follows.
pub record IsFormatUpTo {A : Type 0} (fs : Fields A) : Type 0 where
  pub found : (bs : List ℕ) (p : A × List ℕ) → fs.body.read bs ≡ Some p → fs.body.valid p.0 × (bs ≡ fs.body.spell p.0 ++ p.1)
  pub again : (x : A) (tail : List ℕ) → fs.body.valid x → parts tail ≡ true → clear fs.barred tail ≡ true → fs.body.read (fs.body.spell x ++ tail) ≡ Some (x, tail)
  pub clean : (x : A) → fs.body.valid x → IsClean (fs.body.spell x)

-- The same of fields, where none of those that are barred follows. No other key is read at their front; they begin with a space.
pub record AreFields {A : Type 0} (fs : Fields A) : Type 0 where
  pub found : (bs : List ℕ) (p : A × List ℕ) → fs.body.read bs ≡ Some p → fs.body.valid p.0 × (bs ≡ fs.body.spell p.0 ++ p.1)
  pub again : (x : A) (tail : List ℕ) → fs.body.valid x → parts tail ≡ true → clear fs.barred tail ≡ true → fs.body.read (fs.body.spell x ++ tail) ≡ Some (x, tail)
  pub clean : (x : A) → fs.body.valid x → IsClean (fs.body.spell x)
  pub skips : (key : List ℕ) (x : A) (tail : List ℕ) → list_all (apart key) fs.keys ≡ true → strip key tail ≡ None → strip key (fs.body.spell x ++ tail) ≡ None
  pub leads : (x : A) → led (fs.body.spell x) ≡ true
