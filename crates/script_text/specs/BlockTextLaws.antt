-- Laws of lines that are kept as the byte strings that spell them.
use Rattle.std.proofs.Common.{◌≡◌, ℕ, zero, suc, ◌+◌, true, List, [], ◌∷◌, ◌++◌, length, drop, Option, Some, None, is_some, refl, sym, ap, ◌∙◌, add-one}
use Rattle.script_lines.specs.declared.lines.Line.{Line}
use Rattle.script_lines.specs.Lines.{read_line}
use Rattle.script_text.specs.Names.{binds, onto, names_of}
use Rattle.script_text.specs.NameLaws.{onto-append, names-append}
use Rattle.script_text.specs.BlockTexts.{said, AreLines}

-- ---- one line more

said_append : (ts us : List (List ℕ)) → said (ts ++ us) ≡ said ts ++ said us
said_append [] us = refl
said_append (t ∷ ts) us = ap (onto (read_line t)) (said_append ts us) ∙ onto-append (read_line t) (said ts) (said us)

pub said_longer : (ts : List (List ℕ)) (t : List ℕ) (l : Line) → read_line t ≡ Some l → said (ts ++ t ∷ []) ≡ said ts ++ l ∷ []
said_longer ts t l e = said_append ts (t ∷ []) ∙ ap (λ o. said ts ++ onto o []) e

pub lines_longer : (ts : List (List ℕ)) (t : List ℕ) (l : Line) → AreLines ts → read_line t ≡ Some l → AreLines (ts ++ t ∷ [])
lines_longer [] t l h e = (ap is_some e, tt)
lines_longer (u ∷ us) t l h e = (h.0, lines_longer us t l h.1 e)

pub names_longer : (ts : List (List ℕ)) (t : List ℕ) (l : Line) → read_line t ≡ Some l → names_of (said ts) ++ onto (binds l) [] ≡ names_of (said (ts ++ t ∷ []))
names_longer ts t l e = sym (ap names_of (said_longer ts t l e) ∙ names-append (said ts) (l ∷ []))

-- ---- the line at a place

length-onto : (o : Option Line) (ls : List Line) → is_some o ≡ true → length (onto o ls) ≡ suc (length ls)
length-onto None ls h = cc
length-onto (Some l) ls h = refl

-- there are as many lines as byte strings
pub length_said : (ts : List (List ℕ)) → AreLines ts → length (said ts) ≡ length ts
length_said [] h = refl
length_said (t ∷ ts) h = length-onto (read_line t) (said ts) h.0 ∙ ap suc (length_said ts h.1)

drop-onto : (o : Option Line) (ls : List Line) (k : ℕ) → is_some o ≡ true → drop (suc k) (onto o ls) ≡ drop k ls
drop-onto None ls k h = cc
drop-onto (Some l) ls k h = refl

spelled_here : (ts : List (List ℕ)) (k : ℕ) (t : List ℕ) → AreLines ts → drop k ts ≡ t ∷ drop (suc k) ts → is_some (read_line t) ≡ true
spelled_here [] zero t h e = cc
spelled_here [] (suc k) t h e = cc
spelled_here (u ∷ us) zero t h e =
    let same : u ≡ t = cc in
    ap (λ x. is_some (read_line x)) (sym same) ∙ h.0
spelled_here (u ∷ us) (suc k) t h e = spelled_here us k t h.1 e

-- the byte string there spells a line
pub spelled_at : (ts : List (List ℕ)) (k : ℕ) (t : List ℕ) → AreLines ts → drop k ts ≡ t ∷ drop (k + 1) ts → is_some (read_line t) ≡ true
spelled_at ts k t h e = spelled_here ts k t h (rw add-one at e)

line_here : (ts : List (List ℕ)) (k : ℕ) (t : List ℕ) (l : Line) → AreLines ts → drop k ts ≡ t ∷ drop (suc k) ts → read_line t ≡ Some l → drop k (said ts) ≡ l ∷ drop (suc k) (said ts)
line_here [] zero t l h e r = cc
line_here [] (suc k) t l h e r = cc
line_here (u ∷ us) zero t l h e r =
    let same : u ≡ t = cc in
    let spells : read_line u ≡ Some l = ap read_line same ∙ r in
    rw spells refl
line_here (u ∷ us) (suc k) t l h e r =
    drop-onto (read_line u) (said us) k h.0 ∙ line_here us k t l h.1 e r ∙ ap (λ ls. l ∷ ls) (sym (drop-onto (read_line u) (said us) (suc k) h.0))

-- and that line stands there
pub line_at : (ts : List (List ℕ)) (k : ℕ) (t : List ℕ) (l : Line) → AreLines ts → drop k ts ≡ t ∷ drop (k + 1) ts → read_line t ≡ Some l → drop k (said ts) ≡ l ∷ drop (k + 1) (said ts)
line_at ts k t l h e r = rw add-one (line_here ts k t l h (rw add-one at e) r)
