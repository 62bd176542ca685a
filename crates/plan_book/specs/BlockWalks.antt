-- Walks over the rows, block after block.
use Rattle.std.proofs.Common.{◌≡◌, ◌∙◌, ℕ, ◌+◌, ◌<◌, ◌≤◌, Bool, List, [], ◌∷◌, ◌++◌, filter, length, length-append, take, drop, get_or, ap, sym, append-nil}
use Rattle.std.specs.Global.{Vec}
use Rattle.std.specs.List.{flat_map}
use Rattle.std.proofs.Math.ListN.{drop_of_length-le}
use Rattle.std.proofs.lemmas.Grind.{flat_map-append}
use Rattle.std.proofs.lemmas.List.{drop_more, take-append-drop, take_all, take_more}
use Rattle.std.proofs.lemmas.List.Elements.{filter-append}
use Rattle.drmaa_model.specs.declared.rows.Row.{Row}
use Rattle.plan_book.specs.Blocks.{rows_in}

pub both-parts : (blocks : List (Vec Row)) (i : ℕ) → rows_in blocks ≡ rows_in (take i blocks) ++ rows_in (drop i blocks)
both-parts blocks i = ap rows_in (sym (take-append-drop i blocks)) ∙ flat_map-append (λ (v : Vec Row). v.items) (take i blocks) (drop i blocks)

pub front-more : (blocks : List (Vec Row)) (i : ℕ) (b : Vec Row) → i < length blocks → b ≡ get_or blocks i b → rows_in (take (i + 1) blocks) ≡ rows_in (take i blocks) ++ b.items
front-more blocks i b within is =
    ap rows_in (take_more blocks i b within ∙ ap (λ (v : Vec Row). take i blocks ++ v ∷ []) (sym is)) ∙ flat_map-append (λ (v : Vec Row). v.items) (take i blocks) (b ∷ [])
    ∙ ap (λ (xs : List Row). rows_in (take i blocks) ++ xs) (append-nil b.items)

pub front-whole : (blocks : List (Vec Row)) (i : ℕ) → length blocks ≤ i → rows_in (take i blocks) ≡ rows_in blocks
front-whole blocks i all = ap rows_in (take_all i blocks all)

pub back-more : (blocks : List (Vec Row)) (i : ℕ) (b : Vec Row) → i < length blocks → b ≡ get_or blocks i b → rows_in (drop i blocks) ≡ b.items ++ rows_in (drop (i + 1) blocks)
back-more blocks i b within is = ap rows_in (drop_more blocks i b within ∙ ap (λ (v : Vec Row). v ∷ drop (i + 1) blocks) (sym is))

pub back-none : (blocks : List (Vec Row)) (i : ℕ) → length blocks ≤ i → rows_in (drop i blocks) ≡ []
back-none blocks i all = ap rows_in (drop_of_length-le blocks all)

pub flat-back : {Y : Type 0} (f : Row → List Y) (blocks : List (Vec Row)) (i : ℕ) (b : Vec Row) (rows : List Row) → i < length blocks → b ≡ get_or blocks i b → rows ≡ b.items → flat_map f (rows_in (drop i blocks)) ≡ flat_map f rows ++ flat_map f (rows_in (drop (i + 1) blocks))
flat-back f blocks i b rows within is same =
    ap (flat_map f) (back-more blocks i b within is ∙ ap (λ (xs : List Row). xs ++ rows_in (drop (i + 1) blocks)) (sym same)) ∙ flat_map-append f rows (rows_in (drop (i + 1) blocks))

pub filter-back : (test : Row → Bool) (blocks : List (Vec Row)) (i : ℕ) (b : Vec Row) (rows : List Row) → i < length blocks → b ≡ get_or blocks i b → rows ≡ b.items → length (filter test (rows_in (drop i blocks))) ≡ length (filter test rows) + length (filter test (rows_in (drop (i + 1) blocks)))
filter-back test blocks i b rows within is same =
    ap (λ (xs : List Row). length (filter test xs)) (back-more blocks i b within is ∙ ap (λ (xs : List Row). xs ++ rows_in (drop (i + 1) blocks)) (sym same))
    ∙ ap length (filter-append test rows (rows_in (drop (i + 1) blocks))) ∙ length-append (filter test rows) (filter test (rows_in (drop (i + 1) blocks)))
