-- The byte limit that a text passes first, by its first bytes too.
use Rattle.std.proofs.Common.{◌≡◌, ◌⊎◌, ℕ, zero, suc, ◌+◌, ◌-◌, ◌<◌, ◌≤◌, ◌^◌, ◌==◌, ◌&&◌, min, nat_le, Bool, true, false, List, [], ◌∷◌, ◌++◌, length, take, Option, Some, None, is_some, option_map, refl, sym, ap, subst, ◌∙◌, arith, append_assoc, length-append, inl, inr}
use Rattle.std.specs.List.{list_all, AllByRecursion}
use Rattle.std.proofs.Math.Nat.{min-le_left, min-eq_left}
use Rattle.std.proofs.Math.Seq.{take-append-add}
use Rattle.std.proofs.lemmas.Bool.Decides.{nat_tests}
use Rattle.std.proofs.lemmas.List.{take_all, take-append-le, take-take}
use Rattle.std.proofs.lemmas.Option.{none-some, same_Some}
use Rattle.drmaa_model.specs.declared.configs.Config.{Config}
use Rattle.drmaa_model.specs.declared.entries.Entry.{Entry}
use Rattle.text_codec.specs.Formats.{behind, checked}
use Rattle.text_codec.specs.Lexical.{no_feed}
use Rattle.text_codec.specs.StepLaws.{both, by_test}
use Rattle.text_lines.specs.Lines.{whole_lines, onto_first, ended, AreLines, IsFront}
use Rattle.text_lines.specs.LineLaws.{both_lines, whole_are_lines}
use Rattle.journal_text.specs.Journals as journals
use Rattle.journal_text.specs.Journals.{header, title, old_header, old_title, entry, closing, entry_lines, lines_behind, journal_lines, old_lines, IsEither, IsEntry}
use Rattle.journal_text.specs.LineLaws.{header_laws, old_header_laws, old_is, entry_laws, closing_laws, entry_valid, closing_is, entry_no_end}
use Rattle.journal_text.specs.declared.journals.Journal.{Journal}
use Rattle.continued_text.specs.Texts.{is_last, end_of, limit_behind, byte_limit}

-- ---- lines in bytes

not_feed : (b : ℕ) → no_feed b ≡ true → (b == 10) ≡ false
not_feed b h = grind (arith, nat_tests)

first_split : (line rest : List ℕ) → list_all no_feed line ≡ true → whole_lines ((line ++ 10 ∷ []) ++ rest) ≡ line ∷ whole_lines rest
first_split [] rest h = refl
first_split (b ∷ bs) rest h =
    let t = both (no_feed b) (list_all no_feed bs) h in
    rw (not_feed b t.0, first_split bs rest t.1) refl

-- lines, and what stands behind them
pub lines_split : (ls : List (List ℕ)) (rest : List ℕ) → AreLines ls → whole_lines (ended ls ++ rest) ≡ ls ++ whole_lines rest
lines_split [] rest h = refl
lines_split (l ∷ ls) rest h =
    ap whole_lines (append_assoc (l ++ 10 ∷ []) (ended ls) rest) ∙ first_split l (ended ls ++ rest) h.0 ∙ ap (λ ks. l ∷ ks) (lines_split ls rest h.1)

no_line_within : (bs : List ℕ) (n : ℕ) → list_all no_feed bs ≡ true → whole_lines (take n bs) ≡ []
no_line_within bs zero h = refl
no_line_within [] (suc n) h = refl
no_line_within (b ∷ bs) (suc n) h =
    let t = both (no_feed b) (list_all no_feed bs) h in
    rw (not_feed b t.0) (ap (onto_first b) (no_line_within bs n t.1))

-- any bytes are lines and a piece without a line feed
record IsCut (bs : List ℕ) (ls : List (List ℕ)) : Type 0 where
  piece : List ℕ
  feedless : list_all no_feed piece ≡ true
  all : bs ≡ ended ls ++ piece

onto_cut : (b : ℕ) (bs : List ℕ) (ls : List (List ℕ)) → no_feed b ≡ true → IsCut bs ls → IsCut (b ∷ bs) (onto_first b ls)
onto_cut b bs [] h c = record { piece = b ∷ c.piece; feedless = rw (h, c.feedless) refl; all = ap (λ r. b ∷ r) c.all }
onto_cut b bs (l ∷ ls) h c = record { piece = c.piece; feedless = c.feedless; all = ap (λ r. b ∷ r) c.all }

a_feed : (b : ℕ) → (b == 10) ≡ true → b ≡ 10
a_feed b t = grind (arith, nat_tests)

cut : (bs : List ℕ) → IsCut bs (whole_lines bs)
cut [] = record { piece = []; feedless = refl; all = refl }
cut (b ∷ bs) =
    let c = cut bs in
    by_test (b == 10)
    (λ t. rw t (record { piece = c.piece; feedless = c.feedless; all = ap (λ x. x ∷ bs) (a_feed b t) ∙ ap (λ r. 10 ∷ r) c.all }))
    (λ f. rw f (onto_cut b bs (whole_lines bs) (rw f refl) c))

-- ---- where a journal ends

len_line : (l : List ℕ) (ls : List (List ℕ)) → length (ended (l ∷ ls)) ≡ length l + 1 + length (ended ls)
len_line l ls = length-append (l ++ 10 ∷ []) (ended ls) ∙ ap (λ n. n + length (ended ls)) (length-append l (10 ∷ []))

pub end_here : (l : List ℕ) (ls : List (List ℕ)) → is_last l ≡ true → end_of (l ∷ ls) ≡ Some (length l + 1)
end_here l ls h = rw h refl

pub end_later : (l : List ℕ) (ls : List (List ℕ)) → is_last l ≡ false → end_of (l ∷ ls) ≡ option_map (λ n. length l + 1 + n) (end_of ls)
end_later l ls h = rw h refl

header_no_last : (c : Config) → is_last (header.spell c) ≡ false
unfolding header title checked behind
header_no_last c = refl

old_header_no_last : (c : Config) → is_last (old_header.spell c) ≡ false
unfolding old_header old_title checked behind
old_header_no_last c = refl

closing_last : (n : ℕ) → is_last (closing.spell n) ≡ true
unfolding closing behind
closing_last n = refl

entry_no_last : (n : ℕ) (e : Entry) → n < 2 ^ 64 → is_last (entry.spell (n, e)) ≡ false
entry_no_last n e small = ap (λ (o : Option (List ℕ)). is_some o) (entry_no_end n e small)

entries_end : (n : ℕ) (es : List Entry) (k : ℕ) (rest : List (List ℕ)) → n + length es ≤ 2 ^ 64
    → end_of (entry_lines n es ++ closing.spell k ∷ rest) ≡ Some (length (ended (entry_lines n es ++ closing.spell k ∷ [])))
entries_end n [] k rest few =
    let len : length (closing.spell k) + 1 ≡ length (ended (closing.spell k ∷ [])) = omega (arith, len_line (closing.spell k) []) in
    end_here (closing.spell k) rest (closing_last k) ∙ ap (λ m. Some m) len
entries_end n (e ∷ es) k rest few =
    let small : n < 2 ^ 64 = omega (arith, few) in
    let left : n + 1 + length es ≤ 2 ^ 64 = omega (arith, few) in
    let line = entry.spell (n, e) in
    end_later line (entry_lines (n + 1) es ++ closing.spell k ∷ rest) (entry_no_last n e small)
    ∙ ap (option_map (λ m. length line + 1 + m)) (entries_end (n + 1) es k rest left)
    ∙ ap (λ m. Some m) (sym (len_line line (entry_lines (n + 1) es ++ closing.spell k ∷ [])))

lines_end : (first : List ℕ) (es : List Entry) (rest : List (List ℕ)) → is_last first ≡ false → length es < 2 ^ 64
    → end_of (lines_behind first es ++ rest) ≡ Some (length (ended (lines_behind first es)))
lines_end first es rest h few =
    let some : 1 + length es ≤ 2 ^ 64 = omega (arith, few) in
    let last = closing.spell (length es) in
    end_later first ((entry_lines 1 es ++ last ∷ []) ++ rest) h
    ∙ ap (λ ks. option_map (λ m. length first + 1 + m) (end_of ks)) (append_assoc (entry_lines 1 es) (last ∷ []) rest)
    ∙ ap (option_map (λ m. length first + 1 + m)) (entries_end 1 es (length es) rest some)
    ∙ ap (λ m. Some m) (sym (len_line first (entry_lines 1 es ++ last ∷ [])))

either_end : (c : Config) (es : List Entry) (js rest : List (List ℕ)) → length es < 2 ^ 64 → IsEither c (journal_lines c es) (old_lines c es) js → end_of (js ++ rest) ≡ Some (length (ended js))
either_end c es js rest few (inl e) = subst (λ ks. end_of (ks ++ rest) ≡ Some (length (ended ks))) (sym e) (lines_end (header.spell c) es rest (header_no_last c) few)
either_end c es js rest few (inr e) = subst (λ ks. end_of (ks ++ rest) ≡ Some (length (ended ks))) (sym e.1) (lines_end (old_header.spell c) es rest (old_header_no_last c) few)

pub journal_end : (js : List (List ℕ)) (j : Journal) (rest : List (List ℕ)) → journals.Spells js j → end_of (js ++ rest) ≡ Some (length (ended js))
journal_end js j rest h = either_end j.config j.entries js rest h.writable.few h.text

-- the lines of a journal have no line feed
entries_are_lines : (n : ℕ) (es : List Entry) → n + length es ≤ 2 ^ 64 → AllByRecursion IsEntry es → AreLines (entry_lines n es)
entries_are_lines n [] few each = tt
entries_are_lines n (e ∷ es) few each =
    let small : n < 2 ^ 64 = omega (arith, few) in
    let left : n + 1 + length es ≤ 2 ^ 64 = omega (arith, few) in
    ((entry_laws.clean (n, e) (entry_valid n e small each.0)).one_line, entries_are_lines (n + 1) es left each.1)

behind_are_lines : (first : List ℕ) (es : List Entry) → list_all no_feed first ≡ true → length es < 2 ^ 64 → AllByRecursion IsEntry es → AreLines (lines_behind first es)
behind_are_lines first es h few each =
    let some : 1 + length es ≤ 2 ^ 64 = omega (arith, few) in
    let last : AreLines (closing.spell (length es) ∷ []) = ((closing_laws.clean (length es) (closing_is (length es) few)).one_line, tt) in
    (h, both_lines (entry_lines 1 es) (closing.spell (length es) ∷ []) (entries_are_lines 1 es some each) last)

either_lines : (c : Config) (es : List Entry) (js : List (List ℕ)) → journals.IsWritable c es → IsEither c (journal_lines c es) (old_lines c es) js → AreLines js
either_lines c es js w (inl e) = subst AreLines (sym e) (behind_are_lines (header.spell c) es (header_laws.clean c w.config).one_line w.few w.each)
either_lines c es js w (inr e) = subst AreLines (sym e.1) (behind_are_lines (old_header.spell c) es (old_header_laws.clean c (old_is c w.config e.0)).one_line w.few w.each)

pub journal_are_lines : (js : List (List ℕ)) (j : Journal) → journals.Spells js j → AreLines js
journal_are_lines js j h = either_lines j.config j.entries js h.writable h.text

-- ---- the limit

pub limit_behind_journal : (js : List (List ℕ)) (j : Journal) (rest : List ℕ) → journals.Spells js j → byte_limit (ended js ++ rest) ≡ min 268_435_456 (length (ended js) + 16_777_216)
unfolding byte_limit
limit_behind_journal js j rest h =
    ap (λ ls. limit_behind (end_of ls)) (lines_split js rest (journal_are_lines js j h)) ∙ ap limit_behind (journal_end js j (whole_lines rest) h)

behind_within : (o : Option ℕ) → limit_behind o ≤ 268_435_456
behind_within None = omega arith
behind_within (Some n) = min-le_left 268_435_456 (n + 16_777_216)

pub limit_within : (bytes : List ℕ) → byte_limit bytes ≤ 268_435_456
unfolding byte_limit
limit_within bytes = behind_within (end_of (whole_lines bytes))

-- the first bytes have the same end, or one is beyond them
abbrev Agrees : ℕ → Option ℕ → Option ℕ → Type 0
Agrees w x y = (x ≡ y) ⊎ ((y ≡ None) × ((n : ℕ) → x ≡ Some n → w < n))

mapped_beyond : (k v : ℕ) (x : Option ℕ) → ((n : ℕ) → x ≡ Some n → v < n) → (n : ℕ) → option_map (λ m. k + m) x ≡ Some n → k + v < n
mapped_beyond k v None h n e = absurd (none-some _ e)
mapped_beyond k v (Some m) h n e = omega (arith, h m refl, same_Some (k + m) n e)

mapped_agrees : (k v : ℕ) (x y : Option ℕ) → Agrees v x y → Agrees (k + v) (option_map (λ m. k + m) x) (option_map (λ m. k + m) y)
mapped_agrees k v x y (inl e) = inl (ap (option_map (λ m. k + m)) e)
mapped_agrees k v x y (inr h) = inr (ap (option_map (λ m. k + m)) h.0, mapped_beyond k v x h.1)

mapped_after : (k : ℕ) (o : Option ℕ) (n : ℕ) → option_map (λ m. k + 1 + m) o ≡ Some n → k < n
mapped_after k None n e = absurd (none-some _ e)
mapped_after k (Some m) n e = omega (arith, same_Some (k + 1 + m) n e)

end_after : (l : List ℕ) (ls : List (List ℕ)) (n : ℕ) → end_of (l ∷ ls) ≡ Some n → length l < n
end_after l ls n e = by_test (is_last l)
    (λ t. omega (arith, same_Some (length l + 1) n (sym (end_here l ls t) ∙ e)))
    (λ f. mapped_after (length l) (end_of ls) n (sym (end_later l ls f) ∙ e))

-- with the first line cut
cut_first : (w : ℕ) (l : List ℕ) (ls : List (List ℕ)) (piece : List ℕ) → list_all no_feed l ≡ true → w ≤ length l → Agrees w (end_of (l ∷ ls)) (end_of (whole_lines (take w (ended (l ∷ ls) ++ piece))))
cut_first w l ls piece h few =
    let all : ended (l ∷ ls) ++ piece ≡ l ++ (10 ∷ (ended ls ++ piece)) = append_assoc (l ++ 10 ∷ []) (ended ls) piece ∙ append_assoc l (10 ∷ []) (ended ls ++ piece) in
    let lines : whole_lines (take w (ended (l ∷ ls) ++ piece)) ≡ [] =
    ap (λ bs. whole_lines (take w bs)) all ∙ ap whole_lines (take-append-le w l (10 ∷ (ended ls ++ piece)) few) ∙ no_line_within l w h in
    inr (ap end_of lines, λ n e. (let after = end_after l ls n e in omega (arith, few, after)))

-- with the first line whole
whole_first : (v : ℕ) (l : List ℕ) (ls : List (List ℕ)) (piece : List ℕ) → list_all no_feed l ≡ true → Agrees v (end_of ls) (end_of (whole_lines (take v (ended ls ++ piece))))
    → Agrees (length l + 1 + v) (end_of (l ∷ ls)) (end_of (whole_lines (take (length l + 1 + v) (ended (l ∷ ls) ++ piece))))
whole_first v l ls piece h a =
    let len : length l + 1 + v ≡ length (l ++ 10 ∷ []) + v = ap (λ n. n + v) (sym (length-append l (10 ∷ []))) in
    let bytes : take (length l + 1 + v) (ended (l ∷ ls) ++ piece) ≡ (l ++ 10 ∷ []) ++ take v (ended ls ++ piece) =
    ap (take (length l + 1 + v)) (append_assoc (l ++ 10 ∷ []) (ended ls) piece) ∙ ap (λ n. take n ((l ++ 10 ∷ []) ++ (ended ls ++ piece))) len ∙ take-append-add (l ++ 10 ∷ []) (ended ls ++ piece) v in
    let front = take v (ended ls ++ piece) in
    let lines : whole_lines (take (length l + 1 + v) (ended (l ∷ ls) ++ piece)) ≡ l ∷ whole_lines front = ap whole_lines bytes ∙ first_split l front h in
    by_test (is_last l)
    (λ t. inl (end_here l ls t ∙ sym (ap end_of lines ∙ end_here l (whole_lines front) t)))
    (λ f.
    let P : Option ℕ → Option ℕ → Type 0 = λ x y. Agrees (length l + 1 + v) x y in
    let on = mapped_agrees (length l + 1) v (end_of ls) (end_of (whole_lines front)) a in
    subst (λ x. P x (end_of (whole_lines (take (length l + 1 + v) (ended (l ∷ ls) ++ piece))))) (sym (end_later l ls f))
    (subst (P (option_map (λ n. length l + 1 + n) (end_of ls))) (sym (ap end_of lines ∙ end_later l (whole_lines front) f)) on))

front_agrees : (w : ℕ) (ls : List (List ℕ)) (piece : List ℕ) → AreLines ls → list_all no_feed piece ≡ true → Agrees w (end_of ls) (end_of (whole_lines (take w (ended ls ++ piece))))
front_agrees w [] piece a f = inl (sym (ap end_of (no_line_within piece w f)))
front_agrees w (l ∷ ls) piece a f = by_test (nat_le w (length l))
    (λ t. let few : w ≤ length l = grind (arith, nat_tests) in cut_first w l ls piece a.0 few)
    (λ t.
    let more : length l < w = grind (arith, nat_tests) in
    let v = w - (length l + 1) in
    let is : length l + 1 + v ≡ w = omega (arith, more) in
    subst (λ n. Agrees n (end_of (l ∷ ls)) (end_of (whole_lines (take n (ended (l ∷ ls) ++ piece))))) is (whole_first v l ls piece a.0 (front_agrees v ls piece a.1 f)))

agreed : (x y : Option ℕ) → Agrees 268_435_456 x y → limit_behind y ≡ limit_behind x
agreed x y (inl e) = ap limit_behind (sym e)
agreed x y (inr h) = ap limit_behind h.0 ∙ beyond x h.1
  where
    beyond : (x : Option ℕ) → ((n : ℕ) → x ≡ Some n → 268_435_456 < n) → limit_behind None ≡ limit_behind x
    beyond None h = refl
    beyond (Some n) h = let far = h n refl in let more : 268_435_456 ≤ n + 16_777_216 = omega (arith, far) in sym (min-eq_left more)

limit_front : (all : List ℕ) → byte_limit (take 268_435_456 all) ≡ byte_limit all
unfolding byte_limit
limit_front all =
    let c = cut all in
    let a = front_agrees 268_435_456 (whole_lines all) c.piece (whole_are_lines all) c.feedless in
    agreed (end_of (whole_lines all)) (end_of (whole_lines (take 268_435_456 all)))
    (subst (λ bs. Agrees 268_435_456 (end_of (whole_lines all)) (end_of (whole_lines (take 268_435_456 bs)))) (sym c.all) a)

-- the first bytes up to the greatest limit have those up to the text's own limit
is_within : (n limit : ℕ) → true ≡ nat_le n limit → n ≤ limit
is_within n limit e = grind (arith, nat_tests)

is_beyond : (n limit : ℕ) → limit < n → false ≡ nat_le n limit
is_beyond n limit h = grind (arith, nat_tests)

not_within : (n limit : ℕ) → false ≡ nat_le n limit → limit < n
not_within n limit e = grind (arith, nat_tests)

whole_is : (all front : List ℕ) (limit : ℕ) (whole is_all : Bool) → IsFront 268_435_456 all front whole → limit ≤ 268_435_456 → is_all ≡ (whole && nat_le (length front) limit) → is_all ≡ nat_le (length all) limit
whole_is all front limit true is_all f l e =
    let within = is_within (length all) 268_435_456 f.whole in
    let same : front ≡ all = f.first ∙ take_all 268_435_456 all within in
    e ∙ ap (λ bs. nat_le (length bs) limit) same
whole_is all front limit false is_all f l e =
    let far = not_within (length all) 268_435_456 f.whole in
    e ∙ is_beyond (length all) limit (omega (arith, far, l))

pub front_is : (all front first : List ℕ) (limit : ℕ) (whole is_all : Bool) → IsFront 268_435_456 all front whole → limit ≡ byte_limit front → first ≡ take limit front
    → is_all ≡ (whole && nat_le (length front) limit) → IsFront (byte_limit all) all first is_all
front_is all front first limit whole is_all f e t w =
    let same : limit ≡ byte_limit all = e ∙ ap byte_limit f.first ∙ limit_front all in
    let within : limit ≤ 268_435_456 = subst (λ n. n ≤ 268_435_456) (sym same) (limit_within all) in
    let on : IsFront limit all first is_all = record {
      first = t ∙ ap (take limit) f.first ∙ take-take limit 268_435_456 all within;
      whole = whole_is all front limit whole is_all f within w;
    } in
    subst (λ n. IsFront n all first is_all) same on
