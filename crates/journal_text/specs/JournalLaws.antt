-- The automaton reads the texts of journals, and from every state some text goes on.
use Rattle.std.proofs.Common.{◌≡◌, ℕ, ◌+◌, ◌<◌, ◌≤◌, ◌^◌, ◌==◌, true, List, [], ◌∷◌, ◌++◌, length, Some, codes, lit<, refl, sym, ap, subst, ◌∙◌, arith, append_assoc, append-nil, length-append, inl, inr}
use Rattle.std.specs.Prelude.{IsUtf8, IfOk, Result, Ok, Err}
use Rattle.std.specs.List.{AllByRecursion}
use Rattle.std.proofs.lemmas.Bool.Decides.{nat_tests}
use Rattle.std.proofs.lemmas.Option.{none-some, same_Some, cond_some}
use Rattle.drmaa_model.specs.declared.configs.Config.{Config}
use Rattle.drmaa_model.specs.declared.entries.Entry.{Entry}
use Rattle.drmaa_model.specs.RowLaws.{all-push}
use Rattle.text_codec.specs.Lexical.{IsClean}
use Rattle.text_codec.specs.Formats.{strip, number, pair, list_of, behind, checked, read_line}
use Rattle.text_codec.specs.Quotes.{text}
use Rattle.text_codec.specs.StepLaws.{bind, chosen, strip_found}
use Rattle.text_codec.specs.FormatLaws.{line_found, line_again}
use Rattle.text_codec.specs.BaseLaws.{number_laws_64}
use Rattle.text_lines.specs.Lines.{unskipped_lines, ended, whole_lines, AreLines, GoesOn, IsTextOf}
use Rattle.text_lines.specs.LineLaws.{ended_text, ended_utf8, lines_again, one_text}
use Rattle.text_lines.specs.Automata.{Runs, Reads, GoesBy, from}
use Rattle.journal_text.specs.Queues.{queues}
use Rattle.journal_text.specs.Journals.{header, title, old_header, machine, journal_size, suspend, entry, closing, entry_lines, lines_behind, journal_lines, old_lines, journal_text, IsEither, IsText, IsEntry, IsWritable, Spells}
use Rattle.journal_text.specs.LineLaws.{header_laws, old_header_laws, old_is, new_is, old_apart, entry_laws, closing_laws, entry_valid, entry_number, entry_is, number_is, closing_is, entry_no_end}
use Rattle.journal_text.specs.Reading.{journal_of, header_of, next, ends, reading}
use Rattle.journal_text.specs.declared.journals.Journal.{Journal}
use Rattle.journal_text.specs.declared.reading.JournalReader.{JournalReader}
use Rattle.journal_text.specs.declared.reading.JournalReader.TheVariants.{Start, Going, Ended}

abbrev Goes : JournalReader → List ℕ → JournalReader → Type 0
Goes s line t = next s line ≡ Some t

-- a first line of a machine
abbrev IsFirst : Config → List ℕ → Type 0
IsFirst c line = IsEither c (header.spell c) (old_header.spell c) line

-- what was read, by the state that was reached
record IsGoing (ls : List (List ℕ)) (c : Config) (es : List Entry) : Type 0 where
  config : header.valid c
  each : AllByRecursion IsEntry es
  few : length es < 2 ^ 64
  first : List ℕ
  version : IsFirst c first
  text : ls ≡ first ∷ entry_lines 1 es

abbrev Behind : List (List ℕ) → JournalReader → Type 0
Behind ls Start = ls ≡ []
Behind ls (Going c es) = IsGoing ls c es
Behind ls (Ended j) = Spells ls j

-- what is made of either is either of what is made
either_by : {A B : Type 0} (f : A → B) (c : Config) (new old x : A) (y : B) → y ≡ f x → IsEither c new old x → IsEither c (f new) (f old) y
either_by f c new old x y e (inl h) = inl (e ∙ ap f h)
either_by f c new old x y e (inr h) = inr (h.0, e ∙ ap f h.1)

lines_more : (n : ℕ) (es : List Entry) (e : Entry) → entry_lines n (es ++ e ∷ []) ≡ entry_lines n es ++ entry.spell (n + length es, e) ∷ []
lines_more n [] e = let here : n ≡ n + length {A = Entry} [] = omega arith in ap (λ k. entry.spell (k, e) ∷ []) here
lines_more n (x ∷ xs) e =
    let here : n + 1 + length xs ≡ n + length (x ∷ xs) = omega arith in
    ap (λ ls. entry.spell (n, x) ∷ ls) (lines_more (n + 1) xs e ∙ ap (λ k. entry_lines (n + 1) xs ++ entry.spell (k, e) ∷ []) here)

same_number : (n m : ℕ) → (n == m) ≡ true → n ≡ m
same_number n m e = grind (arith, nat_tests)

same_test : (n : ℕ) → (n == n) ≡ true
same_test n = grind (arith, nat_tests)

header_found : (l : List ℕ) (c : Config) → header_of l ≡ Some c → header.valid c × IsFirst c l
header_found l c e = chosen (read_line header l) _ _ _ e
    (λ d a b. let h = line_found header header_laws l d a in subst (λ k. header.valid k × IsFirst k l) (same_Some _ _ b) (h.0, inl h.1))
    (λ a b. let h = line_found old_header old_header_laws l c b in let new = new_is c h.0 in (new.0, inr (new.1, h.1)))

header_more : (ls : List (List ℕ)) (l : List ℕ) (t : JournalReader) → ls ≡ [] → next Start l ≡ Some t → Behind (ls ++ l ∷ []) t
header_more ls l t e g = bind (header_of l) _ t g (λ c a b.
    let h = header_found l c a in
    subst (Behind (ls ++ l ∷ [])) (same_Some _ _ b) (record { config = h.0; each = tt; few = lit< tt; first = l; version = h.1; text = ap (λ ks. ks ++ l ∷ []) e }))

closing_line : (l rest : List ℕ) (n : ℕ) → strip (codes "end ") l ≡ Some rest → rest ≡ (number (2 ^ 64)).spell n → l ≡ closing.spell n
unfolding closing behind
closing_line l rest n a h = strip_found (codes "end ") l rest a ∙ ap (λ r. codes "end " ++ r) h

-- with the last line they are all lines of the journal
closing_more : (ls : List (List ℕ)) (c : Config) (es : List Entry) → IsGoing ls c es → Spells (ls ++ closing.spell (length es) ∷ []) (journal_of c es)
closing_more ls c es s = record {
  writable = record { config = s.config; each = s.each; few = s.few };
  text = either_by (λ f. lines_behind f es) c (header.spell c) (old_header.spell c) s.first _ (ap (λ ks. ks ++ closing.spell (length es) ∷ []) s.text) s.version;
}

going_more : (ls : List (List ℕ)) (l : List ℕ) (t : JournalReader) (c : Config) (es : List Entry) → IsGoing ls c es → next (Going c es) l ≡ Some t → Behind (ls ++ l ∷ []) t
going_more ls l t c es s g = chosen (strip (codes "end ") l) _ _ _ g
    (λ rest a b. bind (read_line (number (2 ^ 64)) rest) _ t b (λ n d f.
    let k = cond_some (n == length es) (Ended (journal_of c es)) t f in
    let h = line_found (number (2 ^ 64)) number_laws_64 rest n d in
    let line : l ≡ closing.spell (length es) = closing_line l rest n a h.1 ∙ ap (λ m. closing.spell m) (same_number n (length es) k.0) in
    subst (Behind (ls ++ l ∷ [])) k.1 (subst (λ m. Spells (ls ++ m ∷ []) (journal_of c es)) (sym line) (closing_more ls c es s))))
    (λ a b. bind (read_line entry l) _ t b (λ p d f.
    let k = cond_some (p.0 == length es + 1) (Going c (es ++ p.1 ∷ [])) t f in
    let h = line_found entry entry_laws l p d in
    let number : p.0 ≡ 1 + length es = omega (arith, same_number p.0 (length es + 1) k.0) in
    let line : l ≡ entry.spell (1 + length es, p.1) = h.1 ∙ ap (λ n. entry.spell (n, p.1)) number in
    let all : ls ++ l ∷ [] ≡ s.first ∷ entry_lines 1 (es ++ p.1 ∷ []) =
    ap (λ ks. ks ++ l ∷ []) s.text ∙ ap (λ k. s.first ∷ (entry_lines 1 es ++ k ∷ [])) line ∙ ap (λ ks. s.first ∷ ks) (sym (lines_more 1 es p.1)) in
    let small = entry_number p.0 p.1 h.0 in
    subst (Behind (ls ++ l ∷ [])) k.1 (record {
      config = s.config;
      each = all-push IsEntry es p.1 s.each (entry_is p.0 p.1 h.0);
      few = omega (arith, small, number, length-append es (p.1 ∷ []));
      first = s.first;
      version = s.version;
      text = all;
    })))

behind_more : (ls : List (List ℕ)) (l : List ℕ) (s t : JournalReader) → Behind ls s → next s l ≡ Some t → Behind (ls ++ l ∷ []) t
behind_more ls l Start t b g = header_more ls l t b g
behind_more ls l (Going c es) t b g = going_more ls l t c es b g
behind_more ls l (Ended j) t b g = absurd (none-some _ g)

behind_run : (front ls : List (List ℕ)) (s t : JournalReader) → Behind front s → Runs Goes s ls t → Behind (front ++ ls) t
behind_run front [] s t b r = subst (Behind (front ++ [])) r (subst (λ ks. Behind ks s) (sym (append-nil front)) b)
behind_run front (l ∷ ls) s t b r = subst (λ ks. Behind ks t) (append_assoc front (l ∷ []) ls) (behind_run (front ++ l ∷ []) ls r.0 t (behind_more front l s r.0 b r.1) r.2)

sound : (ls : List (List ℕ)) (t : JournalReader) (q : Journal) → Runs Goes Start ls t → ends t ≡ Some q → Spells ls q
sound ls Start q r e = absurd (none-some _ e)
sound ls (Going c es) q r e = absurd (none-some _ e)
sound ls (Ended j) q r e = subst (Spells ls) (same_Some _ _ e) (behind_run [] ls Start (Ended j) refl r)

-- the lines of a journal are read
end_run : (c : Config) (es : List Entry) → length es < 2 ^ 64 → next (Going c es) (closing.spell (length es)) ≡ Some (Ended (journal_of c es))
unfolding closing behind
end_run c es few = rw (line_again (number (2 ^ 64)) number_laws_64 (length es) (number_is (length es) few), same_test (length es)) refl

entry_run : (c : Config) (es : List Entry) (e : Entry) → length es + 1 < 2 ^ 64 → IsEntry e → next (Going c es) (entry.spell (length es + 1, e)) ≡ Some (Going c (es ++ e ∷ []))
entry_run c es e few v = rw (entry_no_end (length es + 1) e few, line_again entry entry_laws (length es + 1, e) (entry_valid (length es + 1) e few v), same_test (length es + 1)) refl

entries_run : (c : Config) (es more : List Entry) → length (es ++ more) < 2 ^ 64 → AllByRecursion IsEntry more
    → Runs Goes (Going c es) (entry_lines (length es + 1) more ++ closing.spell (length (es ++ more)) ∷ []) (Ended (journal_of c (es ++ more)))
entries_run c es [] few each =
    let P : List Entry → Type 0 = λ xs. Runs Goes (Going c es) (closing.spell (length xs) ∷ []) (Ended (journal_of c xs)) in
    let small : length es < 2 ^ 64 = omega (arith, few, length-append es []) in
    subst P (sym (append-nil es)) (Ended (journal_of c es), end_run c es small, refl)
entries_run c es (e ∷ more) few each =
    let small : length es + 1 < 2 ^ 64 = omega (arith, few, length-append es (e ∷ more)) in
    let all : (es ++ e ∷ []) ++ more ≡ es ++ e ∷ more = append_assoc es (e ∷ []) more in
    let len : length (es ++ e ∷ []) ≡ length es + 1 = length-append es (e ∷ []) in
    let rest = entries_run c (es ++ e ∷ []) more (subst (λ xs. length xs < 2 ^ 64) (sym all) few) each.1 in
    let P : List Entry → Type 0 = λ xs. Runs Goes (Going c (es ++ e ∷ [])) (entry_lines (length (es ++ e ∷ []) + 1) more ++ closing.spell (length xs) ∷ []) (Ended (journal_of c xs)) in
    let Q : ℕ → Type 0 = λ n. Runs Goes (Going c (es ++ e ∷ [])) (entry_lines (n + 1) more ++ closing.spell (length (es ++ e ∷ more)) ∷ []) (Ended (journal_of c (es ++ e ∷ more))) in
    (Going c (es ++ e ∷ []), entry_run c es e small each.0, subst Q len (subst P all rest))

-- by its first line, of either version
first_run : (c : Config) (line : List ℕ) → header.valid c → IsFirst c line → next Start line ≡ Some (Going c [])
first_run c line v (inl e) = rw (e, line_again header header_laws c v) refl
first_run c line v (inr e) = rw (e.1, old_apart c, line_again old_header old_header_laws c (old_is c v e.0)) refl

lines_run : (first : List ℕ) (q : Journal) → IsWritable q.config q.entries → IsFirst q.config first → Runs Goes Start (lines_behind first q.entries) (Ended q)
lines_run first q w f = (Going q.config [], first_run q.config first w.config f, entries_run q.config [] q.entries w.few w.each)

-- the first line that lines of a journal have
record HasFirst (ls : List (List ℕ)) (c : Config) (es : List Entry) : Type 0 where
  first : List ℕ
  version : IsFirst c first
  lines : ls ≡ lines_behind first es

has_first : (ls : List (List ℕ)) (c : Config) (es : List Entry) → IsEither c (journal_lines c es) (old_lines c es) ls → HasFirst ls c es
has_first ls c es (inl e) = record { first = header.spell c; version = inl refl; lines = e }
has_first ls c es (inr e) = record { first = old_header.spell c; version = inr (e.0, refl); lines = e.1 }

complete : (ls : List (List ℕ)) (q : Journal) → Spells ls q → (t : JournalReader) × Runs Goes Start ls t × (ends t ≡ Some q)
complete ls q s =
    let h = has_first ls q.config q.entries s.text in
    (Ended q, subst (λ ks. Runs Goes Start ks (Ended q)) (sym h.lines) (lines_run h.first q s.writable h.version), refl)

-- the lines of a journal are UTF-8 without a line feed
entries_are_clean : (n : ℕ) (es : List Entry) → n + length es ≤ 2 ^ 64 → AllByRecursion IsEntry es → AllByRecursion IsClean (entry_lines n es)
entries_are_clean n [] few each = tt
entries_are_clean n (e ∷ es) few each =
    let small : n < 2 ^ 64 = omega (arith, few) in
    let rest : n + 1 + length es ≤ 2 ^ 64 = omega (arith, few) in
    (entry_laws.clean (n, e) (entry_valid n e small each.0), entries_are_clean (n + 1) es rest each.1)

pub both_clean : (ls ms : List (List ℕ)) → AllByRecursion IsClean ls → AllByRecursion IsClean ms → AllByRecursion IsClean (ls ++ ms)
both_clean [] ms a b = b
both_clean (l ∷ ls) ms a b = (a.0, both_clean ls ms a.1 b)

are_lines : (ls : List (List ℕ)) → AllByRecursion IsClean ls → AreLines ls
are_lines [] h = tt
are_lines (l ∷ ls) h = (h.0.one_line, are_lines ls h.1)

pub closing_is_clean : (n : ℕ) → n < 2 ^ 64 → AllByRecursion IsClean (closing.spell n ∷ [])
closing_is_clean n h = (closing_laws.clean n (closing_is n h), tt)

first_is_clean : (c : Config) (line : List ℕ) → header.valid c → IsFirst c line → IsClean line
first_is_clean c line v (inl e) = subst IsClean (sym e) (header_laws.clean c v)
first_is_clean c line v (inr e) = subst IsClean (sym e.1) (old_header_laws.clean c (old_is c v e.0))

journal_is_clean : (ls : List (List ℕ)) (j : Journal) → Spells ls j → AllByRecursion IsClean ls
journal_is_clean ls j s =
    let h = has_first ls j.config j.entries s.text in
    let few = s.writable.few in
    let some : 1 + length j.entries ≤ 2 ^ 64 = omega (arith, few) in
    subst (AllByRecursion IsClean) (sym h.lines) (
      first_is_clean j.config h.first s.writable.config h.version,
      both_clean (entry_lines 1 j.entries) (closing.spell (length j.entries) ∷ []) (entries_are_clean 1 j.entries some s.writable.each) (closing_is_clean (length j.entries) few),
    )

journal_are_lines : (ls : List (List ℕ)) (j : Journal) → Spells ls j → AreLines ls
journal_are_lines ls j s = are_lines ls (journal_is_clean ls j s)

-- the lines of a text of a journal
record HasLines (c : Config) (es : List Entry) (bytes : List ℕ) : Type 0 where
  lines : List (List ℕ)
  spelled : Spells lines (journal_of c es)
  whole : bytes ≡ ended lines

has_lines : (c : Config) (es : List Entry) (bytes : List ℕ) → IsWritable c es → IsText c es bytes → HasLines c es bytes
has_lines c es bytes w (inl e) = record { lines = journal_lines c es; spelled = record { writable = w; text = inl refl }; whole = e }
has_lines c es bytes w (inr e) = record { lines = old_lines c es; spelled = record { writable = w; text = inr (e.0, refl) }; whole = e.1 }

pub journal_utf8 : (c : Config) (es : List Entry) (bytes : List ℕ) → IsWritable c es → IsText c es bytes → IsUtf8 bytes
journal_utf8 c es bytes w t =
    let h = has_lines c es bytes w t in
    subst IsUtf8 (sym h.whole) (ended_utf8 h.lines (journal_is_clean h.lines (journal_of c es) h.spelled))

-- a machine
some_config : Config
some_config = record { slots = 1; name = 109 ∷ []; suspend = true; journal = journal_size; queues = [] }

some_valid : header.valid some_config
unfolding header title checked behind machine queues list_of pair number text suspend some_config lib.Utf8.encode
some_valid = ((((lit< tt, (is_utf8_m, refl)), tt), refl), refl)
  where
    is_utf8_m : IsUtf8 (109 ∷ [])
    is_utf8_m = (109 ∷ [], (refl, refl))

some_writable : IsWritable some_config []
some_writable = record { config = some_valid; each = tt; few = lit< tt }

some_spelled : Spells (journal_lines some_config []) (journal_of some_config [])
some_spelled = record { writable = some_writable; text = inl refl }

-- no line of a journal is one that a reader may skip
first_unskipped : (c : Config) (ls : List (List ℕ)) → unskipped_lines (header.spell c ∷ ls) ≡ header.spell c ∷ unskipped_lines ls
unfolding header title checked behind
first_unskipped c ls = refl

last_unskipped : (n : ℕ) → unskipped_lines (closing.spell n ∷ []) ≡ closing.spell n ∷ []
unfolding closing behind
last_unskipped n = refl

going_on : (ls : List (List ℕ)) (t : JournalReader) → Behind ls t → GoesOn Spells ls
going_on ls Start b = record {
  more = journal_lines some_config [];
  are_lines = journal_are_lines (journal_lines some_config []) (journal_of some_config []) some_spelled;
  text = journal_of some_config [];
  spelled = subst (λ ks. Spells (ks ++ journal_lines some_config []) (journal_of some_config [])) (sym b) some_spelled;
  unskipped = first_unskipped some_config (closing.spell 0 ∷ []) ∙ ap (λ ks. header.spell some_config ∷ ks) (last_unskipped 0);
}
going_on ls (Going c es) b = record {
  more = closing.spell (length es) ∷ [];
  are_lines = are_lines (closing.spell (length es) ∷ []) (closing_is_clean (length es) b.few);
  text = journal_of c es;
  spelled = closing_more ls c es b;
  unskipped = last_unskipped (length es);
}
going_on ls (Ended j) b = record { more = []; are_lines = tt; text = j; spelled = subst (λ ks. Spells ks j) (sym (append-nil ls)) b; unskipped = refl }

goes_on : (ls : List (List ℕ)) (t : JournalReader) → Runs Goes Start ls t → GoesOn Spells ls
goes_on ls t r = going_on ls t (behind_run [] ls Start t refl r)

reads_journals : Reads Goes Start ends Spells
reads_journals = record { sound = sound; complete = complete; goes_on = goes_on }

pub reads_from : (first : JournalReader) → first ≡ Start → Reads (GoesBy (from reading first)) first ends Spells
reads_from first e = subst (λ s. Reads (GoesBy (from reading s)) s ends Spells) (sym e) reads_journals

-- what is read is a text of a journal, and such a text is one that is read
pub text_is : (limit : ℕ) (bytes : List ℕ) (j : Journal) → IsTextOf Spells limit bytes j → IsText j.config j.entries bytes
text_is limit bytes j t = either_by ended j.config (journal_lines j.config j.entries) (old_lines j.config j.entries) (whole_lines bytes) bytes t.whole t.spelled.text

pub text_for : (limit : ℕ) (bytes : List ℕ) (j : Journal) → IsWritable j.config j.entries → IsText j.config j.entries bytes → length bytes ≤ limit → IsTextOf Spells limit bytes j
text_for limit bytes j w t l =
    let h = has_lines j.config j.entries bytes w t in
    let few : length (ended h.lines) ≤ limit = subst (λ b. length b ≤ limit) h.whole l in
    subst (λ b. IsTextOf Spells limit b j) (sym h.whole) (ended_text Spells h.lines j limit (journal_are_lines h.lines j h.spelled) h.spelled few)

pub is_text : (limit : ℕ) (c : Config) (es : List Entry) → IsWritable c es → length (journal_text c es) ≤ limit → IsTextOf Spells limit (journal_text c es) (journal_of c es)
is_text limit c es w l = text_for limit (journal_text c es) (journal_of c es) w (inl refl) l

-- what holds of an answer
pub if_ok : {A E : Type 0} (P Q : A → Type 0) (r : Result A E) → ((x : A) → P x → Q x) → IfOk r P → IfOk r Q
if_ok P Q (Ok x) f h = f x h
if_ok P Q (Err e) f h = tt

-- no two journals share a text
lines_spelled : (c : Config) (es : List Entry) (bytes : List ℕ) → IsWritable c es → IsText c es bytes → Spells (whole_lines bytes) (journal_of c es)
lines_spelled c es bytes w t =
    let h = has_lines c es bytes w t in
    let lines = ap whole_lines h.whole ∙ lines_again h.lines (journal_are_lines h.lines (journal_of c es) h.spelled) in
    subst (λ ls. Spells ls (journal_of c es)) (sym lines) h.spelled

pub one_journal : (c d : Config) (g h : List Entry) (bytes : List ℕ) → IsWritable c g → IsWritable d h → IsText c g bytes → IsText d h bytes → (c ≡ d) × (g ≡ h)
one_journal c d g h bytes v w s t =
    let same : journal_of c g ≡ journal_of d h =
    one_text (from reading Start) reads_journals (whole_lines bytes) (journal_of c g) (journal_of d h) (lines_spelled c g bytes v s) (lines_spelled d h bytes w t) in
    (ap (λ j. j.config) same, ap (λ j. j.entries) same)
