-- What reads the lines that are not skipped reads all.
use Rattle.std.proofs.Common.{◌≡◌, ℕ, ◌≤◌, length, arith, not, true, false, IsUtf8, List, [], ◌∷◌, ◌++◌, Option, Some, None, refl, sym, ap, subst, ◌∙◌}
use Rattle.std.specs.List.{AllByRecursion}
use Rattle.std.specs.Str.{is_utf8}
use Rattle.std.proofs.lemmas.List.Elements.{filter-append}
use Rattle.std.proofs.lemmas.Option.{none-some, same_Some, cond_some}
use Rattle.std.proofs.lemmas.Str.{IsUtf8-from_is_utf8, is_utf8-from_IsUtf8}
use Rattle.text_codec.specs.StepLaws.{by_test, true_false}
use Rattle.text_lines.specs.Lines.{is_skipped, unskipped_lines}
use Rattle.text_lines.specs.Automata.{Stepping, GoesBy, Runs, Reads, from}
use Rattle.text_lines.specs.Skipping.{IsReadable, around, skipping}
use Rattle.text_lines.specs.declared.skipping.Skipping.{Skipping}

pub no_utf8 : (bs : List ℕ) → ¬ (IsUtf8 bs) → false ≡ is_utf8 bs
no_utf8 bs h = by_test (is_utf8 bs) (λ t. absurd (h (IsUtf8-from_is_utf8 bs t))) (λ f. sym f)

pub yes_utf8 : (bs : List ℕ) → IsUtf8 bs → true ≡ is_utf8 bs
yes_utf8 bs h = sym (is_utf8-from_IsUtf8 bs h)

around_some : {S : Type 0} (o : Option S) (t : Skipping S) → around o ≡ Some t → o ≡ Some t.reader
around_some None t e = absurd (none-some _ e)
around_some (Some s) t e = ap (λ (k : Skipping _). Some k.reader) (same_Some _ _ e)

-- the runs over all lines, and over those that are not skipped
run_unskipped : {S Q : Type 0} (A : Stepping S Q) (f s t : Skipping S) (ls : List (List ℕ)) → Runs (GoesBy (from (skipping A) f)) s ls t → Runs (GoesBy (from A f.reader)) s.reader (unskipped_lines ls) t.reader × AllByRecursion IsReadable ls
run_unskipped A f s t [] r = (ap (λ k. k.reader) r, tt)
run_unskipped A f s t (l ∷ ls) r = by_test (is_skipped l)
    (λ b.
    let stays = cond_some (is_utf8 l) s r.0 (rw b at r.1) in
    let more = run_unskipped A f r.0 t ls r.2 in
    (rw b (subst (λ (m : Skipping _). Runs (GoesBy (from A f.reader)) m.reader (unskipped_lines ls) t.reader) (sym stays.1) more.0), (λ c. IsUtf8-from_is_utf8 l stays.0, more.1)))
    (λ b.
    let one = around_some (A.next s.reader l) r.0 (rw b at r.1) in
    let more = run_unskipped A f r.0 t ls r.2 in
    (rw b (r.0.reader, one, more.0), (λ c. absurd (true_false (sym c ∙ b)), more.1)))

run_all : {S Q : Type 0} (A : Stepping S Q) (f s : Skipping S) (t : S) (ls : List (List ℕ)) → AllByRecursion IsReadable ls → Runs (GoesBy (from A f.reader)) s.reader (unskipped_lines ls) t → Runs (GoesBy (from (skipping A) f)) s ls (record { reader = t })
run_all A f s t [] v r = ap (λ k. record { reader = k }) r
run_all A f s t (l ∷ ls) v r = by_test (is_skipped l)
    (λ b.
    let rest : Runs (GoesBy (from A f.reader)) s.reader (unskipped_lines ls) t = rw b at r in
    (s, rw (b, is_utf8-from_IsUtf8 l (v.0 b)) refl, run_all A f s t ls v.1 rest))
    (λ b.
    let rest : Runs (GoesBy (from A f.reader)) s.reader (l ∷ unskipped_lines ls) t = rw b at r in
    (record { reader = rest.0 }, rw b (ap around rest.1), run_all A f (record { reader = rest.0 }) t ls v.1 rest.2))

both_readable : (ls ms : List (List ℕ)) → AllByRecursion IsReadable ls → AllByRecursion IsReadable ms → AllByRecursion IsReadable (ls ++ ms)
both_readable [] ms v w = w
both_readable (l ∷ ls) ms v w = (v.0, both_readable ls ms v.1 w)

unskipped_within : (ls : List (List ℕ)) → length (unskipped_lines ls) ≤ length ls
unskipped_within [] = omega arith
unskipped_within (l ∷ ls) = let more = unskipped_within ls in by_test (is_skipped l) (λ b. rw b (omega (arith, more))) (λ b. rw b (omega (arith, more)))

same_rest : {A : Type 0} (x y : A) (xs ys : List A) → x ∷ xs ≡ y ∷ ys → xs ≡ ys
same_rest x y xs ys e = cc

-- lines of which none is skipped are readable
unskipped_readable : (ls : List (List ℕ)) → unskipped_lines ls ≡ ls → AllByRecursion IsReadable ls
unskipped_readable [] e = tt
unskipped_readable (l ∷ ls) e = by_test (is_skipped l)
    (λ b. let same : unskipped_lines ls ≡ l ∷ ls = rw b at e in absurd (omega (arith, unskipped_within ls, ap length same)))
    (λ b. let same : l ∷ unskipped_lines ls ≡ l ∷ ls = rw b at e in ((λ c. absurd (true_false (sym c ∙ b))), unskipped_readable ls (same_rest l l (unskipped_lines ls) ls same)))

pub reads_all : {S Q : Type 0} (A : Stepping S Q) → ((first : S) → A.is_first first → Reads (GoesBy (from A first)) first A.ends (A.Spells first))
    → (first : Skipping S) → (skipping A).is_first first → Reads (GoesBy (from (skipping A) first)) first (skipping A).ends ((skipping A).Spells first)
reads_all A reads first here =
    let R = reads first.reader here in
    record {
      sound = λ ls t q r e. let k = run_unskipped A first first t ls r in record { readable = k.1; spelled = R.sound (unskipped_lines ls) t.reader q k.0 e };
      complete = λ ls q s. let c = R.complete (unskipped_lines ls) q s.spelled in (record { reader = c.0 }, run_all A first first c.0 ls s.readable c.1, c.2);
      goes_on = λ ls t r.
          let k = run_unskipped A first first t ls r in
          let g = R.goes_on (unskipped_lines ls) t.reader k.0 in
          record {
            more = g.more;
            are_lines = g.are_lines;
            text = g.text;
            spelled = record {
              readable = both_readable ls g.more k.1 (unskipped_readable g.more g.unskipped);
              spelled = subst (λ ks. A.Spells first.reader ks g.text) (sym (filter-append (λ l. not (is_skipped l)) ls g.more ∙ ap (λ ks. unskipped_lines ls ++ ks) g.unskipped)) g.spelled;
            };
            unskipped = g.unskipped;
          };
    }
