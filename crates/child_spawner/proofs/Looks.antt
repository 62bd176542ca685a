-- Looks at a file, one after another.
use Rattle.std.specs.Prelude.{◌≡◌, ◌≢◌, ◌↔◌, ℕ, ◌+◌, ◌<◌, ◌≤◌, List, [], ◌∷◌, ◌++◌, map, length, Bool, true, false, IsTrue, IsFalse, Option, Some, None, option_map, unwrap_or}
use Rattle.std.proofs.Common.{sym, ap, subst, ◌∙◌, refl, arith}
use Rattle.std.proofs.lemmas.List.{append_assoc, append-nil, length-append, map-append}
use Rattle.std.proofs.lemmas.List.Elements.{All-append, All-cons, All-nil}
use Rattle.child_spawner.specs.Deeds.{Deed, Did, looks, Misses, Finds, Withholds}
use Rattle.child_spawner.specs.Deeds.Deed.{Reads, Runs}
use Rattle.child_spawner.specs.Launch.{shell, number_line, kill_args}
use Rattle.drmaa_types.specs.declared.states.SignalKind.{SignalKind}

abbrev is_none : {A : Type 0} → Option A → Type 0
is_none None = Unit {0}
is_none (Some a) = ⊥

abbrev pub is_true_type : Bool → Type 0
is_true_type true = Unit {0}
is_true_type false = ⊥

pub did_then : (before between after : Option (List Deed)) (first then : List Deed) → Did before first between → Did between then after → Did before (first ++ then) after
did_then None between after first then p q = q ∙ ap (option_map (λ told. told ++ then)) p
did_then (Some told) between after first then p q = q ∙ ap (option_map (λ told. told ++ then)) p ∙ ap Some (append_assoc told first then)

pub did_nothing : (before : Option (List Deed)) → Did before [] before
did_nothing None = refl
did_nothing (Some told) = sym (ap Some (append-nil told))

-- before the first look
pub no_look : (file line : List ℕ) (before : Option (List Deed)) → Misses file line 0 before before
no_look file line before = record { texts = []; others = All-nil (λ text. text ≢ Some line); counted = refl; did = did_nothing before }

-- one look, which showed another text or none
pub one_miss : (file line : List ℕ) (text : Option (List ℕ)) (before after : Option (List Deed)) → text ≢ Some line → Did before (Reads file text ∷ []) after → Misses file line 1 before after
one_miss file line text before after other did = record { texts = text ∷ []; others = All-cons (λ shown. shown ≢ Some line) text [] other (All-nil (λ shown. shown ≢ Some line)); counted = refl; did = did }

-- a look that showed nothing
pub no_text : (file line : List ℕ) (before after : Option (List Deed)) → Did before (Reads file None ∷ []) after → Misses file line 1 before after
no_text file line before after did =
    let other : None ≢ Some line = λ e. absurd (subst is_none e tt) in
    one_miss file line None before after other did

-- a look that showed a text which was found to be another
pub other_text : (file line bytes : List ℕ) (same : Bool) (before after : Option (List Deed)) → (IsTrue same ↔ (bytes ≡ line)) → IsFalse same → Did before (Reads file (Some bytes) ∷ []) after → Misses file line 1 before after
other_text file line bytes same before after meaning differs did =
    let apart : bytes ≢ line = λ e. subst is_true_type (sym (meaning.1 e) ∙ differs) tt in
    let other : Some bytes ≢ Some line = λ e. apart (ap (λ text. unwrap_or text []) e) in
    one_miss file line (Some bytes) before after other did

-- one look more, and a rest
pub one_more : (file line : List ℕ) (n : ℕ) (before between after rested : Option (List Deed)) → Misses file line n before between → Misses file line 1 between after → rested ≡ after → Misses file line (n + 1) before rested
one_more file line n before between after rested so_far last same = record {
  texts = so_far.texts ++ last.texts;
  others = All-append (λ text. text ≢ Some line) so_far.texts last.texts so_far.others last.others;
  counted = length-append so_far.texts last.texts ∙ ap (λ k. k + length last.texts) so_far.counted ∙ ap (λ k. n + k) last.counted;
  did = same ∙ subst (λ deeds. Did before deeds after) (sym (map-append (Reads file) so_far.texts last.texts)) (did_then before between after (map (Reads file) so_far.texts) (map (Reads file) last.texts) so_far.did last.did);
}

-- a look that showed the line, after fewer looks than there may be
pub shown_after : (file line : List ℕ) (n : ℕ) (before between after : Option (List Deed)) → n < looks → Misses file line n before between → Did between (Reads file (Some line) ∷ []) after → Finds file line before after
shown_after file line n before between after few missed found = record { count = n; few = few; between = between; missed = missed; found = found }

-- all looks, and none showed the line
pub none_shown : (file line : List ℕ) (n : ℕ) (before after : Option (List Deed)) → n ≤ looks → looks ≤ n → Misses file line n before after → Misses file line looks before after
none_shown file line n before after few all missed =
    let whole : n ≡ looks = omega (arith, few, all) in
    subst (λ k. Misses file line k before after) whole missed

-- the kill was run, and did not succeed
pub run_failed : (kind : SignalKind) (number : ℕ) (file line program : List ℕ) (args : List (List ℕ)) (succeeded : Bool) (before between after : Option (List Deed)) →
    IsFalse succeeded → line ≡ number_line number → program ≡ shell → args ≡ kill_args kind number →
    Finds file line before between → Did between (Runs program args succeeded ∷ []) after → Withholds kind number file before after
run_failed kind number file line program args succeeded before between after failed own sh words found ran =
    let own_line : Finds file (number_line number) before between = subst (λ l. Finds file l before between) own found in
    let same : Runs program args succeeded ≡ Runs shell (kill_args kind number) false = ap (λ p. Runs p args succeeded) sh ∙ ap (λ a. Runs shell a succeeded) words ∙ ap (λ s. Runs shell (kill_args kind number) s) failed in
    Withholds.not_sent between own_line (subst (λ deed. Did between (deed ∷ []) after) same ran)
