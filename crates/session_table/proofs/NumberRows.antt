-- The entries of the session numbers, as rows.
use Rattle.std.proofs.Common.{◌≡◌, ℕ, Bool, not, ◌==◌, is_some, filter, List, [], ◌∷◌, ◌++◌, map, nat_eq, Option, None, Some, refl, sym, ap, ◌∙◌}
use Rattle.std.proofs.lemmas.List.{map-append}
use Rattle.std.specs.Cmp.{nat_eq_equiv}
use Rattle.std.specs.Map.{lookup, keys_of, remove_entry}
use Rattle.std.specs.Option.{option_map}
use Rattle.std.specs.List.{IsDistinct}
use Rattle.indexmap.specs.IndexMap.{IndexMap, insert_entry, get}
use Rattle.indexmap.proofs.CallerLemmas.{insert_entry-new}
use Rattle.drmaa_types.specs.declared.sessions.SessionKind.{SessionKind}
use Rattle.session_table.specs.declared.numbers.Meaning.{Meaning}
use Rattle.session_table.specs.Sessions.{ValidNumber, meaning_of, is_home}
use Rattle.session_table.specs.NumberEntries.{number_row}
use Rattle.session_table.proofs.Entries.{find-rows, filter-rows, remove_entry-distinct, option_map-none, is_some-option_map}

pub meaning_of-entries : (number : ℕ) (es : List (ℕ × Meaning)) → meaning_of number (map number_row es) ≡ option_map (λ (m : Meaning). (m.kind, m.home)) (lookup (nat_eq number) es)
meaning_of-entries number es =
    find-rows number_row (nat_eq number) (λ (v : ValidNumber). number == v.number) (λ (v : ValidNumber). (v.kind, v.home)) (λ (m : Meaning). (m.kind, m.home)) (λ e. refl) (λ e. refl) es

pub insert-rows : {S : Type 0} (m : IndexMap ℕ Meaning S) (number : ℕ) (meaning : Meaning) → meaning_of number (map number_row m.entries) ≡ None
    → map number_row (insert_entry nat_eq m.entries number meaning) ≡ map number_row m.entries ++ number_row (number, meaning) ∷ []
insert-rows m number meaning absent =
    let none : lookup (nat_eq number) m.entries ≡ None = option_map-none (λ (m : Meaning). (m.kind, m.home)) (lookup (nat_eq number) m.entries) (sym (meaning_of-entries number m.entries) ∙ absent) in
    ap (map number_row) (insert_entry-new nat_eq m number meaning none) ∙ map-append number_row m.entries ((number, meaning) ∷ [])

pub remove-rows : (number : ℕ) (es : List (ℕ × Meaning)) → IsDistinct nat_eq (keys_of es)
    → map number_row (remove_entry (nat_eq number) es) ≡ filter (λ (v : ValidNumber). not (number == v.number)) (map number_row es)
remove-rows number es distinct =
    ap (map number_row) (remove_entry-distinct number es distinct)
    ∙ filter-rows number_row (λ (e : ℕ × Meaning). not (nat_eq number e.0)) (λ (v : ValidNumber). not (number == v.number)) (λ e. refl) es

pub remove_home-rows : (home : ℕ) (es : List (ℕ × Meaning))
    → map number_row (filter (λ (e : ℕ × Meaning). not (is_home home e.1.home)) es) ≡ filter (λ (v : ValidNumber). not (is_home home v.home)) (map number_row es)
remove_home-rows home es = filter-rows number_row (λ (e : ℕ × Meaning). not (is_home home e.1.home)) (λ (v : ValidNumber). not (is_home home v.home)) (λ e. refl) es

pub is_some-meaning_of : (number : ℕ) (es : List (ℕ × Meaning)) → is_some (meaning_of number (map number_row es)) ≡ is_some (lookup (nat_eq number) es)
is_some-meaning_of number es = ap is_some (meaning_of-entries number es) ∙ is_some-option_map (λ (m : Meaning). (m.kind, m.home)) (lookup (nat_eq number) es)
