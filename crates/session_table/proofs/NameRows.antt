-- The entries of the named sessions, as rows.
use Rattle.std.proofs.Common.{◌≡◌, ℕ, Bool, not, ◌==◌, filter, List, [], ◌∷◌, ◌++◌, map, nat_eq, Option, None, refl, sym, ap, ◌∙◌}
use Rattle.std.proofs.lemmas.List.{map-append}
use Rattle.std.specs.List.{IsDistinct}
use Rattle.std.specs.Map.{lookup, keys_of, remove_entry}
use Rattle.std.specs.Option.{option_map}
use Rattle.indexmap.specs.IndexMap.{IndexMap, insert_entry}
use Rattle.indexmap.proofs.CallerLemmas.{insert_entry-new}
use Rattle.session_table.specs.declared.names.Naming.{Naming}
use Rattle.session_table.specs.Sessions.{NamedSession, name_of}
use Rattle.session_table.specs.NameEntries.{name_row}
use Rattle.session_table.proofs.Entries.{find-rows, filter-rows, remove_entry-distinct, option_map-none}

pub name_of-entries : (home : ℕ) (es : List (ℕ × Naming)) → name_of home (map name_row es) ≡ option_map (λ (n : Naming). n.name) (lookup (nat_eq home) es)
name_of-entries home es =
    find-rows name_row (nat_eq home) (λ (n : NamedSession). home == n.home) (λ (n : NamedSession). n.name) (λ (n : Naming). n.name) (λ e. refl) (λ e. refl) es

pub insert-rows : {S : Type 0} (m : IndexMap ℕ Naming S) (home : ℕ) (naming : Naming) → name_of home (map name_row m.entries) ≡ None
    → map name_row (insert_entry nat_eq m.entries home naming) ≡ map name_row m.entries ++ name_row (home, naming) ∷ []
insert-rows m home naming absent =
    let none : lookup (nat_eq home) m.entries ≡ None = option_map-none (λ (n : Naming). n.name) (lookup (nat_eq home) m.entries) (sym (name_of-entries home m.entries) ∙ absent) in
    ap (map name_row) (insert_entry-new nat_eq m home naming none) ∙ map-append name_row m.entries ((home, naming) ∷ [])

pub remove-rows : (home : ℕ) (es : List (ℕ × Naming)) → IsDistinct nat_eq (keys_of es)
    → map name_row (remove_entry (nat_eq home) es) ≡ filter (λ (n : NamedSession). not (home == n.home)) (map name_row es)
remove-rows home es distinct =
    ap (map name_row) (remove_entry-distinct home es distinct)
    ∙ filter-rows name_row (λ (e : ℕ × Naming). not (nat_eq home e.0)) (λ (n : NamedSession). not (home == n.home)) (λ e. refl) es
