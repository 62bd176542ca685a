-- The first of the queues of a machine are queues that it may have, too.
use Rattle.std.proofs.Common.{◌≡◌, ℕ, ◌≤◌, nat_le, ◌&&◌, ◌||◌, not, Bool, true, false, List, [], ◌∷◌, ◌++◌, length, refl, sym, ap, ◌∙◌, arith, length-append}
use Rattle.std.specs.List.{list_all, list_any}
use Rattle.std.proofs.lemmas.Bool.Decides.{nat_tests}
use Rattle.std.proofs.lemmas.List.Folds.{list_all-append, list_any-append}
use Rattle.drmaa_types.specs.declared.queues.QueueSpec.{QueueSpec}
use Rattle.drmaa_types.specs.Queues.{is_named, is_queue, are_distinct, most_queues, are_queues}
use Rattle.text_codec.specs.StepLaws.{both}

front-few : (xs ys : List QueueSpec) → nat_le (length (xs ++ ys)) most_queues ≡ true → nat_le (length xs) most_queues ≡ true
front-few xs ys h =
    let few : length (xs ++ ys) ≤ 16 = grind (arith, nat_tests) in
    let less : length xs ≤ 16 = omega (arith, few, length-append xs ys) in
    grind (arith, nat_tests)

front-each : (slots : ℕ) (xs ys : List QueueSpec) → list_all (is_queue slots) (xs ++ ys) ≡ true → list_all (is_queue slots) xs ≡ true
front-each slots xs ys h = (both (list_all (is_queue slots) xs) (list_all (is_queue slots) ys) (sym (list_all-append (is_queue slots) xs ys) ∙ h)).0

none_first : (a b : Bool) → not (a || b) ≡ true → not a ≡ true
none_first true b h = cc
none_first false b h = refl

front-distinct : (xs ys : List QueueSpec) → are_distinct (xs ++ ys) ≡ true → are_distinct xs ≡ true
front-distinct [] ys h = refl
front-distinct (x ∷ xs) ys h =
    let parts = both (not (list_any (is_named x.name) (xs ++ ys))) (are_distinct (xs ++ ys)) h in
    let new : not (list_any (is_named x.name) xs) ≡ true =
    none_first (list_any (is_named x.name) xs) (list_any (is_named x.name) ys) (ap not (sym (list_any-append (is_named x.name) xs ys)) ∙ parts.0) in
    rw (new, front-distinct xs ys parts.1) refl

pub front-queues : (slots : ℕ) (xs ys : List QueueSpec) → are_queues slots (xs ++ ys) ≡ true → are_queues slots xs ≡ true
front-queues slots xs ys h =
    let parts = both (nat_le (length (xs ++ ys)) most_queues && list_all (is_queue slots) (xs ++ ys)) (are_distinct (xs ++ ys)) h in
    let firsts = both (nat_le (length (xs ++ ys)) most_queues) (list_all (is_queue slots) (xs ++ ys)) parts.0 in
    rw (front-few xs ys firsts.0, front-each slots xs ys firsts.1, front-distinct xs ys parts.1) refl
