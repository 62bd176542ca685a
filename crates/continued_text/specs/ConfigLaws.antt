-- A machine that has the first queues of another.
use Rattle.std.proofs.Common.{◌≡◌, ℕ, ◌==◌, ◌&&◌, Bool, true, false, List, [], ◌∷◌, ◌++◌, length, refl, sym, ap, subst, ◌∙◌, arith, append_assoc, append-nil}
use Rattle.std.specs.Str.{bytes_eq}
use Rattle.std.proofs.lemmas.Slice.Eq.{bytes_eq-Decides}
use Rattle.std.proofs.lemmas.Bool.Decides.{nat_tests}
use Rattle.drmaa_types.specs.declared.queues.QueueSpec.{QueueSpec}
use Rattle.drmaa_model.specs.declared.configs.Config.{Config}
use Rattle.text_codec.specs.StepLaws.{both, true_false}
use Rattle.continued_text.specs.Configs.{is_same_queue, are_first, is_same_answer, is_same_machine, is_begun, has_all_queues}

same_number : (n m : ℕ) → (n == m) ≡ true → n ≡ m
same_number n m e = grind (arith, nat_tests)

same_test : (n : ℕ) → (n == n) ≡ true
same_test n = grind (arith, nat_tests)

same_bytes : (x y : List ℕ) → bytes_eq x y ≡ true → x ≡ y
same_bytes x y e = (bytes_eq-Decides x y).0 e

bytes_test : (x : List ℕ) → bytes_eq x x ≡ true
bytes_test x = (bytes_eq-Decides x x).1 refl

same_answer : (a b : Bool) → is_same_answer a b ≡ true → a ≡ b
same_answer true b e = sym e
same_answer false true e = e
same_answer false false e = refl

answer_test : (a : Bool) → is_same_answer a a ≡ true
answer_test true = refl
answer_test false = refl

same_queue : (p q : QueueSpec) → is_same_queue p q ≡ true → p ≡ q
same_queue p q e =
    let b = both (bytes_eq p.name q.name) (p.limit == q.limit) e in
    ap (λ n. record p { name = n }) (same_bytes p.name q.name b.0) ∙ ap (λ n. record q { limit = n }) (same_number p.limit q.limit b.1)

-- the queues, and those that are left
pub record HasFirst (ps qs : List QueueSpec) : Type 0 where
  pub rest : List QueueSpec
  pub all : qs ≡ ps ++ rest

pub first_of : (ps qs : List QueueSpec) → are_first ps qs ≡ true → HasFirst ps qs
first_of [] qs e = record { rest = qs; all = refl }
first_of (p ∷ ps) [] e = absurd (true_false (sym e))
first_of (p ∷ ps) (q ∷ qs) e =
    let b = both (is_same_queue p q) (are_first ps qs) e in
    let more = first_of ps qs b.1 in
    record { rest = more.rest; all = ap (λ x. x ∷ qs) (sym (same_queue p q b.0)) ∙ ap (λ xs. p ∷ xs) more.all }

first_again : (ps rest : List QueueSpec) → are_first ps (ps ++ rest) ≡ true
first_again [] rest = refl
first_again (p ∷ ps) rest = rw (bytes_test p.name, same_test p.limit, first_again ps rest) refl

first_same : (qs : List QueueSpec) → are_first qs qs ≡ true
first_same qs = subst (λ xs. are_first qs xs ≡ true) (append-nil qs) (first_again qs [])

first_before : (ps more qs : List QueueSpec) → are_first (ps ++ more) qs ≡ true → are_first ps qs ≡ true
first_before ps more qs e =
    let h = first_of (ps ++ more) qs e in
    subst (λ xs. are_first ps xs ≡ true) (sym (h.all ∙ append_assoc ps more h.rest)) (first_again ps (more ++ h.rest))

first_all : (ps qs : List QueueSpec) → are_first ps qs ≡ true → length ps ≡ length qs → ps ≡ qs
first_all [] [] e h = refl
first_all [] (q ∷ qs) e h = absurd (omega (arith, h))
first_all (p ∷ ps) [] e h = absurd (true_false (sym e))
first_all (p ∷ ps) (q ∷ qs) e h =
    let b = both (is_same_queue p q) (are_first ps qs) e in
    ap (λ x. x ∷ ps) (same_queue p q b.0) ∙ ap (λ xs. q ∷ xs) (first_all ps qs b.1 (omega (arith, h)))

-- the machines, their queues apart
same_machine : (c d : Config) → is_same_machine c d ≡ true → record c { queues = d.queues } ≡ d
same_machine c d e =
    let last = both ((c.slots == d.slots) && bytes_eq c.name d.name && is_same_answer c.suspend d.suspend) (c.journal == d.journal) e in
    let third = both ((c.slots == d.slots) && bytes_eq c.name d.name) (is_same_answer c.suspend d.suspend) last.0 in
    let firsts = both (c.slots == d.slots) (bytes_eq c.name d.name) third.0 in
    ap (λ n. record c { slots = n; queues = d.queues }) (same_number c.slots d.slots firsts.0)
    ∙ ap (λ n. record c { slots = d.slots; name = n; queues = d.queues }) (same_bytes c.name d.name firsts.1)
    ∙ ap (λ b. record d { suspend = b; journal = c.journal }) (same_answer c.suspend d.suspend third.1)
    ∙ ap (λ n. record d { journal = n }) (same_number c.journal d.journal last.1)

machine_again : (c : Config) → is_same_machine c c ≡ true
machine_again c = rw (same_test c.slots, bytes_test c.name, answer_test c.suspend, same_test c.journal) refl

-- the second machine is the first one with more queues
pub record IsLonger (d c : Config) : Type 0 where
  pub rest : List QueueSpec
  pub queues : c.queues ≡ d.queues ++ rest
  pub all : record d { queues = c.queues } ≡ c

pub begun_is : (d c : Config) → is_begun d c ≡ true → IsLonger d c
begun_is d c e =
    let b = both (is_same_machine d c) (are_first d.queues c.queues) e in
    let h = first_of d.queues c.queues b.1 in
    record { rest = h.rest; queues = h.all; all = same_machine d c b.0 }

pub begun_whole : (d c : Config) → is_begun d c ≡ true → has_all_queues d c ≡ true → d ≡ c
begun_whole d c e h =
    let b = both (is_same_machine d c) (are_first d.queues c.queues) e in
    ap (λ qs. record d { queues = qs }) (first_all d.queues c.queues b.1 (same_number (length d.queues) (length c.queues) h)) ∙ same_machine d c b.0

pub begun_same : (c : Config) → is_begun c c ≡ true
begun_same c = rw (machine_again c, first_same c.queues) refl

pub all_same : (c : Config) → has_all_queues c c ≡ true
all_same c = same_test (length c.queues)

pub begun_before : (d c : Config) (more : List QueueSpec) → is_begun (record d { queues = d.queues ++ more }) c ≡ true → is_begun d c ≡ true
begun_before d c more e =
    let b = both (is_same_machine d c) (are_first (d.queues ++ more) c.queues) e in
    rw (b.0, first_before d.queues more c.queues b.1) refl
