-- Beginnings of histories, by the entries of their callers.
use Rattle.std.proofs.Common.{◌≡◌, ℕ, zero, suc, eqb, cond, Bool, ◌≤◌, List, [], ◌∷◌, ◌++◌, length, sym, refl, ap, ◌∙◌, arith, append-nil, length-append, eq-eqb, ne_eqb}
use Rattle.std.proofs.lemmas.List.{nil_from_length}
use Rattle.std.proofs.lemmas.List.Elements.{filter-append}
use Rattle.drmaa_model.specs.declared.entries.Entry.{Entry}
use Rattle.turn_lock.specs.Histories.{BeginsWith}
use Rattle.call_history.specs.Callers.{calls_of}

pub calls-append : (xs ys : List Entry) (n : ℕ) → calls_of (xs ++ ys) n ≡ calls_of xs n ++ calls_of ys n
calls-append xs ys n = filter-append (λ (e : Entry). eqb e.caller.0 n) xs ys

-- the entries of a caller in a beginning are a beginning of its entries
pub calls-begin : (all seen : List Entry) (n : ℕ) → BeginsWith all seen → BeginsWith (calls_of all n) (calls_of seen n)
calls-begin all seen n b = record { rest = calls_of b.rest n; whole = ap (λ (l : List Entry). calls_of l n) b.whole ∙ calls-append seen b.rest n }

-- a beginning has none of a caller's entries where the whole has none
pub none-before : (all seen : List Entry) (n : ℕ) → BeginsWith all seen → calls_of all n ≡ [] → calls_of seen n ≡ []
none-before all seen n b none =
    let c = calls-begin all seen n b in
    nil_from_length (calls_of seen n) (let a = ap length (sym c.whole ∙ none) in let l = length-append (calls_of seen n) c.rest in omega arith)

alone-cases : (e : Entry) (xs : List Entry) (k : ℕ) → e.caller.0 ≡ k → ((n : ℕ) → 1 ≤ n → calls_of (e ∷ xs) n ≡ []) → (((n : ℕ) → 1 ≤ n → calls_of xs n ≡ []) → calls_of xs 0 ≡ xs) → calls_of (e ∷ xs) 0 ≡ e ∷ xs
alone-cases e xs zero is none on =
    let tail : (n : ℕ) → 1 ≤ n → calls_of xs n ≡ [] = λ n h. ap (λ (b : Bool). cond b (e ∷ calls_of xs n) (calls_of xs n)) (sym (ne_eqb e.caller.0 n (λ q. absurd (omega arith)))) ∙ none n h in
    ap (λ (b : Bool). cond b (e ∷ calls_of xs 0) (calls_of xs 0)) (eq-eqb e.caller.0 0 is) ∙ ap (λ (l : List Entry). e ∷ l) (on tail)
alone-cases e xs (suc k) is none on =
    let bad : e ∷ calls_of xs (suc k) ≡ [] = ap (λ (b : Bool). cond b (e ∷ calls_of xs (suc k)) (calls_of xs (suc k))) (sym (eq-eqb e.caller.0 (suc k) is)) ∙ none (suc k) (omega arith) in
    absurd (cc)

-- a list in which no other caller has an entry is that of the caller 0
pub alone : (xs : List Entry) → ((n : ℕ) → 1 ≤ n → calls_of xs n ≡ []) → calls_of xs 0 ≡ xs
alone [] none = refl
alone (e ∷ xs) none = alone-cases e xs e.caller.0 refl none (alone xs)

nothing : (rest : List Entry) → ((k : ℕ) → calls_of rest k ≡ []) → rest ≡ []
nothing [] none = refl
nothing (e ∷ es) none =
    let bad : e ∷ calls_of es e.caller.0 ≡ [] = ap (λ (b : Bool). cond b (e ∷ calls_of es e.caller.0) (calls_of es e.caller.0)) (sym (eq-eqb e.caller.0 e.caller.0 refl)) ∙ none e.caller.0 in
    absurd (cc)

-- a beginning that has as many entries of each caller is the whole history
pub nothing-after : (all seen : List Entry) → BeginsWith all seen → ((k : ℕ) → length (calls_of all k) ≤ length (calls_of seen k)) → all ≡ seen
nothing-after all seen b short =
    let none : (k : ℕ) → calls_of b.rest k ≡ [] = λ k. nil_from_length (calls_of b.rest k) (
    let c : calls_of all k ≡ calls_of seen k ++ calls_of b.rest k = ap (λ (l : List Entry). calls_of l k) b.whole ∙ calls-append seen b.rest k in
    let a = ap length c in let l = length-append (calls_of seen k) (calls_of b.rest k) in let s = short k in omega arith) in
    b.whole ∙ ap (λ (l : List Entry). seen ++ l) (nothing b.rest none) ∙ append-nil seen

pub begins-shorter : (all seen : List Entry) → BeginsWith all seen → length seen ≤ length all
begins-shorter all seen b = let a = ap length b.whole in let l = length-append seen b.rest in omega arith
