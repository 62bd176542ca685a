-- What a lock says of its entries, said of the machine's.
use Rattle.std.proofs.Common.{◌≡◌, ℕ, Bool, true, false, cond, zero, suc, List, [], ◌∷◌, ◌++◌, map, set, get_or, length, refl, sym, ap, ◌∙◌, subst, Option, Some, None, ◌==◌, ◌≤◌}
use Rattle.std.specs.Prelude.{option_map}
use Rattle.drmaa_types.specs.declared.chronicles.ChronicleEntry.{ChronicleEntry}
use Rattle.drmaa_model.specs.declared.configs.Config.{Config}
use Rattle.drmaa_model.specs.declared.entries.Entry.{Entry}
use Rattle.drmaa_model.specs.declared.replies.Reply.{Reply}
use Rattle.drmaa_model.specs.History.{IsLegal}
use Rattle.drmaa_machine.specs.declared.chronicles.Ask.{Ask}
use Rattle.drmaa_machine.specs.ChronicleLaws.{history-told, history-append}
use Rattle.drmaa_machine.specs.Chronicles.{told, untold, history_of, IsLegalTold}
use Rattle.turn_lock.specs.Histories as lock
use Rattle.turn_lock.specs.Histories.{BeginsWith, IsLegalSoFar}
use Rattle.call_history.specs.Callers.{calls_of}

abbrev pub LockEntry : Type 0
LockEntry = ChronicleEntry Ask Reply

of_cases : (e : LockEntry) (rest : List LockEntry) (own : List Entry) (is : Bool) → own ≡ history_of rest → cond is (untold e ∷ own) own ≡ history_of (cond is (e ∷ rest) rest)
of_cases e rest own true h = ap (λ (t : List Entry). untold e ∷ t) h
of_cases e rest own false h = h

-- the entries of one caller, told either way
pub calls-history : (es : List LockEntry) (n : ℕ) → calls_of (history_of es) n ≡ history_of (lock.of es n)
calls-history [] n = refl
calls-history (e ∷ es) n = of_cases e (lock.of es n) (calls_of (history_of es) n) (e.caller.0 == n) (calls-history es n)

pub calls-told : (h : List Entry) (n : ℕ) (k : List LockEntry) → lock.of (map told h) n ≡ k → calls_of h n ≡ history_of k
calls-told h n k is = ap (λ (l : List Entry). calls_of l n) (sym (history-told h)) ∙ (calls-history (map told h) n ∙ ap history_of is)

pub begins : (list start : List LockEntry) → BeginsWith list start → BeginsWith (history_of list) (history_of start)
begins list start b = record { rest = history_of b.rest; whole = ap history_of b.whole ∙ history-append start b.rest }

not-empty : (e : LockEntry) (es : List LockEntry) → (e ∷ es) ≡ [] → ⊥
not-empty e es is = cc

-- an empty history is legal too
pub legal-history : (config : Config) (es : List LockEntry) → IsLegalSoFar (IsLegalTold config) es → IsLegal config (history_of es)
legal-history config [] l = tt
legal-history config (e ∷ es) l = l.holds (λ is. not-empty e es is)

pub retired-set : (xs : List (Option (List LockEntry))) (n : ℕ) (own : List LockEntry) → map (option_map history_of) (set xs n (Some own)) ≡ set (map (option_map history_of) xs) n (Some (history_of own))
retired-set [] n own = refl
retired-set (x ∷ xs) zero own = refl
retired-set (x ∷ xs) (suc n) own = ap (λ (t : List (Option (List Entry))). option_map history_of x ∷ t) (retired-set xs n own)

pub retired-push : (xs : List (Option (List LockEntry))) → map (option_map history_of) (xs ++ None ∷ []) ≡ map (option_map history_of) xs ++ None ∷ []
retired-push [] = refl
retired-push (x ∷ xs) = ap (λ (t : List (Option (List Entry))). option_map history_of x ∷ t) (retired-push xs)

pub retired-at : (xs : List (Option (List LockEntry))) (n : ℕ) → get_or (map (option_map history_of) xs) n None ≡ option_map history_of (get_or xs n None)
retired-at [] n = refl
retired-at (x ∷ xs) zero = refl
retired-at (x ∷ xs) (suc n) = retired-at xs n

-- a list that is told is that of some entries of the lock
pub record IsToldOf (o : Option (List LockEntry)) (own : List Entry) : Type 0 where
  pub list : List LockEntry
  pub is : o ≡ Some list
  pub told : history_of list ≡ own

some-same : (a b : List Entry) → Some a ≡ Some b → a ≡ b
some-same a b is = cc

pub told-back : (o : Option (List LockEntry)) (own : List Entry) → option_map history_of o ≡ Some own → IsToldOf o own
told-back None own is = absurd (let e : None ≡ Some own = is in cc)
told-back (Some list) own is = record { list = list; is = refl; told = some-same (history_of list) own is }

pub left-same : (xs : List (Option (List LockEntry))) → lock.left_of (map (option_map history_of) xs) ≡ lock.left_of xs
left-same [] = refl
left-same (None ∷ xs) = ap suc (left-same xs)
left-same (Some own ∷ xs) = left-same xs

pub length-retired : (xs : List (Option (List LockEntry))) → length (map (option_map history_of) xs) ≡ length xs
length-retired [] = refl
length-retired (x ∷ xs) = ap suc (length-retired xs)

pub length-history : (es : List LockEntry) → length (history_of es) ≡ length es
length-history [] = refl
length-history (e ∷ es) = ap suc (length-history es)

-- a client's own entries are all those of its number
pub own-told : (seen mine : List LockEntry) (n : ℕ) → lock.of seen n ≡ mine → history_of mine ≡ calls_of (history_of seen) n
own-told seen mine n own = sym (calls-history seen n ∙ ap history_of own)

-- what no number has in the one history, it has not in the other
pub clean-told : (seen : List LockEntry) (xs : List (Option (List LockEntry))) → ((number : ℕ) → length xs ≤ number → lock.of seen number ≡ []) → (number : ℕ) → length (map (option_map history_of) xs) ≤ number → calls_of (history_of seen) number ≡ []
clean-told seen xs clean number above = calls-history seen number ∙ ap history_of (clean number (subst (λ (l : ℕ). l ≤ number) (length-retired xs) above))
