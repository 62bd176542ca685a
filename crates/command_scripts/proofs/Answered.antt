-- What holds where a function answers.
use Rattle.std.specs.Prelude.{◌≡◌, IfOk, OnOk, Result, Ok, Err, is_ok, if◌then◌else◌}
use Rattle.std.proofs.Common.{ap}

-- from what one call tells to what the function does
pub on_ok : {A E : Type 0} (P Q : Type 0) (r : Result A E) → (P → Q) → OnOk r P → OnOk r Q
on_ok P Q (Ok x) f h = f h
on_ok P Q (Err e) f h = tt

-- the same of the value
pub of_ok : {A E : Type 0} (P Q : A → Type 0) (r : Result A E) → ((x : A) → P x → Q x) → IfOk r P → IfOk r Q
of_ok P Q (Ok x) f h = f x h
of_ok P Q (Err e) f h = tt

-- what is so where a call answers Ok, and else is as it was
pub if_ok : {A E X : Type 0} (r : Result A E) (x y z : X) (Q : Type 0) → (x ≡ y → Q) → x ≡ (if is_ok r then y else z) → OnOk r Q
if_ok (Ok a) x y z Q f h = f h
if_ok (Err e) x y z Q f h = tt

-- a fault is the same whatever would have been answered
abbrev fault_or : {A E : Type 0} → E → Result A E → E
fault_or d (Ok x) = d
fault_or d (Err e) = e

pub same_fault : {A B E : Type 0} (a b : E) → ◌≡◌ {A = Result A E} (Err a) (Err b) → ◌≡◌ {A = Result B E} (Err a) (Err b)
same_fault a b e = ap (λ r. Err (fault_or a r)) e
