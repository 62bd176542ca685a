-- What was read by one reader or the other is what is judged.
use Rattle.std.proofs.Common.{◌≡◌, ◌⊎◌, inl, inr, ℕ, List, Result, Ok, Err, ap, subst, ◌∙◌}
use Rattle.text_lines.specs.declared.reading.TextFault.{TextFault}
use Rattle.text_lines.specs.declared.reading.TextFault.TheVariants as fault
use Rattle.script_text.specs.declared.scripts.Mode.TheVariants.{Serial, Threads}
use Rattle.script_text.specs.declared.scripts.Script.{Script}
use Rattle.script_advice.specs.WarningTexts.{lint_text}
use Rattle.lint_command.specs.declared.judging.Unread.{Unread}
use Rattle.lint_command.specs.declared.judging.Unread.TheVariants as unread
use Rattle.lint_command.specs.declared.judging.Refused.{Refused}
use Rattle.lint_command.specs.declared.judging.Refused.TheVariants as refused
use Rattle.lint_command.specs.Kinds.{IsScript, IsBadAt, IsJudged}

-- the answer of one reader, and of both: this script, or want of memory
abbrev pub IsReadBy : {E : Type 0} → E → Result Script E → Script → Type 0
IsReadBy short r s = (r ≡ Ok s) ⊎ (r ≡ Err short)

as_found : (x s : Script) → IsReadBy fault.OutOfMemory (Ok x) s → IsReadBy unread.OutOfMemory (Ok x) s
as_found x s (inl e) = let same : x ≡ s = cc in inl (ap (λ (y : Script). let r : Result Script Unread = Ok y in r) same)
as_found x s (inr e) = absurd (cc)

no_line : (why : TextFault) (n : ℕ) (s : Script) → why ≡ fault.Line n → IsReadBy fault.OutOfMemory (Err why) s → ⊥
no_line why n s is (inl e) = absurd (cc)
no_line why n s is (inr e) = absurd (cc)

pub line_is : (why : TextFault) (n : ℕ) → why ≡ fault.Line n → ◌≡◌ {A = Result Script TextFault} (Err why) (Err (fault.Line n))
line_is why n is = ap (λ (f : TextFault). let r : Result Script TextFault = Err f in r) is

pub lines_are : (why : Unread) (a b : ℕ) → why ≡ unread.Lines a b → ◌≡◌ {A = Result Script Unread} (Err why) (Err (unread.Lines a b))
lines_are why a b is = ap (λ (f : Unread). let r : Result Script Unread = Err f in r) is

-- ---- of one for threads, where it is none for one thread

pub threads_found : (all : List ℕ) (n : ℕ) (x : Script) → IsBadAt Serial all n → IsScript Threads all x → IsJudged all x
threads_found all n x bad is = inr (bad.none, is)

pub threads_only : (all : List ℕ) (n : ℕ) (x s : Script) → IsBadAt Serial all n → IsJudged all s → (IsScript Threads all s → IsReadBy fault.OutOfMemory (Ok x) s)
    → IsReadBy unread.OutOfMemory (Ok x) s
threads_only all n x s bad (inl h) only = absurd (bad.none s h)
threads_only all n x s bad (inr h) only = as_found x s (only h.1)

pub threads_refused : (all : List ℕ) (n m : ℕ) (why : TextFault) (s : Script) (P : Type 0) → why ≡ fault.Line m → IsBadAt Serial all n → IsJudged all s
    → (IsScript Threads all s → IsReadBy fault.OutOfMemory (Err why) s) → P
threads_refused all n m why s P is bad (inl h) only = absurd (bad.none s h)
threads_refused all n m why s P is bad (inr h) only = absurd (no_line why m s is (only h.1))

pub both_bad : (all : List ℕ) (a b m n : ℕ) → IsBadAt Serial all a → IsBadAt Threads all b → ◌≡◌ {A = Result Script Unread} (Err (unread.Lines a b)) (Err (unread.Lines m n))
    → IsBadAt Serial all m × IsBadAt Threads all n
both_bad all a b m n first second e =
    let same : a ≡ m = cc in
    let also : b ≡ n = cc in
    (subst (IsBadAt Serial all) same first, subst (IsBadAt Threads all) also second)

-- ---- of one for one thread

pub serial_only : (all : List ℕ) (x s : Script) → IsScript Serial all x → IsJudged all s → (IsScript Serial all s → IsReadBy fault.OutOfMemory (Ok x) s)
    → IsReadBy unread.OutOfMemory (Ok x) s
serial_only all x s is (inl h) only = as_found x s (only h)
serial_only all x s is (inr h) only = absurd (h.0 x is)

-- ---- what is written

pub told : (x s : Script) (text : List ℕ) → text ≡ lint_text x → IsReadBy unread.OutOfMemory (Ok x) s
    → (◌≡◌ {A = Result (List ℕ) Refused} (Ok text) (Ok (lint_text s))) ⊎ (◌≡◌ {A = Result (List ℕ) Refused} (Ok text) (Err refused.OutOfMemory))
told x s text made (inl e) =
    let same : x ≡ s = cc in inl (ap (λ (t : List ℕ). let r : Result (List ℕ) Refused = Ok t in r) (made ∙ ap lint_text same))
told x s text made (inr e) = absurd (cc)

pub untold : (a b : ℕ) (why : Unread) (s : Script) (P : Type 0) → why ≡ unread.Lines a b → IsReadBy unread.OutOfMemory (Err why) s → P
untold a b why s P is (inl e) = absurd (cc)
untold a b why s P is (inr e) = absurd (cc)
