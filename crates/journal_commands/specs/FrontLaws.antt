-- What was read of a source is the front of a text.
use Rattle.std.proofs.Common.{◌≡◌, ℕ, ◌<◌, ◌≤◌, nat_le, Bool, true, false, List, length, Option, Some, None, Result, Ok, Err, ◌⊎◌, inl, inr, refl, sym, ap, subst, ◌∙◌, arith}
use Rattle.std.proofs.lemmas.Bool.Decides.{nat_tests}
use Rattle.std.proofs.lemmas.List.{take_all}
use Rattle.std.specs.Io.KnownBytes.{IsAtEnd}
use Rattle.std.specs.Prelude.{IfSome, IsTrue}
use Rattle.byte_streams.specs.Streams.{ReadsUpTo}
use Rattle.text_lines.specs.declared.reading.TextFault.{TextFault}
use Rattle.text_lines.specs.declared.reading.TextFault.TheVariants as fault
use Rattle.text_lines.specs.Lines.{IsFront}
use Rattle.journal_commands.specs.declared.status.Status.{Status}
use Rattle.journal_commands.specs.declared.status.Status.TheVariants.{Text, ReadFault, Memory}
use Rattle.journal_commands.specs.Statuses.{status_of}
use Rattle.journal_commands.specs.Texts.{IsReadOut}

is_within : (n limit : ℕ) → n ≤ limit → true ≡ nat_le n limit
is_within n limit h = grind (arith, nat_tests)

is_beyond : (n limit : ℕ) → limit < n → false ≡ nat_le n limit
is_beyond n limit h = grind (arith, nat_tests)

pub front_of : (limit : ℕ) (all bytes : List ℕ) (whole : Bool) → ReadsUpTo limit all bytes whole → IsFront limit all bytes whole
front_of limit all bytes true r = record { first = r.0 ∙ sym (take_all limit all r.1); whole = is_within (length all) limit r.1 }
front_of limit all bytes false r = record { first = r.0; whole = is_beyond (length all) limit r.1 }

pub front_as : (limit : ℕ) (bytes read all : List ℕ) (whole : Bool) → read ≡ bytes → ReadsUpTo limit all bytes whole → IsFront limit all read whole
front_as limit bytes read all whole e r = subst (λ (b : List ℕ). IsFront limit all b whole) (sym e) (front_of limit all bytes whole r)

-- bytes within the limit are their own front
pub own_front : (limit : ℕ) (bytes : List ℕ) (whole : Bool) → whole ≡ true → length bytes ≤ limit → IsFront limit bytes bytes whole
own_front limit bytes whole is h = record { first = sym (take_all limit bytes h); whole = is ∙ is_within (length bytes) limit h }

-- what was found is what is spelled
pub read_as : {A : Type 0} (found text : A) → (◌≡◌ {A = Result A TextFault} (Ok found) (Ok text)) ⊎ (◌≡◌ {A = Result A TextFault} (Ok found) (Err fault.OutOfMemory)) → found ≡ text
read_as found text (inl e) = cc
read_as found text (inr e) = absurd (cc)

-- a text that is spelled is refused for want of memory alone
pub short_as : {A : Type 0} (f : TextFault) (text : A) (status : Status) → status ≡ status_of f
    → (◌≡◌ {A = Result A TextFault} (Err f) (Ok text)) ⊎ (◌≡◌ {A = Result A TextFault} (Err f) (Err fault.OutOfMemory)) → (status ≡ ReadFault) ⊎ (status ≡ Memory)
short_as f text status e (inl h) = absurd (cc)
short_as f text status e (inr h) = let same : f ≡ fault.OutOfMemory = cc in inr (e ∙ ap status_of same)

text_line : (f : TextFault) (n : ℕ) → status_of f ≡ Text n → f ≡ fault.Line n
text_line (fault.Line m) n e = cc
text_line fault.OutOfMemory n e = absurd (cc)

pub refused_at : {A : Type 0} (f : TextFault) (status : Status) (n : ℕ) → status ≡ status_of f → ◌≡◌ {A = Result A Status} (Err status) (Err (Text n)) → ◌≡◌ {A = Result A TextFault} (Err f) (Err (fault.Line n))
refused_at f status n e h = let same : status ≡ Text n = cc in ap (λ (k : TextFault). Err k) (text_line f n (sym e ∙ same))

-- the source of what was read is at its end, or had more bytes than the limit
pub read_out : (limit : ℕ) (old new : Option (List ℕ)) (bytes : List ℕ) (whole : Bool) → IfSome old (λ all. ReadsUpTo limit all bytes whole) → (IsTrue whole → IsAtEnd new) → IsReadOut limit old new
read_out limit old new bytes true reads end = inl (end refl)
read_out limit None new bytes false reads end = inr tt
read_out limit (Some all) new bytes false reads end = inr reads.1
