-- In which order refusals are tried: our profile.
use Rattle.std.specs.Prelude.{Bool, List, [], ◌∷◌, Option, Some, None, Result, Ok, Err, if◌then◌else◌}
use Rattle.drmaa_types.specs.declared.refusals.Refusal.{Refusal}

-- the refusal of the first test that holds
abbrev pub first_refusal : List (Bool × Refusal) → Option Refusal
first_refusal [] = None
first_refusal (t ∷ ts) = if t.0 then Some t.1 else first_refusal ts

-- the answer of a call that takes no memory: the refusal, or the value where there is none
abbrev pub refused_or : {A : Type 0} → Option Refusal → A → Result A Refusal
refused_or None value = Ok value
refused_or (Some refusal) value = Err refusal
