-- What is said to a person where a try came to nothing: our profile.
use Rattle.std.specs.Prelude.{ℕ, List, codes}
use Rattle.drmaa_model.specs.Said.{fault_text}
use Rattle.call_history.specs.declared.tries.TryFault.{TryFault}
use Rattle.call_history.specs.declared.tries.TryFault.TheVariants.{Busy, Not}

-- why a call that doesn't wait made no entry
abbrev pub try_text : TryFault → List ℕ
try_text (Busy served drawn) = codes "another client has the turn"
try_text (Not why) = fault_text why
