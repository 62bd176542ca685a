-- A value exactly where a fact holds.
use Rattle.std.proofs.Common.{Option, Some, None, IfSome, IfNone, subst, sym}
use Rattle.std.specs.Option.{SomeIff}

-- what holds of the value holds of what was found
pub found : {A : Type 0} (o : Option A) (P : Type 0) (v : A) (Q : A → Type 0) → SomeIff o P v → Q v → IfSome o Q
found None P v Q iff here = tt
found (Some x) P v Q iff here = subst Q (sym iff.1) here

-- what follows where the fact doesn't hold is so where none was found
pub unfound : {A : Type 0} (o : Option A) (P : Type 0) (v : A) (R : Type 0) → SomeIff o P v → ((P → ⊥) → R) → IfNone o R
unfound None P v R iff then_so = then_so iff
unfound (Some x) P v R iff then_so = tt
