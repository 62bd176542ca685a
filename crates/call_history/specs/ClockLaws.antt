-- What a clock has given, over one reading and over several.
use Rattle.std.specs.Prelude.{ℕ, List, [], ◌∷◌, ◌++◌, Option, Some, None}
use Rattle.std.proofs.Common.{refl, sym, ap, ◌∙◌, append_assoc, append-nil}
use Rattle.drmaa_types.specs.Readings.{Readings, GoesOn, Reads}
use Rattle.call_history.specs.Clocks.{HasGiven, Gives}

-- ---- what a clock tells

given-none : (told : Option (List ℕ)) → HasGiven told [] told
given-none None = tt
given-none (Some readings) = sym (append-nil readings)

given-one : (before : Option (List ℕ)) (reading : ℕ) (after : Option (List ℕ)) → GoesOn before reading after → HasGiven before (reading ∷ []) after
given-one before reading None on = tt
given-one None reading (Some after) on = absurd on
given-one (Some before) reading (Some after) on = on

given-both : (before : Option (List ℕ)) (first : List ℕ) (mid : Option (List ℕ)) (second : List ℕ) (after : Option (List ℕ))
    → HasGiven before first mid → HasGiven mid second after → HasGiven before (first ++ second) after
given-both before first mid second None f s = tt
given-both before first None second (Some after) f s = absurd s
given-both None first (Some mid) second (Some after) f s = absurd f
given-both (Some before) first (Some mid) second (Some after) f s = s ∙ (ap (λ (l : List ℕ). l ++ second) f ∙ append_assoc before first second)

-- ---- what the clock of a caller gives

-- no reading
pub gives-none : (given : Readings) → Gives given [] given
gives-none given = record { caller = refl; told = given-none given.told }

-- one reading
pub gives-one : (before : Readings) (reading : ℕ) (after : Readings) → Reads before reading after → Gives before (reading ∷ []) after
gives-one before reading after reads = record { caller = reads.caller; told = given-one before.told reading after.told reads.told }

-- some readings, and then some more
pub gives-both : (before : Readings) (first : List ℕ) (mid : Readings) (second : List ℕ) (after : Readings)
    → Gives before first mid → Gives mid second after → Gives before (first ++ second) after
gives-both before first mid second after f s = record {
  caller = s.caller ∙ f.caller;
  told = given-both before.told first mid.told second after.told f.told s.told;
}

-- some readings, and then one more
pub gives-more : (before mid after : Readings) (readings : List ℕ) (reading : ℕ) → Gives before readings mid → Reads mid reading after → Gives before (readings ++ reading ∷ []) after
gives-more before mid after readings reading gives reads =
    gives-both before readings mid (reading ∷ []) after gives (gives-one mid reading after reads)
