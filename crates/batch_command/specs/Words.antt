-- The words of `script`: our profile.
use Rattle.std.specs.Prelude.{◌≡◌, ◌⊎◌, ℕ, List, [], ◌∷◌, true, codes, decimal}
use Rattle.script_text.specs.Header.{is_machine}
use Rattle.command_scripts.specs.declared.batches.Machine.{Machine}

-- The words ask for a script for this machine, which a script may have: `script`, its number of slots, and its name, or none where it
-- is called `local`.
abbrev pub AsksFor : List (List ℕ) → Machine → Type 0
AsksFor words m =
    ((words ≡ codes "script" ∷ decimal m.slots ∷ m.name ∷ []) ⊎ ((words ≡ codes "script" ∷ decimal m.slots ∷ []) × (m.name ≡ codes "local")))
    × (is_machine m.slots m.name ≡ true)
