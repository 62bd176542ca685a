-- Whose entries are whose: our profile.
use Rattle.std.specs.Prelude.{ℕ, ◌==◌, List}
use Rattle.std.specs.List.{filter}
use Rattle.drmaa_model.specs.declared.entries.Entry.{Entry}

-- the entries of this caller, in order
abbrev pub calls_of : List Entry → ℕ → List Entry
calls_of entries number = filter (λ (e : Entry). e.caller.0 == number) entries
