-- The indices of an array: our profile.
use Rattle.std.specs.Prelude.{ℕ, Option}
use Rattle.drmaa_model.specs.declared.calls.Indices.{Indices}

-- from `begin` by `step` up to `end`, with a bound on how many members hold slots at once
abbrev pub bulk_indices : ℕ → ℕ → ℕ → Option ℕ → Indices
bulk_indices begin end step bound = record { begin = begin; end = end; step = step; bound = bound }
