use Rattle.std.proofs.Common.{◌≡◌, ℕ, drop}
use Rattle.run_views.specs.Submitted.{name_from, name_of_session}
use Rattle.run_views.specs.Tables.{name_in_table}
use Rattle.run_views.proofs.session_names.names_of.Given as goal

-- the name so far of each session number, with the entries that are left, is the one that all give
abbrev pub invariant-loop-entry : goal.invariant-loop-entry
invariant-loop-entry l = (session : ℕ) → name_from session l.used.items (name_in_table l.names session) (drop l.entry-index l.entries) ≡ name_of_session session l.entries
