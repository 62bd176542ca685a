-- The replay of a journal that was read.
use Rattle.std.specs.Prelude.{◌≡◌, ◌⊎◌, ℕ, List, Option}
use Rattle.std.specs.List.{AllByRecursion}
use Rattle.drmaa_model.specs.declared.entries.Entry.{Entry}
use Rattle.drmaa_model.specs.RecordedCalls.{recorded}
use Rattle.drmaa_model.specs.declared.replies.Reply.{Reply}
use Rattle.drmaa_model.specs.History.{IsLegal}
use Rattle.journal_check.specs.declared.checks.Replayed.{Replayed}
use Rattle.journal_check.specs.declared.checks.Replayed.TheVariants as replayed
use Rattle.journal_check.specs.Faults.{FirstFault}
use Rattle.journal_check.specs.Verdicts.{Replays, IsMachine}
use Rattle.journal_text.specs.declared.journals.Journal.{Journal}

-- What became of the replay of a journal's entries, unless memory ran out: a machine exactly where they are legal, and else their
-- first fault.
pub record IsReplayOf (j : Journal) (r : Replayed) : Type 0 where
  pub replays : Replays j.config j.entries r
  pub legal : IsLegal j.config j.entries → IsMachine r ⊎ (r ≡ replayed.OutOfMemory)
  pub fault : (entry : ℕ) (given : Reply) (machine : Option Reply) → FirstFault j.config j.entries entry given machine
      → (r ≡ replayed.NotLegal entry given machine) ⊎ (r ≡ replayed.OutOfMemory)

-- each call is its own recorded call, as in every journal that was read
abbrev pub AreRecorded : List Entry → Type 0
AreRecorded entries = AllByRecursion (λ (e : Entry). recorded e.call ≡ e.call) entries
