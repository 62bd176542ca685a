-- What a verdict, and a replay, says of a history: our profile.
use Rattle.std.specs.Prelude.{◌≡◌, List}
use Rattle.drmaa_model.specs.declared.configs.Config.{Config}
use Rattle.drmaa_model.specs.declared.entries.Entry.{Entry}
use Rattle.drmaa_model.specs.History.{IsLegal}
use Rattle.journal_check.specs.declared.checks.Verdict.{Verdict}
use Rattle.journal_check.specs.declared.checks.Verdict.TheVariants as verdict
use Rattle.journal_check.specs.declared.checks.Replayed.{Replayed}
use Rattle.journal_check.specs.declared.checks.Replayed.TheVariants as replayed
use Rattle.journal_check.specs.Faults.{FirstFault}

-- want of memory says nothing
abbrev pub Judges : Config → List Entry → Verdict → Type 0
Judges config entries verdict.Legal = IsLegal config entries
Judges config entries (verdict.NotLegal number given machine) = FirstFault config entries number given machine
Judges config entries verdict.OutOfMemory = Unit {0}

-- what a replay says of a history: it is legal, and the machine has served exactly it; or it has this fault first
abbrev pub Replays : Config → List Entry → Replayed → Type 0
Replays config entries (replayed.Legal machine) = IsLegal config entries × (machine.ledger ≡ record { config = config; history = entries })
Replays config entries (replayed.NotLegal number given machine) = FirstFault config entries number given machine
Replays config entries replayed.OutOfMemory = Unit {0}

-- a machine has made all entries
abbrev pub IsMachine : Replayed → Type 0
IsMachine (replayed.Legal machine) = Unit {0}
IsMachine (replayed.NotLegal number given machine) = ⊥
IsMachine replayed.OutOfMemory = ⊥
