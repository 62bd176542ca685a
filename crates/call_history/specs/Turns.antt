-- The machine as its lock sees it.
use Rattle.std.specs.Prelude.{List, map}
use Rattle.drmaa_types.specs.declared.chronicles.ChronicleEntry.{ChronicleEntry}
use Rattle.drmaa_model.specs.declared.configs.Config.{Config}
use Rattle.drmaa_model.specs.declared.replies.Reply.{Reply}
use Rattle.drmaa_machine.specs.declared.chronicles.Ask.{Ask}
use Rattle.drmaa_machine.specs.Chronicles.{told}
use Rattle.drmaa_machine.specs.View.{View}

-- its history, as its lock has it
abbrev pub entries_of : View → List (ChronicleEntry Ask Reply)
entries_of m = map told m.ledger.history

abbrev pub config_of : View → Config
config_of m = m.ledger.config
