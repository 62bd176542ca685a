-- Which command words ask for: our profile.
use Rattle.std.specs.Prelude.{ℕ, List}
use Rattle.command_words.specs.Commands.{AsksFor}
use Rattle.command_words.specs.declared.commands.Command.{Command}
use Rattle.command_words.specs.declared.commands.Command.TheVariants.{Serial, Threads, Table, Check, Migrate, Json, Forecast, Continue, Recur, Soak}
use Rattle.journal_commands.specs.Recurring.{HasOccurrences}

-- there is something to run: of `recur`, occurrences
abbrev pub CanRun : Command → Type 0
CanRun Serial = Unit {0}
CanRun Threads = Unit {0}
CanRun Table = Unit {0}
CanRun Check = Unit {0}
CanRun Migrate = Unit {0}
CanRun Json = Unit {0}
CanRun Forecast = Unit {0}
CanRun Continue = Unit {0}
CanRun (Recur words) = HasOccurrences words
CanRun (Soak words) = Unit {0}

-- the words ask for this command
pub record Asks (words : List (List ℕ)) (command : Command) : Type 0 where
  pub words_are : AsksFor words command
  pub can : CanRun command

-- the words are those of no command
abbrev pub NamesNone : List (List ℕ) → Type 0
NamesNone words = (command : Command) → Asks words command → ⊥
