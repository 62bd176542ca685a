-- Words ask for one command; and how a command ends for which memory ran out before anything was read.
use Rattle.std.proofs.Common.{◌≡◌, ◌⊎◌, ℕ, Bool, false, List, [], Option, Some, None, inl, inr, refl, subst}
use Rattle.std.specs.Prelude.{IfSome, MatchBool, MatchOption}
use Rattle.command_words.specs.Commands.{AsksFor}
use Rattle.command_words.specs.CommandLaws.{one_command}
use Rattle.command_words.specs.declared.commands.Command.{Command}
use Rattle.command_words.specs.declared.commands.Command.TheVariants.{Serial, Threads, Table, Forecast, Continue, Recur, Soak}
use Rattle.drmaa_types.specs.Readings.{Readings}
use Rattle.drmaa_types.specs.declared.changes.Notification.{Notification}
use Rattle.journal_commands.specs.declared.status.Status.{Status}
use Rattle.journal_commands.specs.declared.status.Status.TheVariants.{Done, Memory, JournalFull}
use Rattle.script_asks.specs.Plays.{serial_play}
use Rattle.script_play.specs.Callbacks.{HearFront}
use Rattle.script_text.specs.declared.scripts.Mode.TheVariants as mode
use Rattle.script_text.specs.declared.scripts.Script.{Script}
use Rattle.drmaa_script.specs.Commands.{Asks, CanRun, NamesNone}
use Rattle.drmaa_script.specs.Endings.{IsWhole, MayEnd, HandsClocks}
use Rattle.drmaa_script.specs.Runs.{AreCallersClocks}
use Rattle.drmaa_script.proofs.Ran.{none_whose}
use Rattle.script_commands.specs.Outcomes.{IsScriptText}
use Rattle.script_commands.proofs.Returned.{same_front}

-- the command that was found is any that the words ask for
pub the_command : (words : List (List ℕ)) (found command : Command) → Asks words found → Asks words command → found ≡ command
the_command words found command a b = one_command words found command a.words_are b.words_are

-- the command that was found
pub found_is : (o : Option Command) (command : Command) (None_is : Type 0) (P : Command → Type 0) → o ≡ Some command → MatchOption o None_is P → P command
found_is o command None_is P is m = subst (λ (p : Option Command). MatchOption p None_is P) is m

-- what a false answer says
pub cannot_be : (b : Bool) (P : Type 0) → b ≡ false → MatchBool b P (P → ⊥) → P → ⊥
cannot_be b P is m = subst (λ (c : Bool). MatchBool c P (P → ⊥)) is m

-- where the one that they spell can't be run they ask for none
pub none_asked : (words : List (List ℕ)) (found : Command) → AsksFor words found → (CanRun found → ⊥) → NamesNone words
none_asked words found spelled cannot = λ command asks. cannot (subst CanRun (one_command words command found asks.words_are spelled) asks.can)

pub memory_whole : (command : Command) (callbacks : ℕ) (bytes : List ℕ) → IsWhole command callbacks bytes Memory
memory_whole Serial callbacks bytes = record { script = λ s t. inr refl; other = λ none. tt }
memory_whole Threads callbacks bytes = record { script = λ s t enough. tt; few = λ s t few. inr refl; other = λ none. tt }
memory_whole Table callbacks bytes = record { script = λ s t. inr refl; other = λ none. tt }
memory_whole Continue callbacks bytes = record { text = λ c t. inl refl; other = λ none. tt }
memory_whole (Soak words) callbacks bytes = tt
memory_whole _ callbacks bytes = record { journal = λ j t. inl refl; other = λ none. tt }

-- any command may lack memory
pub memory_possible : (command : Command) → MayEnd command Memory
memory_possible Forecast = λ e. cc
memory_possible (Recur words) = λ e. cc
memory_possible _ = tt

pub short_front : {B : Type 0} (counted : B → ℕ) (told : B → Option (List Notification)) (left : Option (List ℕ)) (callbacks after : List B) → after ≡ callbacks
    → IfSome left (λ (bytes : List ℕ). (script : Script) → IsScriptText mode.Serial bytes script → HearFront counted told script.config (serial_play script).entries callbacks after)
short_front counted told None callbacks after same = tt
short_front counted told (Some bytes) callbacks after same = λ script t. same_front counted told script.config (serial_play script).entries callbacks after same

-- whether clocks come back
hands_or_not : (command : Command) (status : Status) → HandsClocks command status ⊎ (HandsClocks command status → ⊥)
hands_or_not Threads Done = inl tt
hands_or_not Threads (JournalFull size) = inl tt
hands_or_not _ _ = inr (λ hands. hands)

-- those that come back are their callers', and where none do all are
pub all_whose : {C : Type 0} (given : C → Readings) (clocks : List C) (command : Command) (status : Status) → ((HandsClocks command status → ⊥) → clocks ≡ []) → (HandsClocks command status → AreCallersClocks given clocks) → AreCallersClocks given clocks
all_whose given clocks command status none some = elim (hands_or_not command status) as (λ _. AreCallersClocks given clocks) [ inl hands ↦ some hands | inr not ↦ none_whose given clocks (none not) ]
