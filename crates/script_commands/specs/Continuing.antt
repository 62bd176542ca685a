-- What `continue` comes to, given all the bytes that it reads: our profile.
use Rattle.std.specs.Prelude.{◌≡◌, ◌<◌, ◌≤◌, ◌⊎◌, ℕ, List, ◌++◌, length, Option}
use Rattle.drmaa_types.specs.declared.changes.Notification.{Notification}
use Rattle.drmaa_model.specs.declared.replies.Reply.{Reply}
use Rattle.drmaa_model.specs.History.{Ledger, IsLegal, replay}
use Rattle.continued_text.specs.Texts.{Spells, IsContinued, byte_limit}
use Rattle.continued_text.specs.declared.texts.Continued.{Continued}
use Rattle.journal_check.specs.Faults.{FirstFault}
use Rattle.journal_text.specs.declared.journals.Journal.{Journal}
use Rattle.change_callbacks.specs.Places.{registrations_of}
use Rattle.revival.specs.Stops.{stops}
use Rattle.revival.specs.declared.revives.ReviveFault.{ReviveFault}
use Rattle.revival.specs.declared.revives.ReviveFault.TheVariants as fault
use Rattle.script_play.specs.Callbacks.{HearHistoryAfter, HearFrontAfter}
use Rattle.script_play.specs.View.{start_of}
use Rattle.text_lines.specs.Lines.{IsFirstBad}
use Rattle.journal_commands.specs.declared.status.Status.{Status}
use Rattle.journal_commands.specs.declared.status.Status.TheVariants.{Done, Text, Words, ReadFault, WriteFault, Memory, JournalFull, NotLegal}
use Rattle.journal_commands.specs.Statuses.{IsRefused, ended_as}
use Rattle.script_commands.specs.declared.plays.Output.TheVariants.{Journal as JournalOutput}
use Rattle.script_commands.specs.Outcomes.{PlayedEnds, WritesPlay}
use Rattle.script_commands.specs.Plays.{play_behind, served_behind, journal_behind, IsWrittenBy}
use Rattle.script_commands.specs.Registers.{registers_of}

-- what the machine has served that goes on from a journal: its entries, and the ends of the jobs that were started
abbrev pub revived : Journal → Ledger
revived j = record { config = j.config; history = j.entries ++ stops (replay j.config j.entries) }

-- and what it has served behind the script
abbrev pub continued : Continued → Ledger
continued c = served_behind (revived c.journal) c.script

-- how many callbacks the journal has registered: those of this run have the numbers behind
abbrev pub earlier : Continued → ℕ
earlier c = registrations_of c.journal.config (revived c.journal).history

-- a journal for which no machine goes on, or want of memory, as a status
abbrev pub fault_status : ReviveFault → Status
fault_status fault.OutOfMemory = Memory
fault_status (fault.NotLegal entry given machine) = NotLegal entry given machine

-- ---- a journal and a script that were read

-- The journal is legal, and the script was played on the machine that goes on from it, to this end: the journal that is written whole
-- is legal and can be read again, and the callbacks heard exactly what it has for the numbers of this run.
pub record WentOn {B : Type 0} (counted : B → ℕ) (told : B → Option (List Notification)) (c : Continued) (old new : Option (List ℕ)) (callbacks callbacks_after : List B) (status : Status) : Type 0 where
  pub legal : IsLegal c.journal.config c.journal.entries
  pub ended : PlayedEnds (journal_behind (revived c.journal) c.script) (length callbacks) (revived c.journal) c.script status old new
  pub written : WritesPlay JournalOutput status → IsWrittenBy (continued c)
  pub heard : HearHistoryAfter counted told (earlier c) c.journal.config (continued c).history callbacks callbacks_after

-- Where memory ran out the callbacks heard nothing, or what a beginning of the play has for them, the same one for all.
abbrev pub HeardPart : {B : Type 0} → (B → ℕ) → (B → Option (List Notification)) → Continued → List B → List B → Type 0
HeardPart counted told c callbacks callbacks_after =
    (callbacks_after ≡ callbacks)
    ⊎ HearFrontAfter counted told c.journal.config (start_of (revived c.journal)) (play_behind (revived c.journal) c.script).entries callbacks callbacks_after

-- For each status: what the journal and the script are, what was written, and what the callbacks heard.
abbrev pub ReadEnds : {B : Type 0} → (B → ℕ) → (B → Option (List Notification)) → Continued → Option (List ℕ) → Option (List ℕ) → List B → List B → Status → Type 0
ReadEnds counted told c old new callbacks callbacks_after Done = WentOn counted told c old new callbacks callbacks_after Done
ReadEnds counted told c old new callbacks callbacks_after (Text line) = ⊥
ReadEnds counted told c old new callbacks callbacks_after Words = length callbacks < registers_of c.script
ReadEnds counted told c old new callbacks callbacks_after ReadFault = ⊥
ReadEnds counted told c old new callbacks callbacks_after WriteFault = WentOn counted told c old new callbacks callbacks_after WriteFault
ReadEnds counted told c old new callbacks callbacks_after Memory = HeardPart counted told c callbacks callbacks_after
ReadEnds counted told c old new callbacks callbacks_after (JournalFull size) = WentOn counted told c old new callbacks callbacks_after (JournalFull size)
ReadEnds counted told c old new callbacks callbacks_after (NotLegal entry given machine) =
    (registers_of c.script ≤ length callbacks) × FirstFault c.journal.config c.journal.entries entry given machine

-- ---- all bytes

-- the bytes are a journal and a script, which ended so
abbrev pub TextEnds : {B : Type 0} → (B → ℕ) → (B → Option (List Notification)) → List ℕ → Option (List ℕ) → Option (List ℕ) → List B → List B → Status → Type 0
TextEnds counted told bytes old new callbacks callbacks_after status = (c : Continued) × IsContinued bytes c × ReadEnds counted told c old new callbacks callbacks_after status

-- For each status: what the bytes are, what was written, by what the sink had before and has then, and what the callbacks heard.
abbrev pub ContinueEnds : {B : Type 0} → (B → ℕ) → (B → Option (List Notification)) → List ℕ → Option (List ℕ) → Option (List ℕ) → List B → List B → Status → Type 0
ContinueEnds counted told bytes old new callbacks callbacks_after Done = TextEnds counted told bytes old new callbacks callbacks_after Done
ContinueEnds counted told bytes old new callbacks callbacks_after (Text line) = IsFirstBad Spells (byte_limit bytes) bytes line
ContinueEnds counted told bytes old new callbacks callbacks_after Words = TextEnds counted told bytes old new callbacks callbacks_after Words
ContinueEnds counted told bytes old new callbacks callbacks_after ReadFault = Unit {0}
ContinueEnds counted told bytes old new callbacks callbacks_after WriteFault = TextEnds counted told bytes old new callbacks callbacks_after WriteFault
ContinueEnds counted told bytes old new callbacks callbacks_after Memory = (c : Continued) → IsContinued bytes c → HeardPart counted told c callbacks callbacks_after
ContinueEnds counted told bytes old new callbacks callbacks_after (JournalFull size) = TextEnds counted told bytes old new callbacks callbacks_after (JournalFull size)
ContinueEnds counted told bytes old new callbacks callbacks_after (NotLegal entry given machine) = TextEnds counted told bytes old new callbacks callbacks_after (NotLegal entry given machine)

-- How a journal and a script end, where so many callbacks are there and nothing fails.
pub record Continues (callbacks : ℕ) (c : Continued) (status : Status) : Type 0 where
  pub few : callbacks < registers_of c.script → status ≡ Words
  pub played : registers_of c.script ≤ callbacks → IsLegal c.journal.config c.journal.entries → status ≡ ended_as (play_behind (revived c.journal) c.script).full
  pub forged : registers_of c.script ≤ callbacks → (entry : ℕ) (given : Reply) (machine : Option Reply) → FirstFault c.journal.config c.journal.entries entry given machine
      → status ≡ NotLegal entry given machine

-- Where no read and no write failed: a journal and a script decide, and other bytes are refused, unless memory runs out.
pub record ContinueIsWhole (callbacks : ℕ) (bytes : List ℕ) (status : Status) : Type 0 where
  pub text : (c : Continued) → IsContinued bytes c → (status ≡ Memory) ⊎ Continues callbacks c status
  pub other : ((c : Continued) → IsContinued bytes c → ⊥) → IsRefused status
