-- The play of a script on a machine that may have served calls before: our profile.
use Rattle.std.specs.Prelude.{ℕ, List, [], ◌++◌}
use Rattle.drmaa_model.specs.History.{Ledger, IsLegal, now_of}
use Rattle.drmaa_model.specs.Infos.{infos}
use Rattle.journal_text.specs.Journals as journals
use Rattle.journal_text.specs.Journals.{journal_text}
use Rattle.monitor_session.specs.Listings.{listing_text}
use Rattle.script_asks.specs.Plays.{Playing, serial_play_from}
use Rattle.script_text.specs.declared.scripts.Script.{Script}
use Rattle.text_codec.specs.Formats.{choose}
use Rattle.script_commands.specs.declared.plays.Output.{Output}
use Rattle.script_commands.specs.declared.plays.Output.TheVariants.{Journal as JournalOutput, Listing}

-- a machine of a script's configuration that has served nothing
abbrev pub new_machine : Script → Ledger
new_machine s = record { config = s.config; history = [] }

-- the play of a script on a machine that has served this
abbrev pub play_behind : Ledger → Script → Playing
play_behind before s = serial_play_from (now_of before) s

-- what the machine has served then
abbrev pub served_behind : Ledger → Script → Ledger
served_behind before s = record { config = before.config; history = before.history ++ (play_behind before s).entries }

-- the journal of a machine
abbrev pub ledger_text : Ledger → List ℕ
ledger_text ledger = journal_text ledger.config ledger.history

-- what a play's command writes of a machine that has served this
abbrev pub own_text : Output → Ledger → List ℕ
own_text JournalOutput ledger = ledger_text ledger
own_text Listing ledger = listing_text (infos (now_of ledger))

-- the journal of a play, and the listing of all jobs of its last world
abbrev pub journal_behind : Ledger → Script → List ℕ
journal_behind before s = ledger_text (served_behind before s)

abbrev pub listing_behind : Ledger → Script → List ℕ
listing_behind before s = listing_text (infos (play_behind before s).world)

-- what a play's command writes where the play was whole
abbrev pub own_behind : Output → Ledger → Script → List ℕ
own_behind JournalOutput = journal_behind
own_behind Listing = listing_behind

-- what is written of a play: the command's own text, or the journal where the play stopped
abbrev pub text_behind : List ℕ → Ledger → Script → List ℕ
text_behind own before s = choose (play_behind before s).full (λ (size : ℕ). journal_behind before s) own

-- the journal of a machine can be written and read, and is legal
abbrev pub IsWrittenBy : Ledger → Type 0
IsWrittenBy ledger = journals.IsWritable ledger.config ledger.history × IsLegal ledger.config ledger.history
