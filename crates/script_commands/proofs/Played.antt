-- How a play ends, and what was written then.
use Rattle.std.proofs.Common.{◌≡◌, ℕ, ◌≤◌, List, Option, Some, None, sym, ap, subst, ◌∙◌}
use Rattle.std.specs.Io.KnownBytes.{Appends}
use Rattle.drmaa_model.specs.History.{Ledger, now_of}
use Rattle.drmaa_model.specs.Infos.{infos}
use Rattle.drmaa_model.specs.World.{World}
use Rattle.monitor_session.specs.Listings.{listing_text}
use Rattle.script_text.specs.declared.scripts.Mode.TheVariants as mode
use Rattle.script_text.specs.declared.scripts.Script.{Script}
use Rattle.text_codec.specs.Formats.{choose}
use Rattle.script_commands.specs.declared.plays.Output.{Output}
use Rattle.script_commands.specs.declared.plays.Output.TheVariants.{Journal as JournalOutput, Listing}
use Rattle.journal_commands.specs.declared.status.Status.{Status}
use Rattle.journal_commands.specs.declared.status.Status.TheVariants.{Done, Text, Words, ReadFault, WriteFault, Memory, JournalFull, NotLegal}
use Rattle.journal_commands.specs.Statuses.{IsUnread, ended_as}
use Rattle.journal_commands.specs.StatusLaws.{unread_by}
use Rattle.script_commands.specs.Registers.{HasPlayed, registers_of}
use Rattle.script_commands.specs.Outcomes.{IsScriptText, PlayEnds, PlayedEnds, HasJournal, WritesPlay, IsOfScript}
use Rattle.script_commands.specs.Plays.{new_machine, play_behind, served_behind, ledger_text, own_text, own_behind, journal_behind, text_behind}

pub writes_has : (output : Output) (full : Option ℕ) → WritesPlay output (ended_as full) → HasJournal output full
writes_has JournalOutput full w = tt
writes_has Listing None w = w
writes_has Listing (Some size) w = tt

-- the status by the size that stopped a play
pub full_is : (before : Ledger) (s : Script) (status : Status) (full : Option ℕ) → status ≡ ended_as full → full ≡ (play_behind before s).full → status ≡ ended_as (play_behind before s).full
full_is before s status full e f = e ∙ ap ended_as f

-- the text of a play was written
pub wrote_play : (own : List ℕ) (callbacks : ℕ) (before : Ledger) (s : Script) (full : Option ℕ) (old new : Option (List ℕ)) → registers_of s ≤ callbacks → full ≡ (play_behind before s).full → Appends old new (text_behind own before s)
    → PlayedEnds own callbacks before s (ended_as full) old new
wrote_play own callbacks before s None old new enough is written =
    (enough, sym is, subst (λ (f : Option ℕ). Appends old new (choose f (λ (size : ℕ). journal_behind before s) own)) (sym is) written)
wrote_play own callbacks before s (Some size) old new enough is written =
    (enough, sym is, subst (λ (f : Option ℕ). Appends old new (choose f (λ (n : ℕ). journal_behind before s) own)) (sym is) written)

-- what a machine that has played is written as
own_is : (output : Output) (after before : Ledger) (s : Script) → after ≡ served_behind before s → now_of after ≡ (play_behind before s).world → own_text output after ≡ own_behind output before s
own_is JournalOutput after before s ledger world = ap ledger_text ledger
own_is Listing after before s ledger world = ap (λ (w : World). listing_text (infos w)) world

pub text_is : (output : Output) (after before : Ledger) (s : Script) (full : Option ℕ) → after ≡ served_behind before s → now_of after ≡ (play_behind before s).world → full ≡ (play_behind before s).full
    → choose full (λ (size : ℕ). ledger_text after) (own_text output after) ≡ text_behind (own_behind output before s) before s
text_is output after before s full ledger world stopped =
    ap (λ (f : Option ℕ). choose f (λ (size : ℕ). ledger_text after) (own_text output after)) stopped
    ∙ ap (λ (l : Ledger). choose (play_behind before s).full (λ (size : ℕ). ledger_text l) (own_text output after)) ledger
    ∙ ap (λ (own : List ℕ). text_behind own before s) (own_is output after before s ledger world)

-- from the script that was read to the bytes that spell it
pub played_ends : (own : Script → List ℕ) (callbacks : ℕ) (bytes : List ℕ) (s : Script) (status : Status) (old new : Option (List ℕ)) → IsScriptText mode.Serial bytes s
    → PlayedEnds (own s) callbacks (new_machine s) s status old new → PlayEnds own callbacks bytes status old new
played_ends own callbacks bytes s Done old new spelled ends = (s, spelled, ends)
played_ends own callbacks bytes s (Text line) old new spelled ends = absurd ends
played_ends own callbacks bytes s Words old new spelled ends = (s, spelled, ends)
played_ends own callbacks bytes s ReadFault old new spelled ends = absurd ends
played_ends own callbacks bytes s WriteFault old new spelled ends = (s, spelled, ends)
played_ends own callbacks bytes s Memory old new spelled ends = tt
played_ends own callbacks bytes s (JournalFull size) old new spelled ends = (s, spelled, ends)
played_ends own callbacks bytes s (NotLegal entry given machine) old new spelled ends = absurd ends

pub unread_ends : (own : Script → List ℕ) (callbacks : ℕ) (bytes : List ℕ) (status : Status) (old new : Option (List ℕ)) → IsUnread status → ((n : ℕ) → status ≡ Text n → PlayEnds own callbacks bytes (Text n) old new) → PlayEnds own callbacks bytes status old new
unread_ends own callbacks bytes status old new is line = unread_by (λ (s : Status). PlayEnds own callbacks bytes s old new) status is tt tt line

pub unread_played : (status : Status) → IsUnread status → HasPlayed status → ⊥
unread_played Done is h = is
unread_played (Text n) is h = h
unread_played Words is h = is
unread_played ReadFault is h = h
unread_played WriteFault is h = is
unread_played Memory is h = h
unread_played (JournalFull size) is h = is
unread_played (NotLegal entry given machine) is h = is

pub unread_play : (output : Output) (status : Status) → IsUnread status → WritesPlay output status → ⊥
unread_play output Done is h = is
unread_play output (Text n) is h = h
unread_play output Words is h = is
unread_play output ReadFault is h = h
unread_play output WriteFault is h = is
unread_play output Memory is h = h
unread_play output (JournalFull size) is h = is
unread_play output (NotLegal entry given machine) is h = is

pub read_no_fault : (own : List ℕ) (callbacks : ℕ) (before : Ledger) (s : Script) (status : Status) (old new : Option (List ℕ)) → PlayedEnds own callbacks before s status old new → status ≡ ReadFault → ⊥
read_no_fault own callbacks before s status old new ends is = subst (λ (x : Status). PlayedEnds own callbacks before s x old new) is ends

-- no journal was read that could be illegal
pub played_possible : (own : List ℕ) (callbacks : ℕ) (before : Ledger) (s : Script) (status : Status) (old new : Option (List ℕ)) → PlayedEnds own callbacks before s status old new → IsOfScript status
played_possible own callbacks before s Done old new ends = tt
played_possible own callbacks before s (Text line) old new ends = tt
played_possible own callbacks before s Words old new ends = tt
played_possible own callbacks before s ReadFault old new ends = tt
played_possible own callbacks before s WriteFault old new ends = tt
played_possible own callbacks before s Memory old new ends = tt
played_possible own callbacks before s (JournalFull size) old new ends = tt
played_possible own callbacks before s (NotLegal entry given machine) old new ends = ends

pub unread_possible : (status : Status) → IsUnread status → IsOfScript status
unread_possible status is = unread_by IsOfScript status is tt tt (λ n e. tt)
