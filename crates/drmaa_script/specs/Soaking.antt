-- What `soak` comes to, which reads nothing: our profile.
use Rattle.std.specs.Prelude.{ℕ, List, Option}
use Rattle.std.specs.Io.KnownBytes.{Appends}
use Rattle.byte_streams.specs.Streams.{AppendsFront}
use Rattle.command_words.specs.declared.commands.SoakWords.{SoakWords}
use Rattle.soak.specs.Soaks.{soak_summary}
use Rattle.soak.specs.Summaries.{summary_text}
use Rattle.journal_commands.specs.declared.status.Status.{Status}
use Rattle.journal_commands.specs.declared.status.Status.TheVariants.{Done, Text, Words, ReadFault, WriteFault, Memory, JournalFull, NotLegal}

-- what is written of it: the summary of the play of the script of these words
abbrev pub soak_output : SoakWords → List ℕ
soak_output w = summary_text (soak_summary w.steps w.seed)

-- For each status: what was written, by what the sink had before and has then.
abbrev pub SoakEnds : SoakWords → Option (List ℕ) → Option (List ℕ) → Status → Type 0
SoakEnds w old new Done = Appends old new (soak_output w)
SoakEnds w old new (Text line) = ⊥
SoakEnds w old new Words = ⊥
SoakEnds w old new ReadFault = ⊥
SoakEnds w old new WriteFault = AppendsFront old new (soak_output w)
SoakEnds w old new Memory = Unit {0}
SoakEnds w old new (JournalFull size) = ⊥
SoakEnds w old new (NotLegal entry given machine) = ⊥
