-- The states of the reader: a journal is read, and then a script of its machine and queues.
use Rattle.std.specs.Prelude.{◌≡◌, ℕ, Bool, true, List, Option, Some, None, if◌then◌else◌}
use Rattle.drmaa_model.specs.declared.configs.Config.{Config}
use Rattle.text_codec.specs.Formats.{◌>>=◌}
use Rattle.text_lines.specs.Automata.{Stepping}
use Rattle.text_lines.specs.Skipping.{skipping}
use Rattle.journal_text.specs.Journals.{IsWritable}
use Rattle.journal_text.specs.Reading as journals
use Rattle.journal_text.specs.declared.journals.Journal.{Journal}
use Rattle.journal_text.specs.declared.reading.JournalReader.{JournalReader}
use Rattle.journal_text.specs.declared.reading.JournalReader.TheVariants as state
use Rattle.script_text.specs.Automaton as scripts
use Rattle.script_text.specs.Scripts as script
use Rattle.script_text.specs.declared.scripts.Mode.TheVariants.{Serial}
use Rattle.script_text.specs.declared.states.Reader.{Reader}
use Rattle.script_text.specs.declared.states.Reader.TheVariants.{Start, Queueing, Top, Filling, Reserving, Asking}
use Rattle.continued_text.specs.Configs.{is_begun, has_all_queues}
use Rattle.continued_text.specs.Texts.{Spells}
use Rattle.continued_text.specs.declared.texts.Continued.{Continued}
use Rattle.continued_text.specs.declared.matching.MatchingReader.{MatchingReader}
use Rattle.continued_text.specs.declared.reading.ContinuedReader.{ContinuedReader}
use Rattle.continued_text.specs.declared.reading.ContinuedReader.TheVariants.{InJournal, InScript}

-- ---- a script of a journal's machine and queues

-- no line of the script was read
abbrev pub start_behind : Journal → MatchingReader
start_behind j = record { journal = j; reader = Start Serial }

-- a block may follow, or the end: no queue of the machine is missing
abbrev pub is_full : Config → Reader → Bool
is_full c (Start m) = true
is_full c (Queueing m s) = has_all_queues s.config c
is_full c (Top m s) = true
is_full c (Filling m n d) = true
is_full c (Reserving m n t) = true
is_full c (Asking m s b k) = true

-- what was read may become a script of this machine and its queues, where a block may stand there or not
abbrev pub fits : Config → Bool → Reader → Bool
fits c full (Start m) = full
fits c full (Queueing m s) = is_begun s.config c
fits c full (Top m s) = full
fits c full (Filling m n d) = full
fits c full (Reserving m n t) = full
fits c full (Asking m s b k) = full

abbrev pub matched : Journal → Bool → Reader → Option MatchingReader
matched j full t = if fits j.config full t then Some (record { journal = j; reader = t }) else None

abbrev pub ended : Journal → Reader → Option Continued
ended j t = scripts.ends t >>= λ s. Some (record { journal = j; script = s })

-- the lines of a script behind this journal, without those that are skipped
pub record SpellsBehind (j : Journal) (lines : List (List ℕ)) (c : Continued) : Type 0 where
  pub journal : c.journal ≡ j
  pub script : script.Spells Serial lines c.script
  pub same : c.script.config ≡ j.config

-- the journal was read, and nothing of the script
pub record IsStart (r : MatchingReader) : Type 0 where
  pub writable : IsWritable r.journal.config r.journal.entries
  pub start : r.reader ≡ Start Serial

abbrev pub next_matching : MatchingReader → List ℕ → Option MatchingReader
next_matching r l = scripts.next r.reader l >>= λ t. matched r.journal (is_full r.journal.config r.reader) t

abbrev pub ends_matching : MatchingReader → Option Continued
ends_matching r = if is_full r.journal.config r.reader then ended r.journal r.reader else None

abbrev pub matching : Stepping MatchingReader Continued
matching = record { is_first = IsStart; next = next_matching; ends = ends_matching; Spells = λ r. SpellsBehind r.journal }

-- ---- a journal, and the script

-- the script begins behind the journal's last line
abbrev pub onward : JournalReader → ContinuedReader
onward state.Start = InJournal state.Start
onward (state.Going c es) = InJournal (state.Going c es)
onward (state.Ended j) = InScript (record { reader = start_behind j })

abbrev pub next : ContinuedReader → List ℕ → Option ContinuedReader
next (InJournal s) l = journals.next s l >>= λ t. Some (onward t)
next (InScript s) l = (skipping matching).next s l >>= λ t. Some (InScript t)

abbrev pub ends : ContinuedReader → Option Continued
ends (InJournal s) = None
ends (InScript s) = (skipping matching).ends s

abbrev pub continuing : Stepping ContinuedReader Continued
continuing = record { is_first = λ s. s ≡ InJournal state.Start; next = next; ends = ends; Spells = λ s. Spells }
