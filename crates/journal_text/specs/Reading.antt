-- Journals, line by line.
use Rattle.std.specs.Prelude.{◌≡◌, ℕ, ◌+◌, ◌==◌, List, [], ◌∷◌, ◌++◌, length, Option, Some, None, codes, if◌then◌else◌}
use Rattle.drmaa_model.specs.declared.configs.Config.{Config}
use Rattle.drmaa_model.specs.declared.entries.Entry.{Entry}
use Rattle.text_codec.specs.Formats.{◌>>=◌, choose, strip, number, read_line}
use Rattle.std.specs.Prelude.{◌^◌}
use Rattle.text_lines.specs.Automata.{Stepping}
use Rattle.journal_text.specs.Journals.{header, old_header, entry, Spells}
use Rattle.journal_text.specs.declared.journals.Journal.{Journal}
use Rattle.journal_text.specs.declared.reading.JournalReader.{JournalReader}
use Rattle.journal_text.specs.declared.reading.JournalReader.TheVariants.{Start, Going, Ended}

abbrev pub journal_of : Config → List Entry → Journal
journal_of c es = record { config = c; entries = es }

-- the machine that a first line says, of either version
abbrev pub header_of : List ℕ → Option Config
header_of line = choose (read_line header line) (λ c. Some c) (read_line old_header line)

-- what is read with the last line, and with one entry more
abbrev pub closed : Config → List Entry → ℕ → Option JournalReader
closed c es n = if n == length es then Some (Ended (journal_of c es)) else None

abbrev pub longer : Config → List Entry → ℕ × Entry → Option JournalReader
longer c es p = if p.0 == length es + 1 then Some (Going c (es ++ p.1 ∷ [])) else None

abbrev pub longer_by : Config → List Entry → List ℕ → Option JournalReader
longer_by c es line = read_line entry line >>= longer c es

abbrev pub next : JournalReader → List ℕ → Option JournalReader
next Start line = header_of line >>= λ c. Some (Going c [])
next (Going c es) line = choose (strip (codes "end ") line) (λ rest. read_line (number (2 ^ 64)) rest >>= closed c es) (longer_by c es line)
next (Ended j) line = None

abbrev pub ends : JournalReader → Option Journal
ends Start = None
ends (Going c es) = None
ends (Ended j) = Some j

abbrev pub reading : Stepping JournalReader Journal
reading = record { is_first = λ s. s ≡ Start; next = next; ends = ends; Spells = λ s. Spells }
