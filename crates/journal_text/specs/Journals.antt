-- Journals: the machine, a line for each entry of its history, and their count. Our profile.
use Rattle.std.specs.Prelude.{◌≡◌, ◌⊎◌, ℕ, ◌+◌, ◌<◌, ◌^◌, ◌&&◌, nat_le, Bool, true, false, List, [], ◌∷◌, ◌++◌, length, Option, Some, codes}
use Rattle.std.specs.List.{AllByRecursion}
use Rattle.drmaa_types.specs.Queues.{are_queues}
use Rattle.drmaa_types.specs.declared.identifiers.CallerId.{CallerId}
use Rattle.drmaa_types.specs.declared.queues.QueueSpec.{QueueSpec}
use Rattle.drmaa_model.specs.declared.configs.Config.{Config}
use Rattle.drmaa_model.specs.declared.entries.Entry.{Entry}
use Rattle.drmaa_model.specs.declared.calls.Call.{Call}
use Rattle.drmaa_model.specs.declared.replies.Reply.{Reply}
use Rattle.drmaa_model.specs.RecordedCalls.{recorded}
use Rattle.text_codec.specs.Formats.{Format, ◌>>=◌, strip, number, moment, pair, mapped, behind, checked, one_of}
use Rattle.text_codec.specs.Fields.{Fields, joined}
use Rattle.text_codec.specs.Quotes.{text}
use Rattle.text_codec.specs.Numbers.{caller_id}
use Rattle.text_lines.specs.Lines.{ended}
use Rattle.journal_forms.specs.Calls.{calls}
use Rattle.journal_forms.specs.Replies.{replies}
use Rattle.journal_text.specs.Queues.{queues}
use Rattle.journal_text.specs.declared.journals.Journal.{Journal}
use Rattle.journal_text.specs.declared.titles.TheConstants.{SUSPENDS}

-- the greatest journal size of a machine whose journal is read
abbrev pub journal_size : ℕ
journal_size = 4_000_000

-- whether jobs can be suspended
abbrev pub suspend_text : Bool → List ℕ
suspend_text true = codes "suspend"
suspend_text false = codes "nosuspend"

unfoldable pub suspend : Format Bool
suspend = one_of suspend_text SUSPENDS

-- a machine without its queues: its slots, its name, and whether jobs can be suspended
unfoldable pub machine : Format (ℕ × (List ℕ × Bool))
machine = pair (number (2 ^ 32)) (pair text suspend)

abbrev pub machine_of : Config → ℕ × (List ℕ × Bool)
machine_of c = (c.slots, (c.name, c.suspend))

-- the machine of a journal: from 1 to 65,535 slots, and a name of 1 to 255 bytes
abbrev pub is_machine : ℕ × (List ℕ × Bool) → Bool
is_machine m = nat_le 1 m.0 && (nat_le m.0 65535 && (nat_le 1 (length m.1.0) && nat_le (length m.1.0) 255))

-- and its queues, which a machine of so many slots may have
abbrev pub is_title : (ℕ × (List ℕ × Bool)) × List QueueSpec → Bool
is_title m = is_machine m.0 && are_queues m.0.0 m.1

unfoldable pub title : Format ((ℕ × (List ℕ × Bool)) × List QueueSpec)
title = checked is_title (behind (codes "drmaa-journal 2 ") (pair machine queues))

abbrev pub config_of : (ℕ × (List ℕ × Bool)) × List QueueSpec → Config
config_of m = record { slots = m.0.0; name = m.0.1.0; suspend = m.0.1.1; journal = journal_size; queues = m.1 }

abbrev pub title_of : Config → (ℕ × (List ℕ × Bool)) × List QueueSpec
title_of c = (machine_of c, c.queues)

-- the first line, of version 2
unfoldable pub header : Format Config
header = record {
  spell = λ c. title.spell (title_of c);
  valid = λ c. title.valid (title_of c) × (c.journal ≡ journal_size);
  read = λ bs. title.read bs >>= λ p. Some (config_of p.0, p.1);
}

-- the first line of version 1, which says no queues
unfoldable pub old_title : Format (ℕ × (List ℕ × Bool))
old_title = checked is_machine (behind (codes "drmaa-journal 1 ") machine)

unfoldable pub old_header : Format Config
old_header = record {
  spell = λ c. old_title.spell (machine_of c);
  valid = λ c. old_title.valid (machine_of c) × (c.journal ≡ journal_size) × (c.queues ≡ []);
  read = λ bs. old_title.read bs >>= λ p. Some (config_of (p.0, []), p.1);
}

-- the line of an entry: its number, its caller, its moment, its call and its reply
unfoldable pub stamp : Format (ℕ × (CallerId × ℕ))
stamp = pair (number (2 ^ 64)) (pair caller_id moment)

unfoldable pub answered : Fields Call → Format (Call × Reply)
answered C = joined (codes " = ") C replies

-- what is read behind a call: its reply
abbrev pub with_reply : {A : Type 0} → A → List ℕ → Option ((A × Reply) × List ℕ)
with_reply call bs = strip (codes " = ") bs >>= λ rest. replies.read rest >>= λ q. Some ((call, q.0), q.1)

abbrev pub make_entry : (ℕ × (CallerId × ℕ)) × (Call × Reply) → ℕ × Entry
make_entry p = (p.0.0, record { caller = p.0.1.0; at = p.0.1.1; call = p.1.0; reply = p.1.1 })

abbrev pub entry_parts : ℕ × Entry → (ℕ × (CallerId × ℕ)) × (Call × Reply)
entry_parts q = ((q.0, (q.1.caller, q.1.at)), (q.1.call, q.1.reply))

unfoldable pub entry_with : Fields Call → Format (ℕ × Entry)
entry_with C = mapped make_entry entry_parts (pair stamp (answered C))

unfoldable pub entry : Format (ℕ × Entry)
entry = entry_with calls

-- the last line: the number of entries
unfoldable pub closing : Format ℕ
closing = behind (codes "end ") (number (2 ^ 64))

-- the lines of entries, numbered from n on
abbrev pub entry_lines : ℕ → List Entry → List (List ℕ)
entry_lines n [] = []
entry_lines n (e ∷ es) = entry.spell (n, e) ∷ entry_lines (n + 1) es

-- the lines of a journal with this first line
abbrev pub lines_behind : List ℕ → List Entry → List (List ℕ)
lines_behind first es = first ∷ (entry_lines 1 es ++ closing.spell (length es) ∷ [])

abbrev pub journal_lines : Config → List Entry → List (List ℕ)
journal_lines c es = lines_behind (header.spell c) es

-- the same with the first line of version 1
abbrev pub old_lines : Config → List Entry → List (List ℕ)
old_lines c es = lines_behind (old_header.spell c) es

-- the text of a journal: each line ends with a line feed, the last one too
abbrev pub journal_text : Config → List Entry → List ℕ
journal_text c es = ended (journal_lines c es)

abbrev pub old_text : Config → List Entry → List ℕ
old_text c es = ended (old_lines c es)

-- of two versions the new one, or, where the machine has no queues, the old one
abbrev pub IsEither : {A : Type 0} → Config → A → A → A → Type 0
IsEither c new old x = (x ≡ new) ⊎ ((c.queues ≡ []) × (x ≡ old))

-- a text of the journal: of version 2, or, without queues, of version 1
abbrev pub IsText : Config → List Entry → List ℕ → Type 0
IsText c es bytes = IsEither c (journal_text c es) (old_text c es) bytes

-- what each field of an entry has to be: a caller, a moment, a call and a reply that are spelled
pub record IsEntry (e : Entry) : Type 0 where
  pub caller : caller_id.valid e.caller
  pub at : moment.valid e.at
  pub call : calls.body.valid e.call
  pub reply : replies.valid e.reply

-- The journals that are written and read: their machine has a name of 1 to 255 bytes, from 1 to 65,535 slots, queues that it may
-- have, and the journal size 4,000,000; their entries are spelled, and fewer than 2^64.
pub record IsWritable (c : Config) (es : List Entry) : Type 0 where
  pub config : header.valid c
  pub each : AllByRecursion IsEntry es
  pub few : length es < 2 ^ 64

-- these lines are the journal's, of either version
pub record Spells (lines : List (List ℕ)) (j : Journal) : Type 0 where
  pub writable : IsWritable j.config j.entries
  pub text : IsEither j.config (journal_lines j.config j.entries) (old_lines j.config j.entries) lines

-- the greatest number of bytes of a journal
unfoldable pub byte_limit : ℕ
byte_limit = 268_435_456

-- the entry that a machine makes of one: its call is the kept one
abbrev pub recorded_entry : Entry → Entry
recorded_entry e = record e { call = recorded e.call }
