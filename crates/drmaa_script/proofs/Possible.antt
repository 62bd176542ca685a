-- To which statuses a command on a journal can come, by what it writes and refuses.
use Rattle.std.proofs.Common.{◌≡◌, ℕ, List, Some, None}
use Rattle.journal_text.specs.declared.journals.Journal.{Journal}
use Rattle.journal_commands.specs.Commands.{OfLegal, WritesCount, WritesSecond, WritesJson, RefusesFault, RefusesNone}
use Rattle.journal_commands.specs.Outcomes.{Writing, CameTo}
use Rattle.journal_commands.specs.declared.status.Status.{Status}
use Rattle.journal_commands.specs.declared.status.Status.TheVariants.{Words, JournalFull, NotLegal}
use Rattle.drmaa_script.specs.Endings.{IsOfCheck, IsOfForm}

no_size : (size : ℕ) → Some size ≡ None → ⊥
no_size size e = absurd (cc)

pub check_ends : (status : Status) → CameTo (OfLegal WritesCount) RefusesFault status → IsOfCheck status
check_ends Words came = came
check_ends (JournalFull size) (j, text, writes) = no_size size writes.made.1
check_ends _ came = tt

-- of a command that refuses no journal and meets no size
form_ends : (Writes : Writing) → ((j : Journal) (text : List ℕ) (size : ℕ) → Writes j text (Some size) → ⊥) → (status : Status) → CameTo Writes RefusesNone status → IsOfForm status
form_ends Writes never Words came = came
form_ends Writes never (JournalFull size) (j, text, writes) = never j text size writes
form_ends Writes never (NotLegal entry given machine) (j, refuses) = refuses
form_ends Writes never _ came = tt

pub migrate_ends : (status : Status) → CameTo WritesSecond RefusesNone status → IsOfForm status
migrate_ends = form_ends WritesSecond (λ j text size writes. no_size size writes.1)

pub json_ends : (status : Status) → CameTo WritesJson RefusesNone status → IsOfForm status
json_ends = form_ends WritesJson (λ j text size writes. no_size size writes.1)
