-- What is true of statuses.
use Rattle.std.proofs.Common.{◌≡◌, ℕ, Option, Some, None, Result, Err, refl, ap, subst}
use Rattle.journal_commands.specs.declared.status.Status.{Status}
use Rattle.journal_commands.specs.declared.status.Status.TheVariants.{Done, Text, Words, ReadFault, WriteFault, Memory, JournalFull, NotLegal}
use Rattle.journal_commands.specs.Statuses.{IsQuiet, HasRead, HasWritten, IsUnread, IsRefused, IsUnstarted, ended_as}

-- ---- a play or a command that came to its end

pub ended_loud : (full : Option ℕ) → IsQuiet (ended_as full) → ⊥
ended_loud None q = q
ended_loud (Some size) q = q

pub ended_begun : (full : Option ℕ) → IsUnstarted (ended_as full) → ⊥
ended_begun None u = u
ended_begun (Some size) u = u

pub ended_no_fault : (full : Option ℕ) → ended_as full ≡ WriteFault → ⊥
ended_no_fault None e = absurd (cc)
ended_no_fault (Some size) e = absurd (cc)

pub ended_remembers : (full : Option ℕ) → ended_as full ≡ Memory → ⊥
ended_remembers None e = absurd (cc)
ended_remembers (Some size) e = absurd (cc)

-- ---- why nothing was read

pub unread_by : (E : Status → Type 0) (status : Status) → IsUnread status → E ReadFault → E Memory → ((n : ℕ) → status ≡ Text n → E (Text n)) → E status
unread_by E Done is fault short line = absurd is
unread_by E (Text n) is fault short line = line n refl
unread_by E Words is fault short line = absurd is
unread_by E ReadFault is fault short line = fault
unread_by E WriteFault is fault short line = absurd is
unread_by E Memory is fault short line = short
unread_by E (JournalFull size) is fault short line = absurd is
unread_by E (NotLegal entry given machine) is fault short line = absurd is

pub unread_words : (status : Status) → IsUnread status → status ≡ Words → ⊥
unread_words status is e = subst IsUnread e is

pub unread_writes : (status : Status) → IsUnread status → status ≡ WriteFault → ⊥
unread_writes status is e = subst IsUnread e is

pub unread_reads : (status : Status) → IsUnread status → HasRead status → ⊥
unread_reads Done is h = is
unread_reads (Text n) is h = h
unread_reads Words is h = is
unread_reads ReadFault is h = h
unread_reads WriteFault is h = is
unread_reads Memory is h = h
unread_reads (JournalFull size) is h = is
unread_reads (NotLegal entry given machine) is h = is

pub unread_written : (status : Status) → IsUnread status → HasWritten status → ⊥
unread_written Done is h = is
unread_written (Text n) is h = h
unread_written Words is h = is
unread_written ReadFault is h = h
unread_written WriteFault is h = is
unread_written Memory is h = h
unread_written (JournalFull size) is h = is
unread_written (NotLegal entry given machine) is h = is

-- without a read fault nothing but a line or memory stands in the way
pub unread_refused : (status : Status) → IsUnread status → (status ≡ ReadFault → ⊥) → IsRefused status
unread_refused Done is calm = absurd is
unread_refused (Text n) is calm = tt
unread_refused Words is calm = absurd is
unread_refused ReadFault is calm = absurd (calm refl)
unread_refused WriteFault is calm = absurd is
unread_refused Memory is calm = tt
unread_refused (JournalFull size) is calm = absurd is
unread_refused (NotLegal entry given machine) is calm = absurd is

-- the same status, as why something has no value
pub err_is : {A : Type 0} (a b : Status) → a ≡ b → ◌≡◌ {A = Result A Status} (Err a) (Err b)
err_is {A = A} a b e = ap (λ (x : Status). let r : Result A Status = Err x in r) e
