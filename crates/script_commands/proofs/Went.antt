-- How the machine ends that goes on from a journal.
use Rattle.std.proofs.Common.{◌≡◌, ◌⊎◌, ℕ, ◌≤◌, List, length, Option, Result, Ok, Err, inl, inr, refl, sym, subst, arith}
use Rattle.std.specs.Prelude.{IsOk}
use Rattle.text_codec.specs.StepLaws.{true_false}
use Rattle.drmaa_types.specs.declared.changes.Notification.{Notification}
use Rattle.drmaa_model.specs.declared.replies.Reply.{Reply}
use Rattle.drmaa_model.specs.History.{IsLegal}
use Rattle.journal_check.specs.Faults.{FirstFault}
use Rattle.continued_text.specs.Texts.{Spells, IsContinued, byte_limit}
use Rattle.continued_text.specs.declared.texts.Continued.{Continued}
use Rattle.revival.specs.declared.revives.ReviveFault.{ReviveFault}
use Rattle.revival.specs.declared.revives.ReviveFault.TheVariants as fault
use Rattle.script_play.specs.Callbacks.{HearHistoryAfter}
use Rattle.text_lines.specs.Lines.{IsFirstBad}
use Rattle.journal_commands.specs.declared.status.Status.{Status}
use Rattle.journal_commands.specs.declared.status.Status.TheVariants.{Done, Text, Words, ReadFault, WriteFault, Memory, JournalFull, NotLegal}
use Rattle.journal_commands.specs.Statuses.{IsUnread, ended_as}
use Rattle.journal_commands.specs.StatusLaws.{unread_by}
use Rattle.script_commands.specs.declared.plays.Output.TheVariants.{Journal as JournalOutput}
use Rattle.script_commands.specs.Continuing.{revived, continued, earlier, fault_status, HeardPart, ReadEnds, ContinueEnds, Continues}
use Rattle.script_commands.specs.Outcomes.{PlayedEnds, WritesPlay}
use Rattle.script_commands.specs.Plays.{play_behind, journal_behind, IsWrittenBy}
use Rattle.script_commands.specs.Registers.{registers_of, HasPlayed}

module _ {B : Type 0} (counted : B → ℕ) (told : B → Option (List Notification)) (c : Continued) (old new : Option (List ℕ)) (before after : List B) where
  -- the script was played
  pub went_on : (status : Status) → IsLegal c.journal.config c.journal.entries → PlayedEnds (journal_behind (revived c.journal) c.script) (length before) (revived c.journal) c.script status old new
      → (WritesPlay JournalOutput status → IsWrittenBy (continued c)) → (HasPlayed status → HearHistoryAfter counted told (earlier c) c.journal.config (continued c).history before after)
      → (status ≡ Memory → HeardPart counted told c before after) → ReadEnds counted told c old new before after status
  went_on Done legal ended written heard short = record { legal = legal; ended = ended; written = written; heard = heard tt }
  went_on (Text line) legal ended written heard short = ended
  went_on Words legal ended written heard short = ended
  went_on ReadFault legal ended written heard short = ended
  went_on WriteFault legal ended written heard short = record { legal = legal; ended = ended; written = written; heard = heard tt }
  went_on Memory legal ended written heard short = short refl
  went_on (JournalFull size) legal ended written heard short = record { legal = legal; ended = ended; written = written; heard = heard tt }
  went_on (NotLegal entry given machine) legal ended written heard short = absurd ended

  -- no machine goes on from the journal
  pub faulted : (why : ReviveFault) → registers_of c.script ≤ length before → after ≡ before
      → ((entry : ℕ) (given : Reply) (machine : Option Reply) → why ≡ fault.NotLegal entry given machine → FirstFault c.journal.config c.journal.entries entry given machine)
      → ReadEnds counted told c old new before after (fault_status why)
  faulted fault.OutOfMemory enough same first = inl same
  faulted (fault.NotLegal entry given machine) enough same first = (enough, first entry given machine refl)

  -- from what was read to the bytes that spell it
  pub text_ends : (bytes : List ℕ) (status : Status) → IsContinued bytes c → ((d : Continued) → IsContinued bytes d → c ≡ d) → ReadEnds counted told c old new before after status
      → ContinueEnds counted told bytes old new before after status
  text_ends bytes Done spelled only ends = (c, spelled, ends)
  text_ends bytes (Text line) spelled only ends = absurd ends
  text_ends bytes Words spelled only ends = (c, spelled, ends)
  text_ends bytes ReadFault spelled only ends = absurd ends
  text_ends bytes WriteFault spelled only ends = (c, spelled, ends)
  text_ends bytes Memory spelled only ends = λ d t. subst (λ (x : Continued). HeardPart counted told x before after) (only d t) ends
  text_ends bytes (JournalFull size) spelled only ends = (c, spelled, ends)
  text_ends bytes (NotLegal entry given machine) spelled only ends = (c, spelled, ends)

  pub ends_no_fault : (status : Status) → ReadEnds counted told c old new before after status → status ≡ ReadFault → ⊥
  ends_no_fault status ends is = subst (ReadEnds counted told c old new before after) is ends

-- nothing was read
pub unread_continues : {B : Type 0} (counted : B → ℕ) (told : B → Option (List Notification)) (bytes : List ℕ) (old new : Option (List ℕ)) (before : List B) (status : Status) → IsUnread status
    → ((n : ℕ) → status ≡ Text n → IsFirstBad Spells (byte_limit bytes) bytes n) → ContinueEnds counted told bytes old new before before status
unread_continues counted told bytes old new before status is line = unread_by (ContinueEnds counted told bytes old new before before) status is tt (λ c t. inl refl) line

-- ---- where nothing fails

-- a script with too many register lines
pub too_many : (callbacks : ℕ) (c : Continued) → (registers_of c.script ≤ callbacks → ⊥) → Continues callbacks c Words
too_many callbacks c few = record { few = λ _. refl; played = λ enough legal. absurd (few enough); forged = λ enough entry given machine first. absurd (few enough) }

-- what was made is no fault
no_fault : {M : Type 0} (m : M) (why : ReviveFault) → ◌≡◌ {A = Result M ReviveFault} (Ok m) (Err why) → ⊥
no_fault m why is = cc

pub none_forged : {M : Type 0} (m : M) (P : ℕ → Reply → Option Reply → Type 0)
    → ((entry : ℕ) (given : Reply) (machine : Option Reply) → P entry given machine → (◌≡◌ {A = Result M ReviveFault} (Ok m) (Err (fault.NotLegal entry given machine))) ⊎ (◌≡◌ {A = Result M ReviveFault} (Ok m) (Err fault.OutOfMemory)))
    → (entry : ℕ) (given : Reply) (machine : Option Reply) → P entry given machine → ⊥
none_forged m P only entry given machine first = elim (only entry given machine first) [
  | inl is ↦ no_fault m (fault.NotLegal entry given machine) is
  | inr is ↦ no_fault m fault.OutOfMemory is
]

-- one that was played
pub was_played : (callbacks : ℕ) (c : Continued) (status : Status) → registers_of c.script ≤ callbacks → IsLegal c.journal.config c.journal.entries
    → ((entry : ℕ) (given : Reply) (machine : Option Reply) → FirstFault c.journal.config c.journal.entries entry given machine → ⊥)
    → status ≡ ended_as (play_behind (revived c.journal) c.script).full → Continues callbacks c status
was_played callbacks c status enough legal none is =
    record { few = λ less. absurd (omega (arith, less, enough)); played = λ _ _. is; forged = λ _ entry given machine first. absurd (none entry given machine first) }

-- and one behind a journal for which no machine goes on
same_forged : {M : Type 0} (entry number : ℕ) (given was : Reply) (machine told : Option Reply) → ◌≡◌ {A = Result M ReviveFault} (Err (fault.NotLegal entry given machine)) (Err (fault.NotLegal number was told))
    → ◌≡◌ {A = Status} (NotLegal entry given machine) (NotLegal number was told)
same_forged entry number given was machine told is = (
    let e : entry ≡ number = cc in
    let g : given ≡ was = cc in
    let m : machine ≡ told = cc in
    cc)

other_fault : {M : Type 0} (entry : ℕ) (given : Reply) (machine : Option Reply) → ◌≡◌ {A = Result M ReviveFault} (Err (fault.NotLegal entry given machine)) (Err fault.OutOfMemory) → ⊥
other_fault entry given machine is = cc

pub was_refused : {M : Type 0} (callbacks : ℕ) (c : Continued) (why : ReviveFault) → registers_of c.script ≤ callbacks
    → (IsLegal c.journal.config c.journal.entries → IsOk (let r : Result M ReviveFault = Err why in r) ⊎ (◌≡◌ {A = Result M ReviveFault} (Err why) (Err fault.OutOfMemory)))
    → ((entry : ℕ) (given : Reply) (machine : Option Reply) → FirstFault c.journal.config c.journal.entries entry given machine
    → (◌≡◌ {A = Result M ReviveFault} (Err why) (Err (fault.NotLegal entry given machine))) ⊎ (◌≡◌ {A = Result M ReviveFault} (Err why) (Err fault.OutOfMemory)))
    → (fault_status why ≡ Memory) ⊎ Continues callbacks c (fault_status why)
was_refused callbacks c fault.OutOfMemory enough only_legal only_fault = inl refl
was_refused callbacks c (fault.NotLegal entry given machine) enough only_legal only_fault = inr (record {
  few = λ less. absurd (omega (arith, less, enough));
  played = λ _ legal. elim (only_legal legal) [
    | inl made ↦ absurd (true_false (sym made))
    | inr is ↦ absurd (other_fault entry given machine is)
  ];
  forged = λ _ number was told first. elim (only_fault number was told first) [
    | inl is ↦ same_forged entry number given was machine told is
    | inr is ↦ absurd (other_fault entry given machine is)
  ];
})
