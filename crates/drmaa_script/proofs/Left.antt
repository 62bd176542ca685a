-- What commands leave behind.
use Rattle.std.proofs.Common.{◌≡◌, ℕ, List, [], length, Option, Some, None, inl, refl, sym, subst}
use Rattle.std.specs.Prelude.{IfSome}
use Rattle.std.specs.Io.KnownBytes.{IsAtEnd}
use Rattle.child_spawner.specs.declared.fates.Asked.{Asked}
use Rattle.child_spawner.specs.declared.fates.Fate.{Fate}
use Rattle.drmaa_types.specs.Counts.{Rose}
use Rattle.drmaa_types.specs.Readings.{Readings}
use Rattle.drmaa_types.specs.declared.changes.Notification.{Notification}
use Rattle.command_words.specs.declared.commands.Command.{Command}
use Rattle.command_words.specs.declared.commands.Command.TheVariants.{Continue, Soak}
use Rattle.command_words.specs.declared.commands.SoakWords.{SoakWords}
use Rattle.journal_commands.specs.declared.status.Status.{Status}
use Rattle.journal_commands.specs.declared.status.Status.TheVariants.{Text, Words, ReadFault, WriteFault, Memory}
use Rattle.journal_commands.specs.Statuses.{IsQuiet, HasRead, HasWritten}
use Rattle.journal_commands.specs.Texts.{IsReadOut}
use Rattle.script_commands.proofs.Returned.{returned_same}
use Rattle.drmaa_script.specs.Endings.{Ends, IsWhole, MayEnd, PlaysAlone, limit_of, WritesJournal, HandsClocks}
use Rattle.drmaa_script.specs.Left.{OfSoak, LeftByCommand}
use Rattle.drmaa_script.specs.Soaking.{SoakEnds}
use Rattle.drmaa_script.proofs.Asked.{memory_whole, memory_possible, short_front}
use Rattle.drmaa_script.proofs.Soaked.{soak_possible}

-- what is true of all bytes is true of those that are told
pub all_told : {A : Type 0} (o : Option A) (P : A → Type 0) → ((a : A) → P a) → IfSome o P
all_told None P f = tt
all_told (Some a) P f = f a

-- where memory ran out no journal was written, and no clocks come back
memory_writes : (command : Command) → WritesJournal command Memory → ⊥
memory_writes Continue h = h
memory_writes _ h = h

memory_hands : (command : Command) → HandsClocks command Memory → ⊥
memory_hands Continue h = h
memory_hands _ h = h

-- nor was anything of a soak
memory_soaks : (old new : Option (List ℕ)) (command : Command) → OfSoak (λ words. SoakEnds words old new Memory) command
memory_soaks old new (Soak words) = tt
memory_soaks old new _ = tt

same_soaks : {R : Type 0} (source : R) (command : Command) → OfSoak (λ words. source ≡ source) command
same_soaks source (Soak words) = refl
same_soaks source _ = tt

module _ {B C R W S : Type 0} (counted : B → ℕ) (told : B → Option (List Notification)) (given : C → Readings)
    (left : R → Option (List ℕ)) (read_faults : R → ℕ) (written : W → Option (List ℕ)) (write_faults : W → ℕ) (is_finished : W → Type 0) (asked : S → Option (List Asked)) (fate : S → ℕ → Fate)
    (source source_after : R) (sink sink_after : W) (spawner : S) (callbacks : List B) where
  -- a command without callers leaves what its play left, and no clocks
  pub callerless : (command k : Command) (after back : List B) (handed : List C) (status said : Status) → command ≡ k → back ≡ after → handed ≡ [] → said ≡ status
      → LeftByCommand counted told given left read_faults written write_faults is_finished asked fate k source source_after sink sink_after spawner spawner callbacks after [] status
      → LeftByCommand counted told given left read_faults written write_faults is_finished asked fate command source source_after sink sink_after spawner spawner callbacks back handed said
  callerless command k after back handed status said is same none same_status l =
      subst (λ (x : Command). LeftByCommand counted told given left read_faults written write_faults is_finished asked fate x source source_after sink sink_after spawner spawner callbacks back handed said) (sym is)
      (subst (λ (bs : List B). LeftByCommand counted told given left read_faults written write_faults is_finished asked fate k source source_after sink sink_after spawner spawner callbacks bs handed said) (sym same)
      (subst (λ (cs : List C). LeftByCommand counted told given left read_faults written write_faults is_finished asked fate k source source_after sink sink_after spawner spawner callbacks after cs said) (sym none)
      (subst (λ (s : Status). LeftByCommand counted told given left read_faults written write_faults is_finished asked fate k source source_after sink sink_after spawner spawner callbacks after [] s) (sym same_status) l)))

  -- a command on a journal, which has neither callers nor callbacks
  pub on_journal : (k : Command) (status : Status) → limit_of k ≡ 268_435_456 → (WritesJournal k status → ⊥) → (HandsClocks k status → ⊥) → (PlaysAlone k → ⊥)
      → OfSoak (λ words. SoakEnds words (written sink) (written sink_after) status) k → OfSoak (λ words. source_after ≡ source) k
      → IfSome (left source) (λ bytes. Ends counted told given k bytes (written sink) (written sink_after) (asked spawner) (asked spawner) (fate spawner) [] callbacks callbacks status)
      → MayEnd k status → (status ≡ Words → ⊥) → (HasRead status → IsAtEnd (left source_after))
      → ((line : ℕ) → status ≡ Text line → IsReadOut 268_435_456 (left source) (left source_after)) → (status ≡ ReadFault → Rose (read_faults source) (read_faults source_after))
      → (HasWritten status → is_finished sink_after) → (IsQuiet status → sink_after ≡ sink) → (status ≡ WriteFault → Rose (write_faults sink) (write_faults sink_after))
      → ((Rose (read_faults source) (read_faults source_after) → ⊥) → (Rose (write_faults sink) (write_faults sink_after) → ⊥) → IfSome (left source) (λ bytes. IsWhole k (length callbacks) bytes status))
      → LeftByCommand counted told given left read_faults written write_faults is_finished asked fate k source source_after sink sink_after spawner spawner callbacks callbacks [] status
  on_journal k status limit unwritten unhanded unplayed soaks unread ends possible no_words read_whole read_out read_fault finished untouched write_fault whole = record {
    ends = ends;
    possible = possible;
    soaks = soaks;
    unread = unread;
    words = λ e. absurd (no_words e);
    read_whole = λ reads. read_whole;
    read_out = λ line reads e. subst (λ (n : ℕ). IsReadOut n (left source) (left source_after)) (sym limit) (read_out line e);
    read_fault = read_fault;
    finished = finished;
    untouched = untouched;
    write_fault = write_fault;
    whole = whole;
    writable = λ h. absurd (unwritten h);
    clocks = λ no. refl;
    whose = λ h. absurd (unhanded h);
    callers = λ h. absurd (unhanded h);
    unasked = λ no. refl;
    unstarted = λ no. refl;
    fates = refl;
    heard = λ h. absurd (unplayed h);
    heard_front = λ h. absurd (unplayed h);
    returned = returned_same counted told callbacks;
    unheard = λ no. refl;
    deaf = λ is. refl;
  }

  -- a soak, which reads nothing
  pub soaked : (words : SoakWords) (status : Status) → SoakEnds words (written sink) (written sink_after) status → (HasWritten status → is_finished sink_after)
      → (status ≡ WriteFault → Rose (write_faults sink) (write_faults sink_after)) → (IsQuiet status → sink_after ≡ sink)
      → LeftByCommand counted told given left read_faults written write_faults is_finished asked fate (Soak words) source source sink sink_after spawner spawner callbacks callbacks [] status
  soaked words status ends finished write_fault untouched = record {
    ends = all_told (left source) (λ bytes. SoakEnds words (written sink) (written sink_after) status) (λ bytes. ends);
    possible = soak_possible words (written sink) (written sink_after) status ends;
    soaks = ends;
    unread = refl;
    words = λ e. absurd (subst (λ (s : Status). SoakEnds words (written sink) (written sink_after) s) e ends);
    read_whole = λ reads. absurd reads;
    read_out = λ line reads. absurd reads;
    read_fault = λ e. absurd (subst (λ (s : Status). SoakEnds words (written sink) (written sink_after) s) e ends);
    finished = finished;
    untouched = untouched;
    write_fault = write_fault;
    whole = λ calm quiet. all_told (left source) (λ bytes. Unit {0}) (λ bytes. tt);
    writable = λ h. absurd h;
    clocks = λ no. refl;
    whose = λ h. absurd h;
    callers = λ h. absurd h;
    unasked = λ no. refl;
    unstarted = λ no. refl;
    fates = refl;
    heard = λ h. absurd h;
    heard_front = λ h. absurd h;
    returned = returned_same counted told callbacks;
    unheard = λ no. refl;
    deaf = λ is. refl;
  }

  -- a command that was not begun, for want of memory
  memory_ends : (command : Command) (bytes : List ℕ) → Ends counted told given command bytes (written sink) (written sink) (asked spawner) (asked spawner) (fate spawner) [] callbacks callbacks Memory
  memory_ends Continue bytes = λ read t. inl refl
  memory_ends _ bytes = tt

  pub unbegun_left : (command : Command) → LeftByCommand counted told given left read_faults written write_faults is_finished asked fate command source source sink sink spawner spawner callbacks callbacks [] Memory
  unbegun_left command = record {
    ends = all_told (left source) (λ bytes. Ends counted told given command bytes (written sink) (written sink) (asked spawner) (asked spawner) (fate spawner) [] callbacks callbacks Memory) (memory_ends command);
    possible = memory_possible command;
    soaks = memory_soaks (written sink) (written sink) command;
    unread = same_soaks source command;
    words = λ e. absurd (cc);
    read_whole = λ reads read. absurd read;
    read_out = λ line reads e. absurd (cc);
    read_fault = λ e. absurd (cc);
    finished = λ h. absurd h;
    untouched = λ q. refl;
    write_fault = λ e. absurd (cc);
    whole = λ calm quiet. all_told (left source) (λ bytes. IsWhole command (length callbacks) bytes Memory) (λ bytes. memory_whole command (length callbacks) bytes);
    writable = λ h. absurd (memory_writes command h);
    clocks = λ no. refl;
    whose = λ h. absurd (memory_hands command h);
    callers = λ h. absurd (memory_hands command h);
    unasked = λ no. refl;
    unstarted = λ no. refl;
    fates = refl;
    heard = λ alone played. absurd played;
    heard_front = λ alone want. short_front counted told (left source) callbacks callbacks refl;
    returned = returned_same counted told callbacks;
    unheard = λ no. refl;
    deaf = λ is. refl;
  }
