-- What the hub says of a Register, as the play of its line.
use Rattle.std.proofs.Common.{◌≡◌, ℕ, ◌<◌, ◌≤◌, true, false, List, [], Option, Some, refl, sym, ap, subst, ◌∙◌, arith, append-nil}
use Rattle.std.specs.Prelude.{◌^◌, Result, Ok, Err, IfOk, IfErr, OnErr}
use Rattle.drmaa_types.specs.Readings.{Readings}
use Rattle.drmaa_types.specs.declared.changes.Notification.{Notification}
use Rattle.drmaa_types.specs.declared.refusals.Limit.TheVariants as limit
use Rattle.drmaa_types.specs.declared.refusals.Refusal.{Refusal}
use Rattle.drmaa_types.specs.declared.refusals.Refusal.TheVariants.{OutOfResource}
use Rattle.drmaa_model.specs.declared.calls.Call.TheVariants as call
use Rattle.drmaa_model.specs.declared.configs.Config.{Config}
use Rattle.drmaa_model.specs.declared.entries.Entry.{Entry}
use Rattle.drmaa_model.specs.declared.faults.NoEntry.{NoEntry}
use Rattle.drmaa_model.specs.declared.faults.NoEntry.TheVariants as fault
use Rattle.drmaa_model.specs.declared.replies.Reply.TheVariants as reply
use Rattle.drmaa_model.specs.History.{IsLegal}
use Rattle.turn_lock.specs.Histories.{BeginsWith}
use Rattle.turn_lock.specs.Tokens.{Named}
use Rattle.call_history.specs.Calls.{IsUnserved}
use Rattle.call_history.specs.Clients.{Seat, seen_of, mine_of}
use Rattle.call_history.specs.Clocks.{Dial}
use Rattle.call_history.specs.Refused.{refusal_of}
use Rattle.change_callbacks.specs.Ears.{HaveHeard}
use Rattle.notify_hub.specs.HubLaws.{registered-on, unregistered-on, others-on}
use Rattle.notify_hub.specs.Hubs.{Following, IsNoteOf, IsNoteAt, FollowsNote, with_place, RegistersOn, IsRegistered, IsUnregistered}
use Rattle.notify_hub.specs.Hubs.IsUnregistered.{by_entry, by_fault}
use Rattle.change_callbacks.specs.PlaceLaws.{countable}
use Rattle.change_callbacks.specs.Places.{place_of, AreCountable, HasPlace, HavePlaces}
use Rattle.script_lines.specs.declared.lines.Line.{Line}
use Rattle.script_lines.specs.declared.lines.Line.TheVariants as line
use Rattle.script_text.specs.declared.scripts.Script.{Script}
use Rattle.script_text.specs.Follows.{is_register}
use Rattle.script_asks.specs.declared.given.Given.{Given}
use Rattle.script_journals.specs.Calls.{is_registers, IsNoRegister}
use Rattle.script_journals.specs.RegisterLaws.{asked-no-register}
use Rattle.block_play.specs.declared.stops.Stopped.{Stopped}
use Rattle.block_play.specs.declared.stops.Stopped.TheVariants as stopped
use Rattle.block_play.specs.Played.{PlaysLine, PlayedLine, StopsLine}
use Rattle.block_play.specs.Played.PlaysLine.{asks_nothing, asks_once}
use Rattle.block_play.specs.Played.StopsLine.{unmade, unkept}
use Rattle.block_play.proofs.Made.{played-once, stopped-full, stopped-short}

full-callbacks : (f : NoEntry) → refusal_of f ≡ Some (OutOfResource limit.Callbacks) → ⊥
full-callbacks fault.OutOfMemory is = cc
full-callbacks fault.NotYet is = cc
full-callbacks fault.Nothing is = cc
full-callbacks (fault.Journal n) is = cc

full-journal : (f : NoEntry) (size : ℕ) → refusal_of f ≡ Some (OutOfResource (limit.Journal size)) → f ≡ fault.Journal size
full-journal fault.OutOfMemory size is = absurd (cc)
full-journal fault.NotYet size is = absurd (cc)
full-journal fault.Nothing size is = absurd (cc)
full-journal (fault.Journal n) size is = (let same : n ≡ size = cc in ap fault.Journal same)

other-limit : (size : ℕ) → OutOfResource limit.Callbacks ≡ OutOfResource (limit.Journal size) → ⊥
other-limit size is = cc

module _ (s : Script) (names : List (List ℕ × Given)) (before : ℕ) (config : Config) (early late : Dial) (old new : Seat) where
  -- a number was given
  pub registers-line : (n : ℕ) → IsRegistered config early old n late new → PlayedLine s names line.Register before (mine_of old) (mine_of new) names late.least
  registers-line n r =
      let p = played-once s names line.Register before early r.read old r.seat call.Register (reply.Callback n) names refl refl r.entry refl in
      record {
        added = p.added;
        then = p.then;
        mine = r.looked.mine ∙ p.mine;
        plays = p.plays;
        behind = (let behind = p.behind in let rises = r.rises in omega (arith, behind, rises));
      }

  -- 64 are registered
  pub refuses-line : (why : Refusal) → why ≡ OutOfResource limit.Callbacks → IsUnregistered config early old why late new → PlayedLine s names line.Register before (mine_of old) (mine_of new) names late.least
  refuses-line why is (by_entry full served most) = played-once s names line.Register before early late old new call.Register (reply.Refused why) names refl refl served refl
  refuses-line why is (by_fault f told none) = absurd (full-callbacks f (told ∙ ap Some is))

  -- the journal would be too large
  pub fills-line : (why : Refusal) (size : ℕ) → before ≤ early.least → why ≡ OutOfResource (limit.Journal size) → IsUnregistered config early old why late new → StopsLine config s names line.Register before old new early.given late.given (stopped.Full size)
  fills-line why size first is (by_entry full served most) = absurd (other-limit size (sym full ∙ is))
  fills-line why size first is (by_fault f told none) =
      stopped-full s names line.Register before config early late old new call.Register size refl first refl
      (subst (λ (x : NoEntry). IsUnserved config early old call.Register x late new) (full-journal f size (told ∙ ap Some is)) none)

  -- memory ran out
  pub lacks-line : (why : Refusal) → IsUnregistered config early old why late new → StopsLine config s names line.Register before old new early.given late.given stopped.Memory
  lacks-line why (by_entry full served most) = unkept names late.least (played-once s names line.Register before early late old new call.Register (reply.Refused why) names refl refl served refl) refl
  lacks-line why (by_fault f told none) = stopped-short s names line.Register before config early late old new call.Register f none

-- an entry of another call has no number that wants a place
none-has : (ps : List (Option ℕ)) (e : Entry) → IsNoRegister e → HasPlace ps e
none-has ps e other = λ own n told. absurd (let is : is_registers e.call ≡ true = ap is_registers own in cc)

-- what another line asks registers no number
plays-has : (ps : List (Option ℕ)) (s : Script) (names after : List (List ℕ × Given)) (before then : ℕ) (l : Line) (es : List Entry) → is_register l ≡ false → PlaysLine s names before l es after then → HavePlaces es ps
plays-has ps s names after before then l es other (asks_nothing un none same time) = subst (λ (x : List Entry). HavePlaces x ps) (sym none) tt
plays-has ps s names after before then l es other (asks_once e c asked one of_line same time) =
    subst (λ (x : List Entry). HavePlaces x ps) (sym one) (none-has ps e (asked-no-register s names before l e other of_line), tt)

module _ {B : Type 0} {counted : B → ℕ} {told : B → Option (List Notification)} where
  line-on : (shared : Named Config) (hub : Following B) (s : Script) (names after : List (List ℕ × Given)) (before least : ℕ) (l : Line) (old new : Seat) → is_register l ≡ false → IsNoteOf shared hub.note
      → BeginsWith (seen_of new) (seen_of old) → PlayedLine s names l before (mine_of old) (mine_of new) after least → RegistersOn counted told shared hub old hub new
  line-on shared hub s names after before least l old new other note begins p =
      others-on shared hub old new p.added note begins p.mine (plays-has hub.ears.places s names after before p.then l p.added other p.plays)

  stop-on : (shared : Named Config) (hub : Following B) (config : Config) (s : Script) (names : List (List ℕ × Given)) (before : ℕ) (l : Line) (old new : Seat) (had has : Readings) (why : Stopped) → is_register l ≡ false → IsNoteOf shared hub.note
      → BeginsWith (seen_of new) (seen_of old) → StopsLine config s names l before old new had has why → RegistersOn counted told shared hub old hub new
  stop-on shared hub config s names before l old new had has why other note begins (unmade same cause) =
      others-on shared hub old new [] note begins (same ∙ sym (append-nil (mine_of old))) tt
  stop-on shared hub config s names before l old new had has why other note begins (unkept after least p memory) = line-on shared hub s names after before least l old new other note begins p

  -- a line that registers nothing leaves the hub as it was
  pub other-line : (shared : Named Config) (hub : Following B) (config : Config) (s : Script) (names : List (List ℕ × Given)) (early late : ℕ) (had has : Readings) (l : Line) (old new : Seat) (r : Result (List (List ℕ × Given)) Stopped)
      → is_register l ≡ false → IsNoteOf shared hub.note → BeginsWith (seen_of new) (seen_of old)
      → IfOk r (λ after. (before : ℕ) → before ≤ early → PlayedLine s names l before (mine_of old) (mine_of new) after late)
      → IfErr r (λ why. (before : ℕ) → before ≤ early → StopsLine config s names l before old new had has why) → RegistersOn counted told shared hub old hub new
  other-line shared hub config s names early late had has l old new (Ok after) other note begins ok err = line-on shared hub s names after 0 late l old new other note begins (ok 0 (omega arith))
  other-line shared hub config s names early late had has l old new (Err why) other note begins ok err = stop-on shared hub config s names 0 l old new had has why other note begins (err 0 (omega arith))

  -- what the hub's register came to
  pub register-on : (shared : Named Config) (early late : Dial) (old new : Following B) (client after : Seat) (r : Result ℕ Refusal) → shared.fixed.journal < 2 ^ 64
      → IfOk r (λ n. IsRegistered shared.fixed early client n late after) → IfErr r (λ why. IsUnregistered shared.fixed early client why late after)
      → IsNoteAt shared (seen_of after) new.note → IfOk r (λ n. AreCountable shared.fixed (seen_of after) → new.ears ≡ with_place old.ears n (place_of shared.fixed (seen_of after) n)) → OnErr r (new.ears ≡ old.ears)
      → FollowsNote new.ears new.note → (HaveHeard counted told old.ears → HaveHeard counted told new.ears) → IsLegal shared.fixed (seen_of after) → RegistersOn counted told shared old client new after
  register-on shared early late old new client after (Ok n) small ok err note placed same follows heard legal =
      registered-on shared early late old new client after n ok note (placed (countable shared.fixed (seen_of after) legal small)) follows heard legal
  register-on shared early late old new client after (Err why) small ok err note placed same follows heard legal =
      unregistered-on shared early late old new client after why err note same follows
