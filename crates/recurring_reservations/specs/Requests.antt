-- What asking for all occurrences of a reservation comes to: our profile. It is all of them or none, as far as the machine
-- makes entries.
use Rattle.std.specs.Prelude.{◌≡◌, ◌≢◌, ◌⊎◌, ℕ, List, [], ◌∷◌, ◌++◌, true, map, reverse, Some, Result, Ok, Err}
use Rattle.drmaa_types.specs.declared.infos.Reserved.{Reserved}
use Rattle.drmaa_types.specs.declared.refusals.Limit.TheVariants as limit
use Rattle.drmaa_types.specs.declared.refusals.Refusal.{Refusal}
use Rattle.drmaa_types.specs.declared.refusals.Refusal.TheVariants as why
use Rattle.job_template.specs.declared.templates.ReservationTemplate.{ReservationTemplate}
use Rattle.drmaa_model.specs.declared.calls.Call.{Call}
use Rattle.drmaa_model.specs.declared.calls.Call.TheVariants as call
use Rattle.drmaa_model.specs.declared.entries.Entry.{Entry}
use Rattle.drmaa_model.specs.declared.faults.NoEntry.{NoEntry}
use Rattle.drmaa_model.specs.declared.faults.NoEntry.TheVariants as fault
use Rattle.drmaa_model.specs.declared.replies.Reply.{Reply}
use Rattle.drmaa_model.specs.declared.replies.Reply.TheVariants as reply
use Rattle.drmaa_model.specs.declared.reservations.Accepted.{Accepted}
use Rattle.drmaa_model.specs.History.{Ledger, now_of}
use Rattle.drmaa_model.specs.Operation.{is_answer}
use Rattle.drmaa_model.specs.Refusals.{refusal}
use Rattle.drmaa_model.specs.Time.{advance}
use Rattle.drmaa_model.specs.World.{World}
use Rattle.drmaa_machine.specs.Chronicles.{MakesNone}
use Rattle.recurring_reservations.specs.declared.recurrences.RecurFault.{RecurFault}
use Rattle.recurring_reservations.specs.declared.recurrences.Recurring.{Recurring}
use Rattle.recurring_reservations.specs.declared.requests.Asker.{Asker}
use Rattle.recurring_reservations.specs.Occurrences.{AreOccurrences, HasNone}

-- ---- calls and entries

-- a request that was accepted: what was asked for, and what was given
pub record Grant : Type 0 where
  pub asked : ReservationTemplate
  pub given : Reserved

abbrev pub asked_for : Grant → ReservationTemplate
asked_for g = g.asked

-- the number of the reservation
abbrev pub number_given : Grant → ℕ
number_given g = g.given.reservation.0

abbrev pub asking : Asker → ReservationTemplate → Call
asking a t = call.RequestReservation a.session t

abbrev pub ending : Asker → ℕ → Call
ending a number = call.EndReservation a.session (record { 0 = number })

-- the entry of a call of this caller, at this moment
abbrev pub entry_of : Asker → Call → Reply → Entry
entry_of a asked told = record { caller = a.caller; at = a.at; call = asked; reply = told }

abbrev pub granted : Asker → Grant → Entry
granted a g = entry_of a (asking a g.asked) (reply.Reserved g.given)

abbrev pub ended : Asker → ℕ → Entry
ended a number = entry_of a (ending a number) reply.Unit

-- a ledger with these entries more
abbrev pub with_entries : Ledger → List Entry → Ledger
with_entries ledger entries = record ledger { history = ledger.history ++ entries }

-- the reservations that are accepted, in the world that has come to a moment
abbrev pub reservations_at : ℕ → Ledger → List Accepted
reservations_at at ledger = (advance (now_of ledger) at).plan.reservations

-- ---- why a request is not accepted

-- A request is not accepted in a world: it is refused, by its entry, for what is neither want of memory nor a full journal; or it
-- makes none, since memory ran out, or since the journal would be too large.
pub data IsDenied (a : Asker) (w : World) (t : ReservationTemplate) (reason : Refusal) (entries : List Entry) : Type 0 where
  by_entry : refusal (advance w a.at) (asking a t) ≡ Some reason → is_answer reason ≡ true → entries ≡ entry_of a (asking a t) (reply.Refused reason) ∷ [] → IsDenied a w t reason entries
  by_memory : reason ≡ why.OutOfMemory → MakesNone w a.at (asking a t) fault.OutOfMemory → entries ≡ [] → IsDenied a w t reason entries
  by_size : (n : ℕ) → reason ≡ why.OutOfResource (limit.Journal n) → MakesNone w a.at (asking a t) (fault.Journal n) → entries ≡ [] → IsDenied a w t reason entries

-- ---- what asking for these comes to

-- All were accepted: the new entries are exactly one request for each, in order, each answered with a reservation, and these are
-- their numbers.
pub record ReservesEach (a : Asker) (templates : List ReservationTemplate) (old : Ledger) (numbers : List ℕ) (new : Ledger) : Type 0 where
  pub grants : List Grant
  pub asked_are : templates ≡ map asked_for grants
  pub numbers_are : numbers ≡ map number_given grants
  pub made : new ≡ with_entries old (map (granted a) grants)

-- One was not accepted. The new entries are these, in order: the requests that were accepted; the one that was not, where it
-- made an entry; and the ends of those that were accepted, from the last to the first, up to the first end that makes no entry.
pub record GivesUp (a : Asker) (templates : List ReservationTemplate) (old : Ledger) (stop : RecurFault) (new : Ledger) : Type 0 where
  pub grants : List Grant
  pub denied : ReservationTemplate
  pub unasked : List ReservationTemplate
  pub asked_are : templates ≡ map asked_for grants ++ denied ∷ unasked
  -- why, in the world that the accepted ones lead to
  pub refused : List Entry
  pub cause : IsDenied a (now_of (with_entries old (map (granted a) grants))) denied stop.refusal refused
  -- each that was accepted is ended, or kept
  pub ends : List ℕ
  pub left : map number_given grants ≡ stop.kept ++ reverse ends
  pub made : new ≡ with_entries old (map (granted a) grants ++ refused ++ map (ended a) ends)
  -- the last that is kept is so since its end makes no entry
  pub unended : (front : List ℕ) (last : ℕ) → stop.kept ≡ front ++ last ∷ [] → (f : NoEntry) × MakesNone (now_of new) a.at (ending a last) f
  -- Where none is kept, the accepted reservations are those of the world before, when both worlds have come to the moment; and the
  -- new one has come to it where an entry was made.
  pub restored : stop.kept ≡ [] → reservations_at a.at new ≡ reservations_at a.at old
  pub restored_now : stop.kept ≡ [] → new ≢ old → (now_of new).plan.reservations ≡ reservations_at a.at old

-- what asking for these, one after another, comes to
abbrev pub AsksForEach : Asker → List ReservationTemplate → Ledger → Result (List ℕ) RecurFault → Ledger → Type 0
AsksForEach a templates old (Ok numbers) new = ReservesEach a templates old numbers new
AsksForEach a templates old (Err stop) new = GivesUp a templates old stop new

-- ---- what asking for all occurrences comes to

-- Nothing was asked: there are no occurrences, or memory ran out before.
pub record AsksNothing (r : Recurring) (old : Ledger) (stop : RecurFault) (new : Ledger) : Type 0 where
  pub cause : (stop.refusal ≡ why.OutOfMemory) ⊎ HasNone r stop.refusal
  pub kept_is : stop.kept ≡ []
  pub unchanged : new ≡ old

-- each occurrence was asked for, in order, up to one that was not accepted
pub record AsksForAll (r : Recurring) (a : Asker) (old : Ledger) (result : Result (List ℕ) RecurFault) (new : Ledger) : Type 0 where
  pub templates : List ReservationTemplate
  pub occurring : AreOccurrences r templates
  pub asks : AsksForEach a templates old result new

-- What `request_all` comes to: each occurrence is asked for, as far as it goes; or, at an error, nothing is.
abbrev pub Recurs : Recurring → Asker → Ledger → Result (List ℕ) RecurFault → Ledger → Type 0
Recurs r a old (Ok numbers) new = AsksForAll r a old (Ok numbers) new
Recurs r a old (Err stop) new = AsksNothing r old stop new ⊎ AsksForAll r a old (Err stop) new
