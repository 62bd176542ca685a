-- What one call more comes to, of those that ask for all occurrences or take them back.
use Rattle.std.specs.Prelude.{◌≡◌, ◌≢◌, ◌⊎◌, ℕ, ◌≤◌, true, List, [], ◌∷◌, ◌++◌, map, reverse}
use Rattle.std.specs.List.{AllByRecursion}
use Rattle.drmaa_types.specs.declared.infos.Reserved.{Reserved}
use Rattle.drmaa_types.specs.declared.refusals.Refusal.{Refusal}
use Rattle.drmaa_types.specs.declared.refusals.Refusal.TheVariants as why
use Rattle.drmaa_types.specs.declared.sessions.SessionKind.TheVariants.{Reservations}
use Rattle.job_template.specs.declared.templates.ReservationTemplate.{ReservationTemplate}
use Rattle.drmaa_model.specs.declared.entries.Entry.{Entry}
use Rattle.drmaa_model.specs.declared.faults.NoEntry.{NoEntry}
use Rattle.drmaa_model.specs.declared.replies.Reply.{Reply}
use Rattle.drmaa_model.specs.declared.reservations.Accepted.{Accepted}
use Rattle.drmaa_model.specs.Fit.{reservation_number}
use Rattle.drmaa_model.specs.History.{Ledger, IsLegal, now_of}
use Rattle.drmaa_model.specs.Homes.{is_open, is_own_reservation}
use Rattle.drmaa_machine.specs.Applying.{served}
use Rattle.drmaa_machine.specs.Chronicles.{MakesNone}
use Rattle.recurring_reservations.specs.declared.recurrences.RecurFault.{RecurFault}
use Rattle.recurring_reservations.specs.declared.requests.Asker.{Asker}
use Rattle.recurring_reservations.specs.Requests.{Grant, asked_for, number_given, ending, entry_of, granted, ended, with_entries, reservations_at, IsDenied}

-- the entries are legal
abbrev pub IsLegalLedger : Ledger → Type 0
IsLegalLedger ledger = IsLegal ledger.config ledger.history

-- ---- one call

-- a request was accepted
pub record Grants (a : Asker) (t : ReservationTemplate) (old : Ledger) (number : ℕ) (new : Ledger) : Type 0 where
  pub given : Reserved
  pub number_is : number ≡ given.reservation.0
  pub made : new ≡ served old (granted a (record { asked = t; given = given }))

-- a request was not
pub record Denies (a : Asker) (t : ReservationTemplate) (old : Ledger) (reason : Refusal) (new : Ledger) : Type 0 where
  pub refused : List Entry
  pub cause : IsDenied a (now_of old) t reason refused
  pub made : new ≡ with_entries old refused

-- an end was answered
pub record Ends (a : Asker) (number : ℕ) (old new : Ledger) : Type 0 where
  pub told : Reply
  pub made : new ≡ served old (entry_of a (ending a number) told)

-- an end made no entry
pub record EndsNot (a : Asker) (number : ℕ) (old new : Ledger) : Type 0 where
  pub unchanged : new ≡ old
  pub fault : NoEntry
  pub cause : MakesNone (now_of old) a.at (ending a number) fault

-- ---- what stands after some of them

-- The accepted reservations are those of a list, and then those of these numbers, which belong to the session.
pub record Holds (a : Asker) (base : List Accepted) (numbers : List ℕ) (ledger : Ledger) : Type 0 where
  pub own : List Accepted
  pub accepted : reservations_at a.at ledger ≡ base ++ own
  pub numbered : map reservation_number own ≡ numbers
  pub homed : AllByRecursion (λ (x : Accepted). is_own_reservation a.session (now_of ledger) x ≡ true) own
  pub opened : numbers ≢ [] → is_open (Reservations ∷ []) a.session (now_of ledger).sessions ≡ true

-- time has come to the moment, or nothing has happened
abbrev pub HasCome : Asker → Ledger → Ledger → Type 0
HasCome a old new = (new ≡ old) ⊎ (a.at ≤ (now_of new).plan.moment)

-- all requests up to here were accepted
pub record Reserves (a : Asker) (old : Ledger) (asked : List ReservationTemplate) (numbers : List ℕ) (new : Ledger) : Type 0 where
  pub grants : List Grant
  pub asked_are : asked ≡ map asked_for grants
  pub numbers_are : numbers ≡ map number_given grants
  pub made : new ≡ with_entries old (map (granted a) grants)
  pub holds : Holds a (reservations_at a.at old) numbers new
  pub come : HasCome a old new
  pub legal : IsLegalLedger new

-- the last ones up to here are ended
pub record TakesBack (a : Asker) (base : List Accepted) (old : Ledger) (numbers kept : List ℕ) (new : Ledger) : Type 0 where
  pub ends : List ℕ
  pub left : numbers ≡ kept ++ reverse ends
  pub made : new ≡ with_entries old (map (ended a) ends)
  pub holds : Holds a base kept new
  pub come : HasCome a old new
  pub legal : IsLegalLedger new

-- all up to here were accepted, and these are left
pub record Asking (a : Asker) (old : Ledger) (all rest : List ReservationTemplate) (numbers : List ℕ) (new : Ledger) : Type 0 where
  pub asked : List ReservationTemplate
  pub placed : asked ++ rest ≡ all
  pub reserves : Reserves a old asked numbers new

-- memory ran out before anything was asked
pub record RunsShort (old : Ledger) (stop : RecurFault) (new : Ledger) : Type 0 where
  pub memory : stop.refusal ≡ why.OutOfMemory
  pub kept_is : stop.kept ≡ []
  pub unchanged : new ≡ old
