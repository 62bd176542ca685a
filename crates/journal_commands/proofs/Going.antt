-- The calls with which a history goes on are their own recorded calls.
use Rattle.std.proofs.Common.{◌≡◌, ℕ, List, [], ◌∷◌, ◌++◌, map, Option, Some, None, Result, Ok, Err, ◌⊎◌, inl, inr, refl, sym, ap, ◌∙◌, subst}
use Rattle.command_words.specs.declared.commands.RecurWords.{RecurWords}
use Rattle.drmaa_types.specs.declared.refusals.Refusal.{Refusal}
use Rattle.drmaa_types.specs.declared.refusals.Refusal.TheVariants as why
use Rattle.recurring_reservations.specs.Occurrences.{HasNone}
use Rattle.recurring_reservations.specs.OccurrenceLaws.{not-both}
use Rattle.job_template.specs.declared.templates.ReservationTemplate.{ReservationTemplate}
use Rattle.drmaa_model.specs.declared.entries.Entry.{Entry}
use Rattle.drmaa_model.specs.History.{Ledger, now_of}
use Rattle.drmaa_model.specs.World.{World}
use Rattle.recurring_reservations.specs.declared.requests.Asker.{Asker}
use Rattle.recurring_reservations.specs.declared.recurrences.RecurFault.{RecurFault}
use Rattle.recurring_reservations.specs.declared.recurrences.Recurring.{Recurring}
use Rattle.recurring_reservations.specs.Requests.{Recurs, AsksForEach, IsDenied, by_entry, by_memory, by_size, Grant, granted, ended, with_entries}
use Rattle.drmaa_types.specs.declared.identifiers.SessionId.{SessionId}
use Rattle.drmaa_model.specs.declared.replies.Reply.{Reply}
use Rattle.drmaa_model.specs.declared.replies.Reply.TheVariants as reply
use Rattle.drmaa_machine.specs.Applying.{IsTooLarge, served}
use Rattle.journal_commands.specs.Recurring.{GoesOn, asks, unopened, stopped, moment_of, opening, opened, asker_of, recurring_of, StopsAs, HasOccurrences}
use Rattle.journal_commands.specs.Replays.{AreRecorded}

both : (es fs : List Entry) → AreRecorded es → AreRecorded fs → AreRecorded (es ++ fs)
both [] fs h k = k
both (e ∷ es) fs h k = (h.0, both es fs h.1 k)

grants_keep : (a : Asker) (grants : List Grant) → AreRecorded (map (granted a) grants)
grants_keep a [] = tt
grants_keep a (g ∷ grants) = (refl, grants_keep a grants)

ends_keep : (a : Asker) (numbers : List ℕ) → AreRecorded (map (ended a) numbers)
ends_keep a [] = tt
ends_keep a (n ∷ numbers) = (refl, ends_keep a numbers)

denied_keeps : (a : Asker) (w : World) (t : ReservationTemplate) (reason : Refusal) (entries : List Entry) → IsDenied a w t reason entries → AreRecorded entries
denied_keeps a w t reason entries (by_entry refused answers is) = subst AreRecorded (sym is) (refl, tt)
denied_keeps a w t reason entries (by_memory short none is) = subst AreRecorded (sym is) tt
denied_keeps a w t reason entries (by_size n full none is) = subst AreRecorded (sym is) tt

each_keeps : (a : Asker) (templates : List ReservationTemplate) (old new : Ledger) (answer : Result (List ℕ) RecurFault) → AsksForEach a templates old answer new → AreRecorded old.history → AreRecorded new.history
each_keeps a templates old new (Ok numbers) reserves h = subst (λ (l : Ledger). AreRecorded l.history) (sym reserves.made) (both old.history (map (granted a) reserves.grants) h (grants_keep a reserves.grants))
each_keeps a templates old new (Err stop) gives h =
    subst (λ (l : Ledger). AreRecorded l.history) (sym gives.made)
    (both old.history _ h
    (both (map (granted a) gives.grants ++ gives.refused) (map (ended a) gives.ends)
    (both (map (granted a) gives.grants) gives.refused (grants_keep a gives.grants) (denied_keeps a _ gives.denied stop.refusal gives.refused gives.cause)) (ends_keep a gives.ends)))

asked_keeps : (r : Recurring) (a : Asker) (old new : Ledger) (answer : Result (List ℕ) RecurFault) → Recurs r a old answer new → AreRecorded old.history → AreRecorded new.history
asked_keeps r a old new (Ok numbers) asked h = each_keeps a asked.templates old new (Ok numbers) asked.asks h
asked_keeps r a old new (Err stop) (inl nothing) h = subst (λ (l : Ledger). AreRecorded l.history) (sym nothing.unchanged) h
asked_keeps r a old new (Err stop) (inr asked) h = each_keeps a asked.templates old new (Err stop) asked.asks h

none_some : {A : Type 0} (a : A) → ◌≡◌ {A = Option A} None (Some a) → ⊥
none_some a e = cc

pub goes_keeps : (words : RecurWords) (old new : Ledger) (full : Option ℕ) → GoesOn words old full new → AreRecorded old.history → AreRecorded new.history
goes_keeps words old new full (asks session answer asked is) h = asked_keeps _ _ _ new answer asked (both old.history _ h (refl, tt))
goes_keeps words old new full (unopened told none made is) h = subst (λ (l : Ledger). AreRecorded l.history) (sym made) (both old.history _ h (refl, tt))
goes_keeps words old new full (stopped size large same is) h = subst (λ (l : Ledger). AreRecorded l.history) (sym same) h

-- the session was opened, and the reservations were requested there
pub asked_on : (words : RecurWords) (old between new : Ledger) (at : ℕ) (told : Reply) (session : SessionId) (r : Recurring) (answer : Result (List ℕ) RecurFault) (full : Option ℕ)
    → at ≡ moment_of old → r ≡ recurring_of words → told ≡ reply.Session session
    → between ≡ served old (record { caller = record { 0 = 0 }; at = at; call = opening words; reply = told })
    → Recurs r (record { caller = record { 0 = 0 }; at = at; session = session }) between answer new → StopsAs answer full → GoesOn words old full new
asked_on words old between new at told session r answer full at_is r_is told_is made asked full_is =
    let here : between ≡ with_entries old (opened words old (reply.Session session) ∷ []) =
    made ∙ ap (λ (m : ℕ). served old (record { caller = record { 0 = 0 }; at = m; call = opening words; reply = told })) at_is ∙ ap (λ (t : Reply). served old (opened words old t)) told_is in
    asks session answer
    (subst (λ (l : Ledger). Recurs (recurring_of words) (asker_of old session) l answer new) here
    (subst (λ (m : ℕ). Recurs (recurring_of words) (record { caller = record { 0 = 0 }; at = m; session = session }) between answer new) at_is
    (subst (λ (x : Recurring). Recurs x (record { caller = record { 0 = 0 }; at = at; session = session }) between answer new) r_is asked))) full_is

-- it was not opened
pub not_opened : (words : RecurWords) (old new : Ledger) (at : ℕ) (told : Reply) → at ≡ moment_of old
    → ((session : SessionId) → told ≡ reply.Session session → ◌≡◌ {A = Option SessionId} None (Some session))
    → new ≡ served old (record { caller = record { 0 = 0 }; at = at; call = opening words; reply = told }) → GoesOn words old None new
not_opened words old new at told at_is none made =
    unopened told (λ session is. absurd (none_some session (none session is))) (made ∙ ap (λ (m : ℕ). served old (record { caller = record { 0 = 0 }; at = m; call = opening words; reply = told })) at_is) refl

-- the journal had no room for it
pub too_large : (words : RecurWords) (old new : Ledger) (at size : ℕ) → at ≡ moment_of old → IsTooLarge (now_of old) at (opening words) size → new ≡ old → GoesOn words old (Some size) new
too_large words old new at size at_is large same = stopped size (subst (λ (m : ℕ). IsTooLarge (now_of old) m (opening words) size) at_is large) same refl

-- there is nothing to request
pub none_occur : (words : RecurWords) (r : Recurring) (reason : Refusal) → r ≡ recurring_of words → (reason ≡ why.OutOfMemory → ⊥) → (reason ≡ why.OutOfMemory) ⊎ HasNone r reason → HasOccurrences words → ⊥
none_occur words r reason is long (inl short) has = long short
none_occur words r reason is long (inr none) has = not-both (recurring_of words) has.templates reason has.occur (subst (λ (x : Recurring). HasNone x reason) is none)
