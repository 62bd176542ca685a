-- The laws of requests: how the records of what was asked, and of what is taken back, go on and come together.
use Rattle.std.proofs.Common.{◌≡◌, ℕ, ◌≤◌, List, [], ◌∷◌, ◌++◌, map, reverse, refl, sym, ap, subst, ◌∙◌, append_assoc, append-nil, inl, inr}
use Rattle.std.proofs.lemmas.List.{map-append, reverse-append}
use Rattle.job_template.specs.declared.templates.ReservationTemplate.{ReservationTemplate}
use Rattle.drmaa_model.specs.declared.entries.Entry.{Entry}
use Rattle.drmaa_model.specs.declared.reservations.Accepted.{Accepted}
use Rattle.drmaa_model.specs.Fit.{reservation_number}
use Rattle.drmaa_model.specs.History.{Ledger, now_of}
use Rattle.recurring_reservations.specs.declared.recurrences.RecurFault.{RecurFault}
use Rattle.recurring_reservations.specs.declared.requests.Asker.{Asker}
use Rattle.recurring_reservations.specs.Requests.{Grant, asked_for, number_given, granted, ended, with_entries, reservations_at, IsDenied, ReservesEach, GivesUp}
use Rattle.recurring_reservations.specs.Steps.{IsLegalLedger, Grants, Denies, Ends, EndsNot, Holds, HasCome, Asking, TakesBack}
use Rattle.recurring_reservations.proofs.HoldLaws.{settled, grant-holds, deny-holds, end-holds}

-- ---- entries

-- no entry
pub with-none : (ledger : Ledger) → with_entries ledger [] ≡ ledger
with-none ledger = ap (λ (h : List Entry). record ledger { history = h }) (append-nil ledger.history)

-- some entries, and some more
with-more : (ledger : Ledger) (es fs : List Entry) → with_entries (with_entries ledger es) fs ≡ with_entries ledger (es ++ fs)
with-more ledger es fs = ap (λ (h : List Entry). record ledger { history = h }) (append_assoc ledger.history es fs)

made-more : (old mid new : Ledger) (es fs : List Entry) → mid ≡ with_entries old es → new ≡ with_entries mid fs → new ≡ with_entries old (es ++ fs)
made-more old mid new es fs first second = second ∙ ap (λ (l : Ledger). with_entries l fs) first ∙ with-more old es fs

come-on : (a : Asker) (old mid new : Ledger) → HasCome a old mid → HasCome a mid new → HasCome a old new
come-on a old mid new (inl same) (inl then_same) = inl (then_same ∙ same)
come-on a old mid new (inr come) (inl same) = inr (subst (λ (l : Ledger). a.at ≤ (now_of l).plan.moment) (sym same) come)
come-on a old mid new first (inr come) = inr come

-- ---- what was asked

holds-none : (a : Asker) (ledger : Ledger) → Holds a (reservations_at a.at ledger) [] ledger
holds-none a ledger = record { own = []; accepted = sym (append-nil (reservations_at a.at ledger)); numbered = refl; homed = tt; opened = λ some. absurd (some refl) }

-- nothing as yet
pub asking-none : (a : Asker) (old : Ledger) (all : List ReservationTemplate) → IsLegalLedger old → Asking a old all all [] old
asking-none a old all legal = record {
  asked = [];
  placed = refl;
  reserves = record {
    grants = [];
    asked_are = refl;
    numbers_are = refl;
    made = sym (with-none old);
    holds = holds-none a old;
    come = inl refl;
    legal = legal;
  };
}

-- one more
pub asking-more : (a : Asker) (old mid new : Ledger) (all rest : List ReservationTemplate) (t : ReservationTemplate) (numbers : List ℕ) (number : ℕ)
    → Asking a old all (t ∷ rest) numbers mid → Grants a t mid number new → IsLegalLedger new → Asking a old all rest (numbers ++ number ∷ []) new
asking-more a old mid new all rest t numbers number asking grants legal =
    let before = asking.reserves in
    let grant : Grant = record { asked = t; given = grants.given } in
    let holds = grant-holds a (reservations_at a.at old) numbers t number mid new before.legal legal grants before.holds in
    record {
      asked = asking.asked ++ t ∷ [];
      placed = append_assoc asking.asked (t ∷ []) rest ∙ asking.placed;
      reserves = record {
        grants = before.grants ++ grant ∷ [];
        asked_are = ap (λ (ts : List ReservationTemplate). ts ++ t ∷ []) before.asked_are ∙ sym (map-append asked_for before.grants (grant ∷ []));
        numbers_are = ap (λ (ns : List ℕ). ns ++ number ∷ []) before.numbers_are ∙ ap (λ (n : ℕ). map number_given before.grants ++ n ∷ []) grants.number_is
            ∙ sym (map-append number_given before.grants (grant ∷ []));
        made = made-more old mid new (map (granted a) before.grants) (granted a grant ∷ []) before.made grants.made
            ∙ ap (with_entries old) (sym (map-append (granted a) before.grants (grant ∷ [])));
        holds = holds.0;
        come = come-on a old mid new before.come holds.1;
        legal = legal;
      };
    }

-- all of them
pub asking-all : (a : Asker) (old new : Ledger) (all : List ReservationTemplate) (numbers : List ℕ) → Asking a old all [] numbers new → ReservesEach a all old numbers new
asking-all a old new all numbers asking = record {
  grants = asking.reserves.grants;
  asked_are = sym asking.placed ∙ append-nil asking.asked ∙ asking.reserves.asked_are;
  numbers_are = asking.reserves.numbers_are;
  made = asking.reserves.made;
}

-- ---- what is taken back

pub back-none : (a : Asker) (base : List Accepted) (old : Ledger) (numbers : List ℕ) → IsLegalLedger old → Holds a base numbers old → TakesBack a base old numbers numbers old
back-none a base old numbers legal holds = record {
  ends = [];
  left = sym (append-nil numbers);
  made = sym (with-none old);
  holds = holds;
  come = inl refl;
  legal = legal;
}

pub back-more : (a : Asker) (base : List Accepted) (old mid new : Ledger) (numbers front : List ℕ) (last : ℕ)
    → TakesBack a base old numbers (front ++ last ∷ []) mid → Ends a last mid new → IsLegalLedger new → TakesBack a base old numbers front new
back-more a base old mid new numbers front last before ends legal =
    let step = end-holds a base front last mid new before.legal legal ends before.holds in
    record {
      ends = before.ends ++ last ∷ [];
      left = before.left ∙ append_assoc front (last ∷ []) (reverse before.ends) ∙ ap (λ (ns : List ℕ). front ++ ns) (sym (reverse-append before.ends (last ∷ [])));
      made = made-more old mid new (map (ended a) before.ends) (ended a last ∷ []) before.made step.0
          ∙ ap (with_entries old) (sym (map-append (ended a) before.ends (last ∷ [])));
      holds = step.1;
      come = come-on a old mid new before.come step.2;
      legal = legal;
    }

-- ---- both

none-own : (own : List Accepted) (kept : List ℕ) → map reservation_number own ≡ kept → kept ≡ [] → own ≡ []
none-own [] kept e none = refl
none-own (x ∷ xs) kept e none = absurd (let clash = e ∙ none in cc)

pub gives-up : (a : Asker) (old mid denied new : Ledger) (all rest : List ReservationTemplate) (t : ReservationTemplate) (numbers : List ℕ) (stop : RecurFault)
    → Asking a old all (t ∷ rest) numbers mid → Denies a t mid stop.refusal denied → IsLegalLedger denied
    → ((base : List Accepted) → Holds a base numbers denied → TakesBack a base denied numbers stop.kept new)
    → ((front : List ℕ) (last : ℕ) → stop.kept ≡ front ++ last ∷ [] → EndsNot a last new new)
    → GivesUp a all old stop new
gives-up a old mid denied new all rest t numbers stop asking denies legal takes unended =
    let before = asking.reserves in
    let base = reservations_at a.at old in
    let refused = deny-holds a base numbers t stop.refusal mid denied before.legal legal denies before.holds in
    let back = takes base refused.0 in
    let come = come-on a old denied new (come-on a old mid denied before.come refused.1) back.come in
    let restored : stop.kept ≡ [] → reservations_at a.at new ≡ base = λ none.
    back.holds.accepted ∙ ap (λ (own : List Accepted). base ++ own) (none-own back.holds.own stop.kept back.holds.numbered none) ∙ append-nil base in
    record {
      grants = before.grants;
      denied = t;
      unasked = rest;
      asked_are = sym asking.placed ∙ ap (λ (ts : List ReservationTemplate). ts ++ t ∷ rest) before.asked_are;
      refused = denies.refused;
      cause = subst (λ (l : Ledger). IsDenied a (now_of l) t stop.refusal denies.refused) before.made denies.cause;
      ends = back.ends;
      left = sym before.numbers_are ∙ back.left;
      made = made-more old denied new (map (granted a) before.grants ++ denies.refused) (map (ended a) back.ends)
          (made-more old mid denied (map (granted a) before.grants) denies.refused before.made denies.made) back.made;
      unended = λ front last is. (let u = unended front last is in (u.fault, u.cause));
      restored = restored;
      restored_now = λ none other. (let at_all = restored none in
          elim come as (λ _. (now_of new).plan.reservations ≡ base) [ inl same ↦ absurd (other same) | inr here ↦ sym (settled a.at new back.legal here) ∙ at_all ]);
    }
