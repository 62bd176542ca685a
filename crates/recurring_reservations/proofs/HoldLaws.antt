-- What each call leaves of the accepted reservations.
use Rattle.std.proofs.Common.{◌≡◌, ℕ, ◌+◌, ◌<◌, ◌≤◌, Bool, true, false, cond, not, ◌&&◌, ◌||◌, eqb, List, [], ◌∷◌, ◌++◌, map, filter, Option, Some, None, refl, sym, ap, subst, ◌∙◌, arith, append_assoc, append-nil, inl, inr}
use Rattle.std.specs.Prelude.{IsTrue, IfSome, is_none}
use Rattle.std.specs.List.{find, list_any, AllByRecursion}
use Rattle.std.specs.Option.{option_map, option_map_or, option_and_then}
use Rattle.std.proofs.lemmas.Bool.{eqb-true, eq-eqb, false≢true}
use Rattle.std.proofs.lemmas.List.{map-append}
use Rattle.std.proofs.lemmas.List.Elements.{recursion_from_All}
use Rattle.drmaa_types.specs.Refusals.{first_refusal}
use Rattle.drmaa_types.specs.declared.identifiers.SessionId.{SessionId}
use Rattle.drmaa_types.specs.declared.infos.Reserved.{Reserved}
use Rattle.drmaa_types.specs.declared.refusals.Refusal.{Refusal}
use Rattle.drmaa_types.specs.declared.sessions.SessionKind.{SessionKind}
use Rattle.drmaa_types.specs.declared.sessions.SessionKind.TheVariants.{Jobs, Reservations, Monitoring}
use Rattle.job_template.specs.declared.templates.ReservationTemplate.{ReservationTemplate}
use Rattle.session_table.specs.Sessions.{NamedSession, ValidNumber, Sessions, IsSound as AreSound, is_bound, is_home, is_kind}
use Rattle.drmaa_model.specs.declared.entries.Entry.{Entry}
use Rattle.drmaa_model.specs.declared.replies.Reply.{Reply}
use Rattle.drmaa_model.specs.declared.replies.Reply.TheVariants as reply
use Rattle.drmaa_model.specs.declared.reservations.Accepted.{Accepted}
use Rattle.drmaa_model.specs.AnswerLaws.{refused-gives, served-gives}
use Rattle.drmaa_model.specs.Effects.{gives}
use Rattle.drmaa_model.specs.Fit.{IsRising, reservation_number}
use Rattle.drmaa_model.specs.History.{Ledger, now_of}
use Rattle.drmaa_model.specs.HistoryLaws.{legal-last}
use Rattle.drmaa_model.specs.Homes.{home_in, home_number, is_open, session_test, is_same_home, is_own_reservation}
use Rattle.drmaa_model.specs.OperationLaws.{no_test}
use Rattle.drmaa_model.specs.Plan.{Plan}
use Rattle.drmaa_model.specs.Refusals.{refusal}
use Rattle.drmaa_model.specs.Requests.{accepted_at, chosen_start, reserved_as, with_reservation, request_tests, is_other, without_reservation}
use Rattle.drmaa_model.specs.RestSteps.{legal-still}
use Rattle.drmaa_model.specs.RowLaws.{all-push}
use Rattle.drmaa_model.specs.StepLaws.{advance-consistent, step-moment, legal-consistent}
use Rattle.drmaa_model.specs.Steps.{answer_now, IsStep}
use Rattle.drmaa_model.specs.Time.{advance, expire, call_in}
use Rattle.drmaa_model.specs.World.{World, counted}
use Rattle.drmaa_machine.specs.Applying.{served}
use Rattle.recurring_reservations.specs.declared.requests.Asker.{Asker}
use Rattle.recurring_reservations.specs.Requests.{asking, ending, entry_of, granted, ended, with_entries, reservations_at, IsDenied, by_entry, by_memory, by_size}
use Rattle.recurring_reservations.specs.Steps.{IsLegalLedger, Grants, Denies, Ends, Holds, HasCome}

-- ---- lists

-- the last item of a list whose numbers end so
record Unsnoc (own : List Accepted) (front : List ℕ) (last : ℕ) : Type 0 where
  init : List Accepted
  final : Accepted
  split : own ≡ init ++ final ∷ []
  front_is : map reservation_number init ≡ front
  last_is : reservation_number final ≡ last

unsnoc : (own : List Accepted) (front : List ℕ) (last : ℕ) → map reservation_number own ≡ front ++ last ∷ [] → Unsnoc own front last
unsnoc [] [] last e = absurd (cc)
unsnoc [] (n ∷ ns) last e = absurd (cc)
unsnoc (x ∷ []) [] last e = record { init = []; final = x; split = refl; front_is = refl; last_is = cc }
unsnoc (x ∷ (y ∷ xs)) [] last e = absurd (cc)
unsnoc (x ∷ xs) (n ∷ ns) last e =
    let rest = unsnoc xs ns last cc in
    record {
      init = x ∷ rest.init;
      final = rest.final;
      split = ap (λ (ys : List Accepted). x ∷ ys) rest.split;
      front_is = (let front = rest.front_is in cc);
      last_is = rest.last_is;
    }

-- where the numbers rise, each is below the last
rising-last : (xs : List Accepted) (y : Accepted) → IsRising reservation_number (xs ++ y ∷ []) → AllByRecursion (λ (x : Accepted). reservation_number x < reservation_number y) xs
rising-last [] y rising = tt
rising-last (x ∷ xs) y rising = (below-last xs rising.0, rising-last xs y rising.1)
  where
    below-last : (zs : List Accepted) → AllByRecursion (λ (z : Accepted). reservation_number x < reservation_number z) (zs ++ y ∷ []) → reservation_number x < reservation_number y
    below-last [] all = all.0
    below-last (z ∷ zs) all = below-last zs all.1

-- so to take out the last number leaves the others
without-last : (xs : List Accepted) (y : Accepted) (n : ℕ) → reservation_number y ≡ n → AllByRecursion (λ (x : Accepted). reservation_number x < n) xs → filter (is_other (record { 0 = n })) (xs ++ y ∷ []) ≡ xs
without-last [] y n is below = ap (λ (b : Bool). cond (not b) (y ∷ []) []) (eq-eqb (reservation_number y) n is)
without-last (x ∷ xs) y n is below =
    ap (λ (b : Bool). cond (not b) (x ∷ filter (is_other (record { 0 = n })) (xs ++ y ∷ [])) (filter (is_other (record { 0 = n })) (xs ++ y ∷ []))) (apart (reservation_number x) below.0)
    ∙ ap (λ (zs : List Accepted). x ∷ zs) (without-last xs y n is below.1)
  where
    apart : (k : ℕ) → k < n → eqb k n ≡ false
    apart k less =
        (elim (eqb k n) as (λ b. eqb k n ≡ b → b ≡ false) [
          | true ↦ λ e. (let same = eqb-true k n e in absurd (omega arith))
          | false ↦ λ e. refl
        ]) refl

-- the last one is found among those of its kind
found-last : (test own : Accepted → Bool) (xs : List Accepted) (y : Accepted) → own y ≡ true → test y ≡ true → list_any test (filter own (xs ++ y ∷ [])) ≡ true
found-last test own [] y mine meets = ap (λ (b : Bool). list_any test (cond b (y ∷ []) [])) mine ∙ ap (λ (b : Bool). b || false) meets
found-last test own (x ∷ xs) y mine meets =
    elim (own x) as (λ b. list_any test (cond b (x ∷ filter own (xs ++ y ∷ [])) (filter own (xs ++ y ∷ []))) ≡ true) [
      | true ↦ elim (test x) as (λ t. (t || list_any test (filter own (xs ++ y ∷ []))) ≡ true) [
        | true ↦ refl
        | false ↦ found-last test own xs y mine meets
      ]
      | false ↦ found-last test own xs y mine meets
    ]

all-last : (P : Accepted → Type 0) (xs : List Accepted) (y : Accepted) → AllByRecursion P (xs ++ y ∷ []) → AllByRecursion P xs × P y
all-last P [] y all = (tt, all.0)
all-last P (x ∷ xs) y all = let rest = all-last P xs y all.1 in ((all.0, rest.0), rest.1)

-- ---- sessions

-- a session for reservations stands for a named one
sound-home : (named : List NamedSession) (kind : SessionKind) (home : Option ℕ) → list_any (λ (n : NamedSession). is_kind kind n.kind && is_home n.home home) named ≡ true
    → is_same_home home (Some (option_map_or (λ (h : ℕ). h) home 0)) ≡ true
sound-home named kind (Some h) any = eq-eqb h h refl
sound-home [] kind None any = absurd (false≢true any)
sound-home (n ∷ ns) kind None any =
    sound-home ns kind None (sym (ap (λ (b : Bool). b || list_any (λ (n : NamedSession). is_kind kind n.kind && false) ns) (and-false (is_kind kind n.kind))) ∙ any)
  where
    and-false : (b : Bool) → (b && false) ≡ false
    and-false true = refl
    and-false false = refl

bound-home : (named : List NamedSession) (v : ValidNumber) → is_bound named v ≡ true → (is_kind v.kind Reservations || false) ≡ true
    → is_same_home v.home (Some (option_map_or (λ (h : ℕ). h) v.home 0)) ≡ true
bound-home named v bound is_open_too = by_kind v.kind is_open_too bound
  where
    by_kind : (kind : SessionKind) → (is_kind kind Reservations || false) ≡ true
        → cond (is_kind kind Monitoring) (is_none v.home) (list_any (λ (n : NamedSession). is_kind kind n.kind && is_home n.home v.home) named) ≡ true
        → is_same_home v.home (Some (option_map_or (λ (h : ℕ). h) v.home 0)) ≡ true
    by_kind Jobs e b = absurd (false≢true e)
    by_kind Reservations e b = sound-home named Reservations v.home b
    by_kind Monitoring e b = absurd (false≢true e)

found-all : (P : ValidNumber → Type 0) (test : ValidNumber → Bool) (xs : List ValidNumber) → AllByRecursion P xs → IfSome (find test xs) P
found-all P test [] all = tt
found-all P test (x ∷ xs) all = elim (test x) as (λ b. IfSome (cond b (Some x) (find test xs)) P) [ true ↦ all.0 | false ↦ found-all P test xs all.1 ]

open-home : (s : Sessions) (session : SessionId) → AreSound s → is_open (Reservations ∷ []) session s ≡ true
    → is_same_home (home_in session s) (Some (option_map_or (λ (h : ℕ). h) (home_in session s) 0)) ≡ true
open-home s session sound is_open_too =
    let bound = recursion_from_All (λ (v : ValidNumber). IsTrue (is_bound s.named v)) s.valid sound.bound in
    let told : ValidNumber → SessionKind × Option ℕ = λ (v : ValidNumber). (v.kind, v.home) in
    (elim (find (λ (v : ValidNumber). eqb session.0 v.number) s.valid) as (λ (o : Option ValidNumber). IfSome o (λ (v : ValidNumber). is_bound s.named v ≡ true)
    → option_map_or (λ (kind : SessionKind). list_any (is_kind kind) (Reservations ∷ [])) (option_and_then (λ (m : SessionKind × Option ℕ). Some m.0) (option_map told o)) false ≡ true
    → is_same_home (option_and_then (λ (m : SessionKind × Option ℕ). m.1) (option_map told o)) (Some (option_map_or (λ (h : ℕ). h) (option_and_then (λ (m : SessionKind × Option ℕ). m.1) (option_map told o)) 0)) ≡ true) [
      | None ↦ λ b e. absurd (false≢true e)
      | Some v ↦ λ b e. bound-home s.named v b e
    ]) (found-all (λ (v : ValidNumber). is_bound s.named v ≡ true) (λ (v : ValidNumber). eqb session.0 v.number) s.valid bound) is_open_too

-- ---- one entry

not-false : (b : Bool) → not b ≡ false → b ≡ true
not-false true e = refl
not-false false e = absurd (false≢true (sym e))

two-free : (p q : Bool) (x y : Refusal) → p ≡ true → q ≡ true → first_refusal ((not p, x) ∷ (not q, y) ∷ []) ≡ None
two-free true true x y e f = refl
two-free true false x y e f = absurd (false≢true f)
two-free false q x y e f = absurd (false≢true e)

pub gives-same : (r s : Reply) (w u : World) → gives r w ≡ gives s u → (r ≡ s) × (w ≡ u)
gives-same r s w u e = (cc, cc)

reserved-same : (x y : Reserved) → reply.Reserved x ≡ reply.Reserved y → x ≡ y
reserved-same x y e = cc

not-reserved : (why : Refusal) (x : Reserved) → reply.Refused why ≡ reply.Reserved x → ⊥
not-reserved why x e = cc

pub served-step : (old new : Ledger) (e : Entry) → new ≡ served old e → IsLegalLedger new → IsStep (now_of old) e (now_of new)
served-step old new e made legal =
    subst (λ (l : Ledger). IsLegalLedger l → IsStep (now_of old) e (now_of l)) (sym made) (legal-last old.config old.history e) legal

-- time has come to the entry's moment
came : (old new : Ledger) (e : Entry) → IsLegalLedger old → IsStep (now_of old) e (now_of new) → e.at ≤ (now_of new).plan.moment
came old new e legal step =
    let m = step-moment (now_of old) e (now_of new) (legal-consistent old.config old.history legal) step in
    omega arith

-- and does nothing more there
pub settled : (at : ℕ) (ledger : Ledger) → IsLegalLedger ledger → at ≤ (now_of ledger).plan.moment → reservations_at at ledger ≡ (now_of ledger).plan.reservations
settled at ledger legal early = ap (λ (p : Plan). p.reservations) (legal-still ledger.config ledger.history ((now_of ledger).entries + 1) at legal early)

-- ---- a request that is accepted

-- the reservation that is accepted, and the world then
abbrev pub acceptance : Asker → World → ReservationTemplate → Accepted
acceptance a v t = accepted_at (home_number a.session v) t v.plan (chosen_start t v.plan)

abbrev pub accepted_world : Asker → World → ReservationTemplate → World
accepted_world a v t = counted (record v { plan = with_reservation (acceptance a v t) v.plan })

record IsGranted (a : Asker) (v : World) (t : ReservationTemplate) (given : Reserved) (next : World) : Type 0 where
  free : refusal v (asking a t) ≡ None
  given_is : given ≡ reserved_as (acceptance a v t)
  next_is : next ≡ accepted_world a v t

is-granted : (a : Asker) (v : World) (t : ReservationTemplate) (given : Reserved) (next : World) → answer_now a.at v (asking a t) ≡ gives (reply.Reserved given) next → IsGranted a v t given next
is-granted a v t given next answered =
    (elim (refusal v (asking a t)) as (λ o. refusal v (asking a t) ≡ o → IsGranted a v t given next) [
      | Some why ↦ λ e. absurd (not-reserved why given (gives-same (reply.Refused why) (reply.Reserved given) (counted v) next (sym (refused-gives a.at v (asking a t) why e) ∙ answered)).0)
      | None ↦ λ e.
          (let same = gives-same (reply.Reserved (reserved_as (acceptance a v t))) (reply.Reserved given) (accepted_world a v t) next (sym (served-gives a.at v (asking a t) e) ∙ answered) in
          record { free = e; given_is = sym (reserved-same _ _ same.0); next_is = sym same.1 })
    ]) refl

abbrev IsHomed : Asker → List Accepted → Sessions → Type 0
IsHomed a own s = AllByRecursion (λ (x : Accepted). is_same_home (home_in a.session s) x.home ≡ true) own

abbrev IsOpened : Asker → Sessions → Type 0
IsOpened a s = is_open (Reservations ∷ []) a.session s ≡ true

pub grant-holds : (a : Asker) (base : List Accepted) (numbers : List ℕ) (t : ReservationTemplate) (number : ℕ) (old new : Ledger) → IsLegalLedger old → IsLegalLedger new
    → Grants a t old number new → Holds a base numbers old → Holds a base (numbers ++ number ∷ []) new × HasCome a old new
grant-holds a base numbers t number old new before legal grants holds =
    let w = now_of old in
    let v = advance w a.at in
    let e = granted a (record { asked = t; given = grants.given }) in
    let step = served-step old new e grants.made legal in
    let is = is-granted a v t grants.given (now_of new) step.answered in
    let x = acceptance a v t in
    let here = came old new e before step in
    let sessions : (now_of new).sessions ≡ w.sessions = ap (λ (u : World). u.sessions) is.next_is in
    let free = no_test (session_test (Reservations ∷ []) a.session v) (request_tests t v.plan) is.free in
    let is_open_too : IsOpened a w.sessions = not-false _ free.0 in
    let sound = (legal-consistent old.config old.history before).sessions in
    let told : number ≡ reservation_number x = grants.number_is ∙ ap (λ (g : Reserved). g.reservation.0) is.given_is in (
      record {
        own = holds.own ++ x ∷ [];
        accepted = settled a.at new legal here ∙ ap (λ (u : World). u.plan.reservations) is.next_is
            ∙ ap (λ (rs : List Accepted). rs ++ x ∷ []) holds.accepted ∙ append_assoc base holds.own (x ∷ []);
        numbered = map-append reservation_number holds.own (x ∷ []) ∙ ap (λ (ns : List ℕ). ns ++ reservation_number x ∷ []) holds.numbered
            ∙ ap (λ (n : ℕ). numbers ++ n ∷ []) (sym told);
        homed = subst (IsHomed a (holds.own ++ x ∷ [])) (sym sessions)
            (all-push (λ (y : Accepted). is_same_home (home_in a.session w.sessions) y.home ≡ true) holds.own x holds.homed (open-home w.sessions a.session sound is_open_too));
        opened = λ some. subst (IsOpened a) (sym sessions) is_open_too;
      },
      inr here,
    )

-- ---- a request that is not

-- no entry, no change
no-entries : (old new : Ledger) (refused : List Entry) → refused ≡ [] → new ≡ with_entries old refused → new ≡ old
no-entries old new refused none made =
    made ∙ ap (with_entries old) none ∙ ap (λ (h : List Entry). record old { history = h }) (append-nil old.history)

pub deny-holds : (a : Asker) (base : List Accepted) (numbers : List ℕ) (t : ReservationTemplate) (reason : Refusal) (old new : Ledger) → IsLegalLedger old → IsLegalLedger new
    → Denies a t old reason new → Holds a base numbers old → Holds a base numbers new × HasCome a old new
deny-holds a base numbers t reason old new before legal denies holds = by_cause denies.refused denies.cause denies.made
  where
    same : new ≡ old → Holds a base numbers new × HasCome a old new
    same is = (subst (Holds a base numbers) (sym is) holds, inl is)

    by_cause : (refused : List Entry) → IsDenied a (now_of old) t reason refused → new ≡ with_entries old refused → Holds a base numbers new × HasCome a old new
    by_cause refused (by_memory is none made_none) made = same (no-entries old new refused made_none made)
    by_cause refused (by_size n is none made_none) made = same (no-entries old new refused made_none made)
    by_cause refused (by_entry is answers entry_is) made =
        let w = now_of old in
        let v = advance w a.at in
        let e = entry_of a (asking a t) (reply.Refused reason) in
        let step = served-step old new e (made ∙ ap (with_entries old) entry_is) legal in
        let here = came old new e before step in
        let next : now_of new ≡ counted v = sym (gives-same (reply.Refused reason) (reply.Refused reason) (counted v) (now_of new) (sym (refused-gives a.at v (asking a t) reason is) ∙ step.answered)).1 in
        let sessions : (now_of new).sessions ≡ w.sessions = ap (λ (u : World). u.sessions) next in (
          record {
            own = holds.own;
            accepted = settled a.at new legal here ∙ ap (λ (u : World). u.plan.reservations) next ∙ holds.accepted;
            numbered = holds.numbered;
            homed = subst (IsHomed a holds.own) (sym sessions) holds.homed;
            opened = λ some. subst (IsOpened a) (sym sessions) (holds.opened some);
          },
          inr here,
        )

-- ---- an end

abbrev ended_world : World → ℕ → World
ended_world v number = counted (record v { plan = call_in (expire (v.entries + 1) (without_reservation (record { 0 = number }) v.plan)) })

record IsEnded (a : Asker) (v : World) (number : ℕ) (told : Reply) (next : World) : Type 0 where
  told_is : told ≡ reply.Unit
  next_is : next ≡ ended_world v number

is-ended : (a : Asker) (v : World) (number : ℕ) (told : Reply) (next : World) → refusal v (ending a number) ≡ None → answer_now a.at v (ending a number) ≡ gives told next → IsEnded a v number told next
is-ended a v number told next free answered =
    let same = gives-same reply.Unit told (ended_world v number) next (sym (served-gives a.at v (ending a number) free) ∙ answered) in
    record { told_is = sym same.0; next_is = sym same.1 }

pushed-some : (xs : List ℕ) (y : ℕ) → xs ++ y ∷ [] ≡ [] → ⊥
pushed-some [] y e = cc
pushed-some (x ∷ xs) y e = cc

pub end-holds : (a : Asker) (base : List Accepted) (front : List ℕ) (last : ℕ) (old new : Ledger) → IsLegalLedger old → IsLegalLedger new
    → Ends a last old new → Holds a base (front ++ last ∷ []) old → (new ≡ served old (ended a last)) × Holds a base front new × HasCome a old new
end-holds a base front last old new before legal ends holds =
    let w = now_of old in
    let v = advance w a.at in
    let e = entry_of a (ending a last) ends.told in
    let step = served-step old new e ends.made legal in
    let here = came old new e before step in
    let mine : Accepted → Bool = is_own_reservation a.session v in
    let test : Accepted → Bool = λ (x : Accepted). eqb x.reservation.0 last in
    let parts = unsnoc holds.own front last holds.numbered in
    let all : v.plan.reservations ≡ (base ++ parts.init) ++ parts.final ∷ [] =
    holds.accepted ∙ ap (λ (own : List Accepted). base ++ own) parts.split ∙ sym (append_assoc base parts.init (parts.final ∷ [])) in
    let homed = all-last (λ (x : Accepted). mine x ≡ true) parts.init parts.final (subst (AllByRecursion (λ (x : Accepted). mine x ≡ true)) parts.split holds.homed) in
    let is_open_too = holds.opened (pushed-some front last) in
    let found : list_any test (filter mine v.plan.reservations) ≡ true =
    subst (λ (rs : List Accepted). list_any test (filter mine rs) ≡ true) (sym all) (found-last test mine (base ++ parts.init) parts.final homed.1 (eq-eqb parts.final.reservation.0 last parts.last_is)) in
    let is = is-ended a v last ends.told (now_of new) (two-free _ _ _ _ is_open_too found) step.answered in
    let sessions : (now_of new).sessions ≡ w.sessions = ap (λ (u : World). u.sessions) is.next_is in
    let rising = (advance-consistent w a.at (legal-consistent old.config old.history before)).fit.accepted.rising in
    let below = rising-last (base ++ parts.init) parts.final (subst (IsRising reservation_number) all rising) in
    let left : filter (is_other (record { 0 = last })) v.plan.reservations ≡ base ++ parts.init =
    ap (filter (is_other (record { 0 = last }))) all
    ∙ without-last (base ++ parts.init) parts.final last parts.last_is (subst (λ (n : ℕ). AllByRecursion (λ (x : Accepted). reservation_number x < n) (base ++ parts.init)) parts.last_is below) in (
      ends.made ∙ ap (λ (r : Reply). served old (entry_of a (ending a last) r)) is.told_is,
      record {
        own = parts.init;
        accepted = settled a.at new legal here ∙ ap (λ (u : World). u.plan.reservations) is.next_is ∙ left;
        numbered = parts.front_is;
        homed = subst (IsHomed a parts.init) (sym sessions) homed.0;
        opened = λ some. subst (IsOpened a) (sym sessions) is_open_too;
      },
      inr here,
    )
