-- Laws of answers: a refusal is the first of its table, and the reply to a call is of the call's own kind.
use Rattle.std.proofs.Common.{◌≡◌, ℕ, ◌+◌, Bool, true, false, cond, eqb, not, ◌||◌, inl, inr, List, [], ◌∷◌, ◌++◌, filter, find, Option, Some, None, refl, sym, ap, subst}
use Rattle.std.specs.Prelude.{is_some}
use Rattle.std.specs.List.{list_any}
use Rattle.std.specs.Option.{option_map_or}
use Rattle.std.proofs.lemmas.Bool.{not-false}
use Rattle.drmaa_types.specs.Refusals.{first_refusal}
use Rattle.drmaa_types.specs.declared.identifiers.JobId.{JobId}
use Rattle.drmaa_types.specs.declared.identifiers.ReservationId.{ReservationId}
use Rattle.drmaa_types.specs.declared.identifiers.SessionId.{SessionId}
use Rattle.drmaa_types.specs.declared.refusals.Refusal.{Refusal}
use Rattle.drmaa_types.specs.declared.moments.Timeout.{Timeout}
use Rattle.drmaa_types.specs.declared.states.WaitKind.{WaitKind}
use Rattle.drmaa_model.specs.Waiting.{first_reached, is_timed_out}
use Rattle.drmaa_types.specs.declared.sessions.SessionKind.TheVariants.{Jobs, Reservations, Monitoring}
use Rattle.drmaa_model.specs.declared.calls.Call.{Call}
use Rattle.drmaa_model.specs.declared.calls.Call.TheVariants as call
use Rattle.drmaa_model.specs.declared.replies.Launch.{Launch}
use Rattle.drmaa_model.specs.declared.replies.Reply.{Reply}
use Rattle.drmaa_model.specs.declared.replies.Reply.TheVariants as reply
use Rattle.drmaa_model.specs.declared.replies.Signal.{Signal}
use Rattle.drmaa_model.specs.declared.reservations.Accepted.{Accepted}
use Rattle.drmaa_model.specs.declared.rows.Row.{Row}
use Rattle.drmaa_model.specs.Effects.{StepAnswer, gives, nothing, not_yet, makes, effect, through_some, info_reply, reservation_reply, wait_answer}
use Rattle.drmaa_model.specs.Homes.{is_monitor, session_test, seen_test, reservation_test, own_rows, own_reservations, is_own, is_own_reservation}
use Rattle.drmaa_model.specs.Infos.{info, reservation_info}
use Rattle.drmaa_model.specs.Launching.{launch, signal}
use Rattle.drmaa_model.specs.Load.{reservation_of}
use Rattle.drmaa_model.specs.Operation.{Operation}
use Rattle.drmaa_model.specs.OperationLaws.{no_test}
use Rattle.drmaa_model.specs.Refusals.{refusal}
use Rattle.drmaa_model.specs.ReplyKinds.{kind_of_reply, kind_of_call, an_info, a_reservation, a_launch, a_signal, IsReplyOf}
use Rattle.drmaa_model.specs.Rows.{is_of, row_of}
use Rattle.drmaa_model.specs.Steps.{answer, answer_now}
use Rattle.drmaa_model.specs.Time.{advance}
use Rattle.drmaa_model.specs.World.{World}

-- ---- a call comes to its refusal, or to its effect

pub refused-gives : (at : ℕ) (w : World) (c : Call) (why : Refusal) → refusal w c ≡ Some why → answer_now at w c ≡ makes (reply.Refused why) w
refused-gives at w c why is = ap (λ (o : Option Refusal). option_map_or (λ (r : Refusal). makes (reply.Refused r) w) o (effect at w c)) is

pub served-gives : (at : ℕ) (w : World) (c : Call) → refusal w c ≡ None → answer_now at w c ≡ effect at w c
served-gives at w c is = ap (λ (o : Option Refusal). option_map_or (λ (r : Refusal). makes (reply.Refused r) w) o (effect at w c)) is

-- an answer that makes an entry has one reply, and leads to one world
pub given-reply : (r s : Reply) (v w : World) → gives r v ≡ gives s w → r ≡ s
given-reply r s v w same = cc

pub given-world : (r s : Reply) (v w : World) → gives r v ≡ gives s w → v ≡ w
given-world r s v w same = cc

-- what is true of a refusal and of an effect that is not refused is true of the answer
pub answer-cases : (at : ℕ) (w : World) (c : Call) (P : StepAnswer → Type 0) → ((why : Refusal) → refusal w c ≡ Some why → P (makes (reply.Refused why) w))
    → (refusal w c ≡ None → P (effect at w c)) → P (answer_now at w c)
answer-cases at w c P refused served =
    (elim (refusal w c) as (λ o. refusal w c ≡ o → P (option_map_or (λ (r : Refusal). makes (reply.Refused r) w) o (effect at w c))) [
      | None ↦ λ is. served is
      | Some why ↦ λ is. refused why is
    ]) refl

-- what is true where an operation finds nothing, and of each thing that it finds, is true of its answer
pub some-cases : {A : Type 0} (P : StepAnswer → Type 0) (tell : A → Reply) (op : Operation (Option A)) (w : World) → P nothing
    → ((told : A) → P (makes (tell told) (record w { plan = op.effect (w.entries + 1) w.plan }))) → P (through_some tell op w)
some-cases P tell op w none each =
    elim (op.told w.plan) as (λ o. P (option_map_or (λ told. makes (tell told) (record w { plan = op.effect (w.entries + 1) w.plan })) o nothing)) [
      | None ↦ none
      | Some told ↦ each told
    ]

-- ---- the kinds of replies

-- where an answer makes an entry, its reply is of the call's own kind, or a refusal
Tells : Call → StepAnswer → Type 0
Tells c (gives r next) = IsReplyOf c r
Tells c nothing = Unit {0}
Tells c not_yet = Unit {0}

tells-wait : (session : SessionId) (listed : List ℕ) (kind : WaitKind) (begun : ℕ) (timeout : Timeout) (first : Option ℕ) (over : Bool) (w : World)
    → Tells (call.Wait session listed kind begun timeout) (wait_answer first over w)
unfolding Tells
tells-wait session listed kind begun timeout None true w = inl refl
tells-wait session listed kind begun timeout None false w = tt
tells-wait session listed kind begun timeout (Some job) over w = inr refl

-- neither of two tests refuses
second-free : (first second : Bool × Refusal) → first_refusal (first ∷ second ∷ []) ≡ None → second.0 ≡ false
second-free first second none = (no_test second [] (no_test first (second ∷ []) none).1).0

-- one that is there is found
any-found : {X : Type 0} (test : X → Bool) (xs : List X) → list_any test xs ≡ true → is_some (find test xs) ≡ true
any-found test [] h = absurd (cc)
any-found test (x ∷ xs) h =
    (elim (test x) as (λ b. (b || list_any test xs) ≡ true → is_some (cond b (Some x) (find test xs)) ≡ true) [
      | true ↦ λ e. refl
      | false ↦ λ e. any-found test xs e
    ]) h

-- one that is there beside others is there
any-filter : {X : Type 0} (test keep : X → Bool) (xs : List X) → list_any test (filter keep xs) ≡ true → list_any test xs ≡ true
any-filter test keep [] h = absurd (cc)
any-filter test keep (x ∷ xs) h =
    (elim (keep x) as (λ b. list_any test (cond b (x ∷ filter keep xs) (filter keep xs)) ≡ true → (test x || list_any test xs) ≡ true) [
      | true ↦
          (elim (test x) as (λ t. (t || list_any test (filter keep xs)) ≡ true → (t || list_any test xs) ≡ true) [
            | true ↦ λ e. refl
            | false ↦ λ e. any-filter test keep xs e
          ])
      | false ↦ λ e.
          (elim (test x) as (λ t. (t || list_any test xs) ≡ true) [
            | true ↦ refl
            | false ↦ any-filter test keep xs e
          ])
    ]) h

-- a job that may be seen is kept
seen-kept : (session : SessionId) (job : JobId) (w : World) → (seen_test session job w).0 ≡ false → is_some (row_of job w.plan.rows) ≡ true
seen-kept session job w free =
    (elim (is_monitor session w) as (λ b. cond b (not (list_any (is_of job) w.plan.rows)) (not (list_any (is_of job) (own_rows session w))) ≡ false → is_some (row_of job w.plan.rows) ≡ true) [
      | true ↦ λ e. any-found (is_of job) w.plan.rows (not-false (list_any (is_of job) w.plan.rows) e)
      | false ↦ λ e. any-found (is_of job) w.plan.rows (any-filter (is_of job) (is_own session w) w.plan.rows (not-false (list_any (is_of job) (own_rows session w)) e))
    ]) free

tells-info : (w : World) (job : JobId) → is_some (row_of job w.plan.rows) ≡ true → kind_of_reply (info_reply w job) ≡ an_info
tells-info w job there =
    (elim (row_of job w.plan.rows) as (λ o. is_some o ≡ true → kind_of_reply (option_map_or (λ (row : Row). reply.Info (info w row)) o reply.Unit) ≡ an_info) [
      | None ↦ λ e. absurd (cc)
      | Some row ↦ λ e. refl
    ]) there

tells-reservation : (w : World) (number : ReservationId) → is_some (reservation_of number w.plan.reservations) ≡ true → kind_of_reply (reservation_reply w number) ≡ a_reservation
tells-reservation w number there =
    (elim (reservation_of number w.plan.reservations) as (λ o. is_some o ≡ true → kind_of_reply (option_map_or (λ (a : Accepted). reply.Reservation (reservation_info w a)) o reply.Unit) ≡ a_reservation) [
      | None ↦ λ e. absurd (cc)
      | Some a ↦ λ e. refl
    ]) there

own-accepted : (session : SessionId) (number : ReservationId) (w : World) → (reservation_test session number w).0 ≡ false → is_some (reservation_of number w.plan.reservations) ≡ true
own-accepted session number w free =
    let test : Accepted → Bool = λ a. eqb a.reservation.0 number.0 in
    any-found test w.plan.reservations (any-filter test (is_own_reservation session w) w.plan.reservations (not-false (list_any test (own_reservations session w)) free))

effect-tells : (at : ℕ) (w : World) (c : Call) → refusal w c ≡ None → Tells c (effect at w c)
unfolding Tells
effect-tells at w (call.GetInfo session job) free =
    inr (tells-info w job (seen-kept session job w (second-free (session_test (Jobs ∷ Monitoring ∷ []) session w) (seen_test session job w) free)))
effect-tells at w (call.Wait session listed kind begun timeout) free = tells-wait session listed kind begun timeout (first_reached kind w.plan.rows listed) (is_timed_out at begun timeout) w
effect-tells at w (call.GetReservation session number) free =
    inr (tells-reservation w number (own-accepted session number w (second-free (session_test (Reservations ∷ []) session w) (reservation_test session number w) free)))
effect-tells at w call.TakeLaunch free = some-cases (Tells call.TakeLaunch) reply.Launch launch w tt (λ told. inr refl)
effect-tells at w call.TakeSignal free = some-cases (Tells call.TakeSignal) reply.Signal signal w tt (λ told. inr refl)
effect-tells at w _ free = inr refl

-- the reply to a call is of the call's own kind, or a refusal
pub reply-kind : (w : World) (at : ℕ) (c : Call) (r : Reply) (next : World) → answer w at c ≡ gives r next → IsReplyOf c r
unfolding Tells
reply-kind w at c r next is =
    let tells : Tells c (answer w at c) = answer-cases at (advance w at) c (Tells c) (λ why e. inl refl) (effect-tells at (advance w at) c) in
    subst (Tells c) is tells

-- ---- the first refusal of a table

-- A refusal stands in the table at a test that holds, and no test before it holds.
pub record IsFirstOf (tests : List (Bool × Refusal)) (why : Refusal) : Type 0 where
  pub before : List (Bool × Refusal)
  pub after : List (Bool × Refusal)
  pub split : tests ≡ before ++ (true, why) ∷ after
  pub quiet : list_any (λ (t : Bool × Refusal). t.0) before ≡ false

pub first-of : (tests : List (Bool × Refusal)) (why : Refusal) → first_refusal tests ≡ Some why → IsFirstOf tests why
first-of [] why is = absurd (cc)
first-of ((b, r) ∷ ts) why is =
    (elim b as (λ c. cond c (Some r) (first_refusal ts) ≡ Some why → IsFirstOf ((c, r) ∷ ts) why) [
      | true ↦ λ e.
          (let same : r ≡ why = cc in
          record { before = []; after = ts; split = ap (λ (x : Refusal). (true, x) ∷ ts) same; quiet = refl })
      | false ↦ λ e.
          (let rest = first-of ts why e in
          record { before = (false, r) ∷ rest.before; after = rest.after; split = ap (λ (x : List (Bool × Refusal)). (false, r) ∷ x) rest.split; quiet = rest.quiet })
    ]) is

-- where no refusal comes, no test holds
pub none-holds : (tests : List (Bool × Refusal)) → first_refusal tests ≡ None → list_any (λ (t : Bool × Refusal). t.0) tests ≡ false
none-holds [] is = refl
none-holds ((b, r) ∷ ts) is =
    (elim b as (λ c. cond c (Some r) (first_refusal ts) ≡ None → (c || list_any (λ (t : Bool × Refusal). t.0) ts) ≡ false) [
      | true ↦ λ e. absurd (cc)
      | false ↦ λ e. none-holds ts e
    ]) is

-- ---- who is handed what

only-launch : (c : Call) → kind_of_call c ≡ a_launch → c ≡ call.TakeLaunch
only-launch call.TakeLaunch is = refl
only-launch _ is = absurd (cc)

only-signal : (c : Call) → kind_of_call c ≡ a_signal → c ≡ call.TakeSignal
only-signal call.TakeSignal is = refl
only-signal _ is = absurd (cc)

-- only TakeLaunch is answered a launch
pub launch-of-launch : (c : Call) (l : Launch) → IsReplyOf c (reply.Launch l) → c ≡ call.TakeLaunch
launch-of-launch c l is = elim is [ inl e ↦ absurd (cc) | inr e ↦ only-launch c (sym e) ]

-- only TakeSignal is answered a signal
pub signal-of-signal : (c : Call) (s : Signal) → IsReplyOf c (reply.Signal s) → c ≡ call.TakeSignal
signal-of-signal c s is = elim is [ inl e ↦ absurd (cc) | inr e ↦ only-signal c (sym e) ]
