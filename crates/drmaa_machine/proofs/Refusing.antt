-- Which refusals a call is answered: those of its table, and at a wait a timeout.
use Rattle.std.proofs.Common.{◌≡◌, ℕ, true, false, inl, inr, List, Some, None, refl, sym, ◌∙◌, ap, subst}
use Rattle.std.specs.Prelude.{◌⊎◌}
use Rattle.std.specs.Option.{option_map_or}
use Rattle.drmaa_types.specs.declared.identifiers.JobId.{JobId}
use Rattle.drmaa_types.specs.declared.identifiers.ReservationId.{ReservationId}
use Rattle.drmaa_types.specs.declared.identifiers.SessionId.{SessionId}
use Rattle.drmaa_types.specs.declared.moments.Timeout.{Timeout}
use Rattle.drmaa_types.specs.declared.refusals.Refusal.{Refusal}
use Rattle.drmaa_types.specs.declared.refusals.Refusal.TheVariants as why
use Rattle.drmaa_types.specs.declared.states.WaitKind.{WaitKind}
use Rattle.drmaa_model.specs.declared.calls.Call.{Call}
use Rattle.drmaa_model.specs.declared.calls.Call.TheVariants as call
use Rattle.drmaa_model.specs.declared.replies.Reply.TheVariants as reply
use Rattle.drmaa_model.specs.declared.reservations.Accepted.{Accepted}
use Rattle.drmaa_model.specs.declared.rows.Row.{Row}
use Rattle.drmaa_model.specs.AnswerLaws.{given-reply, given-world, refused-gives, served-gives, some-cases}
use Rattle.drmaa_model.specs.Effects.{StepAnswer, gives, nothing, not_yet, makes, effect, info_reply, reservation_reply, wait_answer}
use Rattle.drmaa_model.specs.Infos.{info, reservation_info}
use Rattle.drmaa_model.specs.Launching.{launch, signal}
use Rattle.drmaa_model.specs.Load.{reservation_of}
use Rattle.drmaa_model.specs.Refusals.{refusal}
use Rattle.drmaa_model.specs.ReplyKinds.{kind_of_reply, a_refusal}
use Rattle.drmaa_model.specs.Rows.{row_of}
use Rattle.drmaa_model.specs.Steps.{answer}
use Rattle.drmaa_model.specs.Time.{advance}
use Rattle.drmaa_model.specs.WaitLaws.{wait-timeout}
use Rattle.drmaa_model.specs.Waiting.{first_reached, is_timed_out}
use Rattle.drmaa_model.specs.World.{World, counted}
use Rattle.drmaa_machine.specs.Applying.{IsOver, IsRefusedFor}

same-why : (a b : Refusal) → reply.Refused a ≡ reply.Refused b → a ≡ b
same-why a b same = cc

-- ---- what a call comes to that its table does not refuse

-- it is not answered a refusal
Quiet : StepAnswer → Type 0
Quiet (gives r next) = kind_of_reply r ≡ a_refusal → ⊥
Quiet nothing = Unit {0}
Quiet not_yet = Unit {0}

quiet-never : (a : StepAnswer) (reason : Refusal) (next : World) → Quiet a → a ≡ gives (reply.Refused reason) next → ⊥
unfolding Quiet
quiet-never a reason next quiet is = (let never : kind_of_reply (reply.Refused reason) ≡ a_refusal → ⊥ = subst Quiet is quiet in never refl)

quiet-info : (w : World) (job : JobId) → kind_of_reply (info_reply w job) ≡ a_refusal → ⊥
quiet-info w job =
    elim (row_of job w.plan.rows) as (λ o. kind_of_reply (option_map_or (λ (row : Row). reply.Info (info w row)) o reply.Unit) ≡ a_refusal → ⊥) [
      | None ↦ λ e. absurd (cc)
      | Some row ↦ λ e. absurd (cc)
    ]

quiet-reservation : (w : World) (number : ReservationId) → kind_of_reply (reservation_reply w number) ≡ a_refusal → ⊥
quiet-reservation w number =
    elim (reservation_of number w.plan.reservations) as (λ o. kind_of_reply (option_map_or (λ (a : Accepted). reply.Reservation (reservation_info w a)) o reply.Unit) ≡ a_refusal → ⊥) [
      | None ↦ λ e. absurd (cc)
      | Some a ↦ λ e. absurd (cc)
    ]

record IsWait (c : Call) : Type 0 where
  session : SessionId
  listed : List ℕ
  kind : WaitKind
  begun : ℕ
  timeout : Timeout
  is : c ≡ call.Wait session listed kind begun timeout

effect-quiet : (at : ℕ) (w : World) (c : Call) → Quiet (effect at w c) ⊎ IsWait c
unfolding Quiet
effect-quiet at w (call.GetInfo session job) = inl (quiet-info w job)
effect-quiet at w (call.Wait session listed kind begun timeout) = inr (record { session = session; listed = listed; kind = kind; begun = begun; timeout = timeout; is = refl })
effect-quiet at w (call.GetReservation session number) = inl (quiet-reservation w number)
effect-quiet at w call.TakeLaunch = inl (some-cases Quiet reply.Launch launch w tt (λ told e. absurd (cc)))
effect-quiet at w call.TakeSignal = inl (some-cases Quiet reply.Signal signal w tt (λ told e. absurd (cc)))
effect-quiet at w _ = inl (λ e. absurd (cc))

-- ---- a refusal

module _ (w : World) (at : ℕ) (c : Call) (reason : Refusal) (next : World) where
  For : Type 0
  For = IsRefusedFor w at c reason × (next ≡ counted (advance w at))

  by-table : (r : Refusal) → refusal (advance w at) c ≡ Some r → answer w at c ≡ gives (reply.Refused reason) next → For
  unfolding For
  by-table r is answered =
      let same : gives (reply.Refused r) (counted (advance w at)) ≡ gives (reply.Refused reason) next = sym (refused-gives at (advance w at) c r is) ∙ answered in (
        inl (is ∙ ap Some (same-why r reason (given-reply (reply.Refused r) (reply.Refused reason) (counted (advance w at)) next same))),
        sym (given-world (reply.Refused r) (reply.Refused reason) (counted (advance w at)) next same),
      )

  reached-never : (job : ℕ) (v : World) → gives (reply.Reached (record { 0 = job })) v ≡ gives (reply.Refused reason) next → ⊥
  reached-never job v same = (let e = given-reply (reply.Reached (record { 0 = job })) (reply.Refused reason) v next same in absurd (cc))

  by-wait : (x : IsWait c) → refusal (advance w at) c ≡ None → effect at (advance w at) c ≡ gives (reply.Refused reason) next → For
  unfolding For
  by-wait x free answered =
      let v = advance w at in
      (elim (first_reached x.kind v.plan.rows x.listed) as (λ o. first_reached x.kind v.plan.rows x.listed ≡ o
      → wait_answer o (is_timed_out at x.begun x.timeout) v ≡ gives (reply.Refused reason) next → IsRefusedFor w at c reason × (next ≡ counted v)) [
        | None ↦ λ far.
            (elim (is_timed_out at x.begun x.timeout) as (λ b. is_timed_out at x.begun x.timeout ≡ b
            → wait_answer None b v ≡ gives (reply.Refused reason) next → IsRefusedFor w at c reason × (next ≡ counted v)) [
              | true ↦ λ over same. (
                inr (
                  sym (same-why why.Timeout reason (given-reply (reply.Refused why.Timeout) (reply.Refused reason) (counted v) next same)),
                  record {
                    session = x.session;
                    listed = x.listed;
                    kind = x.kind;
                    begun = x.begun;
                    timeout = x.timeout;
                    waits = x.is;
                    valid = free;
                    unreached = far;
                    over = over;
                  },
                ),
                sym (given-world (reply.Refused why.Timeout) (reply.Refused reason) (counted v) next same),
              )
              | false ↦ λ over same. absurd (cc)
            ]) refl
        | Some job ↦ λ there same. absurd (reached-never job (counted v) same)
      ]) refl (ap (effect at v) (sym x.is) ∙ answered)

  by-effect : refusal (advance w at) c ≡ None → answer w at c ≡ gives (reply.Refused reason) next → For
  by-effect free answered =
      let served : effect at (advance w at) c ≡ gives (reply.Refused reason) next = sym (served-gives at (advance w at) c free) ∙ answered in
      elim (effect-quiet at (advance w at) c) as (λ _. For) [
        | inl quiet ↦ absurd (quiet-never (effect at (advance w at) c) reason next quiet served)
        | inr x ↦ by-wait x free served
      ]

  -- a refusal that is answered is that of the table, or a timeout, and changes nothing but time
  pub refused-for : answer w at c ≡ gives (reply.Refused reason) next → IsRefusedFor w at c reason × (next ≡ counted (advance w at))
  unfolding For
  refused-for answered =
      (elim (refusal (advance w at) c) as (λ o. refusal (advance w at) c ≡ o → For) [
        | None ↦ λ free. by-effect free answered
        | Some r ↦ λ is. by-table r is answered
      ]) refl

-- a wait whose timeout is over is answered so
pub over-answer : (w : World) (at : ℕ) (c : Call) → IsOver w at c → answer w at c ≡ makes (reply.Refused why.Timeout) (advance w at)
over-answer w at c x =
    let v = advance w at in
    let free : refusal v (call.Wait x.session x.listed x.kind x.begun x.timeout) ≡ None = ap (refusal v) (sym x.waits) ∙ x.valid in
    ap (answer w at) x.waits ∙ wait-timeout v at x.session x.listed x.kind x.begun x.timeout free x.unreached x.over
