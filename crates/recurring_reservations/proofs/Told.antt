-- What the machine's answer to a request tells.
use Rattle.std.proofs.Common.{◌≡◌, ℕ, [], ◌∷◌, Some, None, Result, Ok, Err, IfOk, IfErr, refl, sym, ap, subst, ◌∙◌, inl, inr}
use Rattle.std.specs.Prelude.{◌⊎◌}
use Rattle.drmaa_types.specs.declared.infos.Reserved.{Reserved}
use Rattle.drmaa_types.specs.declared.refusals.Refusal.{Refusal}
use Rattle.job_template.specs.declared.templates.ReservationTemplate.{ReservationTemplate}
use Rattle.drmaa_model.specs.declared.faults.NoEntry.{NoEntry}
use Rattle.drmaa_model.specs.declared.faults.NoEntry.TheVariants as fault
use Rattle.drmaa_model.specs.declared.replies.Reply.{Reply}
use Rattle.drmaa_model.specs.declared.replies.Reply.TheVariants as reply
use Rattle.drmaa_model.specs.AnswerLaws.{refused-gives, served-gives}
use Rattle.drmaa_model.specs.Effects.{StepAnswer, gives, not_yet, nothing}
use Rattle.drmaa_model.specs.Faults.{refusal_for}
use Rattle.drmaa_model.specs.History.{Ledger, now_of}
use Rattle.drmaa_model.specs.Refusals.{refusal}
use Rattle.drmaa_model.specs.Steps.{answer_now, IsStep}
use Rattle.drmaa_model.specs.Time.{advance}
use Rattle.drmaa_model.specs.World.{World, counted}
use Rattle.drmaa_machine.specs.Applying.{served}
use Rattle.drmaa_machine.specs.Chronicles.{MakesNone}
use Rattle.recurring_reservations.specs.declared.requests.Asker.{Asker}
use Rattle.recurring_reservations.proofs.HoldLaws.{gives-same, acceptance, accepted_world}
use Rattle.recurring_reservations.specs.Requests.{asking, entry_of, by_entry, by_memory, by_size}
use Rattle.recurring_reservations.proofs.RequestLaws.{with-none}
use Rattle.recurring_reservations.specs.Steps.{Grants, Denies}
use Rattle.drmaa_model.specs.Requests.{reserved_as}
use Rattle.recurring_reservations.proofs.AnswerLaws.{refusal-answers}

-- ---- a reply

abbrev IsTold : Asker → World → ReservationTemplate → Reply → Type 0
IsTold a v t told = ((given : Reserved) × (told ≡ reply.Reserved given)) ⊎ ((reason : Refusal) × (refusal v (asking a t) ≡ Some reason) × (told ≡ reply.Refused reason))

told-is : (a : Asker) (v : World) (t : ReservationTemplate) (told : Reply) (next : World) → answer_now a.at v (asking a t) ≡ gives told next → IsTold a v t told
told-is a v t told next answered =
    (elim (refusal v (asking a t)) as (λ o. refusal v (asking a t) ≡ o → IsTold a v t told) [
      | Some reason ↦ λ e. inr (reason, e, sym (gives-same (reply.Refused reason) told (counted v) next (sym (refused-gives a.at v (asking a t) reason e) ∙ answered)).0)
      | None ↦ λ e. inl (reserved_as (acceptance a v t), sym (gives-same (reply.Reserved (reserved_as (acceptance a v t))) told (accepted_world a v t) next (sym (served-gives a.at v (asking a t) e) ∙ answered)).0)
    ]) refl

-- what the answer tells, which is the number or the refusal in the reply
pub record Tells (a : Asker) (t : ReservationTemplate) (old : Ledger) (result : Result ℕ Refusal) (new : Ledger) : Type 0 where
  pub ok : IfOk result (λ number. Grants a t old number new)
  pub err : IfErr result (λ reason. Denies a t old reason new)

pub tells : (a : Asker) (t : ReservationTemplate) (old new : Ledger) (told : Reply) (result : Result ℕ Refusal) → IsStep (now_of old) (entry_of a (asking a t) told) (now_of new) → new ≡ served old (entry_of a (asking a t) told)
    → ((given : Reserved) → told ≡ reply.Reserved given → result ≡ Ok given.reservation.0) → ((reason : Refusal) → told ≡ reply.Refused reason → result ≡ Err reason) → Tells a t old result new
tells a t old new told result step made reserved refused =
    elim (told-is a (advance (now_of old) a.at) t told (now_of new) step.answered) as (λ _. Tells a t old result new) [
      | inl (given, is) ↦
          subst (λ (r : Result ℕ Refusal). Tells a t old r new) (sym (reserved given is))
          (record { ok = record { given = given; number_is = refl; made = made ∙ ap (λ (r : Reply). served old (entry_of a (asking a t) r)) is }; err = tt })
      | inr (reason, why_so, is) ↦
          subst (λ (r : Result ℕ Refusal). Tells a t old r new) (sym (refused reason is))
          (record { ok = tt; err = record { refused = entry_of a (asking a t) (reply.Refused reason) ∷ []; cause = by_entry why_so (refusal-answers a (advance (now_of old) a.at) t reason why_so) refl; made = made ∙ ap (λ (r : Reply). served old (entry_of a (asking a t) r)) is } })
    ]

-- ---- no reply

-- a request waits for nothing, and nothing has to be found for it
always-answered : (a : Asker) (v : World) (t : ReservationTemplate) (other : StepAnswer) → ((r : Reply) (w : World) → gives r w ≡ other → ⊥) → answer_now a.at v (asking a t) ≡ other → ⊥
always-answered a v t other apart is =
    (elim (refusal v (asking a t)) as (λ o. refusal v (asking a t) ≡ o → ⊥) [
      | Some reason ↦ λ e. apart (reply.Refused reason) (counted v) (sym (refused-gives a.at v (asking a t) reason e) ∙ is)
      | None ↦ λ e. apart (reply.Reserved (reserved_as (acceptance a v t))) (accepted_world a v t) (sym (served-gives a.at v (asking a t) e) ∙ is)
    ]) refl

not-waiting : (r : Reply) (w : World) → gives r w ≡ not_yet → ⊥
not-waiting r w e = cc

not-nothing : (r : Reply) (w : World) → gives r w ≡ nothing → ⊥
not-nothing r w e = cc

pub unanswered : (a : Asker) (t : ReservationTemplate) (old new : Ledger) (f : NoEntry) (reason : Refusal) → MakesNone (now_of old) a.at (asking a t) f → new ≡ old
    → reason ≡ refusal_for f → Denies a t old reason new
unanswered a t old new fault.OutOfMemory reason none same stands = record { refused = []; cause = by_memory stands none refl; made = same ∙ sym (with-none old) }
unanswered a t old new fault.NotYet reason none same stands = absurd (always-answered a (advance (now_of old) a.at) t not_yet not-waiting none.cause)
unanswered a t old new fault.Nothing reason none same stands = absurd (always-answered a (advance (now_of old) a.at) t nothing not-nothing none.cause)
unanswered a t old new (fault.Journal n) reason none same stands = record { refused = []; cause = by_size n stands none refl; made = same ∙ sym (with-none old) }
