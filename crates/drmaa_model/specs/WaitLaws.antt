-- Laws of the calls that may find nothing: launches, signals and waits.
use Rattle.std.proofs.Common.{◌≡◌, ℕ, ◌+◌, true, false, List, Option, Some, None, refl, sym, ◌∙◌, ap}
use Rattle.std.specs.Option.{option_map, option_map_or}
use Rattle.drmaa_types.specs.declared.identifiers.SessionId.{SessionId}
use Rattle.drmaa_types.specs.declared.moments.Timeout.{Timeout}
use Rattle.drmaa_types.specs.declared.refusals.Refusal.TheVariants as why
use Rattle.drmaa_types.specs.declared.states.WaitKind.{WaitKind}
use Rattle.drmaa_model.specs.declared.calls.Call.TheVariants as call
use Rattle.drmaa_model.specs.declared.courses.Order.{Order}
use Rattle.drmaa_model.specs.declared.replies.Reply.{Reply}
use Rattle.drmaa_model.specs.declared.replies.Reply.TheVariants as reply
use Rattle.drmaa_model.specs.declared.rows.Row.{Row}
use Rattle.drmaa_model.specs.AnswerLaws.{given-reply, given-world, served-gives}
use Rattle.drmaa_model.specs.Effects.{gives, nothing, not_yet, makes, wait_answer}
use Rattle.drmaa_model.specs.Launching.{launch_of, launch_row, signal_of, next_signal, take_first, is_due_now}
use Rattle.drmaa_model.specs.NextLaunch.{next_launch}
use Rattle.drmaa_model.specs.Refusals.{refusal}
use Rattle.drmaa_model.specs.Steps.{answer_now}
use Rattle.drmaa_model.specs.Waiting.{first_reached, is_timed_out}
use Rattle.drmaa_model.specs.World.{World, counted}

-- ---- launches

-- A launch hands out the job that is launched next, with its slots.
pub record HandsOut (v : World) (r : Reply) (next : World) : Type 0 where
  pub row : Row
  pub slots : ℕ
  pub first : next_launch v.plan ≡ Some (row, slots)
  pub replies : r ≡ reply.Launch (launch_of row slots)
  pub world : next ≡ counted (record v { plan = launch_row (v.entries + 1) row slots v.plan })

pub launch-hands_out : (v : World) (at : ℕ) (r : Reply) (next : World) → answer_now at v call.TakeLaunch ≡ gives r next → HandsOut v r next
launch-hands_out v at r next is =
    (elim (next_launch v.plan) as (λ o. next_launch v.plan ≡ o →
    option_map_or (λ told. makes (reply.Launch told) (record v { plan = option_map_or (λ (n : Row × ℕ). launch_row (v.entries + 1) n.0 n.1 v.plan) o v.plan }))
    (option_map (λ (n : Row × ℕ). launch_of n.0 n.1) o) nothing ≡ gives r next → HandsOut v r next) [
      | None ↦ λ e same. absurd (cc)
      | Some n ↦ λ e same.
          (let world : World = counted (record v { plan = launch_row (v.entries + 1) n.0 n.1 v.plan }) in
          record {
            row = n.0;
            slots = n.1;
            first = e;
            replies = sym (given-reply (reply.Launch (launch_of n.0 n.1)) r world next same);
            world = sym (given-world (reply.Launch (launch_of n.0 n.1)) r world next same);
          })
    ]) refl is

-- There is nothing to launch exactly where no job is launched next.
pub launch-nothing : (v : World) (at : ℕ) → answer_now at v call.TakeLaunch ≡ nothing → next_launch v.plan ≡ None
launch-nothing v at is =
    (elim (next_launch v.plan) as (λ o.
    option_map_or (λ told. makes (reply.Launch told) (record v { plan = option_map_or (λ (n : Row × ℕ). launch_row (v.entries + 1) n.0 n.1 v.plan) o v.plan }))
    (option_map (λ (n : Row × ℕ). launch_of n.0 n.1) o) nothing ≡ nothing → o ≡ None) [
      | None ↦ λ same. refl
      | Some n ↦ λ same. absurd (cc)
    ]) is

pub nothing-launch : (v : World) (at : ℕ) → next_launch v.plan ≡ None → answer_now at v call.TakeLaunch ≡ nothing
nothing-launch v at is =
    ap (λ (o : Option (Row × ℕ)). option_map_or (λ told. makes (reply.Launch told) (record v { plan = option_map_or (λ (n : Row × ℕ). launch_row (v.entries + 1) n.0 n.1 v.plan) o v.plan }))
    (option_map (λ (n : Row × ℕ). launch_of n.0 n.1) o) nothing) is

-- ---- signals

-- A signal is that of the first order that can be delivered, which is then taken.
pub record SendsOut (v : World) (r : Reply) (next : World) : Type 0 where
  pub order : Order
  pub first : next_signal v.plan ≡ Some order
  pub replies : r ≡ reply.Signal (signal_of v.plan order)
  pub world : next ≡ counted (record v { plan = record v.plan { orders = take_first (is_due_now v.plan.rows) v.plan.orders } })

pub signal-sends_out : (v : World) (at : ℕ) (r : Reply) (next : World) → answer_now at v call.TakeSignal ≡ gives r next → SendsOut v r next
signal-sends_out v at r next is =
    let world : World = counted (record v { plan = record v.plan { orders = take_first (is_due_now v.plan.rows) v.plan.orders } }) in
    (elim (next_signal v.plan) as (λ o. next_signal v.plan ≡ o →
    option_map_or (λ told. makes (reply.Signal told) (record v { plan = record v.plan { orders = take_first (is_due_now v.plan.rows) v.plan.orders } }))
    (option_map (signal_of v.plan) o) nothing ≡ gives r next → SendsOut v r next) [
      | None ↦ λ e same. absurd (cc)
      | Some order ↦ λ e same. record {
        order = order;
        first = e;
        replies = sym (given-reply (reply.Signal (signal_of v.plan order)) r world next same);
        world = sym (given-world (reply.Signal (signal_of v.plan order)) r world next same);
      }
    ]) refl is

pub signal-nothing : (v : World) (at : ℕ) → answer_now at v call.TakeSignal ≡ nothing → next_signal v.plan ≡ None
signal-nothing v at is =
    (elim (next_signal v.plan) as (λ o.
    option_map_or (λ told. makes (reply.Signal told) (record v { plan = record v.plan { orders = take_first (is_due_now v.plan.rows) v.plan.orders } }))
    (option_map (signal_of v.plan) o) nothing ≡ nothing → o ≡ None) [
      | None ↦ λ same. refl
      | Some order ↦ λ same. absurd (cc)
    ]) is

pub nothing-signal : (v : World) (at : ℕ) → next_signal v.plan ≡ None → answer_now at v call.TakeSignal ≡ nothing
nothing-signal v at is =
    ap (λ (o : Option Order). option_map_or (λ told. makes (reply.Signal told) (record v { plan = record v.plan { orders = take_first (is_due_now v.plan.rows) v.plan.orders } }))
    (option_map (signal_of v.plan) o) nothing) is

-- ---- waits

module _ (v : World) (at : ℕ) (session : SessionId) (jobs : List ℕ) (kind : WaitKind) (begun : ℕ) (timeout : Timeout) (free : refusal v (call.Wait session jobs kind begun timeout) ≡ None) where
  -- A wait that is not refused answers the first listed job that has reached the state.
  pub wait-reached : (job : ℕ) → first_reached kind v.plan.rows jobs ≡ Some job → answer_now at v (call.Wait session jobs kind begun timeout) ≡ makes (reply.Reached (record { 0 = job })) v
  wait-reached job is = served-gives at v (call.Wait session jobs kind begun timeout) free ∙ ap (λ (o : Option ℕ). wait_answer o (is_timed_out at begun timeout) v) is

  -- where none has, it answers Timeout where the timeout is over
  pub wait-timeout : first_reached kind v.plan.rows jobs ≡ None → is_timed_out at begun timeout ≡ true → answer_now at v (call.Wait session jobs kind begun timeout) ≡ makes (reply.Refused why.Timeout) v
  wait-timeout is over =
      served-gives at v (call.Wait session jobs kind begun timeout) free
      ∙ ap (λ (o : Option ℕ). wait_answer o (is_timed_out at begun timeout) v) is ∙ ap (λ b. wait_answer None b v) over

  -- and else makes no entry
  pub wait-not_yet : first_reached kind v.plan.rows jobs ≡ None → is_timed_out at begun timeout ≡ false → answer_now at v (call.Wait session jobs kind begun timeout) ≡ not_yet
  wait-not_yet is going =
      served-gives at v (call.Wait session jobs kind begun timeout) free
      ∙ ap (λ (o : Option ℕ). wait_answer o (is_timed_out at begun timeout) v) is ∙ ap (λ b. wait_answer None b v) going
