-- An operation of the core, after its occasion was found.
use Rattle.std.proofs.Common.{◌≡◌, ℕ, ◌+◌, ◌≤◌, true, inl, inr, ap, subst, arith}
use Rattle.std.specs.Prelude.{◌⊎◌, Result, Ok, Err, OnOk, vec_len, vec_capacity}
use Rattle.drmaa_types.specs.declared.refusals.Refusal.{Refusal}
use Rattle.drmaa_model.specs.declared.calls.Call.{Call}
use Rattle.drmaa_model.specs.declared.faults.NoEntry.{NoEntry}
use Rattle.drmaa_model.specs.declared.replies.Reply.{Reply}
use Rattle.drmaa_model.specs.Fit.{IsFit}
use Rattle.drmaa_model.specs.Operation.{Operation, outcome}
use Rattle.drmaa_model.specs.Plan.{Plan}
use Rattle.drmaa_model.specs.World.{World}
use Rattle.plan_book.specs.declared.occasions.Occasion.{Occasion}
use Rattle.plan_book.specs.Occasions.{IsUnsized, MeetsAt}
use Rattle.scheduler_core.specs.Facts.{reports_to_come}
use Rattle.machine_readings.specs.declared.store.Store.{Store}
use Rattle.machine_readings.specs.Stores.{world_of, world_at}
use Rattle.machine_calls.specs.declared.replies.Replies.{Replies}
use Rattle.machine_calls.specs.Serving.{Comes, Concludes, HasPlace, IsNextOccasion, is_sized_first}
use Rattle.machine_calls.proofs.Through.{IsThrough, op-comes, op-unsized, op-due, op-place}

module _ {A : Type 0} (tell : A → Reply) (op : Operation A) (s mid : Store) (at : ℕ) (asked : Call) (is : IsThrough tell op at (world_at at s) asked) (o : Occasion)
    (on : IsNextOccasion o (world_of s) at) (new : Plan) (done : Result (Result A Refusal) NoEntry) (result : Result Replies NoEntry) (next : World) (same : world_of mid ≡ world_of s)
    (met : MeetsAt o op mid.core.plan done new ⊎ IsUnsized mid.core.plan done new) (ends : Concludes tell done (record (world_of mid) { plan = new }) result next) where
  met-then : MeetsAt o op s.core.plan done new ⊎ IsUnsized s.core.plan done new
  met-then = subst (λ (w : World). MeetsAt o op w.plan done new ⊎ IsUnsized w.plan done new) same met

  ends-then : Concludes tell done (record (world_of s) { plan = new }) result next
  ends-then = subst (λ (w : World). Concludes tell done (record w { plan = new }) result next) same ends

  -- where the journal's size comes first
  pub comes-after : MeetsAt o op mid.core.plan done new → Comes (world_of s) at asked result next
  comes-after sized = op-comes tell op (world_of s) at asked is o on new done result next (subst (λ (w : World). MeetsAt o op w.plan done new) same sized) ends-then

  -- where memory may come first
  pub comes-unsized : (is_sized_first asked ≡ true → ⊥) → Comes (world_of s) at asked result next
  comes-unsized unsized =
      elim met-then as (λ _. Comes (world_of s) at asked result next) [
        | inl m ↦ op-comes tell op (world_of s) at asked is o on new done result next m ends-then
        | inr u ↦ op-unsized tell op (world_of s) at asked is o on new done result next u unsized ends-then
      ]

  -- no more reports are to come
  pub due-after : ((q : Plan) → IsFit q → reports_to_come (outcome op o.entry q).plan.rows ≤ reports_to_come q.rows) → IsFit s.core.plan
      → reports_to_come new.rows ≤ reports_to_come s.core.plan.rows
  due-after less fit = op-due tell op (world_of s) at asked is o on new done met-then less fit

  pub place-after : (t : Store) → (o.has_memory ≡ true → HasPlace 1 mid) → ((q : Plan) → IsFit q → reports_to_come (outcome op o.entry q).plan.rows ≤ reports_to_come q.rows) → IsFit s.core.plan
      → vec_len t.history ≡ vec_len mid.history → vec_capacity mid.history ≤ vec_capacity t.history → t.core.plan ≡ new → OnOk result (HasPlace 1 t)
  place-after t place less fit len more core =
      (let rows = ap (λ (w : World). reports_to_come w.plan.rows) same in
      let there = op-place tell op (world_of s) at asked is o on new done result next (vec_len mid.history) (vec_capacity mid.history)
      (λ has. (let room = place has in omega (arith, room, rows))) (due-after less fit) met-then ends-then in
      let after = ap (λ (p : Plan). reports_to_come p.rows) core in
      (elim result as (λ (r : Result Replies NoEntry). OnOk r (vec_len mid.history + 1 + reports_to_come new.rows ≤ vec_capacity mid.history) → OnOk r (HasPlace 1 t)) [
        | Ok x ↦ λ h. omega (arith, h, len, more, after)
        | Err e ↦ λ h. tt
      ]) there)
