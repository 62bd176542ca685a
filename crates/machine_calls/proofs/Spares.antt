-- How much of the memory that was taken ahead a call uses.
use Rattle.std.proofs.Common.{◌≡◌, ◌+◌, ◌≤◌, sym, ap, subst, arith}
use Rattle.std.specs.Prelude.{Result, Ok, Err, OnErr, vec_len, vec_capacity}
use Rattle.drmaa_types.specs.declared.refusals.Refusal.{Refusal}
use Rattle.drmaa_model.specs.declared.faults.NoEntry.{NoEntry}
use Rattle.drmaa_model.specs.declared.replies.Reply.{Reply}
use Rattle.drmaa_model.specs.World.{World}
use Rattle.scheduler_core.specs.Facts.{reports_to_come}
use Rattle.scheduler_core.specs.View.{View}
use Rattle.machine_readings.specs.declared.store.Store.{Store}
use Rattle.machine_readings.specs.Stores.{IsStore}
use Rattle.machine_calls.specs.declared.replies.Replies.{Replies}
use Rattle.machine_calls.specs.Serving.{Concludes, Keeps, left_of, spare_of}

module _ (s t : Store) (len : vec_len t.history ≡ vec_len s.history) (more : vec_capacity s.history ≤ vec_capacity t.history) where
  -- one that uses a change too uses one in all
  pub uses-one : reports_to_come t.core.plan.rows ≤ reports_to_come s.core.plan.rows → s.core.spare ≤ t.core.spare + 1 → spare_of s ≤ left_of t + 1
  uses-one due spare = omega (arith, len, more, due, spare)

  -- one after which fewer reports are to come uses none
  pub uses-none : IsStore s → reports_to_come t.core.plan.rows + 1 ≤ reports_to_come s.core.plan.rows → s.core.spare ≤ t.core.spare → spare_of s ≤ left_of t
  uses-none kept due spare = (let room = kept.room in omega (arith, len, more, due, spare, room))

-- an operation of the core that uses no change, and after which no more reports are to come, only uses the entry
pub operation-spare : (s mid t : Store) (core : View) → Keeps s mid → mid.core ≡ s.core → t.core ≡ core → vec_len t.history ≡ vec_len mid.history → vec_capacity mid.history ≤ vec_capacity t.history
    → reports_to_come core.plan.rows ≤ reports_to_come s.core.plan.rows → mid.core.spare ≤ core.spare → spare_of s ≤ spare_of t
operation-spare s mid t core first before after len more due kept =
    (let rows = ap (λ (v : View). reports_to_come v.plan.rows) after in
    let now = ap (λ (v : View). v.spare) after in
    let then = ap (λ (v : View). v.spare) before in
    let earlier = first.len in
    let less = first.more in
    omega (arith, rows, now, then, earlier, less, len, more, due, kept))

-- an error of a call is one of its operation
pub error-only : {A : Type 0} (tell : A → Reply) (done : Result (Result A Refusal) NoEntry) (old : World) (result : Result Replies NoEntry) (next : World) (P Q : Type 0)
    → Concludes tell done old result next → (P → Q) → OnErr done P → OnErr result Q
error-only tell (Ok answer) old result next P Q ends so fact = subst (λ (r : Result Replies NoEntry). OnErr r Q) (sym ends.1) tt
error-only tell (Err why) old result next P Q ends so fact = elim result as (λ (r : Result Replies NoEntry). OnErr r Q) [ Ok x ↦ tt | Err e ↦ so fact ]

-- what holds anyway holds after an error
pub after-error : (result : Result Replies NoEntry) (P : Type 0) → P → OnErr result P
after-error result P fact = elim result as (λ (r : Result Replies NoEntry). OnErr r P) [ Ok x ↦ tt | Err e ↦ fact ]
