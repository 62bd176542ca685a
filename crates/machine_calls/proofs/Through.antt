-- From what an operation of the core has met to what a call comes to.
use Rattle.std.proofs.Common.{◌≡◌, ◌≢◌, ℕ, ◌+◌, ◌<◌, ◌≤◌, true, inl, inr, Option, Some, None, refl, sym, ◌∙◌, ap, subst, arith}
use Rattle.std.specs.Prelude.{◌⊎◌, Result, Ok, Err, OnOk}
use Rattle.std.specs.Option.{option_map_or}
use Rattle.drmaa_types.specs.declared.refusals.Refusal.{Refusal}
use Rattle.drmaa_model.specs.declared.calls.Call.{Call}
use Rattle.drmaa_model.specs.declared.faults.NoEntry.{NoEntry}
use Rattle.drmaa_model.specs.declared.faults.NoEntry.TheVariants as fault
use Rattle.drmaa_model.specs.declared.replies.Reply.{Reply}
use Rattle.drmaa_model.specs.declared.replies.Reply.TheVariants as reply
use Rattle.drmaa_model.specs.Effects.{StepAnswer, gives, makes, effect, through}
use Rattle.drmaa_model.specs.Fit.{IsFit}
use Rattle.drmaa_model.specs.FitLaws.{advance-fit}
use Rattle.drmaa_model.specs.Operation.{Operation, Outcome, outcome, size_at}
use Rattle.drmaa_model.specs.Plan.{Plan}
use Rattle.drmaa_model.specs.Refusals.{refusal}
use Rattle.drmaa_model.specs.Size.{size, weight}
use Rattle.drmaa_model.specs.Steps.{answer}
use Rattle.drmaa_model.specs.Time.{advance, advance_plan}
use Rattle.drmaa_model.specs.World.{World, counted}
use Rattle.plan_book.specs.declared.occasions.Occasion.{Occasion}
use Rattle.plan_book.specs.Occasions.{IsUnsized, MeetsAt, plan_at}
use Rattle.plan_book.specs.Occasions.Meets.{served, full, short}
use Rattle.scheduler_core.specs.Facts.{reports_to_come}
use Rattle.machine_calls.specs.declared.replies.Replies.{Replies}
use Rattle.machine_calls.specs.Serving.{Comes, Concludes, IsNextOccasion, is_sized_first, reply_of}
use Rattle.machine_calls.specs.Serving.Comes.{answers, is_full, is_short}
use Rattle.machine_calls.proofs.Dues.{advance-due}

-- A call is that operation in a world that has come to its moment: it is refused as the operation is, and its effect is
-- the operation's.
pub record IsThrough {A : Type 0} (tell : A → Reply) (op : Operation A) (at : ℕ) (v : World) (asked : Call) : Type 0 where
  pub refuses : refusal v asked ≡ op.refusal v.plan
  pub does : effect at v asked ≡ through tell op v

ok-same : {A B : Type 0} (a b : A) → ◌≡◌ {A = Result A B} (Ok a) (Ok b) → a ≡ b
ok-same a b same = cc

err-same : {A B : Type 0} (a b : B) → ◌≡◌ {A = Result A B} (Err a) (Err b) → a ≡ b
err-same a b same = cc

-- a call wants memory only where its operation does
pub concluded-other : {A : Type 0} (tell : A → Reply) (done : Result (Result A Refusal) NoEntry) (old : World) (result : Result Replies NoEntry) (next : World)
    → Concludes tell done old result next → done ≢ Err fault.OutOfMemory → result ≢ Err fault.OutOfMemory
concluded-other tell (Ok answer) old result next ends sure = λ e. (let is = ends.1 in absurd (cc))
concluded-other {A} tell (Err why) old result next ends sure = λ e.
    (let is = ends.0 in
    let lacks : why ≡ fault.OutOfMemory = err-same why fault.OutOfMemory (sym is ∙ e) in
    sure (ap (λ (x : NoEntry). let r : Result (Result A Refusal) NoEntry = Err x in r) lacks))

module _ {A : Type 0} (tell : A → Reply) (op : Operation A) (w : World) (at : ℕ) (asked : Call) (is : IsThrough tell op at (advance w at) asked) where
  pub through-answer : answer w at asked ≡ gives (reply_of tell (outcome op (w.entries + 1) (advance w at).plan).answer) (counted (record w { plan = (outcome op (w.entries + 1) (advance w at).plan).plan }))
  through-answer =
      (let v = advance w at in
      ap (λ (r : Option Refusal). option_map_or (λ (why : Refusal). makes (reply.Refused why) v) r (effect at v asked)) is.refuses
      ∙ ap (λ (a : StepAnswer). option_map_or (λ (why : Refusal). makes (reply.Refused why) v) (op.refusal v.plan) a) is.does
      ∙ (elim (op.refusal v.plan) as (λ r. option_map_or (λ (why : Refusal). makes (reply.Refused why) v) r (through tell op v)
      ≡ (let x : Outcome A = option_map_or {U = Outcome A} (λ (why : Refusal). record { answer = Err why; plan = v.plan }) r (record { answer = Ok (op.told v.plan); plan = op.effect (w.entries + 1) v.plan }) in
      gives (reply_of tell x.answer) (counted (record w { plan = x.plan })))) [
        | None ↦ refl
        | Some why ↦ refl
      ]))

  -- on the occasion of the world's next entry
  module _ (o : Occasion) (on : IsNextOccasion o w at) where
    outcome-on : outcome op o.entry (plan_at o w.plan) ≡ outcome op (w.entries + 1) (advance w at).plan
    outcome-on =
        ap (λ (n : ℕ). outcome op n (advance_plan n o.at w.plan)) on.entry_is
        ∙ ap (λ (m : ℕ). outcome op (w.entries + 1) (advance_plan (w.entries + 1) m w.plan)) on.at_is

    answer-on : answer w at asked ≡ gives (reply_of tell (outcome op o.entry (plan_at o w.plan)).answer) (counted (record w { plan = (outcome op o.entry (plan_at o w.plan)).plan }))
    answer-on = subst (λ (x : Outcome A). answer w at asked ≡ gives (reply_of tell x.answer) (counted (record w { plan = x.plan }))) (sym outcome-on) through-answer

    size-on : (p : Plan) → size_at o.entry p ≡ size (counted (record w { plan = p }))
    size-on p = ap (λ n. n + weight p) on.entry_is

    fits : (p : Plan) → size_at o.entry p ≤ o.limit → size (counted (record w { plan = p })) ≤ w.config.journal
    fits p within = subst (λ n. n ≤ w.config.journal) (size-on p) (subst (λ n. size_at o.entry p ≤ n) on.limit_is within)

    passes : (p : Plan) → o.limit < size_at o.entry p → w.config.journal < size (counted (record w { plan = p }))
    passes p above = subst (λ n. w.config.journal < n) (size-on p) (subst (λ n. n < size_at o.entry p) on.limit_is above)

    pub op-comes : (new : Plan) (done : Result (Result A Refusal) NoEntry) (result : Result Replies NoEntry) (next : World) → MeetsAt o op w.plan done new
        → Concludes tell done (record w { plan = new }) result next → Comes w at asked result next
    op-comes new (Ok told) result next met ends =
        elim met [
          | served s ↦
              (let x = outcome op o.entry (plan_at o w.plan) in
              let replies = ends.0 in
              let same : told ≡ x.answer = ok-same told x.answer s.answered in
              let there : next ≡ counted (record w { plan = x.plan }) = ends.3 ∙ ap (λ (p : Plan). counted (record w { plan = p })) s.plan in
              answers replies ends.1
              (answer-on ∙ ap (λ (a : Result A Refusal). gives (reply_of tell a) (counted (record w { plan = x.plan }))) (sym same)
              ∙ ap (λ (r : Reply). gives r (counted (record w { plan = x.plan }))) (sym ends.2.told) ∙ ap (λ (v : World). gives replies.told v) (sym there))
              (ends.2.recorded ∙ sym ends.2.told)
              (subst (λ (v : World). size v ≤ w.config.journal) (sym there) (fits x.plan s.within)))
          | full f ↦ (let e = f.answered in absurd (cc))
          | short s ↦ (let e = s.answered in absurd (cc))
        ]
    op-comes new (Err why) result next met ends =
        elim met [
          | served s ↦ (let e = s.answered in absurd (cc))
          | full f ↦
              (let x = outcome op o.entry (plan_at o w.plan) in
              let why_is : why ≡ fault.Journal (size (counted (record w { plan = x.plan }))) = err-same why (fault.Journal (size_at o.entry x.plan)) f.answered ∙ ap fault.Journal (size-on x.plan) in
              is_full (reply_of tell x.answer) (counted (record w { plan = x.plan })) (ends.0 ∙ ap (λ (e : NoEntry). let r : Result Replies NoEntry = Err e in r) why_is) answer-on (passes x.plan f.above)
              (ends.1 ∙ ap (λ (p : Plan). record w { plan = p }) f.plan))
          | short s ↦
              (let x = outcome op o.entry (plan_at o w.plan) in
              is_short (reply_of tell x.answer) (counted (record w { plan = x.plan })) (ends.0 ∙ ap (λ (e : NoEntry). let r : Result Replies NoEntry = Err e in r) (err-same why fault.OutOfMemory s.answered)) answer-on
              (λ sized. fits x.plan s.within) (ends.1 ∙ ap (λ (p : Plan). record w { plan = p }) s.plan))
        ]

    -- where memory may run out before the journal's size is known
    pub op-unsized : (new : Plan) (done : Result (Result A Refusal) NoEntry) (result : Result Replies NoEntry) (next : World) → IsUnsized w.plan done new → (is_sized_first asked ≡ true → ⊥)
        → Concludes tell done (record w { plan = new }) result next → Comes w at asked result next
    op-unsized new (Ok told) result next u unsized ends = (let e = u.answered in absurd (cc))
    op-unsized new (Err why) result next u unsized ends =
        let x = outcome op o.entry (plan_at o w.plan) in
        is_short (reply_of tell x.answer) (counted (record w { plan = x.plan })) (ends.0 ∙ ap (λ (e : NoEntry). let r : Result Replies NoEntry = Err e in r) (err-same why fault.OutOfMemory u.answered)) answer-on
        (λ sized. absurd (unsized sized)) (ends.1 ∙ ap (λ (p : Plan). record w { plan = p }) u.plan)

    -- no more reports are to come
    pub op-due : (new : Plan) (done : Result (Result A Refusal) NoEntry) → MeetsAt o op w.plan done new ⊎ IsUnsized w.plan done new
        → ((q : Plan) → IsFit q → reports_to_come (outcome op o.entry q).plan.rows ≤ reports_to_come q.rows) → IsFit w.plan → reports_to_come new.rows ≤ reports_to_come w.plan.rows
    op-due new done met less fit =
        let due = less (plan_at o w.plan) (advance-fit o.entry o.at w.plan fit) in
        let earlier = advance-due o.entry o.at w.plan in
        elim met as (λ _. reports_to_come new.rows ≤ reports_to_come w.plan.rows) [
          | inl m ↦
              (elim m [
                | served s ↦ (let same = ap (λ (p : Plan). reports_to_come p.rows) s.plan in omega (arith, same, due, earlier))
                | full f ↦ (let same = ap (λ (p : Plan). reports_to_come p.rows) f.plan in omega (arith, same))
                | short s ↦ (let same = ap (λ (p : Plan). reports_to_come p.rows) s.plan in omega (arith, same))
              ])
          | inr u ↦ (let same = ap (λ (p : Plan). reports_to_come p.rows) u.plan in omega (arith, same))
        ]

    -- there is memory for an entry that is made
    has-memory : (new : Plan) (told : Result A Refusal) (done : Result (Result A Refusal) NoEntry) → done ≡ Ok told → MeetsAt o op w.plan done new ⊎ IsUnsized w.plan done new → o.has_memory ≡ true
    has-memory new told done is met =
        elim met as (λ _. o.has_memory ≡ true) [
          | inl m ↦
              (elim m [
                | served s ↦ s.memory
                | full f ↦ (let e = f.answered in absurd (cc))
                | short s ↦ (let e = s.answered in absurd (cc))
              ])
          | inr u ↦ (let e = u.answered in absurd (cc))
        ]

    -- and for the reports that are to come
    pub op-place : (new : Plan) (done : Result (Result A Refusal) NoEntry) (result : Result Replies NoEntry) (next : World) (len cap : ℕ) → (o.has_memory ≡ true → len + 1 + reports_to_come w.plan.rows ≤ cap)
        → reports_to_come new.rows ≤ reports_to_come w.plan.rows → MeetsAt o op w.plan done new ⊎ IsUnsized w.plan done new
        → Concludes tell done (record w { plan = new }) result next → OnOk result (len + 1 + reports_to_come new.rows ≤ cap)
    op-place new (Ok told) result next len cap place due met ends =
        let room = place (has-memory new told (Ok told) refl met) in
        let fact : len + 1 + reports_to_come new.rows ≤ cap = omega (arith, room, due) in
        elim result as (λ (r : Result Replies NoEntry). OnOk r (len + 1 + reports_to_come new.rows ≤ cap)) [ Ok x ↦ fact | Err e ↦ tt ]
    op-place new (Err why) result next len cap place due met ends = subst (λ (r : Result Replies NoEntry). OnOk r (len + 1 + reports_to_come new.rows ≤ cap)) (sym ends.0) tt
