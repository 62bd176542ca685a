-- From what is next, and what the core has done, to what a call that hands out an order comes to.
use Rattle.std.proofs.Common.{◌≡◌, ◌≢◌, ℕ, ◌+◌, ◌<◌, ◌≤◌, Option, Some, None, refl, sym, ◌∙◌, ap, subst, arith}
use Rattle.std.specs.Prelude.{Result, Ok, Err}
use Rattle.std.specs.Option.{option_map, option_map_or}
use Rattle.drmaa_model.specs.declared.calls.Call.{Call}
use Rattle.drmaa_model.specs.declared.calls.Call.TheVariants as call
use Rattle.drmaa_model.specs.declared.faults.NoEntry.{NoEntry}
use Rattle.drmaa_model.specs.declared.faults.NoEntry.TheVariants as fault
use Rattle.drmaa_model.specs.declared.replies.Launch.{Launch}
use Rattle.drmaa_model.specs.declared.replies.Reply.{Reply}
use Rattle.drmaa_model.specs.declared.replies.Reply.TheVariants as reply
use Rattle.drmaa_model.specs.declared.replies.Signal.{Signal}
use Rattle.drmaa_model.specs.declared.rows.Row.{Row}
use Rattle.drmaa_model.specs.Effects.{gives, nothing, makes, through_some}
use Rattle.drmaa_model.specs.Fit.{IsFit}
use Rattle.drmaa_model.specs.FitLaws.{advance-fit}
use Rattle.drmaa_model.specs.Launching.{launch, launch_of, signal}
use Rattle.drmaa_model.specs.Operation.{Operation, size_at}
use Rattle.drmaa_model.specs.NextLaunch.{next_launch}
use Rattle.drmaa_model.specs.Plan.{Plan}
use Rattle.drmaa_model.specs.Size.{size, weight}
use Rattle.drmaa_model.specs.Steps.{answer}
use Rattle.drmaa_model.specs.Time.{advance, advance_plan}
use Rattle.drmaa_model.specs.TimeLaws.{weight-advance}
use Rattle.drmaa_model.specs.World.{World, counted}
use Rattle.plan_book.specs.declared.occasions.Occasion.{Occasion}
use Rattle.plan_book.specs.Occasions.{Meets, StepsAt, plan_at}
use Rattle.plan_book.specs.Occasions.Meets.{served, full, short}
use Rattle.scheduler_core.specs.declared.launches.NextLaunch.{NextLaunch}
use Rattle.scheduler_core.specs.declared.signals.NextSignal.{NextSignal}
use Rattle.scheduler_core.specs.Facts.{reports_to_come}
use Rattle.scheduler_core.specs.Launches as launches
use Rattle.scheduler_core.specs.Signals as signals
use Rattle.machine_calls.specs.declared.replies.Replies.{Replies}
use Rattle.machine_calls.specs.Serving.{AreBoth, Comes, IsNextOccasion}
use Rattle.machine_calls.specs.Serving.Comes.{answers, finds_none}
use Rattle.machine_calls.proofs.Dues.{advance-due}
use Rattle.machine_calls.proofs.LaunchLaws.{launch-adds}
use Rattle.machine_calls.proofs.Sizes.{Planned, hindered, short-of}

-- ---- what a call that hands out an order comes to

-- the call is answered by this reply and leads to this plan, and the journal then has this size
pub record IsNext (w : World) (at : ℕ) (asked : Call) (r : Reply) (plan : Plan) (n : ℕ) : Type 0 where
  pub answered : answer w at asked ≡ gives r (counted (record w { plan = plan }))
  pub sized : w.entries + 1 + weight plan ≡ n

some-answer : {A : Type 0} (tell : A → Reply) (op : Operation (Option A)) (v : World) (a : A) → op.told v.plan ≡ Some a
    → through_some tell op v ≡ makes (tell a) (record v { plan = op.effect (v.entries + 1) v.plan })
some-answer tell op v a told = ap (λ o. option_map_or (λ b. makes (tell b) (record v { plan = op.effect (v.entries + 1) v.plan })) o nothing) told

none-answer : {A : Type 0} (tell : A → Reply) (op : Operation (Option A)) (v : World) → op.told v.plan ≡ None → through_some tell op v ≡ nothing
none-answer tell op v told = ap (λ o. option_map_or (λ b. makes (tell b) (record v { plan = op.effect (v.entries + 1) v.plan })) o nothing) told

pub next-launch : (w : World) (at : ℕ) (l : Launch) → IsFit w.plan → launch.told (advance_plan 0 at w.plan) ≡ Some l
    → IsNext w at call.TakeLaunch (reply.Launch l) (launch.effect (w.entries + 1) (advance_plan (w.entries + 1) at w.plan)) (w.entries + 1 + weight w.plan + 4)
next-launch w at l fit told =
    let e = w.entries + 1 in
    let adds = (launch-adds e (advance_plan e at w.plan) l (advance-fit e at w.plan fit) told).weighs in
    let same = weight-advance e at w.plan in
    record { answered = some-answer reply.Launch launch (advance w at) l told; sized = omega (arith, adds, same) }

pub next-signal : (w : World) (at : ℕ) (s : Signal) → signal.told (advance_plan 0 at w.plan) ≡ Some s
    → IsNext w at call.TakeSignal (reply.Signal s) (signal.effect (w.entries + 1) (advance_plan (w.entries + 1) at w.plan)) (w.entries + 1 + weight w.plan)
next-signal w at s told =
    let same = weight-advance (w.entries + 1) at w.plan in
    record { answered = some-answer reply.Signal signal (advance w at) s told; sized = omega (arith, same) }

pub no-launch : (w : World) (at : ℕ) → launch.told (advance_plan 0 at w.plan) ≡ None → Comes w at call.TakeLaunch (Err fault.Nothing) w
no-launch w at told = finds_none refl (none-answer reply.Launch launch (advance w at) told) refl

pub no-signal : (w : World) (at : ℕ) → signal.told (advance_plan 0 at w.plan) ≡ None → Comes w at call.TakeSignal (Err fault.Nothing) w
no-signal w at told = finds_none refl (none-answer reply.Signal signal (advance w at) told) refl

module _ (w : World) (at : ℕ) (asked : Call) (r : Reply) (plan : Plan) (n : ℕ) (is : IsNext w at asked r plan n) (next : World) where
  next-planned : Planned w at asked n
  next-planned = record { told = r; after = counted (record w { plan = plan }); answered = is.answered; size_is = is.sized }

  pub next-hindered : (m : ℕ) (e : NoEntry) → m ≡ n → (w.config.journal < m → e ≡ fault.Journal m) → (m ≤ w.config.journal → e ≡ fault.OutOfMemory) → next ≡ w → Comes w at asked (Err e) next
  next-hindered m e m_is if_full if_short same = hindered w next at asked m e next-planned m_is if_full if_short same

  pub next-short : n ≤ w.config.journal → next ≡ w → Comes w at asked (Err fault.OutOfMemory) next
  next-short within same = short-of w next at asked next-planned within same

  pub next-served : (replies : Replies) → AreBoth replies r → n ≤ w.config.journal → next ≡ counted (record w { plan = plan }) → Comes w at asked (Ok replies) next
  next-served replies both within there =
      answers replies refl (is.answered ∙ ap (λ (x : Reply). gives x (counted (record w { plan = plan }))) (sym both.told) ∙ ap (λ (x : World). gives replies.told x) (sym there))
      (both.recorded ∙ sym both.told)
      (subst (λ (x : World). size x ≤ w.config.journal) (sym there) (subst (λ k. k ≤ w.config.journal) (sym is.sized) within))

-- ---- what the core has done

-- what a step has met on the occasion of a world's next entry
steps-on : (step : ℕ → Plan → Plan) (o : Occasion) (w : World) (at : ℕ) → IsNextOccasion o w at → (new : Plan) (result : Result (Unit {0}) NoEntry)
    → StepsAt o (step o.entry) w.plan result new → Meets o tt (step (w.entries + 1) (advance_plan (w.entries + 1) at w.plan)) w.plan result new
steps-on step o w at on new result met =
    subst (λ (m : ℕ). Meets o tt (step (w.entries + 1) (advance_plan (w.entries + 1) m w.plan)) w.plan result new) on.at_is
    (subst (λ (n : ℕ). Meets o tt (step n (advance_plan n o.at w.plan)) w.plan result new) on.entry_is met)

module _ (o : Occasion) (next p new : Plan) (result : Result (Unit {0}) NoEntry) (met : Meets o tt next p result new) where
  -- it is made
  stepped : (u : Unit {0}) → result ≡ Ok u → new ≡ next
  stepped u is =
      elim met as (λ _. new ≡ next) [
        | served s ↦ s.plan
        | full f ↦ (let e = f.answered in absurd (cc))
        | short s ↦ (let e = s.answered in absurd (cc))
      ]

  -- or not, though the journal has room: memory was wanting, and nothing has changed
  lacked : size_at o.entry next ≤ o.limit → (why : NoEntry) → result ≡ Err why → (why ≡ fault.OutOfMemory) × (new ≡ p)
  lacked within why is =
      elim met as (λ _. (why ≡ fault.OutOfMemory) × (new ≡ p)) [
        | served s ↦ (let e = s.answered in absurd (cc))
        | full f ↦ (let above = f.above in absurd (omega (arith, above, within)))
        | short s ↦ (let e = s.answered in (cc, s.plan))
      ]

-- ---- a launch

-- no memory was there for its words
pub short-launch : (w : World) (at m : ℕ) (e : NoEntry) → IsFit w.plan → (next_launch (advance_plan 0 at w.plan) ≡ None → ⊥) → m ≡ w.entries + 1 + weight w.plan + 4
    → (w.config.journal < m → e ≡ fault.Journal m) → (m ≤ w.config.journal → e ≡ fault.OutOfMemory) → Comes w at call.TakeLaunch (Err e) w
short-launch w at m e fit some m_is if_full if_short =
    (elim (next_launch (advance_plan 0 at w.plan)) as (λ o. next_launch (advance_plan 0 at w.plan) ≡ o → Comes w at call.TakeLaunch (Err e) w) [
      | None ↦ λ none. absurd (some none)
      | Some n ↦ λ there.
          (let l = launch_of n.0 n.1 in
          let is = next-launch w at l fit (ap (option_map (λ (next : Row × ℕ). launch_of next.0 next.1)) there) in
          next-hindered w at call.TakeLaunch (reply.Launch l) (launch.effect (w.entries + 1) (advance_plan (w.entries + 1) at w.plan)) (w.entries + 1 + weight w.plan + 4) is w m e m_is if_full if_short refl)
    ]) refl

-- the launch that is next at the moment is next on the occasion
pub launch-then : (w : World) (at : ℕ) (o : Occasion) → IsNextOccasion o w at → (next : NextLaunch) → launches.IsNext (advance_plan 0 at w.plan) next → launches.IsNext (plan_at o w.plan) next
launch-then w at o on next is =
    let now : launches.IsNext (advance_plan 0 o.at w.plan) next = subst (λ (m : ℕ). launches.IsNext (advance_plan 0 m w.plan) next) (sym on.at_is) is in
    record { row = now.row; slots = now.slots; first = now.first; is = now.is }

module _ (w : World) (at : ℕ) (l : Launch) (fit : IsFit w.plan) (told : launch.told (advance_plan 0 at w.plan) ≡ Some l) (within : w.entries + 1 + weight w.plan + 4 ≤ w.config.journal) where
  is-next : IsNext w at call.TakeLaunch (reply.Launch l) (launch.effect (w.entries + 1) (advance_plan (w.entries + 1) at w.plan)) (w.entries + 1 + weight w.plan + 4)
  is-next = next-launch w at l fit told

  -- no memory was there for its copy
  pub launch-uncopied : Comes w at call.TakeLaunch (Err fault.OutOfMemory) w
  launch-uncopied =
      next-short w at call.TakeLaunch (reply.Launch l) (launch.effect (w.entries + 1) (advance_plan (w.entries + 1) at w.plan)) (w.entries + 1 + weight w.plan + 4) is-next w within refl

  module _ (o : Occasion) (on : IsNextOccasion o w at) (new : Plan) (result : Result (Unit {0}) NoEntry) (met : StepsAt o (launch.effect o.entry) w.plan result new) where
    met-now : Meets o tt (launch.effect (w.entries + 1) (advance_plan (w.entries + 1) at w.plan)) w.plan result new
    met-now = steps-on launch.effect o w at on new result met

    launch-fits : size_at o.entry (launch.effect (w.entries + 1) (advance_plan (w.entries + 1) at w.plan)) ≤ o.limit
    launch-fits = (let sized = is-next.sized in let entry = on.entry_is in let limit = on.limit_is in omega (arith, sized, within, entry, limit))

    -- it is handed out
    pub launch-comes : (u : Unit {0}) → result ≡ Ok u → (replies : Replies) → AreBoth replies (reply.Launch l) → Comes w at call.TakeLaunch (Ok replies) (counted (record w { plan = new }))
    launch-comes u is replies both =
        next-served w at call.TakeLaunch (reply.Launch l) (launch.effect (w.entries + 1) (advance_plan (w.entries + 1) at w.plan)) (w.entries + 1 + weight w.plan + 4) is-next (counted (record w { plan = new })) replies both within
        (ap (λ (p : Plan). counted (record w { plan = p })) (stepped o (launch.effect (w.entries + 1) (advance_plan (w.entries + 1) at w.plan)) w.plan new result met-now u is))

    -- two more reports are to come, at most
    pub launch-due : (u : Unit {0}) → result ≡ Ok u → reports_to_come new.rows ≤ reports_to_come w.plan.rows + 2
    launch-due u is =
        (let same = ap (λ (p : Plan). reports_to_come p.rows) (stepped o (launch.effect (w.entries + 1) (advance_plan (w.entries + 1) at w.plan)) w.plan new result met-now u is) in
        let adds = (launch-adds (w.entries + 1) (advance_plan (w.entries + 1) at w.plan) l (advance-fit (w.entries + 1) at w.plan fit) told).reports in
        let less = advance-due (w.entries + 1) at w.plan in
        omega (arith, same, adds, less))

    -- memory was wanting: nothing has changed
    pub launch-missed : (why : NoEntry) → result ≡ Err why → new ≡ w.plan
    launch-missed why is = (lacked o (launch.effect (w.entries + 1) (advance_plan (w.entries + 1) at w.plan)) w.plan new result met-now launch-fits why is).1

    pub launch-lacked : (why : NoEntry) → result ≡ Err why → Comes w at call.TakeLaunch (Err why) (record w { plan = new })
    launch-lacked why is =
        (let lacks = lacked o (launch.effect (w.entries + 1) (advance_plan (w.entries + 1) at w.plan)) w.plan new result met-now launch-fits why is in
        subst (λ (e : NoEntry). Comes w at call.TakeLaunch (Err e) (record w { plan = new })) (sym lacks.0)
        (next-short w at call.TakeLaunch (reply.Launch l) (launch.effect (w.entries + 1) (advance_plan (w.entries + 1) at w.plan)) (w.entries + 1 + weight w.plan + 4) is-next (record w { plan = new }) within
        (ap (λ (p : Plan). record w { plan = p }) lacks.1)))

-- ---- a signal

-- the signal that is next at the moment is next on the occasion
pub signal-then : (w : World) (at : ℕ) (o : Occasion) → IsNextOccasion o w at → (next : NextSignal) → signals.IsNext (advance_plan 0 at w.plan) next → signals.IsNext (plan_at o w.plan) next
signal-then w at o on next is =
    let now : signals.IsNext (advance_plan 0 o.at w.plan) next = subst (λ (m : ℕ). signals.IsNext (advance_plan 0 m w.plan) next) (sym on.at_is) is in
    record { first = now.first; row = now.row; found = now.found; read = now.read }

module _ (w : World) (at : ℕ) (o : Occasion) (on : IsNextOccasion o w at) (new : Plan) (result : Result (Unit {0}) NoEntry) (met : StepsAt o (signal.effect o.entry) w.plan result new) where
  -- it is handed out
  pub signal-done : (u : Unit {0}) → result ≡ Ok u → new ≡ signal.effect (w.entries + 1) (advance_plan (w.entries + 1) at w.plan)
  signal-done u is = stepped o (signal.effect (w.entries + 1) (advance_plan (w.entries + 1) at w.plan)) w.plan new result (steps-on signal.effect o w at on new result met) u is

  -- where the journal has room it is, since it wants no memory
  pub signal-made : w.entries + 1 + weight w.plan ≤ w.config.journal → result ≢ Err fault.OutOfMemory → (why : NoEntry) → result ≡ Err why → ⊥
  signal-made within sure why is =
      (let same = weight-advance (w.entries + 1) at w.plan in
      let entry = on.entry_is in
      let limit = on.limit_is in
      let lacks = lacked o (signal.effect (w.entries + 1) (advance_plan (w.entries + 1) at w.plan)) w.plan new result (steps-on signal.effect o w at on new result met) (omega (arith, same, within, entry, limit)) why is in
      sure (is ∙ ap (λ (e : NoEntry). let r : Result (Unit {0}) NoEntry = Err e in r) lacks.0))
