-- The one pass that finds the least low start: since when the load is low, from boundary to boundary.
use Rattle.std.proofs.Common.{◌≡◌, ℕ, suc, ◌+◌, ◌<◌, ◌≤◌, leb, List, length, Option, Some, None, IsSomeAnd, if◌then◌else◌, inl, inr, subst, arith}
use Rattle.std.specs.Option.{option_or, IfSome}
use Rattle.std.proofs.lemmas.Bool.{cases_lt, cases_Bool, lt-ltb, ltb-true, leb-true}
use Rattle.std.proofs.lemmas.Bool.Decides.{nat_tests}
use Rattle.drmaa_types.specs.Moments.{greatest}
use Rattle.drmaa_types.specs.declared.moments.End.TheVariants.{At}
use Rattle.reservation_calendar.specs.declared.boundaries.Boundary.{Boundary}
use Rattle.reservation_calendar.specs.Loads.{is_before}
use Rattle.reservation_calendar.specs.Timelines.{IsTimeline, IsPlace, load_at, load_before, load_of, moment_of, nowhere}
use Rattle.reservation_calendar.specs.Heights.{IsLowStart}
use Rattle.reservation_calendar.proofs.Places.{load_piece}
use Rattle.reservation_calendar.proofs.Raising.{load_here}
use Rattle.reservation_calendar.proofs.Crossing.{IsPassed, LowUntil, first_piece, low_first, low_more}

module _ (steps : List Boundary) (most from until span : ℕ) where
  -- the load is low from this start until the boundary at place k, and no low start comes before it
  pub record RunFrom (k s : ℕ) : Type 0 where
    pub since : from ≤ s
    pub low : LowUntil steps most s k
    pub least : (y : ℕ) → IsLowStart steps most from until span y → s ≤ y

  -- the load is not low just before the boundary at place k, so no low start comes before it
  abbrev pub NoneYet : ℕ → Type 0
  NoneYet k = (y : ℕ) → IsLowStart steps most from until span y → (k < length steps) × (moment_of steps k ≤ y)

  abbrev pub Run : ℕ → Option ℕ → Type 0
  Run k (Some s) = RunFrom k s
  Run k None = NoneYet k

  not_passed : (k y : ℕ) → (IsPassed steps k y → ⊥) → (k < length steps) × (moment_of steps k ≤ y)
  not_passed k y never =
      elim (cases_lt k (length steps)) [
        | inl inside ↦ elim (cases_lt y (moment_of steps k)) [
          | inl before ↦ absurd (never (λ _. before))
          | inr later ↦ (inside, later)
        ]
        | inr past ↦ absurd (never (λ inside. absurd (omega arith)))
      ]

  module _ (sound : IsTimeline steps) (some : 0 < span) (frame : until ≤ greatest) where
    low_here : (y : ℕ) → IsLowStart steps most from until span y → load_at steps y ≤ most
    low_here y start = (let inside = start.inside in start.low y (record { since = omega arith; before = lt-ltb y (y + span) (omega arith); moment = omega arith }))

    pub run_start : (first l : ℕ) → IsPlace (λ m. leb m from) steps first → l ≡ load_before steps first → Run first (if leb l most then option_or None (Some from) else None)
    run_start first l at read =
        elim (cases_Bool (leb l most)) [
          | inl low ↦ rw low (record {
            since = omega arith;
            low = low_first steps most from first sound at (let h = leb-true l most low in omega arith);
            least = λ y start. start.since;
          })
          | inr high ↦ rw high (λ y start. not_passed first y (λ passed.
              let h = first_piece steps from first y sound at start.since passed in
              let g = low_here y start in
              grind (arith, nat_tests)))
        ]

    high_more : (k : ℕ) (start : Option ℕ) → k < length steps → Run k start → (IsSomeAnd start (λ s. s + span ≤ moment_of steps k) → ⊥) → most < load_of steps k → NoneYet (k + 1)
    high_more k start inside run short high y low = not_passed (k + 1) y (λ passed. never passed start run short)
      where
        never : IsPassed steps (k + 1) y → (start : Option ℕ) → Run k start → (IsSomeAnd start (λ s. s + span ≤ moment_of steps k) → ⊥) → ⊥
        never passed start run short =
            elim (cases_lt y (moment_of steps k)) [
              | inr later ↦
                  let h = load_piece steps y k sound.rising inside later (λ more. passed_next more passed) in
                  let g = low_here y low in
                  omega arith
              | inl before ↦ before_it start run short before
            ]
          where
            passed_next : suc k < length steps → IsPassed steps (k + 1) y → y < moment_of steps (suc k)
            passed_next more passed = subst (λ n. y < moment_of steps n) {x = k + 1} (omega arith) (passed (omega arith))

            before_it : (start : Option ℕ) → Run k start → (IsSomeAnd start (λ s. s + span ≤ moment_of steps k) → ⊥) → y < moment_of steps k → ⊥
            before_it None run short before = (let h = (run y low).1 in omega arith)
            before_it (Some s) run short before =
                let since = run.least y low in
                elim (cases_lt (moment_of steps k) (s + span)) [
                  | inl within ↦
                      let there = low.low (moment_of steps k) (record { since = omega arith; before = lt-ltb (moment_of steps k) (y + span) (omega arith); moment = sound.moments k nowhere inside }) in
                      let h = load_here steps k sound.rising inside in
                      omega arith
                  | inr ends ↦ short ends
                ]

    pub run_more : (k : ℕ) (start : Option ℕ) (l m : ℕ) → k < length steps → from ≤ moment_of steps k → Run k start → (IsSomeAnd start (λ s. s + span ≤ moment_of steps k) → ⊥) → l ≡ load_of steps k → m ≡ moment_of steps k → Run (k + 1) (if leb l most then option_or start (Some m) else None)
    run_more k start l m inside since run short read at =
        elim (cases_Bool (leb l most)) [
          | inl low ↦ rw low (low_step start run (let h = leb-true l most low in omega arith))
          | inr high ↦ rw high (high_more k start inside run short (grind (arith, nat_tests)))
        ]
      where
        low_step : (start : Option ℕ) → Run k start → load_of steps k ≤ most → Run (k + 1) (option_or start (Some m))
        low_step (Some s) run low = record { since = run.since; low = low_more steps most s k sound inside run.low low; least = run.least }
        low_step None run low = record {
          since = omega arith;
          low = low_more steps most m k sound inside (λ y after passed. absurd (let h = passed inside in omega arith)) low;
          least = λ y start. (let h = (run y start).1 in omega arith);
        }

    -- where the run lasts for the span, its start is the answer
    pub run_low : (k x : ℕ) (start : Option ℕ) → Run k start → IsSomeAnd start (λ s. s + span ≤ x) → x ≤ until → ((y : ℕ) → y < x → IsPassed steps k y) → IfSome start (IsLowStart steps most from until span)
    run_low k x None run ends within passed = tt
    run_low k x (Some s) run ends within passed = record {
      since = run.since;
      inside = omega arith;
      low = λ y inside. run.low y inside.since (passed y (let h = ltb-true y (s + span) inside.before in omega arith));
    }

    pub run_least : (k : ℕ) (start : Option ℕ) → Run k start → IfSome start (λ x. (y : ℕ) → IsLowStart steps most from until span y → x ≤ y)
    run_least k None run = tt
    run_least k (Some s) run = run.least

    -- where it does not last until the end of the frame, there is none
    pub run_none : (last : ℕ) (start : Option ℕ) → IsPlace (λ m. is_before m (At until)) steps last → Run last start → (IsSomeAnd start (λ s. s + span ≤ until) → ⊥) → (y : ℕ) → IsLowStart steps most from until span y → ⊥
    run_none last None end run short y low =
        (let h = run y low in
        let after = end.after last (omega arith) h.0 in
        let inside = low.inside in
        let later = h.1 in
        grind (arith, nat_tests))
    run_none last (Some s) end run short y low = short (let h = run.least y low in let inside = low.inside in omega arith)
