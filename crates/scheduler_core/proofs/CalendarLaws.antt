-- What the calendar's answers are in the plan.
use Rattle.std.proofs.Common.{◌≡◌, ℕ, suc, ◌+◌, ◌-◌, ◌<◌, ◌≤◌, Bool, true, false, Option, Some, None, refl, sym, ◌∙◌, arith}
use Rattle.std.specs.Prelude.{IfSome, IsNone}
use Rattle.std.proofs.lemmas.Bool.{ltb-true, lt-ltb}
use Rattle.drmaa_types.specs.declared.moments.End.{End}
use Rattle.drmaa_types.specs.declared.moments.End.TheVariants.{At}
use Rattle.job_template.specs.declared.templates.Frame.{Frame}
use Rattle.drmaa_model.specs.Fit.{IsFit}
use Rattle.drmaa_model.specs.Load.{load, bound_of, is_overfull, first_overfull, fits}
use Rattle.drmaa_model.specs.MomentLaws.{none-first, some-first, greatest-is, ends-before, before-ends, before-greatest}
use Rattle.drmaa_model.specs.Plan.{Plan}
use Rattle.drmaa_model.specs.Requests.{start_in, slots_in}
use Rattle.reservation_calendar.specs.Fitting.{Fits, IsFittingStart, IsOverfull}
use Rattle.reservation_calendar.specs.Loads as calendar
use Rattle.reservation_calendar.specs.Schedules.{Schedule}
use Rattle.plan_book.specs.TieLaws.{tied-load, fits-plan, fits-calendar, same-end}
use Rattle.plan_book.specs.Ties.{IsTied}

-- a test that cannot hold
fails : (b : Bool) → (b ≡ true → ⊥) → b ≡ false
fails true never = absurd (never refl)
fails false never = refl

module _ (s : Schedule) (p : Plan) (fit : IsFit p) (tied : IsTied s p) where
  loads : (from : ℕ) → p.moment ≤ from → (x : ℕ) → from ≤ x → calendar.load s.bookings x ≡ load p x
  loads from since x low = tied-load s p fit tied x (omega arith)

  to-plan : (slots from : ℕ) (until : End) → p.moment ≤ from → Fits s slots from until → fits p slots from until ≡ true
  to-plan slots from until since = fits-plan s p slots from until tied.total (loads from since)

  pub to-calendar : (slots from : ℕ) (until : End) → p.moment ≤ from → fits p slots from until ≡ true → Fits s slots from until
  to-calendar slots from until since = fits-calendar s p slots from until tied.total (loads from since)

  -- The least fitting start of the calendar is the least start of the plan.
  pub earliest-is : (f : Frame) (r : Option ℕ) → p.moment ≤ f.from
      → IfSome r (IsFittingStart s f.min f.from f.until f.span) → IfSome r (λ (x : ℕ). (y : ℕ) → IsFittingStart s f.min f.from f.until f.span y → x ≤ y)
      → (IsNone r → (y : ℕ) → IsFittingStart s f.min f.from f.until f.span y → ⊥) → r ≡ start_in f p
  earliest-is f r since =
      let test : ℕ → Bool = λ x. fits p f.min x (At (x + f.span)) in
      let count = suc f.until - f.span - f.from in
      let start : (x : ℕ) → f.from ≤ x → x < f.from + count → test x ≡ true → IsFittingStart s f.min f.from f.until f.span x =
      λ x low high yes. record { since = low; inside = omega arith; fits = to-calendar f.min x (At (x + f.span)) (omega arith) yes } in
      elim r as (λ (o : Option ℕ). IfSome o (IsFittingStart s f.min f.from f.until f.span) → IfSome o (λ (x : ℕ). (y : ℕ) → IsFittingStart s f.min f.from f.until f.span y → x ≤ y)
      → (IsNone o → (y : ℕ) → IsFittingStart s f.min f.from f.until f.span y → ⊥) → o ≡ start_in f p) [
        | None ↦ λ fitting least none. sym (none-first test f.from count (λ x low high. fails (test x) (λ yes. none refl x (start x low high yes))))
        | Some x ↦ λ fitting least none. sym (some-first test f.from count x (record {
          meets = to-plan f.min x (At (x + f.span)) (let low = fitting.since in omega arith) fitting.fits;
          low = fitting.since;
          high = (let in_frame = fitting.inside in omega arith);
          least = λ y low high. fails (test y) (λ yes. (let first = least y (start y low (let in_frame = fitting.inside in omega arith) yes) in omega arith));
        }))
      ]

  -- The greatest fitting number of the calendar is the number that is given.
  pub largest-is : (f : Frame) (from n : ℕ) → p.moment ≤ from → f.min ≤ n → n ≤ f.max → Fits s n from (At (from + f.span))
      → ((k : ℕ) → k ≤ f.max → Fits s k from (At (from + f.span)) → k ≤ n) → slots_in f p from ≡ n
  largest-is f from n since low high fits-n most =
      let test : ℕ → Bool = λ k. fits p k from (At (from + f.span)) in
      greatest-is f.min (f.max - f.min) n test low (omega arith) (to-plan n from (At (from + f.span)) since fits-n)
      (λ k above within. fails (test k) (λ yes. (let le = most k (omega arith) (to-calendar k from (At (from + f.span)) since yes) in omega arith)))

  -- The least overfull moment of the calendar is that of the plan.
  pub overfull-is : (slots from : ℕ) (until : End) (r : Option ℕ) → p.moment ≤ from → IfSome r (IsOverfull s slots from until)
      → IfSome r (λ (x : ℕ). (y : ℕ) → IsOverfull s slots from until y → x ≤ y) → (IsNone r → Fits s slots from until) → r ≡ first_overfull p slots from until
  overfull-is slots from until r since =
      let test = is_overfull p slots in
      let count = bound_of until - from in
      let total = tied.total in
      let over : (x : ℕ) → from ≤ x → x < from + count → test x ≡ true → IsOverfull s slots from until x =
      λ x low high yes.
      (let high' : x < bound_of until = omega arith in
      let above = ltb-true p.total (load p x + slots) yes in
      let same = loads from since x low in
      record { inside = record { since = low; before = same-end x until ∙ before-ends until x high'; moment = before-greatest until x high' }; above = omega arith }) in
      elim r as (λ (o : Option ℕ). IfSome o (IsOverfull s slots from until) → IfSome o (λ (x : ℕ). (y : ℕ) → IsOverfull s slots from until y → x ≤ y)
      → (IsNone o → Fits s slots from until) → o ≡ first_overfull p slots from until) [
        | None ↦ λ found least none. sym (none-first test from count (λ x low high. fails (test x) (λ yes.
            (let o = over x low high yes in let within = none refl x o.inside in let above = o.above in omega arith))))
        | Some x ↦ λ found least none.
            (let low = found.inside.since in
            let high : x < bound_of until = ends-before until x found.inside.moment (sym (same-end x until) ∙ found.inside.before) in
            let same = loads from since x low in
            let above = found.above in
            sym (some-first test from count x (record {
              meets = lt-ltb p.total (load p x + slots) (omega arith);
              low = low;
              high = omega arith;
              least = λ y low' high'. fails (test y) (λ yes. (let first = least y (over y low' (omega arith) yes) in omega arith));
            })))
      ]
