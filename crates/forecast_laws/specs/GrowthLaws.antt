-- A forecast that is being made: where it begins, one entry more, on to the next event, and where it ends.
use Rattle.std.proofs.Common.{◌≡◌, ℕ, suc, ◌-◌, ◌<◌, ◌≤◌, false, cond, inl, inr, List, [], ◌∷◌, ◌++◌, filter, Some, None, refl, sym, ◌∙◌, ap, subst, arith}
use Rattle.std.specs.Prelude.{nat_le}
use Rattle.std.specs.List.{AllByRecursion}
use Rattle.std.proofs.lemmas.Bool.{cases_lt, le-leb, lt-leb}
use Rattle.drmaa_types.specs.Moments.{greatest}
use Rattle.drmaa_model.specs.declared.entries.Entry.{Entry}
use Rattle.drmaa_model.specs.Consistent.{IsConsistent}
use Rattle.drmaa_model.specs.Events.{is_event, next_event}
use Rattle.drmaa_model.specs.History.{after_entry, replay_from, IsLegalFrom}
use Rattle.drmaa_model.specs.HistoryLaws.{after_step, legal_from-append}
use Rattle.drmaa_model.specs.MomentLaws.{first-none, first-some}
use Rattle.drmaa_model.specs.RowLaws.{all-implied, all-push}
use Rattle.drmaa_model.specs.StepLaws.{step-consistent, step-moment}
use Rattle.drmaa_model.specs.Steps.{IsStep}
use Rattle.drmaa_model.specs.World.{World}
use Rattle.forecast_laws.specs.EventLaws.{done-between}
use Rattle.forecast_laws.specs.Forecasts.{IsDone, IsForeseen, AreForeseen, Precedes, AreInSequence, world_by, IsForecast, IsForecastUpTo}

-- ---- where it begins

pub none-yet : (w : World) → w.plan.moment ≤ greatest → IsForecastUpTo w.plan.moment w []
none-yet w within = record {
  before = record { legal = tt; foreseen = tt; sequence = tt; since = tt; within = tt; done = λ x low high. absurd (omega (arith, low, high)) };
  reached = tt;
  now = omega arith;
  within = within;
}

-- ---- one entry more

foreseen-append : (w : World) (xs ys : List Entry) → AreForeseen w xs → AreForeseen (replay_from w xs) ys → AreForeseen w (xs ++ ys)
foreseen-append w [] ys front back = back
foreseen-append w (x ∷ xs) ys front back = (front.0, foreseen-append (after_entry w x) xs ys front.1 back)

sequence-push : (es : List Entry) (e : Entry) → AreInSequence es → AllByRecursion (λ (f : Entry). Precedes f e) es → AreInSequence (es ++ e ∷ [])
sequence-push [] e sequence all = (tt, tt)
sequence-push (f ∷ es) e sequence all = (all-push (Precedes f) es e sequence.0 all.0, sequence-push es e sequence.1 all.1)

-- a later entry is not among those up to a moment
cut-push : (z : ℕ) (es : List Entry) (e : Entry) → z < e.at → filter (λ (f : Entry). nat_le f.at z) (es ++ e ∷ []) ≡ filter (λ (f : Entry). nat_le f.at z) es
cut-push z [] e later = ap (λ b. cond b (e ∷ []) []) (lt-leb e.at z later)
cut-push z (f ∷ es) e later = ap (λ (gs : List Entry). cond (nat_le f.at z) (f ∷ gs) gs) (cut-push z es e later)

pub one-more : (x : ℕ) (w : World) (es : List Entry) (e : Entry) (next : World) → IsForecastUpTo x w es → e.caller ≡ record { 0 = 0 } → e.at ≡ x
    → IsStep (replay_from w es) e next → IsForeseen (replay_from w es) e → AllByRecursion (λ (f : Entry). Precedes f e) es → IsForecastUpTo x w (es ++ e ∷ [])
one-more x w es e next up_to caller at step foreseen sequence =
    let before = up_to.before in
    let here : IsStep (replay_from w es) e (after_entry (replay_from w es) e) = subst (IsStep (replay_from w es) e) (sym (after_step (replay_from w es) e next step)) step in
    record {
      before = record {
        legal = legal_from-append w es (e ∷ []) before.legal (here, tt);
        foreseen = foreseen-append w es (e ∷ []) before.foreseen ((caller, foreseen), tt);
        sequence = sequence-push es e before.sequence sequence;
        since = all-push (λ (f : Entry). w.plan.moment ≤ f.at) es e before.since (let n = up_to.now in omega (arith, n, at));
        within = all-push (λ (f : Entry). f.at ≤ greatest) es e before.within (let g = up_to.within in omega (arith, at, g));
        done = λ z low high. subst (λ (gs : List Entry). IsDone (replay_from w gs) z) (sym (cut-push z es e (omega (arith, at, high)))) (before.done z low high);
      };
      reached = all-push (λ (f : Entry). f.at ≤ x) es e up_to.reached (omega (arith, at));
      now = up_to.now;
      within = up_to.within;
    }

-- ---- on to the next event

cut-whole : (z : ℕ) (es : List Entry) → AllByRecursion (λ (e : Entry). e.at ≤ z) es → filter (λ (f : Entry). nat_le f.at z) es ≡ es
cut-whole z [] all = refl
cut-whole z (e ∷ es) all =
    ap (λ b. cond b (e ∷ filter (λ (f : Entry). nat_le f.at z) es) (filter (λ (f : Entry). nat_le f.at z) es)) (le-leb e.at z all.0) ∙ ap (λ gs. e ∷ gs) (cut-whole z es all.1)

run-consistent : (es : List Entry) (w : World) → IsConsistent w → IsLegalFrom w es → IsConsistent (replay_from w es)
run-consistent [] w ok legal = ok
run-consistent (e ∷ es) w ok legal = run-consistent es (after_entry w e) (step-consistent w e (after_entry w e) ok legal.0) legal.1

run-moment : (es : List Entry) (w : World) (x : ℕ) → IsConsistent w → IsLegalFrom w es → AllByRecursion (λ (e : Entry). e.at ≤ x) es → w.plan.moment ≤ x → (replay_from w es).plan.moment ≤ x
run-moment [] w x ok legal all now = now
run-moment (e ∷ es) w x ok legal all now =
    run-moment es (after_entry w e) x (step-consistent w e (after_entry w e) ok legal.0) legal.1 all.1
    (let m = step-moment w e (after_entry w e) ok legal.0 in let h = all.0 in omega (arith, m, h, now))

module _ (x : ℕ) (w : World) (es : List Entry) (ok : IsConsistent w) (up_to : IsForecastUpTo x w es) (done : IsDone (replay_from w es) x) where
  -- nothing is left to do before the next event
  done-until : (y : ℕ) → y ≤ suc greatest → ((m : ℕ) → x < m → m < y → is_event (replay_from w es).plan m ≡ false) → (z : ℕ) → w.plan.moment ≤ z → z < y → IsDone (world_by w es z) z
  done-until y bound quiet z low high = elim (cases_lt z x) [
    | inl below ↦ up_to.before.done z low below
    | inr after ↦
        subst (λ (gs : List Entry). IsDone (replay_from w gs) z) (sym (cut-whole z es (all-implied (λ (e : Entry). e.at ≤ x) (λ (e : Entry). e.at ≤ z) (λ e h. omega (arith, h, after)) es up_to.reached)))
        (done-between (replay_from w es) x z (run-consistent es w ok up_to.before.legal) (run-moment es w x ok up_to.before.legal up_to.reached up_to.now) after (omega (arith, high, bound))
        (λ m from to. quiet m from (omega (arith, to, high))) done)
  ]

  pub go-on : (y : ℕ) → next_event (replay_from w es).plan x ≡ Some y → IsForecastUpTo y w es
  go-on y found =
      let first = first-some (is_event (replay_from w es).plan) (suc x) (greatest - x) y found in
      let low = first.low in
      let high = first.high in
      let before = up_to.before in
      record {
        before = record {
          legal = before.legal;
          foreseen = before.foreseen;
          sequence = before.sequence;
          since = before.since;
          within = before.within;
          done = done-until y (omega (arith, low, high)) (λ m from to. first.least m (omega (arith, from)) to);
        };
        reached = all-implied (λ (e : Entry). e.at ≤ x) (λ (e : Entry). e.at ≤ y) (λ e h. omega (arith, h, low)) es up_to.reached;
        now = (let n = up_to.now in omega (arith, n, low));
        within = omega (arith, low, high);
      }

  -- ---- where it ends

  pub finish : next_event (replay_from w es).plan x ≡ None → IsForecast w es
  finish none =
      let before = up_to.before in
      record {
        legal = before.legal;
        foreseen = before.foreseen;
        sequence = before.sequence;
        since = before.since;
        within = before.within;
        done = done-until (suc greatest) (omega arith) (λ m from to. first-none (is_event (replay_from w es).plan) (suc x) (greatest - x) none m (omega (arith, from)) (omega (arith, to)));
      }
