-- A forecast that is made step by step, over worlds that are written out.
use Rattle.std.proofs.Common.{◌≡◌, ℕ, suc, ◌-◌, ◌<◌, ◌≤◌, true, false, List, [], ◌∷◌, ◌++◌, Some, None, refl, sym, ◌∙◌, ap, subst, arith}
use Rattle.std.specs.List.{AllByRecursion}
use Rattle.drmaa_types.specs.Moments.{greatest}
use Rattle.drmaa_model.specs.declared.configs.Config.{Config}
use Rattle.drmaa_model.specs.declared.entries.Entry.{Entry}
use Rattle.drmaa_model.specs.Consistent.{IsConsistent}
use Rattle.drmaa_model.specs.Events.{is_event, next_event}
use Rattle.drmaa_model.specs.History.{IsLegal, replay, replay_from}
use Rattle.drmaa_model.specs.HistoryLaws.{after_step, replay_from-append}
use Rattle.drmaa_model.specs.MomentLaws.{none-first, some-first}
use Rattle.drmaa_model.specs.Plan.{Plan}
use Rattle.drmaa_model.specs.StepLaws.{legal-consistent}
use Rattle.drmaa_model.specs.Steps.{IsStep}
use Rattle.drmaa_model.specs.World.{World}
use Rattle.forecast_laws.specs.Forecasts.{IsDone, IsForeseen, Precedes, IsForecast, IsForecastUpTo}
use Rattle.forecast_laws.specs.GrowthLaws.{none-yet, one-more, go-on, finish}
use Rattle.forecast_laws.specs.UniqueLaws.{one-forecast}
use Rattle.forecast.specs.Starts.{starts_of, AreForetold}
use Rattle.forecast.specs.declared.predictions.Predicted.{Predicted}

-- the entries are a forecast up to a moment, and lead to this world
pub record IsAt (x : ℕ) (w v : World) (es : List Entry) : Type 0 where
  pub up_to : IsForecastUpTo x w es
  pub leads : replay_from w es ≡ v

pub at-first : (w : World) → w.plan.moment ≤ greatest → IsAt w.plan.moment w w []
at-first w within = record { up_to = none-yet w within; leads = refl }

pub at-more : (x : ℕ) (w v next : World) (es : List Entry) (e : Entry) → IsAt x w v es → e.caller ≡ record { 0 = 0 } → e.at ≡ x → IsStep v e next → IsForeseen v e → AllByRecursion (λ (f : Entry). Precedes f e) es
    → IsAt x w next (es ++ e ∷ [])
at-more x w v next es e here caller at step foreseen sequence = record {
  up_to = one-more x w es e next here.up_to caller at (subst (λ (u : World). IsStep u e next) (sym here.leads) step) (subst (λ (u : World). IsForeseen u e) (sym here.leads) foreseen) sequence;
  leads = replay_from-append w es (e ∷ []) ∙ ap (λ (u : World). replay_from u (e ∷ [])) here.leads ∙ after_step v e next step;
}

pub at-next : (x y : ℕ) (w v : World) (es : List Entry) → IsConsistent w → IsAt x w v es → IsDone v x → next_event v.plan x ≡ Some y → IsAt y w v es
at-next x y w v es ok here done event = record {
  up_to = go-on x w es ok here.up_to (subst (λ (u : World). IsDone u x) (sym here.leads) done) y (subst (λ (u : World). next_event u.plan x ≡ Some y) (sym here.leads) event);
  leads = here.leads;
}

pub at-last : (x : ℕ) (w v : World) (es : List Entry) → IsConsistent w → IsAt x w v es → IsDone v x → next_event v.plan x ≡ None → IsForecast w es
at-last x w v es ok here done event =
    finish x w es ok here.up_to (subst (λ (u : World). IsDone u x) (sym here.leads) done) (subst (λ (u : World). next_event u.plan x ≡ None) (sym here.leads) event)

-- ---- events

pub event-at : (p : Plan) (x y : ℕ) → x < y → y ≤ greatest → is_event p y ≡ true → ((m : ℕ) → x < m → m < y → is_event p m ≡ false) → next_event p x ≡ Some y
event-at p x y later within here quiet =
    some-first (is_event p) (suc x) (greatest - x) y (record { meets = here; low = omega (arith, later); high = omega (arith, later, within); least = λ m low high. quiet m (omega (arith, low)) high })

pub no-event : (p : Plan) (x : ℕ) → ((m : ℕ) → x < m → is_event p m ≡ false) → next_event p x ≡ None
no-event p x quiet = none-first (is_event p) (suc x) (greatest - x) (λ m low high. quiet m (omega (arith, low)))

-- ---- what is foretold

pub foretold : (config : Config) (history : List Entry) (v : World) (es : List Entry) (starts : List Predicted) → IsLegal config history → replay config history ≡ v → (IsConsistent v → IsForecast v es) → starts ≡ starts_of es
    → AreForetold (replay config history) starts
foretold config history v es starts legal leads forecast are =
    let ok = subst IsConsistent leads (legal-consistent config history legal) in
    let whole = forecast ok in
    subst (λ (w : World). AreForetold w starts) (sym leads) (record { entries = es; forecast = whole; only = λ others other. one-forecast others es v ok other whole; starts_are = are })
