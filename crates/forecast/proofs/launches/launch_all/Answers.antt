use Rattle.std.proofs.Common.{◌≡◌, ℕ, List, Err, sym, subst}
use Rattle.std.specs.Prelude.{Result}
use Rattle.drmaa_model.specs.History.{now_of}
use Rattle.forecast.specs.Runs.{IsEnded}
use Rattle.forecast.specs.Starts.{IsFull}
use Rattle.forecast.specs.declared.predictions.ForecastFault.{ForecastFault}
use Rattle.forecast.specs.declared.predictions.ForecastFault.TheVariants.{Journal}
use Rattle.forecast.specs.declared.predictions.Predicted.{Predicted}
use Rattle.forecast.proofs.launches.launch_all.Goals as goal

pub launches-init : goal.launches-init
launches-init c = record { ended = λ first is. is }

pub launches-preserved : goal.launches-preserved
launches-preserved c = record {
  ended = λ first is.
      subst (λ (xs : List Predicted). IsEnded c.args.at first c.launch_one.new.machine.ledger xs) (sym (c.in-Ok.ensures {u = tt}).items)
      (c.launch_one.ensures.launched c.in-Launched.start c.in-Launched.is first c.launches.starts.items (c.launches.invariant.ended first is));
}

-- a fault has one size
same-size : (n m : ℕ) → ◌≡◌ {A = Result (Unit {0}) ForecastFault} (Err (Journal n)) (Err (Journal m)) → n ≡ m
same-size n m same = cc

pub returns-in-Full-clause-full : goal.returns-in-Full-clause-full
returns-in-Full-clause-full c = λ n same first is.
    subst (IsFull (now_of first)) (same-size c.in-Full.size n same)
    (c.launch_one.ensures.full c.in-Full.size c.in-Full.is first c.launches.starts.items (c.launches.invariant.ended first is))
