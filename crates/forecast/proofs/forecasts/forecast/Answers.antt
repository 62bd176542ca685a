use Rattle.std.proofs.Common.{◌≡◌, ℕ, List, Err, ap, subst, sym, ◌∙◌, arith}
use Rattle.std.specs.Prelude.{Result}
use Rattle.drmaa_model.specs.History.{now_of}
use Rattle.forecast.specs.RunLaws.{first-moment, next-moment, last-moment, event-nearer}
use Rattle.forecast.specs.Runs.{IsFresh}
use Rattle.forecast.specs.Starts.{AreForetold}
use Rattle.forecast.specs.declared.predictions.ForecastFault.{ForecastFault}
use Rattle.forecast.specs.declared.predictions.ForecastFault.TheVariants.{Journal}
use Rattle.forecast.specs.declared.predictions.Predicted.{Predicted}
use Rattle.forecast.proofs.forecasts.forecast.Goals as goal

pub moments-init : goal.moments-init
moments-init c = record {
  fresh = subst (λ (n : ℕ). IsFresh n c.args.machine.ledger c.args.machine.ledger c.new-starts.result.items) (sym c.moment-at.ensures.moment)
      (subst (λ (xs : List Predicted). IsFresh (now_of c.args.machine.ledger).plan.moment c.args.machine.ledger c.args.machine.ledger xs) (sym c.new-starts.ensures.items)
      (first-moment c.args.machine.ledger c.moment-at.ensures.legal (omega (arith, c.moment-at.ensures.moment))));
}

pub moments-preserved : goal.moments-preserved
moments-preserved c =
    let ended = c.end_asked.ensures.ends c.args.machine.ledger c.moments.starts.items c.moments.invariant.fresh in
    let over = (c.in-Ok.ensures {u = tt}).ok c.args.machine.ledger ended in
    record { fresh = next-moment c.moments.at c.in-Some.next c.args.machine.ledger c.launch_all.new.machine.ledger c.launch_all.new.starts.items over (sym c.next_event.ensures ∙ c.in-Some.is) }

pub moments-smaller : goal.moments-smaller
moments-smaller c = event-nearer (now_of c.launch_all.new.machine.ledger).plan c.moments.at c.in-Some.next (sym c.next_event.ensures ∙ c.in-Some.is)

-- a fault that is handed on is the one of the launches
same-fault : {T : Type 0} (one other : ForecastFault) → ◌≡◌ {A = Result T ForecastFault} (Err one) (Err other) → one ≡ other
same-fault one other same = cc

pub returns-in-Err-clause-full : goal.returns-in-Err-clause-full
returns-in-Err-clause-full c = λ size is.
    (let ended = c.end_asked.ensures.ends c.args.machine.ledger c.moments.starts.items c.moments.invariant.fresh in
    (c.in-Err.ensures {u = tt}).full size (ap (λ (f : ForecastFault). let q : Result (Unit {0}) ForecastFault = Err f in q) (same-fault c.in-Err.fault (Journal size) is)) c.args.machine.ledger ended)

pub returns-in-None-clause-ok : goal.returns-in-None-clause-ok
returns-in-None-clause-ok c =
    let ended = c.end_asked.ensures.ends c.args.machine.ledger c.moments.starts.items c.moments.invariant.fresh in
    let over = (c.in-Ok.ensures {u = tt}).ok c.args.machine.ledger ended in
    let foretold = last-moment c.moments.at c.args.machine.ledger c.launch_all.new.machine.ledger c.launch_all.new.starts.items over (sym c.next_event.ensures ∙ c.in-None.is) in
    subst (AreForetold (now_of c.args.machine.ledger)) (sym c.from_vec.ensures) foretold
