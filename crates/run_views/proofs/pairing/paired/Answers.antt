use Rattle.std.proofs.Common.{[], ◌∷◌, ◌++◌, ap, ◌∙◌}
use Rattle.run_views.specs.declared.runs.RunEvent.{RunEvent}
use Rattle.run_views.proofs.Pairings.{one_ended}
use Rattle.run_views.proofs.pairing.paired.Goals as goal

pub events-preserved : goal.events-preserved
events-preserved c = record {
  paired = one_ended c.args.events.items c.events.events.items c.pop.new.self.items c.events.runs.items c.events.ends c.in_ok-ends-in-Ended.ends c.in-Ended.report
      (c.in-Some.ensures.items ∙ ap (λ (e : RunEvent). c.pop.new.self.items ++ e ∷ []) c.in-Ended.is)
      (c.in_ok-ends-in-Ended.ensures {u = tt}) c.events.invariant.paired;
}
