use Rattle.std.proofs.Common.{◌≤◌, ◌∙◌, ap, length, subst}
use Rattle.drmaa_model.specs.History.{now_of}
use Rattle.drmaa_model.specs.World.{World}
use Rattle.drmaa_machine.specs.View.{View}
use Rattle.std.specs.Option.{option_map}
use Rattle.drmaa_model.specs.Time.{rows_at}
use Rattle.drmaa_model.specs.Events.{started_from, started_of}
use Rattle.drmaa_machine.proofs.Storing.{few-entries}
use Rattle.drmaa_machine.proofs.machines.Machine.started.Goals as goal

pub returns-clause-found : goal.returns-clause-found
returns-clause-found c =
    c.started.ensures
    ∙ ap (λ (w : World). option_map started_of (started_from c.args.from.0 (rows_at c.args.at w.plan))) (c.self.invariant.replayed ∙ ap (λ (v : View). now_of v.ledger) c.self.view_is)

pub returns-clause-few : goal.returns-clause-few
returns-clause-few c = subst (λ (v : View). length v.ledger.history ≤ 4000000) c.self.view_is (few-entries c.self.inside.store c.self.invariant)
