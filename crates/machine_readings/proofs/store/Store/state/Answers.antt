use Rattle.std.proofs.Common.{sym, ap}
use Rattle.drmaa_model.specs.declared.calls.Call.TheVariants as call
use Rattle.drmaa_model.specs.declared.replies.Reply.{Reply}
use Rattle.drmaa_model.specs.declared.replies.Reply.TheVariants as reply
use Rattle.drmaa_model.specs.Effects.{makes}
use Rattle.machine_readings.specs.Stores.{world_at}
use Rattle.machine_readings.proofs.Tellings.{refused, told}
use Rattle.machine_readings.proofs.store.Store.state.Goals as goal

pub returns-in-Some-clause-err : goal.returns-in-Some-clause-err
returns-in-Some-clause-err c = refused c.args.self.now c.args.at (call.GetState c.args.session c.args.job) c.in-Some.why (c.in-Some.ensures {u = tt})

pub returns-in-None-clause-ok : goal.returns-in-None-clause-ok
returns-in-None-clause-ok c =
    (let v = world_at c.args.at c.args.self.now in
    told c.args.self.now c.args.at (call.GetState c.args.session c.args.job) _ (c.in-None.ensures {u = tt})
    (ap (λ (r : Reply). makes r v) (ap reply.State (sym c.state_at.ensures))))
