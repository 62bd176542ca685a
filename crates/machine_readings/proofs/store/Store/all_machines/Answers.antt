use Rattle.std.proofs.Common.{sym, ap}
use Rattle.drmaa_model.specs.declared.calls.Call.TheVariants as call
use Rattle.drmaa_model.specs.declared.replies.Reply.{Reply}
use Rattle.drmaa_model.specs.declared.replies.Reply.TheVariants as reply
use Rattle.drmaa_model.specs.Effects.{makes}
use Rattle.machine_readings.specs.Stores.{world_at}
use Rattle.machine_readings.proofs.Tellings.{refused, told}
use Rattle.machine_readings.proofs.store.Store.all_machines.Goals as goal

pub returns-in-Some : goal.returns-in-Some
returns-in-Some c = refused c.args.self.now c.args.at (call.AllMachines c.args.session) c.in-Some.why (c.in-Some.ensures {u = tt})

pub returns-in_ok-machine_info-in-None : goal.returns-in_ok-machine_info-in-None
returns-in_ok-machine_info-in-None c =
    (let v = world_at c.args.at c.args.self.now in
    told c.args.self.now c.args.at (call.AllMachines c.args.session) _ (c.in-None.ensures {u = tt})
    (ap (λ (r : Reply). makes r v) (ap reply.Machine (sym (c.in_ok-machine_info-in-None.ensures {u = tt} c.args.at)))))
