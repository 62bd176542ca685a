use Rattle.std.proofs.Common.{◌≡◌, Option, sym, ◌∙◌, ap}
use Rattle.std.specs.Option.{option_map_or}
use Rattle.drmaa_types.specs.declared.infos.JobInfo.{JobInfo}
use Rattle.drmaa_model.specs.declared.calls.Call.TheVariants as call
use Rattle.drmaa_model.specs.declared.replies.Reply.{Reply}
use Rattle.drmaa_model.specs.declared.replies.Reply.TheVariants as reply
use Rattle.drmaa_model.specs.Effects.{makes}
use Rattle.machine_readings.specs.Stores.{world_at}
use Rattle.machine_readings.specs.Telling.{IsReply}
use Rattle.machine_readings.proofs.Tellings.{refused, told, told-info, ok-then}
use Rattle.drmaa_model.specs.Rows.{row_of}
use Rattle.machine_readings.proofs.store.Store.job_info.Goals as goal

pub returns-in-Some : goal.returns-in-Some
returns-in-Some c = refused c.args.self.now c.args.at (call.GetInfo c.args.session c.args.job) c.in-Some.why (c.in-Some.ensures {u = tt})

pub returns-in_ok-info_of-in-None : goal.returns-in_ok-info_of-in-None
returns-in_ok-info_of-in-None c =
    (let s = c.args.self.now in
    let v = world_at c.args.at s in
    let asked = call.GetInfo c.args.session c.args.job in
    ok-then c.told_info.result (λ (r : Reply). r ≡ option_map_or reply.Info c.in_ok-info_of-in-None.field-0 reply.Unit) (IsReply s c.args.at asked) c.told_info.ensures
    (λ r is. told s c.args.at asked r (c.in-None.ensures {u = tt})
    (ap (λ (x : Reply). makes x v) (told-info v (row_of c.args.job v.plan.rows) ∙ ap (λ (o : Option JobInfo). option_map_or reply.Info o reply.Unit) (sym (c.in_ok-info_of-in-None.ensures {u = tt})) ∙ sym is))))
