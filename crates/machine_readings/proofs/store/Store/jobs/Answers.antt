use Rattle.std.proofs.Common.{◌&&◌, ℕ, Option, filter, sym, ◌∙◌, ap}
use Rattle.drmaa_types.specs.Filters.{matches}
use Rattle.drmaa_model.specs.declared.calls.Call.TheVariants as call
use Rattle.drmaa_model.specs.declared.replies.Reply.{Reply}
use Rattle.drmaa_model.specs.declared.replies.Reply.TheVariants as reply
use Rattle.drmaa_model.specs.declared.rows.Row.{Row}
use Rattle.drmaa_model.specs.Effects.{makes}
use Rattle.drmaa_model.specs.Homes.{is_same_home, is_own}
use Rattle.drmaa_model.specs.Infos.{info, numbers}
use Rattle.machine_readings.specs.Stores.{world_at}
use Rattle.machine_readings.proofs.Loops.{filter-twice}
use Rattle.machine_readings.proofs.Tellings.{refused, told}
use Rattle.machine_readings.proofs.store.Store.jobs.Goals as goal

pub returns-in-Some : goal.returns-in-Some
returns-in-Some c = refused c.args.self.now c.args.at (call.GetJobs c.args.session c.args.wanted.now) c.in-Some.why (c.in-Some.ensures {u = tt})

pub returns-in_ok-jobs_of-in-None : goal.returns-in_ok-jobs_of-in-None
returns-in_ok-jobs_of-in-None c =
    (let v = world_at c.args.at c.args.self.now in
    told c.args.self.now c.args.at (call.GetJobs c.args.session c.args.wanted.now) _ (c.in-None.ensures {u = tt})
    (ap (λ (r : Reply). makes r v) (ap reply.Jobs (ap numbers (filter-twice (λ (row : Row). matches c.args.wanted.now (info v row)) (is_own c.args.session v) v.plan.rows) ∙ ap (λ (h : Option ℕ). numbers (filter (λ (row : Row). is_same_home h row.home && matches c.args.wanted.now (info v row)) v.plan.rows)) (sym c.home_in.ensures) ∙ sym (c.in_ok-jobs_of-in-None.ensures {u = tt})))))
