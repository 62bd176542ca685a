use Rattle.std.proofs.Common.{◌≡◌, ◌≤◌, [], refl, sym, ◌∙◌, ap, subst, arith}
use Rattle.std.specs.List.{each_same}
use Rattle.std.specs.Prelude.{Result, Ok, vec_len}
use Rattle.drmaa_types.specs.declared.refusals.Refusal.{Refusal}
use Rattle.drmaa_types.specs.Moments.{greatest}
use Rattle.session_table.specs.Sessions.{Sessions, opening}
use Rattle.drmaa_model.specs.Consistent.{IsConsistent}
use Rattle.drmaa_model.specs.History.{IsLegal, replay}
use Rattle.drmaa_model.specs.Plan.{Plan, opening_plan}
use Rattle.drmaa_model.specs.Size.{size}
use Rattle.drmaa_model.specs.StepLaws.{opening-consistent}
use Rattle.drmaa_model.specs.World.{World, opening_world}
use Rattle.scheduler_core.specs.Facts.{reports_to_come}
use Rattle.machine_readings.specs.declared.store.Store.{Store}
use Rattle.machine_readings.specs.Stores.{world_of}
use Rattle.drmaa_machine.specs.Invariant.{IsMachine}
use Rattle.drmaa_machine.proofs.machines.Machine.new.Goals as goal

-- what a machine keeps that has served nothing
opens : (s : Store) → s.core.plan ≡ opening_plan s.config.slots s.config.queues → s.sessions ≡ opening → s.registrations ≡ 0 → s.entries ≡ 0 → s.history.items ≡ [] → vec_len s.history ≡ 0
    → 1 ≤ s.config.journal → s.config.journal ≤ 4_000_000 → IsMachine s
opens s plan_is sessions_are registered entered items len least most =
    let same : world_of s ≡ opening_world s.config = cc in
    let due : reports_to_come s.core.plan.rows ≡ 0 = ap (λ (p : Plan). reports_to_come p.rows) plan_is in
    record {
      store = record {
        consistent = subst IsConsistent (sym same) (opening-consistent s.config);
        within = subst (λ (w : World). size w ≤ s.config.journal) (sym same) (omega arith);
        journal = most;
        room = omega (arith, due, len);
      };
      legal = subst (IsLegal s.config) (sym items) tt;
      replayed = same ∙ ap (replay s.config) (sym items);
      moment = subst (λ (p : Plan). p.moment ≤ greatest) (sym plan_is) (omega arith);
    }

ok-same : (a b : Sessions) → ◌≡◌ {A = Result Sessions Refusal} (Ok a) (Ok b) → a ≡ b
ok-same a b same = cc

pub invariant_of-result : goal.invariant_of-result
invariant_of-result c =
    let config = c.args.config in
    let queues_are : c.in-Ok-clone.queues ≡ config.queues = each_same config.queues c.in-Ok-clone.queues (c.in-Ok-clone.ensures {u = tt}).cases in
    let sessions_are : c.in-Ok.sessions ≡ opening = ok-same c.in-Ok.sessions opening (c.in-Ok.ensures {u = tt}).empty in
    opens _ (c.new-2.ensures ∙ ap (opening_plan config.slots) queues_are) sessions_are refl refl c.new-3.ensures.items c.new-3.ensures.len c.requires.least_journal c.requires.most_journal
