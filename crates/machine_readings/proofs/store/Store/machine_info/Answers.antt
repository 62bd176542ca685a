use Rattle.std.proofs.Common.{◌+◌, List, ℕ, sym, ◌∙◌, ap}
use Rattle.drmaa_types.specs.declared.infos.MachineInfo.{MachineInfo}
use Rattle.drmaa_model.specs.FitLaws.{held-advance}
use Rattle.machine_readings.proofs.store.Store.machine_info.Goals as goal

pub returns : goal.returns
returns c = λ at.
    (let s = c.args.self.now in
    let made : List ℕ → ℕ → MachineInfo = λ name used. record { name = name; slots = s.config.slots; used = used } in
    ap (λ n. made n c.held-used.result) (c.in_ok-name.ensures {u = tt}).cases ∙ ap (made s.config.name) (c.held-used.ensures ∙ sym (held-advance (s.entries + 1) at s.core.plan c.requires.consistent.fit)))
