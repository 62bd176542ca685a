use Rattle.std.proofs.Common.{ℕ, ◌+◌, sym, ◌∙◌, ap, subst, Some, None, nat_lt, if◌then◌else◌}
use Rattle.drmaa_model.specs.declared.looks.Answer.TheVariants.{Held, Full}
use Rattle.drmaa_model.specs.declared.looks.Question.{Question}
use Rattle.drmaa_model.specs.FitLaws.{held-advance}
use Rattle.drmaa_model.specs.TimeLaws.{weight-advance}
use Rattle.machine_readings.specs.Stores.{world_of, world_at}
use Rattle.drmaa_machine.specs.Looks.{IsAnswer}
use Rattle.drmaa_machine.proofs.looks.look_in.Goals as goal

pub returns-in-Held : goal.returns-in-Held
returns-in-Held c =
    (let s = c.args.store.now in
    subst (λ (q : Question). IsAnswer (world_at c.args.at s) (world_of s) q (Held c.held.result)) (sym c.in-Held.is)
    (ap Held (c.held.ensures ∙ sym (held-advance (s.entries + 1) c.args.at s.core.plan c.requires.consistent.fit))))

pub returns-in-Full : goal.returns-in-Full
returns-in-Full c =
    (let s = c.args.store.now in
    subst (λ (q : Question). IsAnswer (world_at c.args.at s) (world_of s) q (Full c.overfull.result)) (sym c.in-Full.is)
    (ap Full (c.overfull.ensures ∙ ap (λ (n : ℕ). if nat_lt s.config.journal (s.entries + 1 + n) then Some (s.entries + 1 + n) else None)
    (sym (weight-advance (s.entries + 1) c.args.at s.core.plan)))))
