use Rattle.std.proofs.Common.{ℕ, List, Some, nat_eq, ap, ◌∙◌}
use Rattle.std.specs.Prelude.{if◌then◌else◌}
use Rattle.run_chart.specs.Blocks.{end_in}
use Rattle.run_chart.proofs.blocks.Ends.with.Goals as goal

pub returns-in-Ok : goal.returns-in-Ok
returns-in-Ok c = λ n.
    (c.in-Ok.ensures {u = tt}).updates.0 n
    ∙ ap (λ (es : List (ℕ × ℕ)). if nat_eq c.args.reservation n then Some c.args.at else end_in es n) c.self.view_is
