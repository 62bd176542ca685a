use Rattle.std.proofs.Common.{Some, ◌∙◌, ap}
use Rattle.std.specs.Option.{option_map}
use Rattle.drmaa_model.specs.Rows.{row_of}
use Rattle.scheduler_core.specs.declared.facts.RowFacts.{RowFacts}
use Rattle.scheduler_core.specs.Facts.{row_facts}
use Rattle.scheduler_core.specs.View.{View}
use Rattle.scheduler_core.proofs.cores.Core.present_row.Goals as goal

pub returns-in-Some : goal.returns-in-Some
returns-in-Some c =
    ap (λ (f : RowFacts). Some f) c.facts_with.ensures ∙ ap (option_map row_facts) (c.in-Some.ensures {u = tt})
    ∙ ap (λ (v : View). option_map row_facts (row_of c.args.job v.plan.rows)) c.self.view_is

pub returns-in-None : goal.returns-in-None
returns-in-None c = ap (option_map row_facts) (c.in-None.ensures {u = tt}) ∙ ap (λ (v : View). option_map row_facts (row_of c.args.job v.plan.rows)) c.self.view_is
