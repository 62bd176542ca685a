use Rattle.std.proofs.Common.{sym, ◌∙◌}
use Rattle.plan_book.specs.Book.{plan_of}
use Rattle.scheduler_core.proofs.DemandLaws.{beyond-unmet}
use Rattle.scheduler_core.proofs.demands.is_met.Goals as goal

pub returns-then-is_beyond-clause-value : goal.returns-then-is_beyond-clause-value
returns-then-is_beyond-clause-value c =
    sym (beyond-unmet c.args.moment (plan_of c.args.book.now) c.args.unmet.now c.args.demand c.requires.unmet (c.is_beyond.ensures c.if-is_beyond.true))

pub returns-clause-unmet : goal.returns-clause-unmet
returns-clause-unmet c = sym c.has_place.ensures ∙ c.if-has_place.false
