use Rattle.std.proofs.Common.{length, sym, ◌∙◌}
use Rattle.change_callbacks.proofs.Unplaced.{calls-unplaced, EachHeard-unplaced}
use Rattle.change_callbacks.proofs.handing.tell_all.Goals as goal

pub returns-then-not-is_any_placed-clause-heard : goal.returns-then-not-is_any_placed-clause-heard
returns-then-not-is_any_placed-clause-heard g c =
    EachHeard-unplaced c.args.from c.args.changes.now c.args.places.now c.args.callbacks.now (sym c.requires.placed ∙ c.if-not-is_any_placed.true)

pub returns-then-not-is_any_placed-clause-answer : goal.returns-then-not-is_any_placed-clause-answer
returns-then-not-is_any_placed-clause-answer g c =
    calls-unplaced c.args.from c.args.changes.now (length c.args.callbacks.now) c.args.places.now (sym c.requires.placed ∙ c.if-not-is_any_placed.true)
