use Rattle.std.proofs.Common.{eq-eqb, sym, ap, ◌∙◌}
use Rattle.std.specs.Prelude.{option_copied}
use Rattle.std.proofs.lemmas.Bool.{and_from}
use Rattle.attendant.proofs.reaping.find_child.Goals as goal

pub returns-then-signal-held-2-clause-found : goal.returns-then-signal-held-2-clause-found
returns-then-signal-held-2-clause-found g c =
    (c.in-Some.held.now, sym c.get.ensures ∙ ap option_copied c.in-Some.is, and_from _ _ (eq-eqb _ _ c.if-signal-held.true) (eq-eqb _ _ c.if-signal-held-2.true))
