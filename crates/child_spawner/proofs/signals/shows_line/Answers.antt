use Rattle.std.proofs.Common.{◌∷◌, [], Some, sym, subst}
use Rattle.child_spawner.specs.Deeds.{Did}
use Rattle.child_spawner.specs.Deeds.Deed.{Reads}
use Rattle.child_spawner.proofs.Looks.{no_text, other_text}
use Rattle.child_spawner.proofs.signals.shows_line.Goals as goal

pub returns-in-Ok-clause-missed : goal.returns-in-Ok-clause-missed
returns-in-Ok-clause-missed g c = λ differs.
    other_text c.args.file.now c.args.line.now c.as_str.result.now c.is_line.result (g.H.Host.told c.args.host.now) (g.H.Host.told c.read.new.self)
    c.is_line.ensures differs (subst (λ bytes. Did (g.H.Host.told c.args.host.now) (Reads c.args.file.now (Some bytes) ∷ []) (g.H.Host.told c.read.new.self)) (sym c.as_str.ensures.value) c.in-Ok.ensures.done)

pub returns-in-Err-clause-missed : goal.returns-in-Err-clause-missed
returns-in-Err-clause-missed g c = λ missed. no_text c.args.file.now c.args.line.now (g.H.Host.told c.args.host.now) (g.H.Host.told c.read.new.self) c.in-Err.ensures.failed
