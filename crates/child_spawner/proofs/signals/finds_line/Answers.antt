use Rattle.std.proofs.Common.{refl}
use Rattle.child_spawner.proofs.Looks.{no_look, one_more, shown_after, none_shown}
use Rattle.child_spawner.proofs.signals.finds_line.Goals as goal

pub loop-init : goal.loop-init
loop-init g c = no_look c.args.file.now c.args.line.now (g.H.Host.told c.args.host.now)

pub returns-then-shows_line-clause-found : goal.returns-then-shows_line-clause-found
returns-then-shows_line-clause-found g c = λ shown.
    shown_after c.args.file.now c.args.line.now c.loop.counter (g.H.Host.told c.args.host.now) (g.H.Host.told c.loop.host) (g.H.Host.told c.shows_line.new.host)
    c.loop-test.true c.loop.invariant (c.if-shows_line.ensures.found refl)

pub loop-preserved : goal.loop-preserved
loop-preserved g c =
    one_more c.args.file.now c.args.line.now c.loop.counter (g.H.Host.told c.args.host.now) (g.H.Host.told c.loop.host) (g.H.Host.told c.shows_line.new.host) (g.H.Host.told c.rest.new.self)
    c.loop.invariant (c.if-shows_line.ensures.missed refl) c.rest.ensures

pub returns-clause-missed : goal.returns-clause-missed
returns-clause-missed g c = λ missed.
    none_shown c.args.file.now c.args.line.now c.loop.counter (g.H.Host.told c.args.host.now) (g.H.Host.told c.loop.host) c.loop.auto.counter-end c.loop-test.false c.loop.invariant
