use Rattle.std.proofs.Common.{sym, ◌∙◌}
use Rattle.thread_play.proofs.Endings.{some-not, not-some, ended-before, ended-after}
use Rattle.thread_play.proofs.runs.end_others.Goals as goal

pub returns-then-is_some : goal.returns-then-is_some
returns-then-is_some g c = ended-before g.C.Clock.given g.C.Clock.least g.S.One.Child.told c.args.shared.now c.args.pair _ _ _ _ c.args.ended c.requires (some-not c.args.ended (sym c.is_some.ensures ∙ c.if-is_some.true))

pub returns : goal.returns
returns g c =
    ended-after g.C.Clock.given g.C.Clock.least g.S.One.Child.told c.args.shared.now c.args.pair c.settle-pair.result.pair _ _ _ _ _ _ _ _ c.args.ended c.worse.result c.settle-pair.result.ended c.stopped_by.result
    c.settle-pair.ensures.attended c.settle-pair.ensures.settled c.stopped_by.ensures (not-some c.args.ended (sym c.is_some.ensures ∙ c.if-is_some.false)) c.worse.ensures
