use Rattle.drmaa.proofs.Endings.{ended-before, ended-after}
use Rattle.drmaa.proofs.pairs.attend_last.Goals as goal

pub returns-in-Ok : goal.returns-in-Ok
returns-in-Ok g c =
    ended-after g.C.Clock.given g.C.Clock.least g.S.One.Child.told c.args.shared.now c.args.pair c.settle.result.pair _ _ _ _ _ _ _ _ c.args.ended c.settle.result.ended
    c.in-Ok.is c.settle.ensures.attended c.settle.ensures.settled

pub returns-in-Err : goal.returns-in-Err
returns-in-Err g c = ended-before g.C.Clock.given g.C.Clock.least g.S.One.Child.told c.args.shared.now c.args.pair _ _ _ _ c.args.ended c.in-Err.why c.in-Err.is c.requires
