use Rattle.std.proofs.Common.{sym}
use Rattle.drmaa.proofs.Lists.{first-set, first-any}
use Rattle.drmaa.proofs.works.work_at_first.Goals as goal

pub returns-clause-worked : goal.returns-clause-worked
returns-clause-worked g c = (_, _, c.work.ensures, c.requires.begins _, λ d. first-any c.args.desks.now _ d c.requires.one, λ d. sym (first-set c.args.desks.now c.work.new.arg2 d c.requires.one))
