use Rattle.attendant.specs.Acts.{acts_of}
use Rattle.attendant.proofs.Desks.{own-acts}
use Rattle.attendant.proofs.Wholes.{outside}
use Rattle.attendant.proofs.laws.the_outside_agrees.Goals as goal

pub returns : goal.returns
returns g c launcher reaper starts fate history at hand alone keeps agrees =
    let k = rw (own-acts history launcher, own-acts history reaper) at keeps in
    let a = rw (own-acts history launcher, own-acts history reaper) at agrees in
    outside g.T.Child.told launcher reaper starts fate (acts_of history) at hand alone k.tends k.tells a
