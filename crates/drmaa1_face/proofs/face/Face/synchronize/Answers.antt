use Rattle.std.proofs.Common.{◌≡◌, Some}
use Rattle.drmaa1_face.proofs.face.Face.synchronize.Goals as goal
use Rattle.drmaa1_face.proofs.face.Face.synchronize.Goals.{in-Ok, in-Err}

pub returns-clause-answer : goal.returns-clause-answer
returns-clause-answer g c =
    let some : c.args.self.now ≡ Some c.in-Some.session = cc in
    elim c.match-synchronize_in.branch [
      | in-Ok w ↦ rw (w.result-is, some) w.in-Ok.ensures.ok
      | in-Err w ↦ (let e = w.in-Err.ensures.err in rw (w.result-is, some) (tt, e.0, e.1, e.2))
    ]

pub returns-clause-late : goal.returns-clause-late
returns-clause-late g c is =
    elim c.match-synchronize_in.branch [
      | in-Ok w ↦ (let e = w.result-is in absurd cc)
      | in-Err w ↦ (let e = w.result-is in let r = w.in-Err.is in c.synchronize_in.ensures.late (cc))
    ]
