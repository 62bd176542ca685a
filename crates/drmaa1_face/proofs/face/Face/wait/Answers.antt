use Rattle.std.proofs.Common.{◌≡◌, Some}
use Rattle.drmaa1_face.proofs.face.Face.wait.Goals as goal
use Rattle.drmaa1_face.proofs.face.Face.wait.Goals.{in-Ok, in-Err}

pub returns-clause-answer : goal.returns-clause-answer
returns-clause-answer g c =
    let some : c.args.self.now ≡ Some c.in-Some.session = cc in
    elim c.match-wait_in.branch [
      | in-Ok w ↦ rw (w.result-is, some) w.in-Ok.ensures.ok
      | in-Err w ↦ rw (w.result-is, some) w.in-Err.ensures.err
    ]
