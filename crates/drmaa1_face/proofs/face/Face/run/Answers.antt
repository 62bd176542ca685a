use Rattle.std.proofs.Common.{◌≡◌, refl, [], Some}
use Rattle.drmaa_model.specs.declared.calls.Call.TheVariants as call
use Rattle.drmaa_model.specs.declared.replies.Reply.TheVariants as reply
use Rattle.drmaa1_face.specs.FaceEntries.FaceCall.{run}
use Rattle.drmaa1_face.specs.Steps.Ask.{at_once}
use Rattle.drmaa1_face.proofs.Making.{stops-first}
use Rattle.drmaa1_face.proofs.face.Face.run.Goals as goal
use Rattle.drmaa1_face.proofs.face.Face.run.Goals.{in-Ok, in-Err}

pub returns-clause-answer : goal.returns-clause-answer
returns-clause-answer g c =
    let some : c.args.self.now ≡ Some c.in-Some.session = cc in
    elim c.match-ask_to_run.branch [
      | in-Ok w ↦ rw (w.result-is, some) (run c.args.template w.in-Ok.job, refl, w.in-Ok.ensures.ok)
      | in-Err w ↦ rw (w.result-is, some) (
        record { 0 = 0 },
        run c.args.template (record { 0 = 0 }),
        refl,
        stops-first _ _ _ (at_once (call.RunJob c.in-Some.session c.args.template)) (reply.Job (record { 0 = 0 })) [] w.in-Err.why w.in-Err.ensures.err,
      )
    ]
