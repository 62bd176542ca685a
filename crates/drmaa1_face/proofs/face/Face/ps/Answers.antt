use Rattle.std.proofs.Common.{◌≡◌, refl, [], Some}
use Rattle.drmaa_model.specs.declared.calls.Call.TheVariants as call
use Rattle.drmaa_model.specs.declared.replies.Reply.TheVariants as reply
use Rattle.drmaa_types.specs.declared.states.JobState.TheVariants as state
use Rattle.drmaa1_face.specs.FaceEntries.FaceCall.{ps}
use Rattle.drmaa1_face.specs.Steps.Ask.{at_once}
use Rattle.drmaa1_face.proofs.Making.{stops-first}
use Rattle.drmaa1_face.proofs.face.Face.ps.Goals as goal
use Rattle.drmaa1_face.proofs.face.Face.ps.Goals.{in-Ok, in-Err}

pub returns-clause-answer : goal.returns-clause-answer
returns-clause-answer g c =
    let some : c.args.self.now ≡ Some c.in-Some.session = cc in
    elim c.match-ask_for.branch [
      | in-Ok w ↦ rw (w.result-is, some) (ps c.args.job w.in-Ok.state, refl, w.in-Ok.ensures.ok)
      | in-Err w ↦ rw (w.result-is, some) (
        state.Undetermined,
        ps c.args.job state.Undetermined,
        refl,
        stops-first _ _ _ (at_once (call.GetState c.in-Some.session c.args.job)) (reply.State state.Undetermined) [] w.in-Err.why w.in-Err.ensures.err,
      )
    ]
