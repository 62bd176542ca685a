use Rattle.std.proofs.Common.{◌≡◌, refl, [], Some}
use Rattle.drmaa_model.specs.declared.calls.Call.TheVariants as call
use Rattle.drmaa_model.specs.declared.replies.Reply.TheVariants as reply
use Rattle.drmaa1_face.specs.FaceEntries.{unbounded}
use Rattle.drmaa1_face.specs.FaceEntries.FaceCall.{run_bulk}
use Rattle.drmaa1_face.specs.Steps.Ask.{at_once}
use Rattle.drmaa1_face.proofs.Making.{stops-first}
use Rattle.drmaa1_face.proofs.face.Face.run_bulk.Goals as goal
use Rattle.drmaa1_face.proofs.face.Face.run_bulk.Goals.{in-Ok, in-Err}

pub returns-clause-answer : goal.returns-clause-answer
returns-clause-answer g c =
    let some : c.args.self.now ≡ Some c.in-Some.session = cc in
    elim c.match-ask_to_run_array.branch [
      | in-Ok w ↦ rw (w.result-is, some) (run_bulk c.args.template c.args.begin c.args.end c.args.step w.in-Ok.told.array (record { first = w.in-Ok.told.first; count = w.in-Ok.told.count }), (w.in-Ok.told.array, refl), w.in-Ok.ensures.ok)
      | in-Err w ↦ rw (w.result-is, some) (
        record { first = record { 0 = 0 }; count = 0 },
        run_bulk c.args.template c.args.begin c.args.end c.args.step (record { 0 = 0 }) (record { first = record { 0 = 0 }; count = 0 }),
        (record { 0 = 0 }, refl),
        stops-first _ _ _ (at_once (call.RunBulk c.in-Some.session c.args.template (unbounded c.args.begin c.args.end c.args.step))) (reply.Array (record { 0 = 0 }) (record { 0 = 0 }) 0) [] w.in-Err.why w.in-Err.ensures.err,
      )
    ]
