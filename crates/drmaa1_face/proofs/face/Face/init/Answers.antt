use Rattle.std.proofs.Common.{◌≡◌, refl, [], None}
use Rattle.drmaa_model.specs.declared.calls.Call.TheVariants as call
use Rattle.drmaa_model.specs.declared.replies.Reply.TheVariants as reply
use Rattle.drmaa1_face.specs.Steps.Ask.{at_once}
use Rattle.drmaa1_face.proofs.Making.{stops-first}
use Rattle.drmaa1_face.proofs.face.Face.init.Goals as goal

pub returns-in-Err-clause-opened : goal.returns-in-Err-clause-opened
returns-in-Err-clause-opened g c =
    let none : c.args.self.now ≡ None = cc in
    rw none
    (refl, record { 0 = 0 }, stops-first _ _ _ (at_once (call.CreateJobSession c.args.name)) (reply.Session (record { 0 = 0 })) [] c.in-Err.why c.in-Err.ensures.err)
