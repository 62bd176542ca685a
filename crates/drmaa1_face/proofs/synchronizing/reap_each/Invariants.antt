use Rattle.std.proofs.Common.{take}
use Rattle.call_history.specs.Clients.{IsStillAt}
use Rattle.drmaa1_face.specs.FaceEntries.{reaps_of}
use Rattle.drmaa1_face.specs.Posts.{post}
use Rattle.drmaa1_face.specs.Steps.{IsMade}
use Rattle.drmaa1_face.proofs.synchronizing.reap_each.Given as goal

abbrev pub invariant-loop-job : goal.invariant-loop-job
invariant-loop-job g l = record {
  desk : IsStillAt l.fn.desk.shared.now l.fn.desk.client l.desk.shared.now l.desk.client;
  made : IsMade l.fn.desk.shared.now.fixed (post g.C.Clock.given g.C.Clock.least l.fn.desk) (reaps_of l.session (take l.job-index l.jobs)) (post g.C.Clock.given g.C.Clock.least l.desk);
}
