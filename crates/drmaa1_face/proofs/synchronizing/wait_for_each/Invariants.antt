use Rattle.std.proofs.Common.{◌≡◌, List, take}
use Rattle.call_history.specs.Clients.{IsStillAt}
use Rattle.drmaa1_face.specs.FaceEntries.{Start, jobs_of, waits_of}
use Rattle.drmaa1_face.specs.Posts.{post}
use Rattle.drmaa1_face.specs.Steps.{IsMade}
use Rattle.drmaa1_face.proofs.synchronizing.wait_for_each.Given as goal

abbrev pub invariant-loop-job : goal.invariant-loop-job
invariant-loop-job g l = record {
  desk : IsStillAt l.fn.desk.shared.now l.fn.desk.client l.desk.shared.now l.desk.client;
  starts : List Start;
  jobs : jobs_of starts ≡ take l.job-index l.jobs;
  made : IsMade l.fn.desk.shared.now.fixed (post g.C.Clock.given g.C.Clock.least l.fn.desk) (waits_of l.session l.timeout l.first starts) (post g.C.Clock.given g.C.Clock.least l.desk);
}
