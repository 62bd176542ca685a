use Rattle.std.proofs.Common.{ℕ, ◌+◌, List, [], ◌∷◌, ◌++◌, take, drop, refl, subst, ◌∙◌, arith, get_or}
use Rattle.std.proofs.lemmas.List.{take_more, take_all}
use Rattle.wait_calls.proofs.Seats.{still-same, still-both}
use Rattle.drmaa1_face.specs.FaceEntries.{waits_of}
use Rattle.drmaa1_face.specs.Posts.{post}
use Rattle.drmaa1_face.specs.Steps.{Step, IsMade}
use Rattle.drmaa1_face.proofs.Making.{made-none, made-then}
use Rattle.drmaa1_face.proofs.Lists.{waits-more, starts_for, split_at}
use Rattle.drmaa1_face.proofs.Stopped.{waits-stop, jobs-stop, jobs-next}
use Rattle.drmaa1_face.proofs.Whole.{late-from, least-behind}
use Rattle.drmaa1_face.proofs.synchronizing.wait_for_each.Goals as goal

pub loop-job-init : goal.loop-job-init
loop-job-init g c = record { desk = still-same _ _ c.requires; starts = []; jobs = refl; made = made-none _ _ }

pub loop-job-preserved : goal.loop-job-preserved
loop-job-preserved g c =
    let i = c.loop-job.invariant in
    let p = c.in-Ok.ensures.ok in
    let k : ℕ = c.loop-job.job-index in
    record {
      desk = still-both _ _ _ _ _ _ i.desk c.wait_for_one.ensures.desk;
      starts = i.starts ++ p.0 ∷ [];
      jobs = jobs-next i.starts p.0 (take k c.args.jobs.now) (take (k + 1) c.args.jobs.now) (get_or c.args.jobs.now c.loop-job.job-index 0) i.jobs p.1 (take_more c.args.jobs.now k 0 c.loop-job-test.true);
      made = subst (λ (l : List Step). IsMade c.args.desk.now.shared.now.fixed (post g.C.Clock.given g.C.Clock.least c.args.desk.now) l (post g.C.Clock.given g.C.Clock.least c.wait_for_one.new.desk))
          (waits-more c.args.session c.args.timeout c.args.first i.starts (p.0 ∷ []))
          (made-then _ _ i.desk.shared_is _ _ _ (waits_of c.args.session c.args.timeout c.args.first i.starts) (waits_of c.args.session c.args.timeout c.args.first (p.0 ∷ [])) i.made p.2);
    }

pub returns-in-Err-clause-desk : goal.returns-in-Err-clause-desk
returns-in-Err-clause-desk g c = still-both _ _ _ _ _ _ c.loop-job.invariant.desk c.wait_for_one.ensures.desk

pub returns-in-Err-clause-err : goal.returns-in-Err-clause-err
returns-in-Err-clause-err g c =
    let i = c.loop-job.invariant in
    let p = c.in-Err.ensures.err in
    let k : ℕ = c.loop-job.job-index in
    let rest : List ℕ = drop (k + 1) c.args.jobs.now in (
      (i.starts ++ p.0 ∷ []) ++ starts_for rest,
      jobs-stop i.starts p.0 (take k c.args.jobs.now) rest c.args.jobs.now (get_or c.args.jobs.now c.loop-job.job-index 0) i.jobs p.1 (split_at c.args.jobs.now k c.loop-job-test.true),
      waits-stop _ _ i.desk.shared_is _ _ _ c.args.session c.args.timeout c.args.first i.starts p.0 (starts_for rest) c.in-Err.why i.made p.2,
    )

pub returns-in-Err-clause-late : goal.returns-in-Err-clause-late
returns-in-Err-clause-late g c low is =
    let i = c.loop-job.invariant in
    late-from _ _ i.desk.shared_is c.args.first c.args.timeout _ _ _ i.desk.number
    (c.wait_for_one.ensures.late (least-behind _ _ _ (waits_of c.args.session c.args.timeout c.args.first i.starts) c.args.first low i.made) (cc))

pub returns-clause-ok : goal.returns-clause-ok
returns-clause-ok g c =
    let i = c.loop-job.invariant in
    (i.starts, i.jobs ∙ take_all c.loop-job.job-index c.args.jobs.now (omega (arith, c.loop-job-test.false)), i.made)
