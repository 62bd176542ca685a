use Rattle.std.proofs.Common.{◌≡◌, List, ℕ, ◌+◌, [], ◌∷◌, ◌++◌, take, drop, sym, ap, subst, ◌∙◌, arith, get_or}
use Rattle.std.proofs.lemmas.List.{take_more, take_all}
use Rattle.drmaa_model.specs.declared.calls.Call.TheVariants as call
use Rattle.drmaa_model.specs.declared.calls.Target.TheVariants as target
use Rattle.drmaa_model.specs.declared.replies.Reply.TheVariants as reply
use Rattle.wait_calls.proofs.Seats.{still-same, still-both}
use Rattle.drmaa1_face.specs.FaceEntries.{reaps_of}
use Rattle.drmaa1_face.specs.Posts.{post}
use Rattle.drmaa1_face.specs.Steps.{Step, IsMade, Stops}
use Rattle.drmaa1_face.specs.Steps.Ask.{at_once}
use Rattle.drmaa1_face.proofs.Making.{made-none, made-then, halts-then}
use Rattle.drmaa1_face.proofs.Lists.{reaps-more, split_at}
use Rattle.drmaa1_face.proofs.synchronizing.reap_each.Goals as goal

pub loop-job-init : goal.loop-job-init
loop-job-init g c = record { desk = still-same _ _ c.requires; made = made-none _ _ }

pub loop-job-preserved : goal.loop-job-preserved
loop-job-preserved g c =
    let i = c.loop-job.invariant in
    let k : ℕ = c.loop-job.job-index in
    let more : reaps_of c.args.session (take k c.args.jobs.now) ++ reaps_of c.args.session ((get_or c.args.jobs.now c.loop-job.job-index 0) ∷ []) ≡ reaps_of c.args.session (take (k + 1) c.args.jobs.now) =
    reaps-more c.args.session (take k c.args.jobs.now) ((get_or c.args.jobs.now c.loop-job.job-index 0) ∷ []) ∙ ap (λ (l : List ℕ). reaps_of c.args.session l) (sym (take_more c.args.jobs.now k 0 c.loop-job-test.true)) in
    record {
      desk = still-both _ _ _ _ _ _ i.desk c.reap.ensures.desk;
      made = subst (λ (l : List Step). IsMade c.args.desk.now.shared.now.fixed (post g.C.Clock.given g.C.Clock.least c.args.desk.now) l (post g.C.Clock.given g.C.Clock.least c.reap.new.desk)) more
          (made-then _ _ i.desk.shared_is _ _ _ (reaps_of c.args.session (take k c.args.jobs.now)) (reaps_of c.args.session ((get_or c.args.jobs.now c.loop-job.job-index 0) ∷ [])) i.made c.in-Ok.ensures.ok);
    }

pub returns-in-Err-clause-desk : goal.returns-in-Err-clause-desk
returns-in-Err-clause-desk g c = still-both _ _ _ _ _ _ c.loop-job.invariant.desk c.reap.ensures.desk

pub returns-in-Err-clause-err : goal.returns-in-Err-clause-err
returns-in-Err-clause-err g c =
    let i = c.loop-job.invariant in
    let k : ℕ = c.loop-job.job-index in
    let rest : List ℕ = drop (k + 1) c.args.jobs.now in
    let more : reaps_of c.args.session (take k c.args.jobs.now) ++ reaps_of c.args.session ((get_or c.args.jobs.now c.loop-job.job-index 0) ∷ rest) ≡ reaps_of c.args.session c.args.jobs.now =
    reaps-more c.args.session (take k c.args.jobs.now) ((get_or c.args.jobs.now c.loop-job.job-index 0) ∷ rest) ∙ ap (λ (l : List ℕ). reaps_of c.args.session l) (sym (split_at c.args.jobs.now k c.loop-job-test.true)) in
    subst (λ (l : List Step). Stops c.args.desk.now.shared.now.fixed (post g.C.Clock.given g.C.Clock.least c.args.desk.now) l c.in-Err.why (post g.C.Clock.given g.C.Clock.least c.reap.new.desk)) more
    (halts-then _ _ i.desk.shared_is _ _ _ (reaps_of c.args.session (take k c.args.jobs.now)) [] i.made (at_once (call.Reap c.args.session (target.Job (record { 0 = (get_or c.args.jobs.now c.loop-job.job-index 0) })))) reply.Unit (reaps_of c.args.session rest) c.in-Err.why c.in-Err.ensures.err)

pub returns-in-Err-clause-timely : goal.returns-in-Err-clause-timely
returns-in-Err-clause-timely g c is = c.reap.ensures.timely (cc)

pub returns-clause-ok : goal.returns-clause-ok
returns-clause-ok g c =
    let i = c.loop-job.invariant in
    subst (λ (l : List Step). IsMade c.args.desk.now.shared.now.fixed (post g.C.Clock.given g.C.Clock.least c.args.desk.now) l (post g.C.Clock.given g.C.Clock.least c.loop-job.desk))
    (ap (λ (l : List ℕ). reaps_of c.args.session l) (take_all c.loop-job.job-index c.args.jobs.now (omega (arith, c.loop-job-test.false)))) i.made
