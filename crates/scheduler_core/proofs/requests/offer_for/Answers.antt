use Rattle.std.proofs.Common.{Option, sym, ◌∙◌, ap, subst}
use Rattle.drmaa_types.specs.Refusals.{refused_or}
use Rattle.drmaa_types.specs.RefusalLaws.{passed_first}
use Rattle.drmaa_types.specs.declared.refusals.Refusal.{Refusal}
use Rattle.job_template.specs.Frames.{frame_tests}
use Rattle.plan_book.specs.Book.{plan_of}
use Rattle.scheduler_core.specs.Requesting.{come, offered, room_tests}
use Rattle.drmaa_model.specs.FrameLaws.{IsFrame, frame-is}
use Rattle.scheduler_core.proofs.TableLaws.{frame-read, frame-refused, err-offer}
use Rattle.scheduler_core.proofs.requests.offer_for.Goals as goal

pub offer_in-requires-clause-frame : goal.offer_in-requires-clause-frame
offer_in-requires-clause-frame c =
    let q = come c.args.at (plan_of c.args.book.now) in
    let read = frame-read c.args.t.now q c.moment_at-moment.result c.in-Ok.frame c.moment_at-moment.ensures (c.in-Ok.ensures {u = tt}) in
    subst (IsFrame q.moment) (sym read.frame) (frame-is q.moment c.args.t.now read.free)

pub returns-in-Err : goal.returns-in-Err
returns-in-Err c =
    let t = c.args.t.now in
    let q = come c.args.at (plan_of c.args.book.now) in
    err-offer t q c.in-Err.why (frame-refused t q c.moment_at-moment.result c.in-Err.why c.moment_at-moment.ensures (c.in-Err.ensures {u = tt}))

pub returns-in-Ok : goal.returns-in-Ok
returns-in-Ok c =
    let t = c.args.t.now in
    let q = come c.args.at (plan_of c.args.book.now) in
    let read = frame-read t q c.moment_at-moment.result c.in-Ok.frame c.moment_at-moment.ensures (c.in-Ok.ensures {u = tt}) in
    c.offer_in.ensures ∙ sym (ap (λ (o : Option Refusal). refused_or o (offered t q)) (passed_first (frame_tests q.moment t) (room_tests t q) read.free))
