use Rattle.std.proofs.Common.{ℕ, List, subst, ◌∙◌, inl}
use Rattle.drmaa_model.specs.declared.calls.Call.TheVariants as call
use Rattle.wait_calls.proofs.Alone.{waits-alone}
use Rattle.wait_calls.proofs.Seats.{still-same, still-stays}
use Rattle.client_sessions.specs.Desks.{dial_of, WaitDenies}
use Rattle.client_sessions.proofs.jobs.Job.wait_alone.Goals as goal

pub returns-in-Ok-wait-clause-ok : goal.returns-in-Ok-wait-clause-ok
returns-in-Ok-wait-clause-ok g c =
    waits-alone c.args.desk.now.shared.now.fixed (dial_of g.C.Clock.given g.C.Clock.least c.args.desk.now) c.args.desk.now.client
    c.args.self.session c.args.self.job.0 c.args.kind c.args.timeout
    (dial_of g.C.Clock.given g.C.Clock.least c.wait.new.desk) c.wait.new.desk.client c.from_vec.result c.in-Ok-wait.field-0 (c.from_vec.ensures ∙ c.in-Ok.ensures.items) c.in-Ok-wait.ensures.ok

pub returns-in-Err-clause-err : goal.returns-in-Err-clause-err
returns-in-Err-clause-err g c =
    inl (
      c.wait.ensures.desk,
      subst (λ (l : List ℕ). WaitDenies g.C.Clock.given g.C.Clock.least c.args.desk.now (λ (begun : ℕ). call.Wait c.args.self.session l c.args.kind begun c.args.timeout) c.in-Err.why c.wait.new.desk)
          (c.from_vec.ensures ∙ c.in-Ok.ensures.items) c.in-Err.ensures.err,
    )

pub returns-in_default-clause-still : goal.returns-in_default-clause-still
returns-in_default-clause-still g c = still-same _ _ c.requires

pub returns-in-Ok-wait-clause-still : goal.returns-in-Ok-wait-clause-still
returns-in-Ok-wait-clause-still g c = still-stays _ _ _ _ c.wait.ensures.desk c.wait.ensures.begins

pub returns-in-Err-clause-still : goal.returns-in-Err-clause-still
returns-in-Err-clause-still g c = still-stays _ _ _ _ c.wait.ensures.desk c.wait.ensures.begins
