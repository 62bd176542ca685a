use Rattle.std.proofs.Common.{refl}
use Rattle.std.proofs.lemmas.Result.{IfErr-at_err}
use Rattle.call_history.specs.Refused.IsRefused.{by_entry}
use Rattle.client_sessions.proofs.AtOnce.{StandsFirm, told-at-once, turned-down, failed-try, err-both}
use Rattle.client_sessions.proofs.jobs.Job.try_get_state.Goals as goal

pub returns-in-Ok-clause-err : goal.returns-in-Ok-clause-err
returns-in-Ok-clause-err g c =
    err-both c.state_told.result _ _ _ c.state_told.ensures.kind c.state_told.ensures.err (λ reason other refused.
    let down = turned-down c.args.desk.now.shared.now.fixed _ c.args.desk.now.client c.args.self.session c.args.self.job c.in-Ok.reply _ c.try_call.new.self.client c.try_call.ensures.legal c.in-Ok.ensures.ok reason other refused in
    told-at-once _ _ _ _ _ _ reason down.firm (by_entry down.entry))

pub returns-in-Ok-clause-unread : goal.returns-in-Ok-clause-unread
returns-in-Ok-clause-unread g c served drawn is =
    absurd (IfErr-at_err StandsFirm is
    (err-both c.state_told.result _ _ StandsFirm c.state_told.ensures.kind c.state_told.ensures.err (λ reason other refused.
    (turned-down c.args.desk.now.shared.now.fixed _ c.args.desk.now.client c.args.self.session c.args.self.job c.in-Ok.reply _ c.try_call.new.self.client c.try_call.ensures.legal c.in-Ok.ensures.ok reason other refused).firm))
    served drawn refl)

pub returns-in-Err-clause-err : goal.returns-in-Err-clause-err
returns-in-Err-clause-err g c = failed-try _ _ _ c.args.self.session c.args.self.job _ _ c.in-Err.fault c.refusal_at_once.result c.refusal_at_once.ensures c.in-Err.ensures.err
