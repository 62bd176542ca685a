use Rattle.std.proofs.lemmas.Result.{err_from_is_err_and}
use Rattle.std.proofs.Common.{subst, sym, refl}
use Rattle.std.specs.Prelude.{IsOk}
use Rattle.attendant.proofs.Firsts.{refused-first, refused-then, refused-none, round_of}
use Rattle.attendant.proofs.Loops.{launch_held, round_held, reaping_tends}
use Rattle.attendant.specs.Acts.{own_acts}
use Rattle.attendant.proofs.attending.attend_once.Goals as goal

pub returns-in_err-launched-clause-err : goal.returns-in_err-launched-clause-err
returns-in_err-launched-clause-err g c =
    let p = err_from_is_err_and c.from_residual.result c.from_residual.ensures.1 in
    rw (p.1, p.2) (launch_held _ _ _ _ _ _ c.requires.launcher c.launch_once-launched.ensures.desk c.in_err-launched.ensures.err)

pub returns-in_err-reports-clause-err : goal.returns-in_err-reports-clause-err
returns-in_err-reports-clause-err g c =
    let p = err_from_is_err_and c.from_residual-in_err-reports.result c.from_residual-in_err-reports.ensures.1 in
    rw (p.1, p.2) (round_held _ _ _ _ _ _ _ (λ k. (c.launch_once-launched.ensures.tends (own_acts c.args.reaping.now.client) k).owes) c.in_err-reports.ensures.err)

pub returns-in_err-launched-clause-refused : goal.returns-in_err-launched-clause-refused
returns-in_err-launched-clause-refused g c =
    let p = err_from_is_err_and c.from_residual.result c.from_residual.ensures.1 in
    let e = c.launch_once-launched.ensures in
    rw (p.1, p.2) (round_of _ _ _ _ _ _ _ _ _ _ _ _ _ _ _ _ c.launch_once-launched.result c.reap_once-reports.result _ e.steps e.nothing e.order c.reap_once-reports.ensures.steps
    (refused-first _ _ _ c.in_err-launched.was))

pub returns-in_err-reports-clause-refused : goal.returns-in_err-reports-clause-refused
returns-in_err-reports-clause-refused g c =
    let p = err_from_is_err_and c.from_residual-in_err-reports.result c.from_residual-in_err-reports.ensures.1 in
    let e = c.launch_once-launched.ensures in
    rw (p.1, p.2) (round_of _ _ _ _ _ _ _ _ _ _ _ _ _ _ _ _ c.launch_once-launched.result c.reap_once-reports.result _ e.steps e.nothing e.order c.reap_once-reports.ensures.steps
    (refused-then _ _ _ _ c.in_ok-launched.was c.in_err-reports.was))

pub returns-clause-served : goal.returns-clause-served
returns-clause-served g c =
    let e = c.launch_once-launched.ensures in
    round_of _ _ _ _ _ _ _ _ _ _ _ _ _ _ _ _ c.launch_once-launched.result c.reap_once-reports.result _ e.steps e.nothing e.order c.reap_once-reports.ensures.steps
    (refused-none _ _ _ _ c.in_ok-launched.was c.in_ok-reports.was)

pub returns-in_err-launched-clause-attending : goal.returns-in_err-launched-clause-attending
returns-in_err-launched-clause-attending g c =
    let p = err_from_is_err_and c.from_residual.result c.from_residual.ensures.1 in
    record {
      fates = c.launch_once-launched.ensures.fates;
      tends = λ t. reaping_tends g.S.One.Child.told (g.S.Spawner.fate c.args.spawner.now) _ _ _ _ _ _ _ c.reap_once-reports.ensures.keeping (c.launch_once-launched.ensures.tends (own_acts c.args.reaping.now.client) t);
      keeps = λ k. c.reap_once-reports.ensures.keeping.keeps _ _ _ (c.launch_once-launched.ensures.keeps (own_acts c.args.reaping.now.client) k);
      agrees = λ clean k a. absurd (let bad = subst IsOk p.1 clean in cc);
    }

pub returns-in_err-reports-clause-attending : goal.returns-in_err-reports-clause-attending
returns-in_err-reports-clause-attending g c =
    let p = err_from_is_err_and c.from_residual-in_err-reports.result c.from_residual-in_err-reports.ensures.1 in
    record {
      fates = c.launch_once-launched.ensures.fates;
      tends = λ t. reaping_tends g.S.One.Child.told (g.S.Spawner.fate c.args.spawner.now) _ _ _ _ _ _ _ c.reap_once-reports.ensures.keeping (c.launch_once-launched.ensures.tends (own_acts c.args.reaping.now.client) t);
      keeps = λ k. c.reap_once-reports.ensures.keeping.keeps _ _ _ (c.launch_once-launched.ensures.keeps (own_acts c.args.reaping.now.client) k);
      agrees = λ clean k a. absurd (let bad = subst IsOk p.1 clean in cc);
    }

pub returns-clause-attending : goal.returns-clause-attending
returns-clause-attending g c = record {
  fates = c.launch_once-launched.ensures.fates;
  tends = λ t. reaping_tends g.S.One.Child.told (g.S.Spawner.fate c.args.spawner.now) _ _ _ _ _ _ _ c.reap_once-reports.ensures.keeping (c.launch_once-launched.ensures.tends (own_acts c.args.reaping.now.client) t);
  keeps = λ k. c.reap_once-reports.ensures.keeping.keeps _ _ _ (c.launch_once-launched.ensures.keeps (own_acts c.args.reaping.now.client) k);
  agrees = λ clean k a. c.in_ok-reports.ensures.agrees.agrees _ _ _ (c.launch_once-launched.ensures.keeps (own_acts c.args.reaping.now.client) k)
      (c.launch_once-launched.ensures.agrees (own_acts c.args.reaping.now.client) (subst IsOk (sym c.in_ok-launched.was) refl) k a);
}
