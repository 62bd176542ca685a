use Rattle.std.proofs.Common.{[], None, subst, refl, sym}
use Rattle.std.specs.Prelude.{IsOk}
use Rattle.std.proofs.lemmas.Result.{err_from_is_err_and}
use Rattle.attendant.specs.PairLaws.{post-itself}
use Rattle.attendant.proofs.Desks.{still-free, still-both}
use Rattle.attendant.proofs.Loops.{attending_on, held_from, looked_once}
use Rattle.attendant.proofs.Firsts.{stands_on, first_refused}
use Rattle.attendant.proofs.attending.finish.Goals as goal

pub loop-init : goal.loop-init
loop-init g c = record {
  launcher = post-itself _ c.requires.launcher;
  reaping = post-itself _ c.requires.reaping;
  attending = record { fates = refl; tends = λ t. t; keeps = λ k. k; agrees = λ clean k a. a };
  rounds = ([], refl);
}

pub returns-in_err-idle-clause-launcher : goal.returns-in_err-idle-clause-launcher
returns-in_err-idle-clause-launcher g c = still-both _ _ _ c.loop.invariant.launcher c.attend_once.ensures.launcher

pub returns-in_err-idle-clause-reaping : goal.returns-in_err-idle-clause-reaping
returns-in_err-idle-clause-reaping g c = still-both _ _ _ c.loop.invariant.reaping c.attend_once.ensures.reaping

pub returns-in_err-idle-clause-err : goal.returns-in_err-idle-clause-err
returns-in_err-idle-clause-err g c =
    let i = c.loop.invariant in
    let p = err_from_is_err_and c.from_residual.result c.from_residual.ensures.1 in
    rw (p.1, p.2) (held_from _ _ _ _ _ _ _ _ _ i.launcher i.reaping i.attending.tends c.in_err-idle.ensures.err)

pub returns-in_err-idle-clause-rounds : goal.returns-in_err-idle-clause-rounds
returns-in_err-idle-clause-rounds g c =
    let i = c.loop.invariant in
    let p = err_from_is_err_and c.from_residual.result c.from_residual.ensures.1 in
    rw (p.1, p.2) (first_refused _ _ _ _ _ _ i.rounds c.in_err-idle.ensures.refused)

pub returns-then-is_settled-clause-launcher : goal.returns-then-is_settled-clause-launcher
returns-then-is_settled-clause-launcher g c = still-both _ _ _ (still-both _ _ _ c.loop.invariant.launcher c.attend_once.ensures.launcher) c.is_settled.ensures.launcher

pub returns-then-is_settled-clause-reaping : goal.returns-then-is_settled-clause-reaping
returns-then-is_settled-clause-reaping g c = rw c.is_settled.ensures.reaping (still-both _ _ _ c.loop.invariant.reaping c.attend_once.ensures.reaping)

pub returns-then-is_settled-clause-rounds : goal.returns-then-is_settled-clause-rounds
returns-then-is_settled-clause-rounds g c =
    let i = c.loop.invariant in
    let e = c.attend_once.ensures in
    rw c.is_settled.ensures.reaping (stands_on g.S.One.Child.told g.S.One.Child.faults _ _ _ _ _ _ _ _ _ _ None i.rounds c.in_ok-idle.ensures.served e.launcher e.reaping
    (looked_once _ _ _ c.is_settled.ensures.launcher c.is_settled.ensures.mine (still-free _ _ e.reaping) c.is_settled.ensures.between))

pub loop-preserved : goal.loop-preserved
loop-preserved g c =
    let i = c.loop.invariant in
    let e = c.attend_once.ensures in
    record {
      launcher = still-both _ _ _ (still-both _ _ _ i.launcher e.launcher) c.is_settled.ensures.launcher;
      reaping = rw c.is_settled.ensures.reaping (still-both _ _ _ i.reaping e.reaping);
      attending = rw (c.is_settled.ensures.mine, c.is_settled.ensures.reaping)
          (attending_on g.S.One.Child.told _ _ _ _ _ _ _ _ _ _ _ _ _ _ _ _ _ _ (Unit {0}) (IsOk c.attend_once.result) (Unit {0})
          (λ clean. clean) (λ clean. subst IsOk (sym c.in_ok-idle.was) refl) i.attending e.attending);
      rounds = rw c.is_settled.ensures.reaping (stands_on g.S.One.Child.told g.S.One.Child.faults _ _ _ _ _ _ _ _ _ _ None i.rounds c.in_ok-idle.ensures.served e.launcher e.reaping
          (looked_once _ _ _ c.is_settled.ensures.launcher c.is_settled.ensures.mine (still-free _ _ e.reaping) c.is_settled.ensures.between));
    }
