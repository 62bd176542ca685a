use Rattle.attendant.proofs.Desks.{still-both}
use Rattle.attendant.proofs.reaping.reap_round.Goals as goal

pub returns-in_err-served-clause-desk : goal.returns-in_err-served-clause-desk
returns-in_err-served-clause-desk g c = still-both _ _ _ c.serve_order-served.ensures.desk c.poll_all-ended.ensures.desk

pub returns-in_err-ended-clause-desk : goal.returns-in_err-ended-clause-desk
returns-in_err-ended-clause-desk g c = still-both _ _ _ c.serve_order-served.ensures.desk c.poll_all-ended.ensures.desk

pub returns-clause-desk : goal.returns-clause-desk
returns-clause-desk g c = still-both _ _ _ c.serve_order-served.ensures.desk c.poll_all-ended.ensures.desk
