use Rattle.wait_calls.proofs.Seats.{still-same, still-stays}
use Rattle.drmaa1_face.proofs.Ones.{one-made, one-stops, one-unasked, one-late}
use Rattle.drmaa1_face.proofs.synchronizing.wait_for_one.Goals as goal

pub returns-in_default-clause-desk : goal.returns-in_default-clause-desk
returns-in_default-clause-desk g c = still-same _ _ c.requires

pub returns-in_default-clause-err : goal.returns-in_default-clause-err
returns-in_default-clause-err g c = one-unasked _ _ _ c.args.session c.args.job c.args.first c.now-read.result c.args.timeout (record { told = c.now-read.ensures.given; least = c.now-read.ensures.least; rising = c.now-read.ensures.rising })

pub returns-in-Ok-wait-clause-desk : goal.returns-in-Ok-wait-clause-desk
returns-in-Ok-wait-clause-desk g c = still-stays _ _ _ _ c.wait.ensures.desk c.wait.ensures.begins

pub returns-in-Ok-wait-clause-ok : goal.returns-in-Ok-wait-clause-ok
returns-in-Ok-wait-clause-ok g c =
    one-made _ _ _ c.args.session c.args.job c.args.first c.now-read.result c.args.timeout (record { told = c.now-read.ensures.given; least = c.now-read.ensures.least; rising = c.now-read.ensures.rising })
    _ _ _ c.in-Ok.ensures.ok c.left_of-left.ensures c.in-Ok-wait.field-0 c.wait.ensures.desk.number c.in-Ok-wait.ensures.ok

pub returns-in-Err-clause-desk : goal.returns-in-Err-clause-desk
returns-in-Err-clause-desk g c = still-stays _ _ _ _ c.wait.ensures.desk c.wait.ensures.begins

pub returns-in-Err-clause-err : goal.returns-in-Err-clause-err
returns-in-Err-clause-err g c =
    one-stops _ _ _ c.args.session c.args.job c.args.first c.now-read.result c.args.timeout (record { told = c.now-read.ensures.given; least = c.now-read.ensures.least; rising = c.now-read.ensures.rising })
    _ _ _ c.in-Ok.ensures.ok c.left_of-left.ensures c.in-Err.why c.wait.ensures.desk.number c.in-Err.ensures.err

pub returns-in-Err-clause-late : goal.returns-in-Err-clause-late
returns-in-Err-clause-late g c low is =
    one-late _ _ _ c.args.session c.args.job c.args.first c.now-read.result c.args.timeout (record { told = c.now-read.ensures.given; least = c.now-read.ensures.least; rising = c.now-read.ensures.rising })
    _ _ _ c.in-Ok.ensures.ok c.left_of-left.ensures c.in-Err.why low (cc) c.in-Err.ensures.err
