use Rattle.std.proofs.Common.{take}
use Rattle.change_callbacks.specs.Hearing.{HasHeard}
use Rattle.change_callbacks.specs.Ears.{notifications}
use Rattle.change_callbacks.proofs.handing.tell.Given as goal

abbrev pub invariant-loop-change : goal.invariant-loop-change
invariant-loop-change g l = HasHeard g.B.Callback.counted g.B.Callback.told l.fn.callback l.callback (notifications (take l.change-index l.changes))
