use Rattle.std.proofs.Common.{◌≡◌, ◌-◌, ◌≤◌, length, take}
use Rattle.drmaa_model.specs.History.{now_of}
use Rattle.change_callbacks.specs.Ears.{HaveHeard}
use Rattle.script_play.specs.Along.{IsHandedOn}
use Rattle.script_play.proofs.hearing.hand_over.Given as goal

-- the changes up to the next place were handed over, and nothing else of the ears has changed but what their callbacks heard
abbrev pub invariant-loop-next : goal.invariant-loop-next
invariant-loop-next g l = record {
  within : l.next ≤ length (now_of l.player.ledger).plan.changes;
  handed : l.ears.handed ≡ take l.next (now_of l.player.ledger).plan.changes;
  begun : l.ears.begun ≡ l.fn.ears.begun;
  places : l.ears.places ≡ l.fn.ears.places;
  heard : HaveHeard g.B.Callback.counted g.B.Callback.told l.fn.ears → HaveHeard g.B.Callback.counted g.B.Callback.told l.ears;
  further : IsHandedOn g.B.Callback.counted g.B.Callback.told l.fn.ears l.ears;
}

abbrev pub decreases-loop-next : goal.decreases-loop-next
decreases-loop-next g l = length (now_of l.player.ledger).plan.changes - l.next
