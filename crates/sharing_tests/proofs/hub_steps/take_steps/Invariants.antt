use Rattle.turn_lock.specs.Tokens.{IsFree}
use Rattle.notify_hub.specs.Hubs.{IsNoteOf}
use Rattle.sharing_tests.proofs.hub_steps.take_steps.Given as goal

abbrev pub invariant-loop-step : goal.invariant-loop-step
invariant-loop-step g l = record {
  client : IsFree l.shared l.client;
  other : IsFree l.shared l.other;
  note : IsNoteOf l.shared l.hub.note;
}
