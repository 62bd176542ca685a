use Rattle.drmaa_model.specs.Load.{held_in_queue}
use Rattle.plan_book.specs.Usage.{in_array_of, in_reservation_of}
use Rattle.plan_book.proofs.usage.Usage.new.Goals as goal

pub returns : goal.returns
returns c = record { arrays = c.new.ensures in_array_of; queues = c.new-2.ensures held_in_queue; reservations = c.new-3.ensures in_reservation_of }
