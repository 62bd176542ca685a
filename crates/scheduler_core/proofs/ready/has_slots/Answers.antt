use Rattle.std.proofs.Common.{Option, sym, ◌∙◌, ap}
use Rattle.std.specs.Option.{option_map_or}
use Rattle.drmaa_types.specs.declared.identifiers.ReservationId.{ReservationId}
use Rattle.drmaa_model.specs.NextLaunch.{has_slots_in}
use Rattle.plan_book.specs.Book.{plan_of}
use Rattle.scheduler_core.specs.Launches.{free_of, seen}
use Rattle.scheduler_core.proofs.ready.has_slots.Goals as goal

pub returns-in-None-clause-value : goal.returns-in-None-clause-value
returns-in-None-clause-value c =
    let q = seen c.args.moment (plan_of c.args.book.now) in
    c.has_slots_free.ensures.value
    ∙ sym (ap (λ (o : Option ReservationId). option_map_or (has_slots_in q c.args.slots) o (free_of q c.args.slots c.args.wants.now)) c.in-None.is)
