-- One look of a wait: our profile.
use Rattle.std.specs.Prelude.{◌≡◌, Ok, Err}
use Rattle.drmaa_model.specs.declared.configs.Config.{Config}
use Rattle.drmaa_model.specs.declared.faults.NoEntry.TheVariants as fault
use Rattle.drmaa_machine.specs.declared.waits.Awaited.{Awaited}
use Rattle.drmaa_machine.specs.Waits.{call_of}
use Rattle.call_history.specs.declared.waits.WaitLook.{WaitLook}
use Rattle.call_history.specs.declared.waits.WaitLook.TheVariants as look
use Rattle.call_history.specs.Calls.{IsServed, IsUnserved}
use Rattle.call_history.specs.Clients.{Seat}
use Rattle.call_history.specs.Clocks.{Dial}

-- What a look comes to: the wait is answered, with its one entry; or it is not, and there is none: for want of memory or room, or
-- because it is not over. Then the wait is given back.
abbrev pub IsLookOf : Config → Dial → Seat → Awaited → Dial → Seat → WaitLook → Type 0
IsLookOf config before old awaited after new (look.Over (Ok reply)) = IsServed before old (call_of awaited) reply after new
IsLookOf config before old awaited after new (look.Over (Err why)) = IsUnserved config before old (call_of awaited) why after new
IsLookOf config before old awaited after new (look.NotYet back) = (back ≡ awaited) × IsUnserved config before old (call_of awaited) fault.NotYet after new
