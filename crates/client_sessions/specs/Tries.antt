-- Why a call that does not wait is refused: our profile.
use Rattle.std.specs.Prelude.{◌≡◌}
use Rattle.drmaa_types.specs.declared.refusals.Refusal.{Refusal}
use Rattle.drmaa_types.specs.declared.refusals.Refusal.TheVariants as why
use Rattle.drmaa_model.specs.declared.calls.Call.{Call}
use Rattle.drmaa_model.specs.declared.configs.Config.{Config}
use Rattle.drmaa_model.specs.Faults.{refusal_for}
use Rattle.call_history.specs.declared.tries.TryFault.{TryFault}
use Rattle.call_history.specs.declared.tries.TryFault.TheVariants as fault
use Rattle.call_history.specs.Calls.{IsBusy}
use Rattle.call_history.specs.Clients.{Seat}
use Rattle.call_history.specs.Clocks.{Dial}
use Rattle.call_history.specs.Refused.{IsRefused}

-- TryLater with these numbers: another client had its turn, and nothing was read, seen or made. Any other refusal is that of the one entry, or comes with no entry.
abbrev pub IsRefusedAtOnce : Config → Dial → Seat → Call → Dial → Seat → Refusal → Type 0
IsRefusedAtOnce config before old asked after new (why.TryLater served drawn) = IsBusy before old served drawn after new
IsRefusedAtOnce config before old asked after new reason = IsRefused config before old asked reason after new

-- the refusal that stands for the fault of a try, of a call that is always answered
abbrev pub IsRefusalOf : TryFault → Refusal → Type 0
IsRefusalOf (fault.Busy served drawn) reason = reason ≡ why.TryLater served drawn
IsRefusalOf (fault.Not none) reason = reason ≡ refusal_for none
