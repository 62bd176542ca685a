-- What a wait waits for, as a call: our profile.
use Rattle.drmaa_model.specs.declared.calls.Call.{Call}
use Rattle.drmaa_model.specs.declared.calls.Call.TheVariants as call
use Rattle.drmaa_machine.specs.declared.waits.Awaited.{Awaited}

abbrev pub call_of : Awaited → Call
call_of a = call.Wait a.session a.jobs a.kind a.begun a.timeout
