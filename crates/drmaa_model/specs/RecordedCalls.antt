-- The call that an entry keeps of a call: our profile. A journal can print the names of limits that are ASCII capitals
-- and `_`; another name is kept as OTHER, and refused like it.
use Rattle.std.specs.Prelude.{ℕ, Bool, not, ◌&&◌, ◌||◌, ◌==◌, nat_le, List, length, map, codes, if◌then◌else◌}
use Rattle.std.specs.List.{list_all}
use Rattle.job_template.specs.declared.templates.JobTemplate.{JobTemplate}
use Rattle.drmaa_types.specs.declared.template_parts.ResourceLimit.{ResourceLimit}
use Rattle.drmaa_model.specs.declared.calls.Call.{Call}
use Rattle.drmaa_model.specs.declared.calls.Call.TheVariants as call

-- an ASCII capital, or `_`
abbrev pub is_capital : ℕ → Bool
is_capital byte = (nat_le 65 byte && nat_le byte 90) || (byte == 95)

-- a name that a journal can print
abbrev pub is_word : List ℕ → Bool
is_word name = not (length name == 0) && list_all is_capital name

abbrev pub recorded_limit : ResourceLimit → ResourceLimit
recorded_limit limit = if is_word limit.name then limit else record limit { name = codes "OTHER" }

abbrev pub recorded_template : JobTemplate → JobTemplate
recorded_template t = record t { resource_limits = map recorded_limit t.resource_limits }

-- A call that submits no job has no job template: it is kept as it is.
abbrev pub recorded : Call → Call
recorded (call.RunJob session t) = call.RunJob session (recorded_template t)
recorded (call.RunBulk session t indices) = call.RunBulk session (recorded_template t) indices
recorded c = c
