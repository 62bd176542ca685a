-- What a template asks for where it leaves an attribute unset (GFD.231, JobTemplate): our profile.
use Rattle.std.specs.Prelude.{ℕ, ℤ, pos, Bool, List, [], ◌∷◌, find, codes, Option, Some, None, is_some, unwrap_or, if◌then◌else◌}
use Rattle.std.specs.Option.{option_map, option_map_or, option_and_then}
use Rattle.std.specs.Str.{bytes_eq}
use Rattle.drmaa_types.specs.Queues.{queue_at, place_of}
use Rattle.drmaa_types.specs.declared.queues.QueueSpec.{QueueSpec}
use Rattle.job_template.specs.declared.templates.JobTemplate.{JobTemplate}
use Rattle.drmaa_types.specs.declared.template_parts.ResourceLimit.{ResourceLimit}

-- an unset least number of slots is 1
abbrev pub least_slots : Option ℕ → ℕ
least_slots min = unwrap_or min 1

-- an unset greatest number of slots is the least
abbrev pub greatest_slots : Option ℕ → Option ℕ → ℕ
greatest_slots min max = unwrap_or max (least_slots min)

-- the least and the greatest number of slots of a job
abbrev pub min_slots : JobTemplate → ℕ
min_slots t = least_slots t.min_slots

abbrev pub max_slots : JobTemplate → ℕ
max_slots t = greatest_slots t.min_slots t.max_slots

-- its priority
abbrev pub priority : JobTemplate → ℤ
priority t = unwrap_or t.priority (pos 0)

-- the limit of how many seconds a launch may last
abbrev pub is_wallclock : ResourceLimit → Bool
is_wallclock l = bytes_eq l.name (codes "WALLCLOCK_TIME")

-- how many seconds a launch of the job may last
abbrev pub wallclock_limit : JobTemplate → Option ℕ
wallclock_limit t = option_map (λ (l : ResourceLimit). l.value) (find is_wallclock t.resource_limits)

-- the place of a job's queue among these: of the one that it names, and of the first where it names none
abbrev pub queue_of : List QueueSpec → JobTemplate → Option ℕ
queue_of [] t = None
queue_of (first ∷ others) t = option_map_or (λ (name : List ℕ). place_of name (first ∷ others)) t.queue_name (Some 1)

-- the limit of its queue, which binds a job that names no reservation
abbrev pub queue_limit : List QueueSpec → JobTemplate → Option ℕ
queue_limit queues t =
    if is_some t.reservation_id then None
    else option_map (λ (queue : QueueSpec). queue.limit) (option_and_then (λ (place : ℕ). queue_at place queues) (queue_of queues t))
