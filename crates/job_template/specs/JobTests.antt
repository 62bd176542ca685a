-- What is wrong with a job template, in order: our profile.
use Rattle.std.specs.Prelude.{ℕ, Bool, false, not, ◌||◌, ◌==◌, nat_le, nat_lt, List, [], ◌∷◌, ◌++◌, is_some, is_none}
use Rattle.std.specs.Option.{option_map_or}
use Rattle.std.specs.List.{list_any}
use Rattle.drmaa_types.specs.declared.queues.QueueSpec.{QueueSpec}
use Rattle.drmaa_types.specs.declared.refusals.Refusal.{Refusal}
use Rattle.drmaa_types.specs.declared.refusals.Refusal.TheVariants.{InvalidArgument, OutOfResource, UnsupportedAttribute}
use Rattle.drmaa_types.specs.declared.refusals.Which.TheVariants as which
use Rattle.drmaa_types.specs.declared.refusals.Limit.TheVariants as resource
use Rattle.drmaa_types.specs.declared.refusals.Attribute.TheVariants as attribute
use Rattle.job_template.specs.declared.templates.JobTemplate.{JobTemplate}
use Rattle.drmaa_types.specs.declared.template_parts.ResourceLimit.{ResourceLimit}
use Rattle.job_template.specs.Texts.{most_text, text_length, has_nul, is_bad_command, is_bad_path, is_bad_name, is_bad_environment}
use Rattle.job_template.specs.Unsupported.{other_tests, other_limit}
use Rattle.job_template.specs.Wants.{is_wallclock, min_slots, max_slots, queue_of, queue_limit}

-- what is run
abbrev pub command_tests : JobTemplate → List (Bool × Refusal)
command_tests t =
    (nat_lt most_text (text_length t), OutOfResource resource.TemplateText) ∷
    (is_bad_command t.remote_command, InvalidArgument which.RemoteCommand) ∷
    (list_any has_nul t.args, InvalidArgument which.Args) ∷
    (is_bad_environment t.job_environment, InvalidArgument which.JobEnvironment) ∷ []

-- Where there are no queues, none may be named; where there are some, one of them.
abbrev pub queue_test : List QueueSpec → JobTemplate → Bool × Refusal
queue_test [] t = (is_some t.queue_name, UnsupportedAttribute attribute.QueueName)
queue_test (first ∷ others) t = (is_none (queue_of (first ∷ others) t), InvalidArgument which.QueueName)

-- where it is run, its name, and its queue
abbrev pub path_tests : List QueueSpec → JobTemplate → List (Bool × Refusal)
path_tests queues t =
    (is_bad_path t.working_directory, InvalidArgument which.WorkingDirectory) ∷
    (is_bad_name t.job_name, InvalidArgument which.JobName) ∷
    (is_bad_path t.input_path, InvalidArgument which.InputPath) ∷
    (is_bad_path t.output_path, InvalidArgument which.OutputPath) ∷
    (is_bad_path t.error_path, InvalidArgument which.ErrorPath) ∷
    queue_test queues t ∷ []

-- a deadline is set, and is not after now, or not after the start
abbrev pub is_bad_deadline : ℕ → JobTemplate → Bool
is_bad_deadline now t =
    option_map_or (λ (deadline : ℕ). nat_le deadline now || option_map_or (nat_le deadline) t.start_time false) t.deadline_time false

-- the least number of slots is 0, above those of the machine, or above the limit of the queue that binds the job
abbrev pub is_bad_least : ℕ → List QueueSpec → JobTemplate → Bool
is_bad_least slots queues t =
    (min_slots t == 0) || nat_lt slots (min_slots t) || option_map_or (λ (limit : ℕ). nat_lt limit (min_slots t)) (queue_limit queues t) false

-- on how many slots, and until when
abbrev pub slot_tests : ℕ → List QueueSpec → ℕ → JobTemplate → List (Bool × Refusal)
slot_tests slots queues now t =
    (is_bad_least slots queues t, InvalidArgument which.MinSlots) ∷
    (nat_lt (max_slots t) (min_slots t), InvalidArgument which.MaxSlots) ∷
    (is_bad_deadline now t, InvalidArgument which.DeadlineTime) ∷ []

-- A limit is refused where it is not WALLCLOCK_TIME, and where it is one of 0 seconds or one that stands already in the list.
abbrev pub limit_tests : Bool → List ResourceLimit → List (Bool × Refusal)
limit_tests stands [] = []
limit_tests stands (l ∷ ls) =
    (not (is_wallclock l), other_limit l.name) ∷
    ((l.value == 0) || stands, InvalidArgument which.ResourceLimits) ∷ limit_tests (stands || is_wallclock l) ls

abbrev pub job_tests : ℕ → List QueueSpec → ℕ → JobTemplate → List (Bool × Refusal)
job_tests slots queues now t =
    command_tests t ++ path_tests queues t ++ slot_tests slots queues now t ++ limit_tests false t.resource_limits ++ other_tests t.others
