-- The call that a submission is, and what is told of it.
use Rattle.std.specs.Prelude.{Option, Some, None}
use Rattle.std.specs.Option.{option_map_or}
use Rattle.job_template.specs.declared.templates.JobTemplate.{JobTemplate}
use Rattle.drmaa_types.specs.declared.identifiers.SessionId.{SessionId}
use Rattle.drmaa_model.specs.declared.calls.Call.{Call}
use Rattle.drmaa_model.specs.declared.calls.Call.TheVariants as call
use Rattle.drmaa_model.specs.declared.calls.Indices.{Indices}
use Rattle.drmaa_model.specs.declared.replies.Reply.{Reply}
use Rattle.drmaa_model.specs.declared.replies.Reply.TheVariants as reply
use Rattle.drmaa_model.specs.declared.replies.Submitted.{Submitted}

-- a job, or with indices an array of jobs
abbrev pub run_call : SessionId → JobTemplate → Option Indices → Call
run_call session t None = call.RunJob session t
run_call session t (Some indices) = call.RunBulk session t indices

-- the array with its first job and how many there are, or the one job
abbrev pub told_of : Submitted → Reply
told_of told = option_map_or (λ array. reply.Array array told.first told.count) told.array (reply.Job told.first)
