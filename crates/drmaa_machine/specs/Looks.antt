-- What a question is answered: our profile. Time has no part in the changes that were made, nor in templates and names.
use Rattle.std.specs.Prelude.{◌≡◌, ◌⊎◌, ℕ, List, Option, Some, None, take, drop, nat_lt, cond}
use Rattle.std.specs.Option.{option_map, option_and_then}
use Rattle.drmaa_types.specs.declared.identifiers.JobId.{JobId}
use Rattle.drmaa_types.specs.declared.identifiers.SessionId.{SessionId}
use Rattle.job_template.specs.declared.templates.JobTemplate.{JobTemplate}
use Rattle.drmaa_model.specs.declared.looks.Answer.{Answer}
use Rattle.drmaa_model.specs.declared.looks.Answer.TheVariants as told
use Rattle.drmaa_model.specs.declared.looks.Question.{Question}
use Rattle.drmaa_model.specs.declared.looks.Question.TheVariants as question
use Rattle.drmaa_model.specs.declared.rows.Row.{Row}
use Rattle.drmaa_model.specs.Homes.{home_in}
use Rattle.drmaa_model.specs.NextLaunch.{held, settled}
use Rattle.drmaa_model.specs.Rows.{row_of}
use Rattle.drmaa_model.specs.Size.{size}
use Rattle.drmaa_model.specs.World.{World, counted}
use Rattle.session_table.specs.Sessions.{Sessions, name_of}

-- the size of the journal with one entry more, where that is above the greatest
abbrev pub overfull : World → Option ℕ
overfull w = cond (nat_lt w.config.journal (size (counted w))) (Some (size (counted w))) None

-- the template of a kept job, as it runs
abbrev pub template_of : JobId → List Row → Option JobTemplate
template_of job rows = option_map (λ (row : Row). row.template) (row_of job rows)

-- the name of the session that a number was opened on
abbrev pub opened_name : SessionId → Sessions → Option (List ℕ)
opened_name session s = option_and_then (λ (home : ℕ). name_of home s.named) (home_in session s)

-- in the world that has come to the moment, and in the one before
abbrev pub IsAnswer : World → World → Question → Answer → Type 0
IsAnswer then now question.Settled answer = answer ≡ told.Settled (settled then.plan)
IsAnswer then now question.Held answer = answer ≡ told.Held (held then.plan.rows)
IsAnswer then now (question.Changes from) answer = answer ≡ told.Changes (take 64 (drop from now.plan.changes))
IsAnswer then now question.Full answer = answer ≡ told.Full (overfull then)
IsAnswer then now (question.Template job) answer = (answer ≡ told.Template (template_of job now.plan.rows)) ⊎ (answer ≡ told.OutOfMemory)
IsAnswer then now (question.SessionName session) answer = (answer ≡ told.SessionName (opened_name session now.sessions)) ⊎ (answer ≡ told.OutOfMemory)
