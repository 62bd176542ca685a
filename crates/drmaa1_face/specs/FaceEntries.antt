-- The entries that each call of the face makes: a list that goes on up to the first refusal. The calls are those of DRMAA 1.0
-- (GFD.22); which calls of the machine stand for each is our profile.
use Rattle.std.specs.Prelude.{ℕ, ◌-◌, Bool, true, false, List, [], ◌∷◌, ◌++◌, map, Option, Some, None}
use Rattle.drmaa_types.specs.Filters.{all as every_job}
use Rattle.drmaa_types.specs.declared.identifiers.ArrayId.{ArrayId}
use Rattle.drmaa_types.specs.declared.identifiers.JobId.{JobId}
use Rattle.drmaa_types.specs.declared.identifiers.SessionId.{SessionId}
use Rattle.drmaa_types.specs.declared.infos.JobInfo.{JobInfo}
use Rattle.drmaa_types.specs.declared.moments.Timeout.{Timeout}
use Rattle.drmaa_types.specs.declared.moments.Timeout.TheVariants.{Seconds, Infinite}
use Rattle.drmaa_types.specs.declared.states.Control.{Control}
use Rattle.drmaa_types.specs.declared.states.JobState.{JobState}
use Rattle.job_template.specs.declared.templates.JobTemplate.{JobTemplate}
use Rattle.drmaa_model.specs.declared.calls.Call.{Call}
use Rattle.drmaa_model.specs.declared.calls.Call.TheVariants as call
use Rattle.drmaa_model.specs.declared.calls.Indices.{Indices}
use Rattle.drmaa_model.specs.declared.calls.Target.TheVariants as target
use Rattle.drmaa_model.specs.declared.replies.Reply.{Reply}
use Rattle.drmaa_model.specs.declared.replies.Reply.TheVariants as reply
use Rattle.drmaa1_face.specs.declared.jobs.BulkJobs.{BulkJobs}
use Rattle.drmaa1_face.specs.declared.synchronizing.Pick.{Pick}
use Rattle.drmaa1_face.specs.declared.synchronizing.Pick.TheVariants.{All, These}
use Rattle.drmaa1_face.specs.Steps.{Ask, at_once, waiting, Step, reads, enters}

-- ---- parts of lists

-- a call that is answered at once
abbrev pub asks : Call → Reply → Step
asks c told = enters (at_once c) told

-- the session's kept jobs
abbrev pub lists : SessionId → List ℕ → Step
lists session jobs = asks (call.GetJobs session every_job) (reply.Jobs jobs)

-- begin, begin plus step and so on up to end, with no bound on how many hold slots at once
abbrev pub unbounded : ℕ → ℕ → ℕ → Indices
unbounded begin end step = record { begin = begin; end = end; step = step; bound = None }

-- what a wait has a list of, where no job is given
abbrev pub listing : SessionId → Option JobId → List ℕ → List Step
listing session None jobs = lists session jobs ∷ []
listing session (Some job) jobs = []

-- what a wait asks first
abbrev pub first_ask : SessionId → Option JobId → Timeout → Ask
first_ask session None timeout = at_once (call.GetJobs session every_job)
first_ask session (Some job) timeout = waiting session (job.0 ∷ []) 0 timeout

-- what is told of a job that has ended, which is then forgotten
abbrev pub takes : SessionId → JobId → JobInfo → List Step
takes session job info = asks (call.GetInfo session job) (reply.Info info) ∷ asks (call.Reap session (target.Job job)) reply.Unit ∷ []

-- a wait for the end of one of these jobs
abbrev pub waits_for : SessionId → List ℕ → Timeout → ℕ → JobId → JobInfo → List Step
waits_for session jobs timeout begun reached info = enters (waiting session jobs begun timeout) (reply.Reached reached) ∷ takes session reached info

-- what `synchronize` has a list of, where all are picked
abbrev pub picking : SessionId → Pick → List ℕ → List Step
picking session All jobs = lists session jobs ∷ []
picking session (These given) jobs = []

-- a wait for one job: the clock's reading before it, and its first one
pub record Start : Type 0 where
  pub job : ℕ
  pub read : ℕ
  pub begun : ℕ

abbrev pub jobs_of : List Start → List ℕ
jobs_of starts = map (λ (s : Start). s.job) starts

-- what is left of a timeout that counts from the first reading: at least 0
abbrev pub left_of : Timeout → ℕ → ℕ → Timeout
left_of (Seconds seconds) first now = Seconds (seconds - (now - first))
left_of Infinite first now = Infinite

-- one wait for each job alone, in order
abbrev pub waits_of : SessionId → Timeout → ℕ → List Start → List Step
waits_of session timeout first [] = []
waits_of session timeout first (s ∷ starts) =
    reads s.read ∷ enters (waiting session (s.job ∷ []) s.begun (left_of timeout first s.read)) (reply.Reached (record { 0 = s.job })) ∷ waits_of session timeout first starts

-- one reap for each job, in order
abbrev pub reaps_of : SessionId → List ℕ → List Step
reaps_of session [] = []
reaps_of session (job ∷ jobs) = asks (call.Reap session (target.Job (record { 0 = job }))) reply.Unit ∷ reaps_of session jobs

abbrev pub disposing : SessionId → Bool → List ℕ → List Step
disposing session true jobs = reaps_of session jobs
disposing session false jobs = []

-- ---- the calls

-- a call of the face, and what it is told where nothing is refused
pub data FaceCall : Type 0 where
  -- drmaa_init
  init : (name : Option (List ℕ)) → FaceCall
  -- drmaa_exit
  exit : FaceCall
  -- drmaa_run_job
  run : (template : JobTemplate) (job : JobId) → FaceCall
  -- drmaa_run_bulk_jobs
  run_bulk : (template : JobTemplate) (begin end step : ℕ) (array : ArrayId) (jobs : BulkJobs) → FaceCall
  -- drmaa_control
  control : (job : JobId) (what : Control) → FaceCall
  -- drmaa_job_ps
  ps : (job : JobId) (state : JobState) → FaceCall
  -- drmaa_wait
  wait : (job : Option JobId) (timeout : Timeout) (jobs : List ℕ) (begun : ℕ) (reached : JobId) (info : JobInfo) → FaceCall
  -- drmaa_synchronize
  synchronize : (pick : Pick) (timeout : Timeout) (dispose : Bool) (first : ℕ) (starts : List Start) → FaceCall

-- The entries of each call, in order, with the readings of the clock that it takes itself between them.
abbrev pub face_entries : SessionId → FaceCall → List Step
face_entries session (init name) = asks (call.CreateJobSession name) (reply.Session session) ∷ []
face_entries session exit = asks (call.CloseSession session) reply.Unit ∷ []
face_entries session (run template job) = asks (call.RunJob session template) (reply.Job job) ∷ []
face_entries session (run_bulk template begin end step array jobs) = asks (call.RunBulk session template (unbounded begin end step)) (reply.Array array jobs.first jobs.count) ∷ []
face_entries session (control job what) = asks (call.Control session (target.Job job) what) reply.Unit ∷ []
face_entries session (ps job state) = asks (call.GetState session job) (reply.State state) ∷ []
face_entries session (wait job timeout jobs begun reached info) = listing session job jobs ++ waits_for session jobs timeout begun reached info
face_entries session (synchronize pick timeout dispose first starts) =
    reads first ∷ (picking session pick (jobs_of starts) ++ (waits_of session timeout first starts ++ disposing session dispose (jobs_of starts)))
