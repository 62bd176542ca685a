-- What a call of the face answers, and which session is active then. Our profile.
use Rattle.std.specs.Prelude.{◌≡◌, ℕ, ◌+◌, ◌≤◌, min, Bool, List, [], ◌∷◌, ◌++◌, Option, Some, None, Result, Ok, Err}
use Rattle.drmaa_types.specs.Moments.{greatest}
use Rattle.drmaa_types.specs.declared.identifiers.JobId.{JobId}
use Rattle.drmaa_types.specs.declared.identifiers.SessionId.{SessionId}
use Rattle.drmaa_types.specs.declared.infos.JobInfo.{JobInfo}
use Rattle.drmaa_types.specs.declared.moments.Timeout.{Timeout}
use Rattle.drmaa_types.specs.declared.moments.Timeout.TheVariants.{Seconds}
use Rattle.drmaa_types.specs.declared.refusals.Refusal.{Refusal}
use Rattle.drmaa_types.specs.declared.refusals.Refusal.TheVariants as why
use Rattle.drmaa_types.specs.declared.states.WaitKind.TheVariants as until
use Rattle.drmaa_model.specs.declared.calls.Call.TheVariants as call
use Rattle.drmaa_model.specs.declared.configs.Config.{Config}
use Rattle.drmaa_model.specs.declared.entries.Entry.{Entry}
use Rattle.drmaa_model.specs.declared.replies.Reply.TheVariants as reply
use Rattle.drmaa_model.specs.History.{replay}
use Rattle.drmaa_model.specs.Time.{advance}
use Rattle.drmaa_model.specs.Waiting.{first_reached}
use Rattle.call_history.specs.Calls.{entry_by}
use Rattle.call_history.specs.Clients.{seen_of, number_of}
use Rattle.call_history.specs.Clocks.{Dial, IsReading}
use Rattle.drmaa1_face.specs.declared.faults.FaceFault.{FaceFault}
use Rattle.drmaa1_face.specs.declared.faults.FaceFault.TheVariants as fault
use Rattle.drmaa1_face.specs.declared.synchronizing.Pick.{Pick}
use Rattle.drmaa1_face.specs.declared.synchronizing.Pick.TheVariants.{All, These}
use Rattle.drmaa1_face.specs.Posts.{Post, EndsWith}
use Rattle.drmaa1_face.specs.Steps.{IsMade, Stops}
use Rattle.drmaa1_face.specs.FaceEntries.{FaceCall, Start, jobs_of, face_entries}
use Rattle.drmaa1_face.specs.FaceEntries.FaceCall.{init, wait, synchronize}

-- What a call in a session comes to, where `made` are the calls, with all that they are told, whose whole list gives an answer:
-- at Ok that list was made; refused, such a list was made up to there.
abbrev pub Comes : {A : Type 0} → Config → SessionId → Post → (A → FaceCall → Type 0) → Post → Result A FaceFault → Type 0
Comes config session old made new (Ok told) = (c : FaceCall) × made told c × IsMade config old (face_entries session c) new
Comes config session old made new (Err fault.NoActiveSession) = ⊥
Comes config session old made new (Err fault.AlreadyActive) = ⊥
Comes {A} config session old made new (Err (fault.Refused reason)) = (told : A) × (c : FaceCall) × made told c × Stops config old (face_entries session c) reason new

-- What a call comes to that wants an active session: with none it is refused, and nothing has happened.
abbrev pub Answered : {A : Type 0} → Config → Option SessionId → Post → (A → FaceCall → Type 0) → Post → Result A FaceFault → Type 0
Answered config None old made new result = (result ≡ Err fault.NoActiveSession) × (new ≡ old)
Answered config (Some session) old made new result = Comes config session old made new result

-- What `init` comes to, which wants none: with one it is refused, and nothing has happened. Else the session that was made is active
-- then, or none where it was refused.
abbrev pub Opened : Config → Option SessionId → Post → Option (List ℕ) → Post → Option SessionId → Result (Unit {0}) FaceFault → Type 0
Opened config (Some session) old name new active result = (result ≡ Err fault.AlreadyActive) × (new ≡ old) × (active ≡ Some session)
Opened config None old name new active (Ok told) = (session : SessionId) × (active ≡ Some session) × IsMade config old (face_entries session (init name)) new
Opened config None old name new active (Err fault.NoActiveSession) = ⊥
Opened config None old name new active (Err fault.AlreadyActive) = ⊥
Opened config None old name new active (Err (fault.Refused reason)) = (active ≡ None) × (session : SessionId) × Stops config old (face_entries session (init name)) reason new

-- the session that is active after a refusal to close it: none where its number is not valid
abbrev pub left_after : Refusal → Option SessionId → Option SessionId
left_after why.InvalidSession before = None
left_after _ before = before

-- the session that is active after `exit`
abbrev pub after_exit : Option SessionId → Result (Unit {0}) FaceFault → Option SessionId
after_exit before (Ok told) = None
after_exit before (Err fault.NoActiveSession) = None
after_exit before (Err fault.AlreadyActive) = before
after_exit before (Err (fault.Refused reason)) = left_after reason before

-- the one job that is given
abbrev pub IsListed : Option JobId → List ℕ → Type 0
IsListed None jobs = Unit {0}
IsListed (Some job) jobs = jobs ≡ job.0 ∷ []

-- `wait`, with the answer that it gives
abbrev pub WaitsFor : Option JobId → Timeout → JobInfo → FaceCall → Type 0
WaitsFor job timeout info c = (jobs : List ℕ) × (begun : ℕ) × (reached : JobId) × IsListed job jobs × (c ≡ wait job timeout jobs begun reached info)

-- the jobs that are given
abbrev pub IsPicked : Pick → List ℕ → Type 0
IsPicked All jobs = Unit {0}
IsPicked (These given) jobs = jobs ≡ given

abbrev pub WaitsForAll : Pick → Timeout → Bool → Unit {0} → FaceCall → Type 0
WaitsForAll pick timeout dispose told c = (first : ℕ) × (starts : List Start) × IsPicked pick (jobs_of starts) × (c ≡ synchronize pick timeout dispose first starts)

-- A wait of `synchronize` was over: the clock's last reading is at least the end of the timeout that counts from its first one, or the
-- greatest moment, and the look at that reading found the job not terminated.
pub record IsLate (config : Config) (first : ℕ) (timeout : Timeout) (number : ℕ) (new : Post) : Type 0 where
  pub seconds : ℕ
  pub limited : timeout ≡ Seconds seconds
  pub last : ℕ
  pub ends : EndsWith new.clock.given.told last
  pub over : min (first + seconds) greatest ≤ last
  pub session : SessionId
  pub job : ℕ
  pub begun : ℕ
  pub left : Timeout
  pub front : List Entry
  pub seen : seen_of new.client ≡ front ++ entry_by number last (call.Wait session (job ∷ []) until.Terminated begun left) (reply.Refused why.Timeout) ∷ []
  pub unended : first_reached until.Terminated (advance (replay config front) last).plan.rows (job ∷ []) ≡ None

-- so late after its first reading
pub record IsTooLate (config : Config) (timeout : Timeout) (old new : Post) : Type 0 where
  pub first : ℕ
  pub clock : Dial
  pub read : IsReading old.clock first clock
  pub late : IsLate config first timeout (number_of old.client) new
