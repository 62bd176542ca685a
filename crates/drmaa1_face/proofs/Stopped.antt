-- Where the list of a wait stops at its first step, and that of several waits behind some.
use Rattle.std.proofs.Common.{◌≡◌, ℕ, List, [], ◌∷◌, ◌++◌, Option, Some, None, refl, sym, ap, subst, ◌∙◌, append_assoc}
use Rattle.drmaa_types.specs.Filters.{all as every_job}
use Rattle.drmaa_types.specs.declared.identifiers.JobId.{JobId}
use Rattle.drmaa_types.specs.declared.identifiers.SessionId.{SessionId}
use Rattle.drmaa_types.specs.declared.infos.JobInfo.{JobInfo}
use Rattle.drmaa_types.specs.declared.moments.Timeout.{Timeout}
use Rattle.drmaa_types.specs.declared.refusals.Refusal.{Refusal}
use Rattle.drmaa_model.specs.declared.calls.Call.TheVariants as call
use Rattle.drmaa_model.specs.declared.configs.Config.{Config}
use Rattle.drmaa_model.specs.declared.replies.Reply.TheVariants as reply
use Rattle.drmaa1_face.specs.Answers.{WaitsFor}
use Rattle.turn_lock.specs.Tokens.{Named}
use Rattle.drmaa1_face.specs.FaceEntries.{FaceCall, Start, jobs_of, first_ask, takes, waits_for, waits_of, face_entries}
use Rattle.drmaa1_face.specs.FaceEntries.FaceCall.{wait}
use Rattle.drmaa1_face.specs.Posts.{Post}
use Rattle.drmaa1_face.specs.Steps.{at_once, waiting, Step, IsMade, Halts, Stops}
use Rattle.drmaa1_face.proofs.Making.{stops-first, stops-before, stops-then}
use Rattle.drmaa1_face.proofs.Lists.{no_info, waits-more, jobs-more, starts_for, jobs-for}

pub listed-stops : (config : Config) (old new : Post) (session : SessionId) (job : Option JobId) (timeout : Timeout) (why : Refusal) → Halts config old [] (first_ask session job timeout) why new
    → (info : JobInfo) × (c : FaceCall) × WaitsFor job timeout info c × Stops config old (face_entries session c) why new
listed-stops config old new session None timeout why h = (
  no_info,
  wait None timeout [] 0 (record { 0 = 0 }) no_info,
  ([], 0, record { 0 = 0 }, tt, refl),
  stops-first config old new (at_once (call.GetJobs session every_job)) (reply.Jobs []) (waits_for session [] timeout 0 (record { 0 = 0 }) no_info) why h,
)
listed-stops config old new session (Some job) timeout why h = (
  no_info,
  wait (Some job) timeout (job.0 ∷ []) 0 (record { 0 = 0 }) no_info,
  (job.0 ∷ [], 0, record { 0 = 0 }, refl, refl),
  stops-first config old new (waiting session (job.0 ∷ []) 0 timeout) (reply.Reached (record { 0 = 0 })) (takes session (record { 0 = 0 }) no_info) why h,
)

-- waits that stop at one of them
pub waits-stop : (shared next : Named Config) (same : next ≡ shared) (old mid new : Post) (session : SessionId) (timeout : Timeout) (first : ℕ) (xs : List Start) (s : Start) (rest : List Start) (why : Refusal)
    → IsMade shared.fixed old (waits_of session timeout first xs) mid → Stops next.fixed mid (waits_of session timeout first (s ∷ [])) why new
    → Stops shared.fixed old (waits_of session timeout first ((xs ++ s ∷ []) ++ rest)) why new
waits-stop shared next same old mid new session timeout first xs s rest why made stops =
    let both : Stops shared.fixed old (waits_of session timeout first xs ++ waits_of session timeout first (s ∷ [])) why new =
    stops-then shared next same old mid new (waits_of session timeout first xs) (waits_of session timeout first (s ∷ [])) made why stops in
    let one : Stops shared.fixed old (waits_of session timeout first (xs ++ s ∷ [])) why new =
    subst (λ (l : List Step). Stops shared.fixed old l why new) (waits-more session timeout first xs (s ∷ [])) both in
    subst (λ (l : List Step). Stops shared.fixed old l why new) (waits-more session timeout first (xs ++ s ∷ []) rest)
    (stops-before shared.fixed old new (waits_of session timeout first (xs ++ s ∷ [])) (waits_of session timeout first rest) why one)

-- whose jobs they are
pub jobs-stop : (xs : List Start) (s : Start) (front rest all : List ℕ) (job : ℕ) → jobs_of xs ≡ front → s.job ≡ job → all ≡ front ++ job ∷ rest → jobs_of ((xs ++ s ∷ []) ++ starts_for rest) ≡ all
jobs-stop xs s front rest all job is one split =
    jobs-more (xs ++ s ∷ []) (starts_for rest)
    ∙ (ap (λ (l : List ℕ). l ++ jobs_of (starts_for rest)) (jobs-more xs (s ∷ []))
    ∙ (append_assoc (jobs_of xs) (s.job ∷ []) (jobs_of (starts_for rest))
    ∙ (ap (λ (l : List ℕ). jobs_of xs ++ s.job ∷ l) (jobs-for rest)
    ∙ (ap (λ (l : List ℕ). l ++ s.job ∷ rest) is
    ∙ (ap (λ (j : ℕ). front ++ j ∷ rest) one ∙ sym split)))))

pub jobs-next : (xs : List Start) (s : Start) (front more : List ℕ) (job : ℕ) → jobs_of xs ≡ front → s.job ≡ job → more ≡ front ++ job ∷ [] → jobs_of (xs ++ s ∷ []) ≡ more
jobs-next xs s front more job is one next =
    jobs-more xs (s ∷ []) ∙ (ap (λ (l : List ℕ). l ++ s.job ∷ []) is ∙ (ap (λ (j : ℕ). front ++ j ∷ []) one ∙ sym next))
