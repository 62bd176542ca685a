-- Waits for each of some jobs, and reaps of each, one behind another.
use Rattle.std.proofs.Common.{◌≡◌, ℕ, ◌+◌, ◌<◌, List, [], ◌∷◌, ◌++◌, map, take, drop, length, get_or, refl, sym, ap, subst, ◌∙◌}
use Rattle.std.proofs.lemmas.List.{map-append, take-append-drop, drop_more}
use Rattle.std.specs.Prelude.{None, Result, Ok, Err, IfOk}
use Rattle.drmaa_types.specs.declared.infos.JobInfo.{JobInfo}
use Rattle.drmaa_types.specs.declared.states.JobState.TheVariants as state
use Rattle.drmaa_types.specs.declared.states.Note.TheVariants as note
use Rattle.drmaa_types.specs.declared.identifiers.SessionId.{SessionId}
use Rattle.drmaa_types.specs.declared.moments.Timeout.{Timeout}
use Rattle.drmaa_model.specs.declared.calls.Call.TheVariants as call
use Rattle.drmaa_model.specs.declared.calls.Target.TheVariants as target
use Rattle.drmaa_model.specs.declared.replies.Reply.TheVariants as reply
use Rattle.drmaa1_face.specs.FaceEntries.{Start, jobs_of, left_of, asks, waits_of, reaps_of}
use Rattle.drmaa1_face.specs.Steps.{Step, waiting, reads, enters}

pub waits-more : (session : SessionId) (timeout : Timeout) (first : ℕ) (xs ys : List Start) → waits_of session timeout first xs ++ waits_of session timeout first ys ≡ waits_of session timeout first (xs ++ ys)
waits-more session timeout first [] ys = refl
waits-more session timeout first (x ∷ xs) ys =
    ap (λ (l : List Step). reads x.read ∷ enters (waiting session (x.job ∷ []) x.begun (left_of timeout first x.read)) (reply.Reached (record { 0 = x.job })) ∷ l) (waits-more session timeout first xs ys)

pub reaps-more : (session : SessionId) (xs ys : List ℕ) → reaps_of session xs ++ reaps_of session ys ≡ reaps_of session (xs ++ ys)
reaps-more session [] ys = refl
reaps-more session (x ∷ xs) ys = ap (λ (l : List Step). asks (call.Reap session (target.Job (record { 0 = x }))) reply.Unit ∷ l) (reaps-more session xs ys)

pub jobs-more : (xs ys : List Start) → jobs_of (xs ++ ys) ≡ jobs_of xs ++ jobs_of ys
jobs-more xs ys = map-append (λ (s : Start). s.job) xs ys

-- starts of waits that were not begun
pub starts_for : List ℕ → List Start
starts_for jobs = map (λ (job : ℕ). record { job = job; read = 0; begun = 0 }) jobs

pub jobs-for : (jobs : List ℕ) → jobs_of (starts_for jobs) ≡ jobs
unfolding starts_for
jobs-for [] = refl
jobs-for (job ∷ jobs) = ap (λ (l : List ℕ). job ∷ l) (jobs-for jobs)

-- ---- places

pub split_at : (xs : List ℕ) (i : ℕ) → i < length xs → xs ≡ take i xs ++ get_or xs i 0 ∷ drop (i + 1) xs
split_at xs i l = sym (take-append-drop i xs) ∙ ap (λ (ys : List ℕ). take i xs ++ ys) (drop_more xs i 0 l)

-- ---- answers

-- an info that nobody is told
abbrev pub no_info : JobInfo
no_info = record { job = record { 0 = 0 }; session = None; name = None; array = None; index = None; state = state.Undetermined; slots = None; queue = []; wallclock = None; submitted = 0; dispatched = None; finished = None; exit = None; note = note.None }

-- what is made is that of what is told
pub told-both : {A E : Type 0} (P : Type 0) (Q : A → Type 0) (r : Result A E) (told : A) → (A → P → Q told) → IfOk r (λ x. x ≡ told) → IfOk r (λ x. P) → IfOk r Q
told-both {A = A} P Q (Ok x) told each same p = subst Q (sym same) (each x p)
told-both P Q (Err e) told each same p = tt
