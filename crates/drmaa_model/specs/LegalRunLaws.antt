-- Laws of runs over histories: in a legal history each launch of a job is new, and a report that is accepted is of the
-- job's last launch.
use Rattle.std.proofs.Common.{◌≡◌, ◌≢◌, ℕ, ◌+◌, ◌<◌, ◌≤◌, true, false, eqb, not, List, [], ◌∷◌, ◌++◌, Some, None, refl, sym, subst, append-nil, append_assoc}
use Rattle.std.specs.List.{AllByRecursion, list_any}
use Rattle.std.proofs.lemmas.Bool.{and_parts, eqb-true}
use Rattle.drmaa_types.specs.declared.identifiers.JobId.{JobId}
use Rattle.drmaa_types.specs.declared.states.SignalKind.{SignalKind}
use Rattle.drmaa_model.specs.declared.calls.Call.TheVariants as call
use Rattle.drmaa_model.specs.declared.configs.Config.{Config}
use Rattle.drmaa_model.specs.declared.courses.Phase.{Phase}
use Rattle.drmaa_model.specs.declared.courses.Phase.TheVariants.{Idle}
use Rattle.drmaa_model.specs.declared.entries.Entry.{Entry}
use Rattle.drmaa_model.specs.declared.replies.Launch.{Launch}
use Rattle.drmaa_model.specs.declared.replies.Reply.TheVariants as reply
use Rattle.drmaa_model.specs.declared.rows.Row.{Row}
use Rattle.drmaa_model.specs.Effects.{gives}
use Rattle.drmaa_model.specs.Fit.{IsSound}
use Rattle.drmaa_model.specs.FitLaws.{advance-fit}
use Rattle.drmaa_model.specs.History.{after_entry, replay_from, replay, IsLegalFrom, IsLegal}
use Rattle.drmaa_model.specs.HistoryLaws.{replay-push, legal-push}
use Rattle.drmaa_model.specs.Launching.{launch_of}
use Rattle.drmaa_model.specs.LaunchLaws.{HasRun, HasRuns, step-runs, launch-new, run-follows}
use Rattle.drmaa_model.specs.OperationLaws.{row-sound}
use Rattle.drmaa_model.specs.Plan.{Plan}
use Rattle.drmaa_model.specs.ReportLaws.{report-finds, may_begin-busy, may_exit-busy, told-started}
use Rattle.drmaa_model.specs.Reporting.{is_idle, is_launching, may_begin, may_exit, is_taken, may_tell, reported}
use Rattle.drmaa_model.specs.RowLaws.{row_of-is, row_of-all}
use Rattle.drmaa_model.specs.Rows.{row_of}
use Rattle.drmaa_model.specs.RunLaws.{advance-tracked}
use Rattle.drmaa_model.specs.Runs.{is_launched}
use Rattle.drmaa_model.specs.Steps.{answer}
use Rattle.drmaa_model.specs.StepLaws.{legal-consistent}
use Rattle.drmaa_model.specs.Time.{advance}
use Rattle.drmaa_model.specs.WaitLaws.{HandsOut, launch-hands_out}
use Rattle.drmaa_model.specs.World.{World, opening_world}

opening-runs : (config : Config) → HasRuns [] (opening_world config)
opening-runs config = record { rows = tt; below = λ job k e. absurd (cc) }

low-rows : (config : Config) (history : List Entry) → IsLegal config history → AllByRecursion (λ (r : Row). r.job.0 < (replay config history).plan.next_job) (replay config history).plan.rows
low-rows config history legal = (legal-consistent config history legal).fit.jobs.below

runs-from : (config : Config) (front rest : List Entry) → IsLegal config front → HasRuns front (replay config front) → IsLegalFrom (replay config front) rest → HasRuns (front ++ rest) (replay_from (replay config front) rest)
runs-from config front [] legal runs steps = subst (λ (h : List Entry). HasRuns h (replay config front)) (sym (append-nil front)) runs
runs-from config front (x ∷ xs) legal runs steps =
    let next = after_entry (replay config front) x in
    let longer : IsLegal config (front ++ x ∷ []) = legal-push config front x next legal steps.0 in
    let same : replay config (front ++ x ∷ []) ≡ next = replay-push config front x in
    let here : HasRuns (front ++ x ∷ []) next = step-runs front (replay config front) x next runs (low-rows config front legal) steps.0 in
    let there : HasRuns (front ++ x ∷ []) (replay config (front ++ x ∷ [])) = subst (HasRuns (front ++ x ∷ [])) (sym same) here in
    let rest : IsLegalFrom (replay config (front ++ x ∷ [])) xs = subst (λ (w : World). IsLegalFrom w xs) (sym same) steps.1 in
    let whole = runs-from config (front ++ x ∷ []) xs longer there rest in
    let P : World → Type 0 = λ w. HasRuns (front ++ x ∷ xs) (replay_from w xs) in
    subst P same (subst (λ (h : List Entry). HasRuns h (replay_from (replay config (front ++ x ∷ [])) xs)) (append_assoc front (x ∷ []) xs) whole)

pub legal-runs : (config : Config) (history : List Entry) → IsLegal config history → HasRuns history (replay config history)
legal-runs config history legal = runs-from config [] history tt (opening-runs config) legal

-- ---- launches

-- what a launch hands out was not handed out before
pub launch-is-new : (config : Config) (history : List Entry) (at : ℕ) (told : Launch) (next : World) → IsLegal config history
    → answer (replay config history) at call.TakeLaunch ≡ gives (reply.Launch told) next → is_launched history told.job.0 told.attempt ≡ false
launch-is-new config history at told next legal is =
    let w = replay config history in
    let entry : Entry = record { caller = record { 0 = 0 }; at = at; call = call.TakeLaunch; reply = reply.Launch told } in
    let out : HandsOut (advance w at) (reply.Launch told) next = launch-hands_out (advance w at) at (reply.Launch told) next is in
    let new = launch-new history w entry next (legal-runs config history legal) (low-rows config history legal) out in
    let same : told ≡ launch_of out.row out.slots = cc in
    subst (λ (l : Launch). is_launched history l.job.0 l.attempt ≡ false) (sym same) new

-- ---- reports

-- the launch was handed out, and no later one of the job was
pub record IsLastLaunch (history : List Entry) (job attempt : ℕ) : Type 0 where
  pub launched : is_launched history job attempt ≡ true
  pub last : (k : ℕ) → is_launched history job k ≡ true → k ≤ attempt

-- a job that runs is in its last launch
run-last : (config : Config) (history : List Entry) (at : ℕ) (job : JobId) (attempt : ℕ) → IsLegal config history
    → (row : Row) → row_of job (advance (replay config history) at).plan.rows ≡ Some row → row.course.attempt ≡ attempt → is_idle row.course.phase ≡ false → IsLastLaunch history job.0 attempt
run-last config history at job attempt legal row found same busy =
    let w = replay config history in
    let rows = advance-tracked (HasRun history) (run-follows history) (w.entries + 1) at w.plan (legal-runs config history legal).rows in
    let own : HasRun history row.job.0 row.course = row_of-all (λ (r : Row). HasRun history r.job.0 r.course) job (advance w at).plan.rows row rows found in
    let number : row.job.0 ≡ job.0 = row_of-is job (advance w at).plan.rows row found in
    let here : HasRun history job.0 row.course = subst (λ n. HasRun history n row.course) number own in
    record {
      launched = subst (λ n. is_launched history job.0 n ≡ true) same (here.last (here.idle busy));
      last = λ k e. subst (λ n. k ≤ n) same (here.most k e);
    }

-- A report of a start, or that there was none, that is accepted is of the job's last launch.
pub begin-last : (config : Config) (history : List Entry) (at : ℕ) (job : JobId) (attempt : ℕ) (after : ℕ → Plan → Row → Plan) → IsLegal config history
    → (reported (λ p. may_begin attempt) job after).refusal (advance (replay config history) at).plan ≡ None → IsLastLaunch history job.0 attempt
begin-last config history at job attempt after legal free =
    let f = report-finds (λ p. may_begin attempt) job after (advance (replay config history) at).plan free in
    let same = (and_parts (is_launching f.0.course.phase) (eqb f.0.course.attempt attempt) f.2).1 in
    run-last config history at job attempt legal f.0 f.1 (eqb-true f.0.course.attempt attempt same) (may_begin-busy attempt f.0.course f.2)

-- So is a report of an end.
pub exit-last : (config : Config) (history : List Entry) (at : ℕ) (job : JobId) (attempt : ℕ) (after : ℕ → Plan → Row → Plan) → IsLegal config history
    → (reported (λ p. may_exit attempt) job after).refusal (advance (replay config history) at).plan ≡ None → IsLastLaunch history job.0 attempt
exit-last config history at job attempt after legal free =
    let f = report-finds (λ p. may_exit attempt) job after (advance (replay config history) at).plan free in
    let same = (and_parts (not (is_idle f.0.course.phase)) (eqb f.0.course.attempt attempt) f.2).1 in
    run-last config history at job attempt legal f.0 f.1 (eqb-true f.0.course.attempt attempt same) (may_exit-busy attempt f.0.course f.2)

not-idle : (p : Phase) → p ≢ Idle → is_idle p ≡ false
not-idle Idle other = absurd (other refl)
not-idle _ other = refl

-- So is a report of a signal, since its order is of a job that is started.
pub tell-last : (config : Config) (history : List Entry) (at : ℕ) (job : JobId) (attempt : ℕ) (kind : SignalKind) (after : ℕ → Plan → Row → Plan) → IsLegal config history
    → (reported (may_tell attempt job kind) job after).refusal (advance (replay config history) at).plan ≡ None → IsLastLaunch history job.0 attempt
tell-last config history at job attempt kind after legal free =
    let w = replay config history in
    let p = (advance w at).plan in
    let fit = advance-fit (w.entries + 1) at w.plan (legal-consistent config history legal).fit in
    let f = report-finds (may_tell attempt job kind) job after p free in
    let same = (and_parts (eqb f.0.course.attempt attempt) (list_any (is_taken job kind) p.orders) f.2).0 in
    let sound : IsSound f.0.wants f.0.course = row-sound job p f.0 fit f.1 in
    let busy = (sound.started (told-started attempt job kind p f.0 fit f.1 f.2)).0 in
    run-last config history at job attempt legal f.0 f.1 (eqb-true f.0.course.attempt attempt same) (not-idle f.0.course.phase busy)
