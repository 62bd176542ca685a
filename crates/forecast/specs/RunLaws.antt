-- Laws of a forecast that is being made, over what the machine has served.
use Rattle.std.proofs.Common.{◌≡◌, ℕ, suc, ◌+◌, ◌-◌, ◌<◌, ◌≤◌, ◌^◌, true, false, List, [], ◌∷◌, ◌++◌, length, Some, None, refl, sym, ◌∙◌, ap, subst, arith, append-nil, append_assoc, length-append}
use Rattle.std.specs.Prelude.{Result, Ok, Err, IfOk, IsOk, OnErr}
use Rattle.std.specs.List.{AllByRecursion}
use Rattle.std.specs.Option.{option_map}
use Rattle.std.proofs.lemmas.Bool.{false≢true}
use Rattle.std.proofs.lemmas.List.Concat.{flat_map-append}
use Rattle.drmaa_types.specs.Moments.{greatest}
use Rattle.drmaa_types.specs.declared.identifiers.JobId.{JobId}
use Rattle.drmaa_types.specs.declared.states.Exit.{Exit}
use Rattle.drmaa_types.specs.declared.states.Exit.TheVariants.{Code}
use Rattle.drmaa_model.specs.declared.calls.Call.TheVariants as call
use Rattle.drmaa_model.specs.declared.entries.Entry.{Entry}
use Rattle.drmaa_model.specs.declared.faults.NoEntry.{NoEntry}
use Rattle.drmaa_model.specs.declared.faults.NoEntry.TheVariants as fault
use Rattle.drmaa_model.specs.declared.replies.Reply.{Reply}
use Rattle.drmaa_model.specs.declared.rows.Row.{Row}
use Rattle.drmaa_model.specs.declared.rows.Started.{Started}
use Rattle.drmaa_model.specs.Consistent.{IsConsistent}
use Rattle.drmaa_model.specs.Effects.{gives, nothing}
use Rattle.drmaa_model.specs.Events.{is_event, next_event, started_from, started_of}
use Rattle.drmaa_model.specs.History.{Ledger, IsLegal, now_of, replay_from}
use Rattle.drmaa_model.specs.HistoryLaws.{replay_from-append, legal_from-append}
use Rattle.drmaa_model.specs.MomentLaws.{first-some}
use Rattle.drmaa_model.specs.Plan.{Plan}
use Rattle.drmaa_model.specs.Refusals.{refusal}
use Rattle.drmaa_model.specs.RestSteps.{legal-still}
use Rattle.drmaa_model.specs.RowLaws.{all-implied, all-push, all-both, all-each}
use Rattle.drmaa_model.specs.StepLaws.{step-moment, advance-consistent, legal-consistent, legal-entries}
use Rattle.drmaa_model.specs.Steps.{answer, IsStep}
use Rattle.drmaa_model.specs.Time.{advance}
use Rattle.drmaa_model.specs.WaitLaws.{launch-hands_out}
use Rattle.drmaa_model.specs.World.{World, opening_world}
use Rattle.drmaa_machine.specs.Applying.{served, IsTooLarge}
use Rattle.forecast_laws.specs.Forecasts.{is_ending, NoneEnds, IsDone, IsForeseen, ends, launches, EndsBefore, Precedes}
use Rattle.forecast_laws.specs.ForeseenLaws.{NoneEndsBelow, exit-ends, end-clears, launch-clears}
use Rattle.forecast_laws.specs.GrowthLaws.{none-yet, one-more, go-on, finish}
use Rattle.forecast_laws.specs.UniqueLaws.{one-forecast}
use Rattle.forecast.specs.Runs.{IsMade, IsFresh, IsEnding, IsEnded, IsOver, TellsOf}
use Rattle.forecast.specs.StartedLaws.{IsFirstStarted, first-started, none-started, none-passed, found-asked, end-free, end-unit}
use Rattle.forecast.specs.Starts.{start_in, starts_of, AreForetold, IsFull}
use Rattle.forecast.specs.declared.predictions.Predicted.{Predicted}

-- ---- what was made

now-is : (x : ℕ) (first ledger : Ledger) (foretold : List Predicted) (es : List Entry) → IsMade x first ledger foretold es → now_of ledger ≡ replay_from (now_of first) es
now-is x first ledger foretold es made = ap now_of made.is ∙ replay_from-append (opening_world first.config) first.history es

made-legal : (x : ℕ) (first ledger : Ledger) (foretold : List Predicted) (es : List Entry) → IsMade x first ledger foretold es → IsLegal ledger.config ledger.history
made-legal x first ledger foretold es made =
    subst (λ (l : Ledger). IsLegal l.config l.history) (sym made.is) (legal_from-append (opening_world first.config) first.history es made.begun made.forecast.before.legal)

made-consistent : (x : ℕ) (first ledger : Ledger) (foretold : List Predicted) (es : List Entry) → IsMade x first ledger foretold es → IsConsistent (now_of ledger)
made-consistent x first ledger foretold es made = legal-consistent ledger.config ledger.history (made-legal x first ledger foretold es made)

starts-push : (es : List Entry) (e : Entry) → starts_of es ++ start_in e.at e.reply ≡ starts_of (es ++ e ∷ [])
starts-push es e =
    ap (λ (xs : List Predicted). starts_of es ++ xs) (sym (append-nil (start_in e.at e.reply))) ∙ sym (flat_map-append (λ (f : Entry). start_in f.at f.reply) es (e ∷ []))

-- one entry more was made
made-more : (x : ℕ) (first ledger after : Ledger) (foretold : List Predicted) (es : List Entry) (e : Entry) → IsMade x first ledger foretold es → e.caller ≡ record { 0 = 0 } → e.at ≡ x
    → IsStep (now_of ledger) e (now_of after) → IsForeseen (now_of ledger) e → AllByRecursion (λ (f : Entry). Precedes f e) es → after ≡ served ledger e
    → IsMade x first after (foretold ++ start_in e.at e.reply) (es ++ e ∷ [])
made-more x first ledger after foretold es e made caller at step foreseen sequence is =
    let now = now-is x first ledger foretold es made in
    record {
      begun = made.begun;
      is = is ∙ ap (λ (l : Ledger). served l e) made.is ∙ ap (λ (h : List Entry). let l : Ledger = record first { history = h } in l) (append_assoc first.history es (e ∷ []));
      forecast = one-more x (now_of first) es e (now_of after) made.forecast caller at (subst (λ (w : World). IsStep w e (now_of after)) now step) (subst (λ (w : World). IsForeseen w e) now foreseen) sequence;
      foretold_is = ap (λ (xs : List Predicted). xs ++ start_in e.at e.reply) made.foretold_is ∙ starts-push es e;
    }

-- after a step at a moment time rests there
rows-rest : (x : ℕ) (first ledger after : Ledger) (foretold said : List Predicted) (es fs : List Entry) (e : Entry) → IsMade x first ledger foretold es → IsMade x first after said fs → e.at ≡ x
    → IsStep (now_of ledger) e (now_of after) → (now_of after).plan.rows ≡ (advance (now_of after) x).plan.rows
rows-rest x first ledger after foretold said es fs e made made' at step =
    let moment = step-moment (now_of ledger) e (now_of after) (made-consistent x first ledger foretold es made) step in
    sym (ap (λ (p : Plan). p.rows) (legal-still after.config after.history ((now_of after).entries + 1) x (made-legal x first after said fs made') (omega (arith, moment, at))))

-- ---- the ends of one moment

below-more : (a b : ℕ) (e : Entry) → a ≤ b → EndsBefore (record { 0 = a }) e → EndsBefore (record { 0 = b }) e
below-more a b e low before =
    record { other = before.other; attempt = before.attempt; exit = before.exit; reports = before.reports; below = (let h = before.below in omega (arith, h, low)) }

pub begin : (x : ℕ) (first ledger : Ledger) (foretold : List Predicted) → IsFresh x first ledger foretold → IsEnding x 0 first ledger foretold
begin x first ledger foretold fresh = record {
  entries = fresh.entries;
  made = fresh.made;
  below = all-implied (λ (e : Entry). e.at < x) (λ (e : Entry). e.at ≡ x → EndsBefore (record { 0 = 0 }) e) (λ e low same. absurd (omega (arith, low, same))) fresh.entries fresh.earlier;
  ended = all-each (λ (r : Row). r.job.0 < 0 → is_ending r ≡ false) (λ r low. absurd (omega (arith, low))) (advance (now_of ledger) x).plan.rows;
}

-- the report of the end of a started job
abbrev pub end_entry : ℕ → Started → Reply → Entry
end_entry x found told = record { caller = record { 0 = 0 }; at = x; call = call.Exited found.job found.attempt (Code 0); reply = told }

-- the first started job from a number on, as the machine tells it
abbrev pub Finds : ℕ → ℕ → Ledger → Started → Type 0
Finds x from ledger found = Some found ≡ option_map started_of (started_from from (advance (now_of ledger) x).plan.rows)

first-of : (x from : ℕ) (ledger : Ledger) (found : Started) → IsConsistent (now_of ledger) → Finds x from ledger found → IsFirstStarted from (advance (now_of ledger) x).plan found
first-of x from ledger found ok finds = first-started from (advance (now_of ledger) x).plan found (advance-consistent (now_of ledger) x ok).fit finds

-- its end, where a kill of it was asked
pub end-one : (x from : ℕ) (first ledger after : Ledger) (foretold : List Predicted) (found : Started) (r : Reply) → IsEnding x from first ledger foretold → Finds x from ledger found → found.asked ≡ true
    → IsStep (now_of ledger) (end_entry x found r) (now_of after) → after ≡ served ledger (end_entry x found r) → IsEnding x (found.job.0 + 1) first after foretold
end-one x from first ledger after foretold found r ending finds asked step is =
    let ok = made-consistent x first ledger foretold ending.entries ending.made in
    let known = first-of x from ledger found ok finds in
    let unit = end-unit from x (advance (now_of ledger) x) (now_of after) found r known step.answered in
    let end = exit-ends (advance (now_of ledger) x) x found.job found.attempt (Code 0) (now_of after) (advance-consistent (now_of ledger) x ok).fit
    (subst (λ (q : Reply). answer (now_of ledger) x (call.Exited found.job found.attempt (Code 0)) ≡ gives q (now_of after)) unit step.answered) in
    let low = known.low in
    let made = made-more x first ledger after foretold ending.entries (end_entry x found r) ending.made refl refl step
    (ends found.job found.attempt refl unit (found-asked from (advance (now_of ledger) x).plan found known asked))
    (all-implied (λ (f : Entry). (f.at ≤ x) × (f.at ≡ x → EndsBefore (record { 0 = from }) f)) (λ (f : Entry). Precedes f (end_entry x found r))
    (λ f h. record {
      time = h.0;
      ends_first = λ same job attempt exit reports.
          (let number : found.job ≡ job = job-of found.job job found.attempt attempt (Code 0) exit reports in
          subst (λ (j : JobId). EndsBefore j f) number (below-more from found.job.0 f low (h.1 same)));
    }) ending.entries (all-both (λ (f : Entry). f.at ≤ x) (λ (f : Entry). f.at ≡ x → EndsBefore (record { 0 = from }) f) ending.entries ending.made.forecast.reached ending.below)) is in
    let quiet : foretold ++ start_in x r ≡ foretold = ap (λ (q : Reply). foretold ++ start_in x q) unit ∙ append-nil foretold in
    let made' = subst (λ (ts : List Predicted). IsMade x first after ts (ending.entries ++ end_entry x found r ∷ [])) quiet made in
    record {
      entries = ending.entries ++ end_entry x found r ∷ [];
      made = made';
      below = all-push (λ (f : Entry). f.at ≡ x → EndsBefore (record { 0 = found.job.0 + 1 }) f) ending.entries (end_entry x found r)
          (all-implied (λ (f : Entry). f.at ≡ x → EndsBefore (record { 0 = from }) f) (λ (f : Entry). f.at ≡ x → EndsBefore (record { 0 = found.job.0 + 1 }) f)
          (λ f h same. below-more from (found.job.0 + 1) f (omega (arith, low)) (h same)) ending.entries ending.below)
          (λ same. record { other = found.job; attempt = found.attempt; exit = Code 0; reports = refl; below = omega arith });
      ended = subst (NoneEndsBelow (found.job.0 + 1)) (rows-rest x first ledger after foretold foretold ending.entries (ending.entries ++ end_entry x found r ∷ []) (end_entry x found r) ending.made made' refl step)
          (end-clears (advance (now_of ledger) x) (now_of after) found.job found.attempt (Code 0) end (known.before ending.ended));
    } where
      job-of : (j k : JobId) (a b : ℕ) (x y : Exit) → call.Exited j a x ≡ call.Exited k b y → j ≡ k
      job-of j k a b x y same = cc

-- what the machine answers to it
pub end-found : (x from : ℕ) (first old new : Ledger) (foretold : List Predicted) (found : Started) (result : Result Reply NoEntry) → IsEnding x from first old foretold → Finds x from old found → found.asked ≡ true
    → (refusal (advance (now_of old) x) (call.Exited found.job found.attempt (Code 0)) ≡ None → IsOk result)
    → IfOk result (λ (r : Reply). IsStep (now_of old) (end_entry x found r) (now_of new)) → IfOk result (λ (r : Reply). new ≡ served old (end_entry x found r))
    → IsEnding x (found.job.0 + 1) first new foretold
end-found x from first old new foretold found (Ok r) ending finds asked reports step entry = end-one x from first old new foretold found r ending finds asked step entry
end-found x from first old new foretold found (Err why) ending finds asked reports step entry =
    let known = first-of x from old found (made-consistent x first old foretold ending.entries ending.made) finds in
    absurd (false≢true (reports (end-free from (advance (now_of old) x) found known)))

-- it goes on, where none was asked
pub pass-found : (x from : ℕ) (first ledger : Ledger) (foretold : List Predicted) (found : Started) → IsEnding x from first ledger foretold → Finds x from ledger found → found.asked ≡ false → IsEnding x (found.job.0 + 1) first ledger foretold
pass-found x from first ledger foretold found ending finds asked =
    let ok = made-consistent x first ledger foretold ending.entries ending.made in
    let known = first-of x from ledger found ok finds in
    let low = known.low in
    record {
      entries = ending.entries;
      made = ending.made;
      below = all-implied (λ (f : Entry). f.at ≡ x → EndsBefore (record { 0 = from }) f) (λ (f : Entry). f.at ≡ x → EndsBefore (record { 0 = found.job.0 + 1 }) f)
          (λ f h same. below-more from (found.job.0 + 1) f (omega (arith, low)) (h same)) ending.entries ending.below;
      ended = none-passed from (advance (now_of ledger) x).plan found (advance-consistent (now_of ledger) x ok).fit known asked ending.ended;
    }

-- no started job is left
pub ends-over : (x from : ℕ) (first ledger : Ledger) (foretold : List Predicted) → IsEnding x from first ledger foretold → None ≡ option_map started_of (started_from from (advance (now_of ledger) x).plan.rows) → IsEnded x first ledger foretold
ends-over x from first ledger foretold ending absent = record {
  entries = ending.entries;
  made = ending.made;
  ended = none-started from (advance (now_of ledger) x).plan.rows ending.ended absent;
}

-- there is a number above that of a started job
pub number-small : (x from : ℕ) (ledger : Ledger) (found : Started) → IsLegal ledger.config ledger.history → length ledger.history ≤ 4_000_000 → Finds x from ledger found → found.job.0 + 1 < 2 ^ 64
number-small x from ledger found legal few finds =
    let ok = legal-consistent ledger.config ledger.history legal in
    let count = legal-entries ledger.config ledger.history legal in
    let below = (first-of x from ledger found ok finds).below in
    let most = ok.jobs in
    omega (arith, below, most, count, few)

pub number-low : (x from : ℕ) (ledger : Ledger) (found : Started) → IsLegal ledger.config ledger.history → Finds x from ledger found → from ≤ found.job.0
number-low x from ledger found legal finds = (first-of x from ledger found (legal-consistent ledger.config ledger.history legal) finds).low

-- ---- the launches of one moment

abbrev pub launch_entry : ℕ → Reply → Entry
launch_entry x told = record { caller = record { 0 = 0 }; at = x; call = call.TakeLaunch; reply = told }

launch-one : (x : ℕ) (first ledger after : Ledger) (foretold : List Predicted) (r : Reply) → IsEnded x first ledger foretold
    → IsStep (now_of ledger) (launch_entry x r) (now_of after) → after ≡ served ledger (launch_entry x r) → IsEnded x first after (foretold ++ start_in x r)
launch-one x first ledger after foretold r ended step is =
    let ok = made-consistent x first ledger foretold ended.entries ended.made in
    let out = launch-hands_out (advance (now_of ledger) x) x r (now_of after) step.answered in
    let made = made-more x first ledger after foretold ended.entries (launch_entry x r) ended.made refl refl step (launches refl)
    (all-implied (λ (f : Entry). f.at ≤ x) (λ (f : Entry). Precedes f (launch_entry x r))
    (λ f low. record { time = low; ends_first = λ same job attempt exit reports. absurd (not-end job attempt exit reports) }) ended.entries ended.made.forecast.reached) is in
    record {
      entries = ended.entries ++ launch_entry x r ∷ [];
      made = made;
      ended = subst NoneEnds (rows-rest x first ledger after foretold (foretold ++ start_in x r) ended.entries (ended.entries ++ launch_entry x r ∷ []) (launch_entry x r) ended.made made refl step)
          (launch-clears (advance (now_of ledger) x) r (now_of after) (advance-consistent (now_of ledger) x ok).fit out ended.ended);
    } where
      not-end : (j : JobId) (a : ℕ) (y : Exit) → call.TakeLaunch ≡ call.Exited j a y → ⊥
      not-end j a y same = cc

-- what the machine answers
pub launched-found : (x : ℕ) (first old new : Ledger) (foretold : List Predicted) (start : Predicted) (result : Result Reply NoEntry) → IsEnded x first old foretold → TellsOf x result start
    → IfOk result (λ (r : Reply). IsStep (now_of old) (launch_entry x r) (now_of new)) → IfOk result (λ (r : Reply). new ≡ served old (launch_entry x r)) → IsEnded x first new (foretold ++ start ∷ [])
launched-found x first old new foretold start result ended tells step entry =
    subst (λ (xs : List Predicted). IsEnded x first new (foretold ++ xs)) tells.start_is
    (launch-one x first old new foretold tells.told ended
    (subst (λ (q : Result Reply NoEntry). IfOk q (λ (r : Reply). IsStep (now_of old) (launch_entry x r) (now_of new))) tells.is step)
    (subst (λ (q : Result Reply NoEntry). IfOk q (λ (r : Reply). new ≡ served old (launch_entry x r))) tells.is entry))

pub launched-grows : (x : ℕ) (old new : Ledger) (start : Predicted) (result : Result Reply NoEntry) → TellsOf x result start → IfOk result (λ (r : Reply). new ≡ served old (launch_entry x r)) → length new.history ≡ length old.history + 1
launched-grows x old new start result tells entry =
    ap (λ (l : Ledger). length l.history) (subst (λ (q : Result Reply NoEntry). IfOk q (λ (r : Reply). new ≡ served old (launch_entry x r))) tells.is entry) ∙ length-append old.history (launch_entry x tells.told ∷ [])

pub nothing-found : (x : ℕ) (first old new : Ledger) (foretold : List Predicted) (result : Result Reply NoEntry) → IsEnded x first old foretold → result ≡ Err fault.Nothing
    → (result ≡ Err fault.Nothing → answer (now_of old) x call.TakeLaunch ≡ nothing) → OnErr result (new ≡ old) → IsOver x first new foretold
nothing-found x first old new foretold result ended is none same =
    subst (λ (l : Ledger). IsOver x first l foretold) (sym (subst (λ (q : Result Reply NoEntry). OnErr q (new ≡ old)) is same))
    (record { entries = ended.entries; made = ended.made; done = record { launched = none is; ended = ended.ended } })

pub full-found : (x n : ℕ) (first old : Ledger) (foretold : List Predicted) → IsEnded x first old foretold → IsTooLarge (now_of old) x call.TakeLaunch n → IsFull (now_of first) n
full-found x n first old foretold ended large =
    let now = now-is x first old foretold ended.entries ended.made in
    record {
      moment = x;
      entries = ended.entries;
      forecast = ended.made.forecast;
      ended = subst (λ (w : World). NoneEnds (advance w x).plan.rows) now ended.ended;
      large = subst (λ (w : World). IsTooLarge w x call.TakeLaunch n) now large;
    }

-- ---- from moment to moment

pub first-moment : (first : Ledger) → IsLegal first.config first.history → (now_of first).plan.moment ≤ greatest → IsFresh (now_of first).plan.moment first first []
first-moment first legal within = record {
  entries = [];
  made = record {
    begun = legal;
    is = ap (λ (h : List Entry). let l : Ledger = record first { history = h } in l) (sym (append-nil first.history));
    forecast = none-yet (now_of first) within;
    foretold_is = refl;
  };
  earlier = tt;
}

done-there : (x : ℕ) (first ledger : Ledger) (foretold : List Predicted) (over : IsOver x first ledger foretold) → IsDone (replay_from (now_of first) over.entries) x
done-there x first ledger foretold over = subst (λ (w : World). IsDone w x) (now-is x first ledger foretold over.entries over.made) over.done

pub next-moment : (x y : ℕ) (first ledger : Ledger) (foretold : List Predicted) → IsOver x first ledger foretold → next_event (now_of ledger).plan x ≡ Some y → IsFresh y first ledger foretold
next-moment x y first ledger foretold over found =
    let now = now-is x first ledger foretold over.entries over.made in
    let there : next_event (replay_from (now_of first) over.entries).plan x ≡ Some y = subst (λ (w : World). next_event w.plan x ≡ Some y) now found in
    let low = (first-some (is_event (now_of ledger).plan) (suc x) (greatest - x) y found).low in
    record {
      entries = over.entries;
      made = record {
        begun = over.made.begun;
        is = over.made.is;
        forecast = go-on x (now_of first) over.entries (legal-consistent first.config first.history over.made.begun) over.made.forecast (done-there x first ledger foretold over) y there;
        foretold_is = over.made.foretold_is;
      };
      earlier = all-implied (λ (e : Entry). e.at ≤ x) (λ (e : Entry). e.at < y) (λ e h. omega (arith, h, low)) over.entries over.made.forecast.reached;
    }

pub last-moment : (x : ℕ) (first ledger : Ledger) (foretold : List Predicted) → IsOver x first ledger foretold → next_event (now_of ledger).plan x ≡ None → AreForetold (now_of first) foretold
last-moment x first ledger foretold over none =
    let now = now-is x first ledger foretold over.entries over.made in
    let ok = legal-consistent first.config first.history over.made.begun in
    let whole = finish x (now_of first) over.entries ok over.made.forecast (done-there x first ledger foretold over) (subst (λ (w : World). next_event w.plan x ≡ None) now none) in
    record {
      entries = over.entries;
      forecast = whole;
      only = λ others other. one-forecast others over.entries (now_of first) ok other whole;
      starts_are = over.made.foretold_is;
    }

-- an event is nearer to the greatest moment than those before it
pub event-nearer : (p : Plan) (x y : ℕ) → next_event p x ≡ Some y → greatest - y < greatest - x
event-nearer p x y found = (let first = first-some (is_event p) (suc x) (greatest - x) y found in let low = first.low in let high = first.high in omega (arith, low, high))
