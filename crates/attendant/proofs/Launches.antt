-- What a round of the launcher keeps.
use Rattle.std.proofs.Common.{◌≡◌, inl, inr, ℕ, zero, suc, ◌+◌, Bool, true, false, not, ◌||◌, ◌&&◌, List, [], ◌∷◌, ◌++◌, length, map, Option, Some, None, refl, sym, ap, ◌∙◌, subst, append-nil, eq-eqb, length-append}
use Rattle.std.proofs.Math.Bool.{or-true}
use Rattle.std.specs.Prelude.{IsSome, IsOk, Result, Ok, Err, IfErr}
use Rattle.std.specs.List.{slice_get}
use Rattle.std.proofs.lemmas.Bool.{and_parts, and_from, false_from_ne_true}
use Rattle.std.proofs.lemmas.List.{map-append}
use Rattle.std.proofs.lemmas.Option.{slice_get-map, same_Some}
use Rattle.std.specs.Option.{option_map, option_map_or}
use Rattle.slab.specs.Slab.{Slab, get, SameValues}
use Rattle.drmaa_types.specs.declared.identifiers.JobId.{JobId}
use Rattle.child_spawner.specs.declared.fates.Asked.{Asked}
use Rattle.child_spawner.specs.declared.fates.Fate.{Fate}
use Rattle.child_spawner.specs.Children.{Told, started_child}
use Rattle.child_spawner.specs.Spawners.{Asks}
use Rattle.attendant.specs.Acts.{Duty}
use Rattle.attendant.specs.Acts.{TakeLaunch, Exited, ExitUnknown, SignalFailed}
use Rattle.attendant.specs.Acts.{Act}
use Rattle.drmaa_model.specs.declared.replies.Launch.{Launch}
use Rattle.drmaa_model.specs.declared.replies.Reply.{Reply}
use Rattle.drmaa_model.specs.declared.replies.Reply.TheVariants as reply
use Rattle.attendant.specs.Acts.{Each, is_run, is_launched, launches_run, launch_in}
use Rattle.attendant.specs.declared.reaper.Held.{Held}
use Rattle.attendant.specs.declared.reaper.Hand.{Hand}
use Rattle.attendant.specs.Runs.{Request, request_of, with_request, requests_in, just_launched, is_start_report, is_reported, is_ended, is_killed, is_delivered, is_kill, hand_kills}
use Rattle.attendant.specs.Outside.{IsLaunchersEntry, IsLaunchOf, IsRunning, Tends, IsStart, IsChild, IsFated, FailsSignal, FailsPoll, EndsBy, FaultTells, ExitTells, IsFault, Tells, TellsOf, Keeps, IsReported, IsExit, Agrees, AgreesOf}
use Rattle.attendant.specs.Posts.{Post, acts_at, Fails}
use Rattle.attendant.specs.Steps.{entry_of, report_call, reports_of, MayFail, PutsAt, PutsChild, Made, Nothing, LaunchSteps, IsMissed, no_room, not_taken, IsLaunchRefused, no_memory, no_space}
use Rattle.call_history.specs.Clients.{number_of}
use Rattle.drmaa_model.specs.declared.calls.Call.TheVariants as call
use Rattle.drmaa_model.specs.declared.faults.NoEntry.{NoEntry}
use Rattle.drmaa_model.specs.declared.faults.NoEntry.TheVariants as no
use Rattle.attendant.specs.declared.launching.Launched.{Launched}
use Rattle.attendant.specs.declared.launching.Launched.TheVariants as launched
use Rattle.drmaa_types.specs.declared.refusals.Refusal.{Refusal}
use Rattle.attendant.proofs.Entries.{each_more, each_map, or_cases, any_more, any_skip, any_kept, run_same, requests_append, last_launch_more, slice_get_kept, slice_get_seam, slice_get_cases, update_cases}

pub run_refl : (job : JobId) (attempt : ℕ) → is_run job attempt job attempt ≡ true
run_refl job attempt = and_from _ _ (eq-eqb job.0 job.0 refl) (eq-eqb attempt attempt refl)

-- a run that nothing is known of yet
record IsFresh {T : Type 0} (reaper : List Act) (at : ℕ → Option (Held T)) (hand : Option Hand) (job : JobId) (attempt : ℕ) : Type 0 where
  ended : is_ended job attempt reaper ≡ false
  killed : is_killed job attempt reaper ≡ false
  no_child : (k : ℕ) (h : Held T) → at k ≡ Some h → h.job ≡ job → h.attempt ≡ attempt → ⊥
  no_hand : hand_kills hand job attempt ≡ false

answered : (o : Option Bool) → is_delivered o ≡ true → IsSome o
answered None is = absurd (cc)
answered (Some b) is = refl

hand_of : {T : Type 0} (launcher reaper : List Act) (at : ℕ → Option (Held T)) (hand : Option Hand) → Tends launcher reaper at hand → (job : JobId) (attempt : ℕ)
    → hand_kills hand job attempt ≡ true → is_launched job attempt launcher ≡ true
hand_of launcher reaper at None t job attempt is = absurd (cc)
hand_of launcher reaper at (Some h) t job attempt is =
    let a = and_parts (is_delivered h.answer) (is_kill h.signal.kind && is_run h.signal.job h.signal.attempt job attempt) is in
    let b = and_parts (is_kill h.signal.kind) (is_run h.signal.job h.signal.attempt job attempt) a.1 in
    let same = run_same h.signal.job h.signal.attempt job attempt b.1 in
    let l = t.delivered h refl (answered h.answer a.0) in
    subst (λ (j : JobId). is_launched j attempt launcher ≡ true) same.0 (subst (λ (n : ℕ). is_launched h.signal.job n launcher ≡ true) same.1 l)

fresh : {T : Type 0} (launcher reaper : List Act) (at : ℕ → Option (Held T)) (hand : Option Hand) → Tends launcher reaper at hand → (job : JobId) (attempt : ℕ)
    → is_launched job attempt launcher ≡ false → IsFresh reaper at hand job attempt
fresh launcher reaper at hand t job attempt new = record {
  ended = false_from_ne_true _ (λ is. (let l = t.ended job attempt is in absurd (cc)));
  killed = false_from_ne_true _ (λ is. (let l = t.killed job attempt is in absurd (cc)));
  no_child = λ k h is same_job same_attempt. (let r = (t.children k h is).launched in
      let l : is_launched job attempt launcher ≡ true = subst (λ (j : JobId). is_launched j attempt launcher ≡ true) same_job (subst (λ (a : ℕ). is_launched h.job a launcher ≡ true) same_attempt r) in absurd (cc));
  no_hand = false_from_ne_true _ (λ is. (let l = hand_of launcher reaper at hand t job attempt is in absurd (cc)));
}

-- a launch that is taken
tends_launch : {T : Type 0} (n : ℕ) (l : Launch) (launcher reaper : List Act) (at : ℕ → Option (Held T)) (hand : Option Hand) → is_launched l.job l.attempt launcher ≡ false
    → Tends launcher reaper at hand → Tends (launcher ++ entry_of n TakeLaunch (reply.Launch l) ∷ []) reaper at hand
tends_launch n l launcher reaper at hand new t = record {
  launches = each_more IsLaunchersEntry launcher _ t.launches new;
  reports = t.reports;
  started = λ began job attempt is. any_kept _ launcher _ (t.started began job attempt (sym (any_skip (λ (e : Act). is_start_report began job attempt e.call) launcher (entry_of n TakeLaunch (reply.Launch l)) refl) ∙ is));
  ended = λ job attempt is. any_kept _ launcher _ (t.ended job attempt is);
  killed = λ job attempt is. any_kept _ launcher _ (t.killed job attempt is);
  children = λ key held is. (let r = t.children key held is in record { launched = any_kept _ launcher _ r.launched; goes_on = r.goes_on });
  apart = t.apart;
  owes = t.owes;
  delivered = λ h is answered. any_kept _ launcher _ (t.delivered h is answered);
}

launched_now : (n : ℕ) (l : Launch) (launcher : List Act) → is_launched l.job l.attempt (launcher ++ entry_of n TakeLaunch (reply.Launch l) ∷ []) ≡ true
launched_now n l launcher = any_more (launches_run l.job l.attempt) launcher _ ∙ ap (λ b. is_launched l.job l.attempt launcher || b) (run_refl l.job l.attempt) ∙ or-true _

start_is : (began b : Bool) (l : Launch) (job : JobId) (attempt : ℕ) → is_start_report b job attempt (report_call began l) ≡ true → is_run l.job l.attempt job attempt ≡ true
start_is true b l job attempt is = (and_parts _ _ is).1
start_is false b l job attempt is = (and_parts _ _ is).1

report_follows : (began : Bool) (n : ℕ) (l : Launch) (r : Reply) (front : List Act) → just_launched front ≡ Some l → IsLaunchersEntry front (entry_of n (report_call began l) r)
report_follows true n l r front is = subst (IsLaunchOf l.job l.attempt) (sym is) (refl, refl)
report_follows false n l r front is = subst (IsLaunchOf l.job l.attempt) (sym is) (refl, refl)

-- a start that is reported
tends_report : {T : Type 0} (n : ℕ) (began : Bool) (l : Launch) (answer : Option Reply) (launcher reaper : List Act) (at : ℕ → Option (Held T)) (hand : Option Hand)
    → is_launched l.job l.attempt launcher ≡ true → just_launched launcher ≡ Some l
    → Tends launcher reaper at hand → Tends (launcher ++ reports_of n began l answer) reaper at hand
tends_report n began l None launcher reaper at hand launched just t = subst (λ (x : List Act). Tends x reaper at hand) (sym (append-nil launcher)) t
tends_report n began l (Some r) launcher reaper at hand launched just t = record {
  launches = each_more IsLaunchersEntry launcher _ t.launches (report_follows began n l r launcher just);
  reports = t.reports;
  started = λ b job attempt is. any_kept _ launcher _
      (or_cases (is_reported b job attempt launcher) (is_start_report b job attempt (report_call began l)) (is_launched job attempt launcher ≡ true)
      (t.started b job attempt)
      (λ now. (let same = run_same l.job l.attempt job attempt (start_is began b l job attempt now) in
      subst (λ (j : JobId). is_launched j attempt launcher ≡ true) same.0 (subst (λ (a : ℕ). is_launched l.job a launcher ≡ true) same.1 launched)))
      (sym (any_more (λ (e : Act). is_start_report b job attempt e.call) launcher _) ∙ is));
  ended = λ job attempt is. any_kept _ launcher _ (t.ended job attempt is);
  killed = λ job attempt is. any_kept _ launcher _ (t.killed job attempt is);
  children = λ key held is. (let r = t.children key held is in record { launched = any_kept _ launcher _ r.launched; goes_on = r.goes_on });
  apart = t.apart;
  owes = t.owes;
  delivered = λ h is answered. any_kept _ launcher _ (t.delivered h is answered);
}

-- what is kept where the places have the same children
tends_same : {T : Type 0} (launcher reaper : List Act) (old new : Slab (Held T)) (hand : Option Hand) → SameValues old new → Tends launcher reaper (get old) hand → Tends launcher reaper (get new) hand
tends_same launcher reaper old new hand same t = record {
  launches = t.launches;
  reports = t.reports;
  started = t.started;
  ended = t.ended;
  killed = t.killed;
  children = λ key held is. t.children key held (sym (same key) ∙ is);
  apart = λ k m h i at_k at_m. t.apart k m h i (sym (same k) ∙ at_k) (sym (same m) ∙ at_m);
  owes = t.owes;
  delivered = t.delivered;
}

-- a child of a fresh run is put into its place
tends_put : {T : Type 0} (l : Launch) (child : T) (launcher reaper : List Act) (old new : Slab (Held T)) (hand : Option Hand)
    → PutsAt l child old new → is_launched l.job l.attempt launcher ≡ true → IsFresh reaper (get old) hand l.job l.attempt
    → Tends launcher reaper (get old) hand → Tends launcher reaper (get new) hand
tends_put {T = T} l child launcher reaper old new hand p launched f t = record {
  launches = t.launches;
  reports = t.reports;
  started = t.started;
  ended = t.ended;
  killed = t.killed;
  children = λ key held is. (elim (update_cases old new p.key _ p.updates key held is) [
    | inl here ↦ (let e = here.1 in subst (λ (h : Held T). IsRunning launcher reaper h.job h.attempt) (same_Some _ _ here.1) (record { launched = launched; goes_on = f.ended }))
    | inr other ↦ t.children key held other.1
  ]);
  apart = λ k m h i at_k at_m same_job same_attempt.
      (elim (update_cases old new p.key _ p.updates k h at_k) [
        | inl here ↦ (elim (update_cases old new p.key _ p.updates m i at_m) [
          | inl there ↦ here.0 ∙ sym there.0
          | inr there ↦ absurd (f.no_child m i there.1
              (sym same_job ∙ sym (ap (λ (h : Held T). h.job) (same_Some _ _ here.1))) (sym same_attempt ∙ sym (ap (λ (h : Held T). h.attempt) (same_Some _ _ here.1))))
        ])
        | inr here ↦ (elim (update_cases old new p.key _ p.updates m i at_m) [
          | inl there ↦ absurd (f.no_child k h here.1
              (same_job ∙ sym (ap (λ (h : Held T). h.job) (same_Some _ _ there.1))) (same_attempt ∙ sym (ap (λ (h : Held T). h.attempt) (same_Some _ _ there.1))))
          | inr there ↦ t.apart k m h i here.1 there.1 same_job same_attempt
        ])
      ]);
  owes = t.owes;
  delivered = t.delivered;
}

-- starts, where one more is asked
start_kept : (starts more : List Asked) (n : ℕ) (job : JobId) (attempt : ℕ) → IsStart starts n job attempt → IsStart (starts ++ more) n job attempt
start_kept starts more n job attempt s = record { asked = s.asked; at = slice_get_kept starts more n s.asked s.at; of_job = s.of_job; of_attempt = s.of_attempt }

fated_kept : (P : Fate → Type 0) (starts more : List Asked) (fate : ℕ → Fate) (job : JobId) (attempt : ℕ) → IsFated P starts fate job attempt → IsFated P (starts ++ more) fate job attempt
fated_kept P starts more fate job attempt f = record { before = f.before; start = start_kept starts more f.before job attempt f.start; fated = f.fated }

child_kept : (starts more : List Asked) (fate : ℕ → Fate) (job : JobId) (attempt : ℕ) (killed : Bool) (told : Option Told) → IsChild starts fate job attempt killed told → IsChild (starts ++ more) fate job attempt killed told
unfolding start_kept
child_kept starts more fate job attempt killed told c = record {
  child = c.child;
  is = c.is;
  before = c.before;
  number = c.number;
  start = start_kept starts more c.before job attempt c.start;
  began = c.began;
  of_job = c.of_job;
  of_attempt = c.of_attempt;
  fate_is = c.fate_is;
  killed_is = c.killed_is;
}

fault_kept : (starts more : List Asked) (fate : ℕ → Fate) (front : List Act) (call : Duty) → FaultTells starts fate call → FaultTells (starts ++ more) fate call
fault_kept starts more fate front (ExitUnknown job attempt) f = fated_kept FailsPoll starts more fate job attempt f
fault_kept starts more fate front (SignalFailed job attempt kind) f = fated_kept FailsSignal starts more fate job attempt f
fault_kept starts more fate front _ f = tt

exit_kept : (starts more : List Asked) (fate : ℕ → Fate) (front : List Act) (call : Duty) → ExitTells starts fate front call → ExitTells (starts ++ more) fate front call
exit_kept starts more fate front (Exited job attempt exit) f = fated_kept (EndsBy (is_killed job attempt front) exit) starts more fate job attempt f
exit_kept starts more fate front _ f = tt

no_requests : (n : ℕ) (began : Bool) (l : Launch) (answer : Option Reply) → requests_in (reports_of n began l answer) ≡ []
no_requests n began l None = refl
no_requests n true l (Some r) = refl
no_requests n false l (Some r) = refl

requests_made : (n : ℕ) (began : Bool) (l : Launch) (answer : Option Reply) (mine : List Act) →
    requests_in ((mine ++ entry_of n TakeLaunch (reply.Launch l) ∷ []) ++ reports_of n began l answer) ≡ requests_in mine ++ request_of l ∷ []
requests_made n began l answer mine =
    requests_append (mine ++ entry_of n TakeLaunch (reply.Launch l) ∷ []) (reports_of n began l answer)
    ∙ ap (λ r. requests_in (mine ++ entry_of n TakeLaunch (reply.Launch l) ∷ []) ++ r) (no_requests n began l answer)
    ∙ append-nil _ ∙ requests_append mine (entry_of n TakeLaunch (reply.Launch l) ∷ [])

-- where the places have the same children
tells_same : {T : Type 0} (told : T → Option Told) (starts : List Asked) (fate : ℕ → Fate) (launcher reaper : List Act) (old new : Slab (Held T)) (hand : Option Hand)
    → SameValues old new → Tells told starts fate launcher reaper (get old) hand → Tells told starts fate launcher reaper (get new) hand
tells_same told starts fate launcher reaper old new hand same t = record {
  asked = t.asked;
  children = λ key held is. t.children key held (sym (same key) ∙ is);
  failing = t.failing;
  faults = t.faults;
}

new_child : {T : Type 0} (told : T → Option Told) (l : Launch) (starts starts2 : List Asked) (fate : ℕ → Fate) (child : T) (killed : Bool) → killed ≡ false
    → starts2 ≡ starts ++ (record { job = l.job; attempt = l.attempt; words = l.words; began = true }) ∷ []
    → told child ≡ Some (started_child (length starts2) l.job l.attempt (fate (length starts2)))
    → IsChild starts2 fate l.job l.attempt killed (told child)
new_child told l starts starts2 fate child killed not_killed more is =
    let count : length starts2 ≡ length starts + 1 = ap length more ∙ length-append starts _ in
    record {
      child = started_child (length starts2) l.job l.attempt (fate (length starts2));
      is = is;
      before = length starts;
      number = count;
      start = record {
        asked = record { job = l.job; attempt = l.attempt; words = l.words; began = true };
        at = subst (λ (s : List Asked). slice_get s (length starts) ≡ Some (record { job = l.job; attempt = l.attempt; words = l.words; began = true })) (sym more) (slice_get_seam starts _);
        of_job = refl;
        of_attempt = refl;
      };
      began = refl;
      of_job = refl;
      of_attempt = refl;
      fate_is = ap fate count;
      killed_is = sym not_killed;
    }

puts_children : {T : Type 0} (told : T → Option Told) (l : Launch) (began : Bool) (mine reaper : List Act) (starts starts2 : List Asked) (fate : ℕ → Fate)
    (old new : Slab (Held T)) (hand : Option Hand)
    → IsFresh reaper (get old) hand l.job l.attempt
    → starts2 ≡ starts ++ (record { job = l.job; attempt = l.attempt; words = l.words; began = began }) ∷ []
    → PutsChild told l began (Some starts2) fate old new
    → ((key : ℕ) (held : Held T) → get old key ≡ Some held → IsChild starts2 fate held.job held.attempt (is_killed held.job held.attempt reaper || hand_kills hand held.job held.attempt) (told held.child))
    → (key : ℕ) (held : Held T) → get new key ≡ Some held → IsChild starts2 fate held.job held.attempt (is_killed held.job held.attempt reaper || hand_kills hand held.job held.attempt) (told held.child)
puts_children told l false mine reaper starts starts2 fate old new hand f more same kept key held is = kept key held (sym (same key) ∙ is)
puts_children {T = T} told l true mine reaper starts starts2 fate old new hand f more puts kept key held is =
    elim (update_cases old new puts.put.key _ puts.put.updates key held is) [
      | inl here ↦ subst (λ (h : Held T). IsChild starts2 fate h.job h.attempt (is_killed h.job h.attempt reaper || hand_kills hand h.job h.attempt) (told h.child)) (same_Some _ _ here.1)
          (new_child told l starts starts2 fate puts.child _ (ap (λ b. b || hand_kills hand l.job l.attempt) f.killed ∙ f.no_hand) more puts.tells)
      | inr other ↦ kept key held other.1
    ]

tells_made : {T : Type 0} (told : T → Option Told) (n : ℕ) (l : Launch) (began : Bool) (answer : Option Reply) (mine reaper : List Act) (starts starts2 : List Asked) (fate : ℕ → Fate)
    (old new : Slab (Held T)) (hand : Option Hand)
    → IsFresh reaper (get old) hand l.job l.attempt
    → starts2 ≡ starts ++ (record { job = l.job; attempt = l.attempt; words = l.words; began = began }) ∷ []
    → PutsChild told l began (Some starts2) fate old new
    → Tells told starts fate mine reaper (get old) hand
    → Tells told starts2 fate ((mine ++ entry_of n TakeLaunch (reply.Launch l) ∷ []) ++ reports_of n began l answer) reaper (get new) hand
tells_made {T = T} told n l began answer mine reaper starts starts2 fate old new hand f more puts t =
    let grown = subst (λ (s : List Asked). Each (IsFault s fate) reaper) (sym more)
    (each_map (IsFault starts fate) (IsFault (starts ++ _ ∷ []) fate) reaper (λ front e. fault_kept starts _ fate front e.call) t.faults) in
    let asks : requests_in ((mine ++ entry_of n TakeLaunch (reply.Launch l) ∷ []) ++ reports_of n began l answer) ≡ map (λ (a : Asked). record { job = a.job; attempt = a.attempt; words = a.words }) starts2 =
    requests_made n began l answer mine ∙ ap (λ r. r ++ request_of l ∷ []) t.asked
    ∙ sym (map-append (λ (a : Asked). record { job = a.job; attempt = a.attempt; words = a.words }) starts ((record { job = l.job; attempt = l.attempt; words = l.words; began = began }) ∷ []))
    ∙ ap (map (λ (a : Asked). record { job = a.job; attempt = a.attempt; words = a.words })) (sym more) in
    let kept = λ (key : ℕ) (held : Held T) (is : get old key ≡ Some held).
    subst (λ (s : List Asked). IsChild s fate held.job held.attempt (is_killed held.job held.attempt reaper || hand_kills hand held.job held.attempt) (told held.child)) (sym more)
    (child_kept starts _ fate held.job held.attempt _ _ (t.children key held is)) in
    record {
      asked = asks;
      children = puts_children told l began mine reaper starts starts2 fate old new hand f more puts kept;
      failing = λ h is no_answer. subst (λ (s : List Asked). IsFated FailsSignal s fate h.signal.job h.signal.attempt) (sym more) (fated_kept FailsSignal starts _ fate _ _ (t.failing h is no_answer));
      faults = grown;
    }

-- the launches that are read off are launches
requested_here : (l : Launch) (es : List Act) → ((m : ℕ) (r : Request) → slice_get (requests_in es) m ≡ Some r → is_launched r.job r.attempt es ≡ true) → (m : ℕ) (r : Request)
    → slice_get (request_of l ∷ requests_in es) m ≡ Some r → (is_run l.job l.attempt r.job r.attempt || is_launched r.job r.attempt es) ≡ true
requested_here l es later zero r is = (let e : request_of l ≡ r = same_Some (request_of l) r is in
    ap (λ b. b || is_launched r.job r.attempt es) (subst (λ (q : Request). is_run l.job l.attempt q.job q.attempt ≡ true) e (run_refl l.job l.attempt)))
requested_here l es later (suc m) r is = ap (λ b. is_run l.job l.attempt r.job r.attempt || b) (later m r is) ∙ or-true _

requested : (es : List Act) (m : ℕ) (r : Request) → slice_get (requests_in es) m ≡ Some r → is_launched r.job r.attempt es ≡ true
requested [] m r is = absurd (cc)
requested (e ∷ es) m r is =
    (elim (launch_in e.call e.reply) as (λ o. slice_get (with_request o (requests_in es)) m ≡ Some r → (option_map_or (λ (l : Launch). is_run l.job l.attempt r.job r.attempt) o false || is_launched r.job r.attempt es) ≡ true) [
      | None ↦ λ is. requested es m r is
      | Some l ↦ λ is. requested_here l es (λ k q. requested es k q) m r is
    ]) is

agrees_old : (n : ℕ) (l : Launch) (began : Bool) (r : Reply) (mine : List Act) (a : Asked) → is_run l.job l.attempt a.job a.attempt ≡ false → IsReported mine a
    → IsReported ((mine ++ entry_of n TakeLaunch (reply.Launch l) ∷ []) ++ entry_of n (report_call began l) r ∷ []) a
agrees_old n l began r mine a other old = record { began = same true ∙ old.began; failed = same false ∙ old.failed } where
  same : (b : Bool) → is_reported b a.job a.attempt ((mine ++ entry_of n TakeLaunch (reply.Launch l) ∷ []) ++ entry_of n (report_call began l) r ∷ []) ≡ is_reported b a.job a.attempt mine
  same b = any_skip (λ (e : Act). is_start_report b a.job a.attempt e.call) (mine ++ entry_of n TakeLaunch (reply.Launch l) ∷ []) (entry_of n (report_call began l) r)
      (false_from_ne_true _ (λ is. (let run = start_is began b l a.job a.attempt is in absurd (cc))))
      ∙ any_skip (λ (e : Act). is_start_report b a.job a.attempt e.call) mine (entry_of n TakeLaunch (reply.Launch l)) refl

start_now : (began : Bool) (l : Launch) → (is_start_report true l.job l.attempt (report_call began l) ≡ began) × (is_start_report false l.job l.attempt (report_call began l) ≡ not began)
start_now true l = (run_refl l.job l.attempt, refl)
start_now false l = (refl, run_refl l.job l.attempt)

agrees_new : (n : ℕ) (l : Launch) (began : Bool) (r : Reply) (mine : List Act) (words : List (List ℕ)) → ((b : Bool) → is_reported b l.job l.attempt mine ≡ false)
    → IsReported ((mine ++ entry_of n TakeLaunch (reply.Launch l) ∷ []) ++ entry_of n (report_call began l) r ∷ []) (record { job = l.job; attempt = l.attempt; words = words; began = began })
agrees_new n l began r mine words none = record { began = now true ∙ (start_now began l).0; failed = now false ∙ (start_now began l).1 } where
  now : (b : Bool) → is_reported b l.job l.attempt ((mine ++ entry_of n TakeLaunch (reply.Launch l) ∷ []) ++ entry_of n (report_call began l) r ∷ []) ≡ is_start_report b l.job l.attempt (report_call began l)
  now b = any_more (λ (e : Act). is_start_report b l.job l.attempt e.call) (mine ++ entry_of n TakeLaunch (reply.Launch l) ∷ []) _
      ∙ ap (λ t. t || is_start_report b l.job l.attempt (report_call began l)) (any_skip (λ (e : Act). is_start_report b l.job l.attempt e.call) mine (entry_of n TakeLaunch (reply.Launch l)) refl ∙ none b)

agrees_made : {T : Type 0} (told : T → Option Told) (n : ℕ) (l : Launch) (began : Bool) (r : Reply) (mine reaper : List Act) (starts starts2 : List Asked) (fate : ℕ → Fate)
    (at : ℕ → Option (Held T)) (hand : Option Hand)
    → is_launched l.job l.attempt mine ≡ false
    → starts2 ≡ starts ++ (record { job = l.job; attempt = l.attempt; words = l.words; began = began }) ∷ []
    → Tends mine reaper at hand → Tells told starts fate mine reaper at hand
    → Agrees starts fate mine reaper
    → Agrees starts2 fate ((mine ++ entry_of n TakeLaunch (reply.Launch l) ∷ []) ++ entry_of n (report_call began l) r ∷ []) reaper
agrees_made told n l began r mine reaper starts starts2 fate at hand new more tends tells a = record {
  starts_reported = λ m s is.
      (elim (slice_get_cases starts _ m s (ap (λ (x : List Asked). slice_get x m) (sym more) ∙ is)) [
        | inl old ↦ agrees_old n l began r mine s (false_from_ne_true _ (λ run.
            (let same = run_same l.job l.attempt s.job s.attempt run in
            let there : is_launched s.job s.attempt mine ≡ true = requested mine m (record { job = s.job; attempt = s.attempt; words = s.words })
            (ap (λ (q : List Request). slice_get q m) tells.asked ∙ slice_get-map (λ (a : Asked). record { job = a.job; attempt = a.attempt; words = a.words }) starts m
            ∙ ap (option_map (λ (a : Asked). record { job = a.job; attempt = a.attempt; words = a.words })) old) in
            let mine_too : is_launched l.job l.attempt mine ≡ true = subst (λ (j : JobId). is_launched j l.attempt mine ≡ true) (sym same.0) (subst (λ (k : ℕ). is_launched s.job k mine ≡ true) (sym same.1) there) in
            absurd (cc)))) (a.starts_reported m s old)
        | inr now ↦ subst (IsReported _) (sym now) (agrees_new n l began r mine l.words (λ b. false_from_ne_true _ (λ is. (let t = tends.started b l.job l.attempt is in absurd (cc)))))
      ]);
  exits = subst (λ (s : List Asked). Each (IsExit s fate) reaper) (sym more)
      (each_map (IsExit starts fate) (IsExit (starts ++ _ ∷ []) fate) reaper (λ front e. exit_kept starts _ fate front e.call) a.exits);
}

tends_puts : {T : Type 0} (told : T → Option Told) (l : Launch) (began : Bool) (asked : Option (List Asked)) (fate : ℕ → Fate) (launcher reaper : List Act) (old new : Slab (Held T)) (hand : Option Hand)
    → PutsChild told l began asked fate old new → is_launched l.job l.attempt launcher ≡ true → IsFresh reaper (get old) hand l.job l.attempt
    → Tends launcher reaper (get old) hand → Tends launcher reaper (get new) hand
tends_puts told l true asked fate launcher reaper old new hand p launched f t = tends_put l p.child launcher reaper old new hand p.put launched f t
tends_puts told l false asked fate launcher reaper old new hand same launched f t = tends_same launcher reaper old new hand same t

tells_of : {T : Type 0} (told : T → Option Told) (n : ℕ) (l : Launch) (began : Bool) (answer : Option Reply) (mine reaper : List Act) (asked asked2 : Option (List Asked)) (fate fate2 : ℕ → Fate)
    (old new : Slab (Held T)) (hand : Option Hand)
    → IsFresh reaper (get old) hand l.job l.attempt
    → Asks asked (record { job = l.job; attempt = l.attempt; words = l.words; began = began }) asked2 → fate2 ≡ fate
    → PutsChild told l began asked2 fate2 old new
    → TellsOf told asked fate mine reaper (get old) hand
    → TellsOf told asked2 fate2 ((mine ++ entry_of n TakeLaunch (reply.Launch l) ∷ []) ++ reports_of n began l answer) reaper (get new) hand
tells_of told n l began answer mine reaper asked None fate fate2 old new hand f asks same puts t = tt
tells_of told n l began answer mine reaper None (Some starts2) fate fate2 old new hand f asks same puts t = absurd asks
tells_of told n l began answer mine reaper (Some starts) (Some starts2) fate fate2 old new hand f asks same puts t =
    tells_made told n l began answer mine reaper starts starts2 fate2 old new hand f asks puts
    (subst (λ (g : ℕ → Fate). Tells told starts g mine reaper (get old) hand) (sym same) t)

agrees_of : {T : Type 0} (told : T → Option Told) (n : ℕ) (l : Launch) (began : Bool) (r : Reply) (mine reaper : List Act) (asked asked2 : Option (List Asked)) (fate fate2 : ℕ → Fate)
    (at : ℕ → Option (Held T)) (hand : Option Hand)
    → is_launched l.job l.attempt mine ≡ false
    → Asks asked (record { job = l.job; attempt = l.attempt; words = l.words; began = began }) asked2 → fate2 ≡ fate
    → Tends mine reaper at hand → TellsOf told asked fate mine reaper at hand
    → AgreesOf asked fate mine reaper
    → AgreesOf asked2 fate2 ((mine ++ entry_of n TakeLaunch (reply.Launch l) ∷ []) ++ entry_of n (report_call began l) r ∷ []) reaper
agrees_of told n l began r mine reaper asked None fate fate2 at hand new asks same t u a = tt
agrees_of told n l began r mine reaper None (Some starts2) fate fate2 at hand new asks same t u a = absurd asks
agrees_of told n l began r mine reaper (Some starts) (Some starts2) fate fate2 at hand new asks same t u a =
    agrees_made told n l began r mine reaper starts starts2 fate2 at hand new asks t
    (subst (λ (g : ℕ → Fate). Tells told starts g mine reaper at hand) (sym same) u)
    (subst (λ (g : ℕ → Fate). Agrees starts g mine reaper) (sym same) a)

tells_of_same : {T : Type 0} (told : T → Option Told) (launcher reaper : List Act) (asked : Option (List Asked)) (fate : ℕ → Fate) (old new : Slab (Held T)) (hand : Option Hand)
    → SameValues old new → TellsOf told asked fate launcher reaper (get old) hand → TellsOf told asked fate launcher reaper (get new) hand
tells_of_same told launcher reaper None fate old new hand same t = tt
tells_of_same told launcher reaper (Some starts) fate old new hand same t = tells_same told starts fate launcher reaper old new hand same t

-- a launch keeps what is kept whether the spawner tells or not
made_tends : {T : Type 0} (told : T → Option Told) (n : ℕ) (l : Launch) (began : Bool) (answer : Option Reply) (mine mine2 reaper : List Act) (asked asked2 : Option (List Asked)) (fate fate2 : ℕ → Fate)
    (old new : Slab (Held T)) (hand : Option Hand)
    → Made told n l began answer mine mine2 asked asked2 fate fate2 old new → Tends mine reaper (get old) hand → Tends mine2 reaper (get new) hand
made_tends told n l began answer mine mine2 reaper asked asked2 fate fate2 old new hand m t =
    let f = fresh mine reaper (get old) hand t l.job l.attempt m.is_new in
    let one = tends_launch n l mine reaper (get old) hand m.is_new t in
    let all = tends_report n began l answer (mine ++ entry_of n TakeLaunch (reply.Launch l) ∷ []) reaper (get old) hand (launched_now n l mine) (last_launch_more None mine _) one in
    subst (λ (x : List Act). Tends x reaper (get new) hand) (sym m.mine_is) (tends_puts told l began asked2 fate2 _ reaper old new hand m.puts (any_kept (launches_run l.job l.attempt) (mine ++ entry_of n TakeLaunch (reply.Launch l) ∷ []) (reports_of n began l answer) (launched_now n l mine)) f all)

-- all that a launch keeps
pub made_keeps : {T : Type 0} (told : T → Option Told) (n : ℕ) (l : Launch) (began : Bool) (answer : Option Reply) (mine mine2 reaper : List Act) (asked asked2 : Option (List Asked)) (fate fate2 : ℕ → Fate)
    (old new : Slab (Held T)) (hand : Option Hand)
    → Made told n l began answer mine mine2 asked asked2 fate fate2 old new → Keeps told asked fate mine reaper (get old) hand → Keeps told asked2 fate2 mine2 reaper (get new) hand
made_keeps told n l began answer mine mine2 reaper asked asked2 fate fate2 old new hand m k =
    let f = fresh mine reaper (get old) hand k.tends l.job l.attempt m.is_new in
    record {
      tends = made_tends told n l began answer mine mine2 reaper asked asked2 fate fate2 old new hand m k.tends;
      tells = subst (λ (x : List Act). TellsOf told asked2 fate2 x reaper (get new) hand) (sym m.mine_is)
          (tells_of told n l began answer mine reaper asked asked2 fate fate2 old new hand f m.asked_is m.fate_is m.puts k.tells);
    }

pub made_agrees : {T : Type 0} (told : T → Option Told) (n : ℕ) (l : Launch) (began : Bool) (r : Reply) (mine mine2 reaper : List Act) (asked asked2 : Option (List Asked)) (fate fate2 : ℕ → Fate)
    (old new : Slab (Held T)) (hand : Option Hand)
    → Made told n l began (Some r) mine mine2 asked asked2 fate fate2 old new → Keeps told asked fate mine reaper (get old) hand → AgreesOf asked fate mine reaper → AgreesOf asked2 fate2 mine2 reaper
made_agrees told n l began r mine mine2 reaper asked asked2 fate fate2 old new hand m k a =
    subst (λ (x : List Act). AgreesOf asked2 fate2 x reaper) (sym m.mine_is) (agrees_of told n l began r mine reaper asked asked2 fate fate2 (get old) hand m.is_new m.asked_is m.fate_is k.tends k.tells a)

nothing_tends : {T : Type 0} (mine mine2 reaper : List Act) (asked asked2 : Option (List Asked)) (fate fate2 : ℕ → Fate) (old new : Slab (Held T)) (hand : Option Hand)
    → Nothing mine mine2 asked asked2 fate fate2 old new → Tends mine reaper (get old) hand → Tends mine2 reaper (get new) hand
nothing_tends mine mine2 reaper asked asked2 fate fate2 old new hand n t = subst (λ (x : List Act). Tends x reaper (get new) hand) (sym n.mine_is) (tends_same mine reaper old new hand n.same t)

nothing_keeps : {T : Type 0} (told : T → Option Told) (mine mine2 reaper : List Act) (asked asked2 : Option (List Asked)) (fate fate2 : ℕ → Fate) (old new : Slab (Held T)) (hand : Option Hand)
    → Nothing mine mine2 asked asked2 fate fate2 old new → Keeps told asked fate mine reaper (get old) hand → Keeps told asked2 fate2 mine2 reaper (get new) hand
nothing_keeps told mine mine2 reaper asked asked2 fate fate2 old new hand n k = record {
  tends = nothing_tends mine mine2 reaper asked asked2 fate fate2 old new hand n k.tends;
  tells = subst (λ (x : List Act). TellsOf told asked2 fate2 x reaper (get new) hand) (sym n.mine_is)
      (subst (λ (f : ℕ → Fate). TellsOf told asked2 f mine reaper (get new) hand) (sym n.fate_is)
      (subst (λ (a : Option (List Asked)). TellsOf told a fate mine reaper (get new) hand) (sym n.asked_is)
      (tells_of_same told mine reaper asked fate old new hand n.same k.tells)));
}

nothing_agrees : {T : Type 0} (mine mine2 reaper : List Act) (asked asked2 : Option (List Asked)) (fate fate2 : ℕ → Fate) (old new : Slab (Held T))
    → Nothing mine mine2 asked asked2 fate fate2 old new → AgreesOf asked fate mine reaper → AgreesOf asked2 fate2 mine2 reaper
nothing_agrees mine mine2 reaper asked asked2 fate fate2 old new n a =
    subst (λ (x : List Act). AgreesOf asked2 fate2 x reaper) (sym n.mine_is)
    (subst (λ (f : ℕ → Fate). AgreesOf asked2 f mine reaper) (sym n.fate_is)
    (subst (λ (q : Option (List Asked)). AgreesOf q fate mine reaper) (sym n.asked_is) a))

-- a round of the launcher leaves the fates
pub round_fates : {T : Type 0} (told : T → Option Told) (before after : Post) (asked asked2 : Option (List Asked)) (fate fate2 : ℕ → Fate) (old new : Slab (Held T))
    (r : Result Launched Refusal) → LaunchSteps told before after asked asked2 fate fate2 old new r → fate2 ≡ fate
round_fates told before after asked asked2 fate fate2 old new (Ok launched.Nothing) s = s.fate_is
round_fates told before after asked asked2 fate fate2 old new (Ok (launched.Began job)) s = s.made.fate_is
round_fates told before after asked asked2 fate fate2 old new (Ok (launched.StartFailed job)) s = s.made.fate_is
round_fates told before after asked asked2 fate fate2 old new (Err why) s = elim s [ inl none ↦ none.0.fate_is | inr m ↦ m.0.made.fate_is ]

-- a round of the launcher, whether the spawner tells or not
pub round_tends : {T : Type 0} (told : T → Option Told) (before after : Post) (reaper : List Act) (asked asked2 : Option (List Asked)) (fate fate2 : ℕ → Fate) (old new : Slab (Held T)) (hand : Option Hand)
    (r : Result Launched Refusal) → LaunchSteps told before after asked asked2 fate fate2 old new r → Tends (acts_at before) reaper (get old) hand → Tends (acts_at after) reaper (get new) hand
round_tends told before after reaper asked asked2 fate fate2 old new hand (Ok launched.Nothing) s k = nothing_tends (acts_at before) (acts_at after) reaper asked asked2 fate fate2 old new hand s k
round_tends told before after reaper asked asked2 fate fate2 old new hand (Ok (launched.Began job)) s k = made_tends told (number_of before.client) s.launch true (Some s.reply) (acts_at before) (acts_at after) reaper asked asked2 fate fate2 old new hand s.made k
round_tends told before after reaper asked asked2 fate fate2 old new hand (Ok (launched.StartFailed job)) s k = made_tends told (number_of before.client) s.launch false (Some s.reply) (acts_at before) (acts_at after) reaper asked asked2 fate fate2 old new hand s.made k
round_tends told before after reaper asked asked2 fate fate2 old new hand (Err why) s k = elim s [
  | inl none ↦ nothing_tends (acts_at before) (acts_at after) reaper asked asked2 fate fate2 old new hand none.0 k
  | inr m ↦ made_tends told (number_of before.client) m.0.launch m.0.began None (acts_at before) (acts_at after) reaper asked asked2 fate fate2 old new hand m.0.made k
]

-- a round of the launcher keeps what is kept
pub round_keeps : {T : Type 0} (told : T → Option Told) (before after : Post) (reaper : List Act) (asked asked2 : Option (List Asked)) (fate fate2 : ℕ → Fate) (old new : Slab (Held T)) (hand : Option Hand)
    (r : Result Launched Refusal) → LaunchSteps told before after asked asked2 fate fate2 old new r → Keeps told asked fate (acts_at before) reaper (get old) hand → Keeps told asked2 fate2 (acts_at after) reaper (get new) hand
round_keeps told before after reaper asked asked2 fate fate2 old new hand (Ok launched.Nothing) s k = nothing_keeps told (acts_at before) (acts_at after) reaper asked asked2 fate fate2 old new hand s k
round_keeps told before after reaper asked asked2 fate fate2 old new hand (Ok (launched.Began job)) s k = made_keeps told (number_of before.client) s.launch true (Some s.reply) (acts_at before) (acts_at after) reaper asked asked2 fate fate2 old new hand s.made k
round_keeps told before after reaper asked asked2 fate fate2 old new hand (Ok (launched.StartFailed job)) s k = made_keeps told (number_of before.client) s.launch false (Some s.reply) (acts_at before) (acts_at after) reaper asked asked2 fate fate2 old new hand s.made k
round_keeps told before after reaper asked asked2 fate fate2 old new hand (Err why) s k = elim s [
  | inl none ↦ nothing_keeps told (acts_at before) (acts_at after) reaper asked asked2 fate fate2 old new hand none.0 k
  | inr m ↦ made_keeps told (number_of before.client) m.0.launch m.0.began None (acts_at before) (acts_at after) reaper asked asked2 fate fate2 old new hand m.0.made k
]

pub round_agrees : {T : Type 0} (told : T → Option Told) (before after : Post) (reaper : List Act) (asked asked2 : Option (List Asked)) (fate fate2 : ℕ → Fate) (old new : Slab (Held T)) (hand : Option Hand)
    (r : Result Launched Refusal) → LaunchSteps told before after asked asked2 fate fate2 old new r → IsOk r → Keeps told asked fate (acts_at before) reaper (get old) hand → AgreesOf asked fate (acts_at before) reaper → AgreesOf asked2 fate2 (acts_at after) reaper
round_agrees told before after reaper asked asked2 fate fate2 old new hand (Ok launched.Nothing) s good k a = nothing_agrees (acts_at before) (acts_at after) reaper asked asked2 fate fate2 old new s a
round_agrees told before after reaper asked asked2 fate fate2 old new hand (Ok (launched.Began job)) s good k a = made_agrees told (number_of before.client) s.launch true s.reply (acts_at before) (acts_at after) reaper asked asked2 fate fate2 old new hand s.made k a
round_agrees told before after reaper asked asked2 fate fate2 old new hand (Ok (launched.StartFailed job)) s good k a = made_agrees told (number_of before.client) s.launch false s.reply (acts_at before) (acts_at after) reaper asked asked2 fate fate2 old new hand s.made k a
round_agrees told before after reaper asked asked2 fate fate2 old new hand (Err why) s good k a = absurd (cc)

-- why a round of the launcher is refused
launch_fault : (old new : Post) (fault : NoEntry) (why : Refusal) → Fails old call.TakeLaunch fault new → MayFail fault why → IsLaunchRefused old new why
launch_fault old new no.OutOfMemory why f m = no_memory m
launch_fault old new no.NotYet why f m = no_memory m
launch_fault old new no.Nothing why f m = no_memory m
launch_fault old new (no.Journal size) why f m = no_space size m f

launch_missed : (old new : Post) (why : Refusal) → IsMissed old new why → IsLaunchRefused old new why
launch_missed old new why (no_room w same) = no_memory w
launch_missed old new why (not_taken fault not f m) = launch_fault old new fault why f m

pub launch_refused : {T : Type 0} (told : T → Option Told) (before after : Post) (asked asked2 : Option (List Asked)) (fate fate2 : ℕ → Fate) (old new : Slab (Held T))
    (r : Result Launched Refusal) → LaunchSteps told before after asked asked2 fate fate2 old new r → IfErr r (IsLaunchRefused before after)
launch_refused told before after asked asked2 fate fate2 old new (Ok l) s = tt
launch_refused told before after asked asked2 fate fate2 old new (Err why) s = elim s [ inl none ↦ launch_missed before after why none.1 | inr m ↦ no_memory m.1 ]
