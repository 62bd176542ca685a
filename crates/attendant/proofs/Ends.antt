-- What the steps of the reaper keep.
use Rattle.std.proofs.Common.{◌≡◌, inl, inr, ℕ, Bool, true, false, ◌||◌, ◌&&◌, cond, List, [], ◌∷◌, ◌++◌, Option, Some, None, refl, sym, ap, ◌∙◌, subst}
use Rattle.std.proofs.Math.Bool.{or-false, or-true, and-true, and-false}
use Rattle.std.specs.Prelude.{IsSome, IfSome, OnErr, Result, Ok, Err, is_ok, is_none, option_map}
use Rattle.std.proofs.lemmas.Bool.{and_parts, false_from_ne_true}
use Rattle.std.proofs.lemmas.Option.{IfSome_then, same_Some, none-some}
use Rattle.drmaa_types.specs.declared.refusals.Refusal.{Refusal}
use Rattle.slab.specs.Slab.{Slab, get}
use Rattle.drmaa_types.specs.declared.changes.Failed.{Failed}
use Rattle.drmaa_types.specs.declared.identifiers.JobId.{JobId}
use Rattle.drmaa_types.specs.declared.states.Exit.{Exit}
use Rattle.drmaa_types.specs.declared.states.Exit.TheVariants as exit
use Rattle.drmaa_types.specs.declared.states.SignalKind.{SignalKind}
use Rattle.drmaa_types.specs.declared.states.SignalKind.TheVariants.{Stop, Cont, Kill}
use Rattle.child_spawner.specs.declared.fates.Asked.{Asked}
use Rattle.child_spawner.specs.declared.fates.Fate.{Fate}
use Rattle.child_spawner.specs.Children.{Told, exit_of, after_poll, after_signal}
use Rattle.attendant.specs.Acts.{TakeSignal}
use Rattle.attendant.specs.Acts.{Act}
use Rattle.drmaa_model.specs.declared.replies.Signal.{Signal}
use Rattle.drmaa_model.specs.declared.replies.Reply.{Reply}
use Rattle.drmaa_model.specs.declared.replies.Reply.TheVariants as reply
use Rattle.attendant.specs.Acts.{is_run, is_launched}
use Rattle.attendant.specs.declared.reaper.Held.{Held}
use Rattle.attendant.specs.declared.reaper.Hand.{Hand}
use Rattle.attendant.specs.declared.reaping.Polled.TheVariants.{Running}
use Rattle.attendant.specs.Runs.{owed, owed_after, is_end_report, is_kill_report, is_ended, is_killed, is_delivered, is_kill, hand_kills, IsUnanswered}
use Rattle.attendant.specs.Outside.{IsReapersEntry, IsRunning, Tends, IsChild, IsFated, FailsSignal, FailsPoll, FaultTells, ExitTells, IsFault, Tells, TellsOf, IsExit, Agrees, AgreesOf, Keeping, Agreeing, Agreed, Polling}
use Rattle.attendant.specs.Steps.{entry_of}
use Rattle.attendant.specs.Rounds.{signal_report, SignalReports, Serves, RunsOn, SeenEnd, Leaves, PollSteps, end_call, is_over, hand_without, EndReports, TakeSteps}
use Rattle.attendant.specs.Posts.{Post, acts_at}
use Rattle.call_history.specs.Clients.{number_of}
use Rattle.attendant.proofs.Entries.{each_more, or_cases, any_more, any_skip, run_same, owed_more, update_cases}

-- the places changed, each child that is there now was there, of the same run
tends_mapped : {T : Type 0} (launcher reaper : List Act) (at now : ℕ → Option (Held T)) (hand : Option Hand)
    → ((k : ℕ) (h : Held T) → now k ≡ Some h → (i : Held T) × (at k ≡ Some i) × (i.job ≡ h.job) × (i.attempt ≡ h.attempt))
    → Tends launcher reaper at hand → Tends launcher reaper now hand
tends_mapped launcher reaper at now hand from t = record {
  launches = t.launches;
  reports = t.reports;
  started = t.started;
  ended = t.ended;
  killed = t.killed;
  children = λ k h is. (let f = from k h is in
      subst (λ (j : JobId). IsRunning launcher reaper j h.attempt) f.2 (subst (λ (a : ℕ). IsRunning launcher reaper f.0.job a) f.3 (t.children k f.0 f.1)));
  apart = λ k m h i at_k at_m same_job same_attempt. (let f = from k h at_k in let e = from m i at_m in
      t.apart k m f.0 e.0 f.1 e.1 (f.2 ∙ same_job ∙ sym e.2) (f.3 ∙ same_attempt ∙ sym e.3));
  owes = t.owes;
  delivered = t.delivered;
}

-- the reaper's list has one entry more, and the order in hand changed
tends_entry : {T : Type 0} (launcher reaper : List Act) (at : ℕ → Option (Held T)) (hand hand2 : Option Hand) (e : Act)
    → IsReapersEntry reaper e
    → ((job : JobId) (attempt : ℕ) → is_end_report job attempt e.call ≡ true → is_launched job attempt launcher ≡ true)
    → ((k : ℕ) (h : Held T) → at k ≡ Some h → is_end_report h.job h.attempt e.call ≡ false)
    → ((job : JobId) (attempt : ℕ) → is_kill_report job attempt e.call ≡ true → is_launched job attempt launcher ≡ true)
    → ((h : Hand) → hand2 ≡ Some h → owed_after (owed reaper) e.call e.reply ≡ Some h.signal)
    → ((h : Hand) → hand2 ≡ Some h → IsSome h.answer → is_launched h.signal.job h.signal.attempt launcher ≡ true)
    → Tends launcher reaper at hand → Tends launcher (reaper ++ e ∷ []) at hand2
tends_entry launcher reaper at hand hand2 e here ends goes kills owes answered t = record {
  launches = t.launches;
  reports = each_more IsReapersEntry reaper e t.reports here;
  started = t.started;
  ended = λ job attempt is. or_cases (is_ended job attempt reaper) (is_end_report job attempt e.call) (is_launched job attempt launcher ≡ true) (t.ended job attempt) (ends job attempt)
      (sym (any_more (λ (x : Act). is_end_report job attempt x.call) reaper e) ∙ is);
  killed = λ job attempt is. or_cases (is_killed job attempt reaper) (is_kill_report job attempt e.call) (is_launched job attempt launcher ≡ true) (t.killed job attempt) (kills job attempt)
      (sym (any_more (λ (x : Act). is_kill_report job attempt x.call) reaper e) ∙ is);
  children = λ k h is. (let r = t.children k h is in record {
    launched = r.launched;
    goes_on = any_skip (λ (x : Act). is_end_report h.job h.attempt x.call) reaper e (goes k h is) ∙ r.goes_on;
  });
  apart = t.apart;
  owes = λ h is. owed_more None reaper e ∙ owes h is;
  delivered = answered;
}

none_has : IsSome {T = Bool} None → ⊥
none_has has = cc

-- an order that is taken
take_tends : {T : Type 0} (n : ℕ) (s : Signal) (launcher reaper : List Act) (at : ℕ → Option (Held T))
    → Tends launcher reaper at None → Tends launcher (reaper ++ entry_of n TakeSignal (reply.Signal s) ∷ []) at (Some (record { signal = s; answer = None }))
take_tends n s launcher reaper at t = tends_entry launcher reaper at None _ (entry_of n TakeSignal (reply.Signal s)) tt
    (λ job attempt is. absurd (cc)) (λ k h is. refl) (λ job attempt is. absurd (cc))
    (λ h is. ap (λ (x : Hand). Some x.signal) (same_Some _ _ is))
    (λ h is has. absurd (none_has (subst (λ (x : Hand). IsSome x.answer) (sym (same_Some _ _ is)) has)))
    t

-- an order that is delivered
deliver_tends : {T : Type 0} (told : T → Option Told) (faults : T → ℕ) (launcher reaper : List Act) (old new : Slab (Held T)) (hand hand2 : Hand)
    → Serves told faults hand hand2 old new → Tends launcher reaper (get old) (Some hand) → Tends launcher reaper (get new) (Some hand2)
deliver_tends {T = T} told faults launcher reaper old new hand hand2 (inl w) t =
    subst (λ (x : Hand). Tends launcher reaper (get new) (Some x)) (sym w.hand_is)
    (tends_mapped launcher reaper (get old) (get new) (Some hand) (λ k h is. (h, sym (w.same k) ∙ is, refl, refl)) t)
deliver_tends {T = T} told faults launcher reaper old new hand hand2 (inr d) t =
    let mapped = tends_mapped launcher reaper (get old) (get new) (Some hand) (λ k h is. (elim (update_cases old new d.key _ d.updates k h is) [
      | inl here ↦ (d.held, ap (get old) here.0 ∙ d.there, ap (λ (x : Held T). x.job) (same_Some _ _ here.1), ap (λ (x : Held T). x.attempt) (same_Some _ _ here.1))
      | inr other ↦ (h, other.1, refl, refl)
    ])) t in
    let run = run_same hand.signal.job hand.signal.attempt d.held.job d.held.attempt d.same in
    let there = (t.children d.key d.held d.there).launched in
    let launched : is_launched hand.signal.job hand.signal.attempt launcher ≡ true =
    subst (λ (j : JobId). is_launched j hand.signal.attempt launcher ≡ true) (sym run.0) (subst (λ (a : ℕ). is_launched d.held.job a launcher ≡ true) (sym run.1) there) in
    subst (λ (x : Hand). Tends launcher reaper (get new) (Some x)) (sym d.hand_is) (record {
      launches = mapped.launches;
      reports = mapped.reports;
      started = mapped.started;
      ended = mapped.ended;
      killed = mapped.killed;
      children = mapped.children;
      apart = mapped.apart;
      owes = λ h is. t.owes hand refl ∙ ap (λ (x : Hand). Some x.signal) (same_Some (record hand { answer = Some (is_ok d.answer) }) h is);
      delivered = λ h is has. subst (λ (x : Hand). is_launched x.signal.job x.signal.attempt launcher ≡ true) (same_Some (record hand { answer = Some (is_ok d.answer) }) h is) launched;
    })

signal_entry : (n : ℕ) (b : Bool) (s : Signal) (r : Reply) (front : List Act) → owed front ≡ Some s → IsReapersEntry front (entry_of n (signal_report b s) r)
signal_entry n true s r front is = is
signal_entry n false s r front is = is

no_end : (b : Bool) (s : Signal) (job : JobId) (attempt : ℕ) → is_end_report job attempt (signal_report b s) ≡ false
no_end true s job attempt = refl
no_end false s job attempt = refl

kill_is : (b : Bool) (s : Signal) (job : JobId) (attempt : ℕ) → is_kill_report job attempt (signal_report b s) ≡ (b && (is_kill s.kind && is_run s.job s.attempt job attempt))
kill_is true s job attempt = refl
kill_is false s job attempt = refl

-- what a delivery was answered is reported
report_tends : {T : Type 0} (n : ℕ) (b : Bool) (s : Signal) (r : Reply) (launcher reaper : List Act) (at : ℕ → Option (Held T))
    → Tends launcher reaper at (Some (record { signal = s; answer = Some b })) → Tends launcher (reaper ++ entry_of n (signal_report b s) r ∷ []) at None
report_tends n b s r launcher reaper at t = tends_entry launcher reaper at _ None (entry_of n (signal_report b s) r)
    (signal_entry n b s r reaper (t.owes _ refl))
    (λ job attempt is. (let no_report = no_end b s job attempt in absurd (cc)))
    (λ k h is. no_end b s h.job h.attempt)
    (λ job attempt is.
    (let both = and_parts b (is_kill s.kind && is_run s.job s.attempt job attempt) (sym (kill_is b s job attempt) ∙ is) in
    let run = run_same s.job s.attempt job attempt (and_parts (is_kill s.kind) (is_run s.job s.attempt job attempt) both.1).1 in
    subst (λ (j : JobId). is_launched j attempt launcher ≡ true) run.0 (subst (λ (a : ℕ). is_launched s.job a launcher ≡ true) run.1 (t.delivered _ refl refl))))
    (λ h is. absurd (cc)) (λ h is. absurd (cc)) t

-- a child that runs on
poll_tends : {T : Type 0} (told : T → Option Told) (faults : T → ℕ) (key : ℕ) (held : Held T) (launcher reaper : List Act) (old new : Slab (Held T)) (hand : Option Hand)
    → RunsOn told faults key held old new → Tends launcher reaper (get old) hand → Tends launcher reaper (get new) hand
poll_tends {T = T} told faults key held launcher reaper old new hand r t = tends_mapped launcher reaper (get old) (get new) hand (λ k h is. (elim (update_cases old new key _ r.updates k h is) [
  | inl here ↦ (held, ap (get old) here.0 ∙ r.there, ap (λ (x : Held T). x.job) (same_Some _ _ here.1), ap (λ (x : Held T). x.attempt) (same_Some _ _ here.1))
  | inr other ↦ (h, other.1, refl, refl)
])) t

pub without_is : (b : Bool) (job : JobId) (attempt : ℕ) (hand : Option Hand) (h : Hand) → hand_without b job attempt hand ≡ Some h → hand ≡ Some h
without_is b job attempt None h is = is
without_is b job attempt (Some g) h is =
    (elim (is_over b job attempt g) as (λ o. cond o None (Some g) ≡ Some h → Some g ≡ Some h) [
      | true ↦ λ is. absurd (cc)
      | false ↦ λ is. is
    ]) is

end_entry : (n : ℕ) (job : JobId) (attempt : ℕ) (x : Option Exit) (r : Reply) (front : List Act) → is_ended job attempt front ≡ false → IsReapersEntry front (entry_of n (end_call job attempt x) r)
end_entry n job attempt None r front is = is
end_entry n job attempt (Some x) r front is = is

pub end_is : (job : JobId) (attempt : ℕ) (x : Option Exit) (other : JobId) (m : ℕ) → is_end_report other m (end_call job attempt x) ≡ is_run job attempt other m
end_is job attempt None other m = refl
end_is job attempt (Some x) other m = refl

end_no_kill : (job : JobId) (attempt : ℕ) (x : Option Exit) (other : JobId) (m : ℕ) → is_kill_report other m (end_call job attempt x) ≡ false
end_no_kill job attempt None other m = refl
end_no_kill job attempt (Some x) other m = refl

end_owes : (job : JobId) (attempt : ℕ) (x : Option Exit) (r : Reply) (o : Option Signal) → owed_after o (end_call job attempt x) r ≡ o
end_owes job attempt None r o = refl
end_owes job attempt (Some x) r o = refl

-- a child that leaves the list
leave_tends : {T : Type 0} (told : T → Option Told) (faults : T → ℕ) (key : ℕ) (job : JobId) (attempt : ℕ) (x : Option Exit) (launcher reaper : List Act) (old new : Slab (Held T)) (hand : Option Hand)
    → Leaves told faults key job attempt x old new → Tends launcher reaper (get old) hand → Tends launcher reaper (get new) hand
leave_tends {T = T} told faults key job attempt x launcher reaper old new hand l t = tends_mapped launcher reaper (get old) (get new) hand (λ k h is. (elim (update_cases old new key _ l.updates k h is) [
  | inl here ↦ absurd (none-some _ here.1)
  | inr other ↦ (h, other.1, refl, refl)
])) t

-- its end is reported
end_tends : {T : Type 0} (told : T → Option Told) (faults : T → ℕ) (n : ℕ) (r : Reply) (key : ℕ) (job : JobId) (attempt : ℕ) (x : Option Exit) (launcher reaper : List Act) (old new : Slab (Held T)) (hand : Option Hand)
    → Leaves told faults key job attempt x old new → Tends launcher reaper (get old) hand
    → Tends launcher (reaper ++ entry_of n (end_call job attempt x) r ∷ []) (get new) (hand_without true job attempt hand)
end_tends {T = T} told faults n r key job attempt x launcher reaper old new hand l t =
    let run : IsRunning launcher reaper job attempt = subst (λ (j : JobId). IsRunning launcher reaper j attempt) l.of_job (subst (λ (a : ℕ). IsRunning launcher reaper l.held.job a) l.of_attempt (t.children key l.held l.there)) in
    tends_entry launcher reaper (get new) hand (hand_without true job attempt hand) (entry_of n (end_call job attempt x) r)
    (end_entry n job attempt x r reaper run.goes_on)
    (λ other m is. (let same = run_same job attempt other m (sym (end_is job attempt x other m) ∙ is) in
    subst (λ (j : JobId). is_launched j m launcher ≡ true) same.0 (subst (λ (a : ℕ). is_launched job a launcher ≡ true) same.1 run.launched)))
    (λ k h is. end_is job attempt x h.job h.attempt ∙ false_from_ne_true _ (λ yes_run.
    (let same = run_same job attempt h.job h.attempt yes_run in
    elim (update_cases old new key _ l.updates k h is) [
      | inl here ↦ absurd (none-some _ here.1)
      | inr other ↦ absurd (other.0 (t.apart k key h l.held other.1 l.there (sym same.0 ∙ sym l.of_job) (sym same.1 ∙ sym l.of_attempt)))
    ])))
    (λ other m is. (let not_kill = end_no_kill job attempt x other m in absurd (cc)))
    (λ h is. end_owes job attempt x r (owed reaper) ∙ t.owes h (without_is true job attempt hand h is))
    (λ h is has. t.delivered h (without_is true job attempt hand h is) has)
    (leave_tends told faults key job attempt x launcher reaper old new hand l t)

-- where the spawner tells

child_by : (starts : List Asked) (fate : ℕ → Fate) (job : JobId) (attempt : ℕ) (a b : Bool) (told : Option Told) → a ≡ b → IsChild starts fate job attempt a told → IsChild starts fate job attempt b told
child_by starts fate job attempt a b told same c = subst (λ (k : Bool). IsChild starts fate job attempt k told) same c

child_fated : (P : Fate → Type 0) (starts : List Asked) (fate : ℕ → Fate) (job : JobId) (attempt : ℕ) (killed : Bool) (told : Option Told) → IsChild starts fate job attempt killed told
    → IfSome told (λ c. P c.fate) → IsFated P starts fate job attempt
child_fated P starts fate job attempt killed told c has = record {
  before = c.before;
  start = c.start;
  fated = subst P c.fate_is (subst (λ (o : Option Told). IfSome o (λ c. P c.fate)) c.is has);
}

-- what a signal leaves of what a child tells
record IsLeft (kind : SignalKind) (answer : Result (Unit {0}) Failed) (c : Told) : Type 0 where
  start : (after_signal kind answer c).start ≡ c.start
  job : (after_signal kind answer c).job ≡ c.job
  attempt : (after_signal kind answer c).attempt ≡ c.attempt
  fate : (after_signal kind answer c).fate ≡ c.fate
  killed : (after_signal kind answer c).killed ≡ (c.killed || (is_ok answer && is_kill kind))

is_left : (kind : SignalKind) (answer : Result (Unit {0}) Failed) (c : Told) → IsLeft kind answer c
is_left Stop (Ok done) c = record { start = refl; job = refl; attempt = refl; fate = refl; killed = sym (or-false c.killed) }
is_left Cont (Ok done) c = record { start = refl; job = refl; attempt = refl; fate = refl; killed = sym (or-false c.killed) }
is_left Kill (Ok done) c = record { start = refl; job = refl; attempt = refl; fate = refl; killed = sym (or-true c.killed) }
is_left Stop (Err failed) c = record { start = refl; job = refl; attempt = refl; fate = refl; killed = sym (or-false c.killed) }
is_left Cont (Err failed) c = record { start = refl; job = refl; attempt = refl; fate = refl; killed = sym (or-false c.killed) }
is_left Kill (Err failed) c = record { start = refl; job = refl; attempt = refl; fate = refl; killed = sym (or-false c.killed) }

child_signalled : (kind : SignalKind) (answer : Result (Unit {0}) Failed) (starts : List Asked) (fate : ℕ → Fate) (job : JobId) (attempt : ℕ) (killed : Bool) (old new : Option Told)
    → new ≡ option_map (after_signal kind answer) old → IsChild starts fate job attempt killed old → IsChild starts fate job attempt (killed || (is_ok answer && is_kill kind)) new
child_signalled kind answer starts fate job attempt killed old new is c =
    let l = is_left kind answer c.child in
    record {
      child = after_signal kind answer c.child;
      is = is ∙ ap (option_map (after_signal kind answer)) c.is;
      before = c.before;
      number = l.start ∙ c.number;
      start = c.start;
      began = c.began;
      of_job = l.job ∙ c.of_job;
      of_attempt = l.attempt ∙ c.of_attempt;
      fate_is = l.fate ∙ c.fate_is;
      killed_is = l.killed ∙ ap (λ (b : Bool). b || (is_ok answer && is_kill kind)) c.killed_is;
    }

child_polled : (starts : List Asked) (fate : ℕ → Fate) (job : JobId) (attempt : ℕ) (killed : Bool) (old new : Option Told)
    → new ≡ option_map (after_poll (Ok None)) old → IsChild starts fate job attempt killed old → IsChild starts fate job attempt killed new
child_polled starts fate job attempt killed old new is c = record {
  child = after_poll (Ok None) c.child;
  is = is ∙ ap (option_map (after_poll (Ok None))) c.is;
  before = c.before;
  number = c.number;
  start = c.start;
  began = c.began;
  of_job = c.of_job;
  of_attempt = c.of_attempt;
  fate_is = c.fate_is;
  killed_is = c.killed_is;
}

same_kill : (a h o k r : Bool) → h ≡ false → r ≡ true → ((a || h) || (o && k)) ≡ (a || (o && (k && r)))
same_kill true h o k r none run = refl
same_kill false h o k r none run = ap (λ x. x || (o && k)) none ∙ ap (λ x. o && x) (sym (and-true k)) ∙ ap (λ x. o && (k && x)) (sym run)

other_kill : (a h o k r : Bool) → h ≡ false → r ≡ false → (a || h) ≡ (a || (o && (k && r)))
other_kill a h o k r none run = ap (λ x. a || x) (none ∙ sym (and-false o) ∙ ap (λ x. o && x) (sym (and-false k)) ∙ ap (λ x. o && (k && x)) (sym run))

unanswered_kills : (h : Hand) (job : JobId) (attempt : ℕ) → h.answer ≡ None → hand_kills (Some h) job attempt ≡ false
unanswered_kills h job attempt none = ap (λ (o : Option Bool). is_delivered o && (is_kill h.signal.kind && is_run h.signal.job h.signal.attempt job attempt)) none

take_tells : {T : Type 0} (told : T → Option Told) (starts : List Asked) (fate : ℕ → Fate) (n : ℕ) (s : Signal) (launcher reaper : List Act) (at : ℕ → Option (Held T))
    → Tells told starts fate launcher reaper at None → Tells told starts fate launcher (reaper ++ entry_of n TakeSignal (reply.Signal s) ∷ []) at (Some (record { signal = s; answer = None }))
take_tells told starts fate n s launcher reaper at t = record {
  asked = t.asked;
  children = λ k h is. child_by starts fate h.job h.attempt _ _ (told h.child)
      (ap (λ (b : Bool). b || false) (sym (any_skip (λ (x : Act). is_kill_report h.job h.attempt x.call) reaper (entry_of n TakeSignal (reply.Signal s)) refl))) (t.children k h is);
  failing = λ h is no_answer. absurd (none-some false (ap (λ (x : Hand). x.answer) (same_Some (record { signal = s; answer = None }) h is) ∙ no_answer));
  faults = each_more (IsFault starts fate) reaper (entry_of n TakeSignal (reply.Signal s)) t.faults tt;
}

on_err : (r : Result (Unit {0}) Failed) (P : Type 0) → is_ok r ≡ false → OnErr r P → P
on_err (Ok done) P is has = absurd (cc)
on_err (Err failed) P is has = has

deliver_tells : {T : Type 0} (told : T → Option Told) (faults : T → ℕ) (starts : List Asked) (fate : ℕ → Fate) (launcher reaper : List Act) (old new : Slab (Held T)) (hand hand2 : Hand)
    → Serves told faults hand hand2 old new → Tends launcher reaper (get old) (Some hand)
    → Tells told starts fate launcher reaper (get old) (Some hand) → Tells told starts fate launcher reaper (get new) (Some hand2)
deliver_tells {T = T} told faults starts fate launcher reaper old new hand hand2 (inl w) tends t =
    subst (λ (x : Hand). Tells told starts fate launcher reaper (get new) (Some x)) (sym w.hand_is) (record {
      asked = t.asked;
      children = λ k h is. t.children k h (sym (w.same k) ∙ is);
      failing = t.failing;
      faults = t.faults;
    })
deliver_tells {T = T} told faults starts fate launcher reaper old new hand hand2 (inr d) tends t =
    let run = run_same hand.signal.job hand.signal.attempt d.held.job d.held.attempt d.same in
    let was = t.children d.key d.held d.there in
    subst (λ (x : Hand). Tells told starts fate launcher reaper (get new) (Some x)) (sym d.hand_is) (record {
      asked = t.asked;
      children = λ k h is. (elim (update_cases old new d.key _ d.updates k h is) [
        | inl here ↦ subst (λ (x : Held T). IsChild starts fate x.job x.attempt (is_killed x.job x.attempt reaper || hand_kills (Some (record hand { answer = Some (is_ok d.answer) })) x.job x.attempt) (told x.child)) (same_Some _ _ here.1)
            (child_by starts fate d.held.job d.held.attempt _ _ (told d.child)
            (same_kill (is_killed d.held.job d.held.attempt reaper) (hand_kills (Some hand) d.held.job d.held.attempt) (is_ok d.answer) (is_kill hand.signal.kind) (is_run hand.signal.job hand.signal.attempt d.held.job d.held.attempt)
            (unanswered_kills hand d.held.job d.held.attempt d.unanswered) d.same)
            (child_signalled hand.signal.kind d.answer starts fate d.held.job d.held.attempt _ (told d.held.child) (told d.child) d.told_is was))
        | inr other ↦ child_by starts fate h.job h.attempt _ _ (told h.child)
            (other_kill (is_killed h.job h.attempt reaper) (hand_kills (Some hand) h.job h.attempt) (is_ok d.answer) (is_kill hand.signal.kind) (is_run hand.signal.job hand.signal.attempt h.job h.attempt)
            (unanswered_kills hand h.job h.attempt d.unanswered)
            (false_from_ne_true _ (λ yes_run. (let same = run_same hand.signal.job hand.signal.attempt h.job h.attempt yes_run in
            other.0 (tends.apart k d.key h d.held other.1 d.there (sym same.0 ∙ run.0) (sym same.1 ∙ run.1))))))
            (t.children k h other.1)
      ]);
      failing = λ h is no_answer. (let same = same_Some (record hand { answer = Some (is_ok d.answer) }) h is in
          let failed : is_ok d.answer ≡ false = same_Some _ _ (ap (λ (x : Hand). x.answer) same ∙ no_answer) in
          subst (λ (x : Hand). IsFated FailsSignal starts fate x.signal.job x.signal.attempt) same
          (subst (λ (j : JobId). IsFated FailsSignal starts fate j hand.signal.attempt) (sym run.0) (subst (λ (a : ℕ). IsFated FailsSignal starts fate d.held.job a) (sym run.1)
          (child_fated FailsSignal starts fate d.held.job d.held.attempt _ (told d.held.child) was (on_err d.answer _ failed d.named)))));
      faults = t.faults;
    })

report_fault : (starts : List Asked) (fate : ℕ → Fate) (b : Bool) (s : Signal) → (b ≡ false → IsFated FailsSignal starts fate s.job s.attempt) → FaultTells starts fate (signal_report b s)
report_fault starts fate true s f = tt
report_fault starts fate false s f = f refl

report_tells : {T : Type 0} (told : T → Option Told) (starts : List Asked) (fate : ℕ → Fate) (n : ℕ) (b : Bool) (s : Signal) (r : Reply) (launcher reaper : List Act) (at : ℕ → Option (Held T))
    → Tells told starts fate launcher reaper at (Some (record { signal = s; answer = Some b })) → Tells told starts fate launcher (reaper ++ entry_of n (signal_report b s) r ∷ []) at None
report_tells told starts fate n b s r launcher reaper at t = record {
  asked = t.asked;
  children = λ k h is. child_by starts fate h.job h.attempt _ _ (told h.child)
      (ap (λ (x : Bool). is_killed h.job h.attempt reaper || x) (sym (kill_is b s h.job h.attempt))
      ∙ sym (any_more (λ (x : Act). is_kill_report h.job h.attempt x.call) reaper (entry_of n (signal_report b s) r)) ∙ sym (or-false _)) (t.children k h is);
  failing = λ h is no_answer. absurd (none-some h is);
  faults = each_more (IsFault starts fate) reaper (entry_of n (signal_report b s) r) t.faults (report_fault starts fate b s (λ e. t.failing _ refl (ap Some e)));
}

poll_tells : {T : Type 0} (told : T → Option Told) (faults : T → ℕ) (starts : List Asked) (fate : ℕ → Fate) (key : ℕ) (held : Held T) (launcher reaper : List Act) (old new : Slab (Held T)) (hand : Option Hand)
    → RunsOn told faults key held old new → Tells told starts fate launcher reaper (get old) hand → Tells told starts fate launcher reaper (get new) hand
poll_tells {T = T} told faults starts fate key held launcher reaper old new hand r t = record {
  asked = t.asked;
  children = λ k h is. (elim (update_cases old new key _ r.updates k h is) [
    | inl here ↦ subst (λ (x : Held T). IsChild starts fate x.job x.attempt (is_killed x.job x.attempt reaper || hand_kills hand x.job x.attempt) (told x.child)) (same_Some _ _ here.1)
        (child_polled starts fate held.job held.attempt _ (told held.child) (told r.child) r.told_is (t.children key held r.there))
    | inr other ↦ t.children k h other.1
  ]);
  failing = t.failing;
  faults = t.faults;
}

without_kills : (b : Bool) (job : JobId) (attempt : ℕ) (hand : Option Hand) (other : JobId) (m : ℕ) → is_run job attempt other m ≡ false → hand_kills hand other m ≡ hand_kills (hand_without b job attempt hand) other m
without_kills b job attempt None other m apart = refl
without_kills b job attempt (Some g) other m apart =
    (elim (is_over b job attempt g) as (λ o. is_over b job attempt g ≡ o → hand_kills (Some g) other m ≡ hand_kills (cond o None (Some g)) other m) [
      | true ↦ λ is. (let same = run_same g.signal.job g.signal.attempt job attempt (and_parts (is_run g.signal.job g.signal.attempt job attempt) (b || is_none g.answer) is).0 in
          let not_it : is_run g.signal.job g.signal.attempt other m ≡ false =
          subst (λ (j : JobId). is_run j g.signal.attempt other m ≡ false) (sym same.0) (subst (λ (a : ℕ). is_run job a other m ≡ false) (sym same.1) apart) in
          ap (λ (x : Bool). is_delivered g.answer && (is_kill g.signal.kind && x)) not_it ∙ ap (λ (x : Bool). is_delivered g.answer && x) (and-false (is_kill g.signal.kind)) ∙ and-false (is_delivered g.answer))
      | false ↦ λ is. refl
    ]) refl

end_fault : {T : Type 0} (told : T → Option Told) (faults : T → ℕ) (starts : List Asked) (fate : ℕ → Fate) (child : T) (job : JobId) (attempt : ℕ) (killed : Bool) (x : Option Exit)
    → SeenEnd told faults child x → IsChild starts fate job attempt killed (told child) → FaultTells starts fate (end_call job attempt x)
end_fault told faults starts fate child job attempt killed None seen c = child_fated FailsPoll starts fate job attempt killed (told child) c seen.named
end_fault told faults starts fate child job attempt killed (Some x) seen c = tt

-- what a child tells that is still there, once the order in hand may have been dropped
others_told : {T : Type 0} (told : T → Option Told) (faults : T → ℕ) (starts : List Asked) (fate : ℕ → Fate) (b : Bool) (key : ℕ) (job : JobId) (attempt : ℕ) (x : Option Exit) (launcher reaper : List Act) (old new : Slab (Held T)) (hand : Option Hand)
    → Leaves told faults key job attempt x old new → Tends launcher reaper (get old) hand → Tells told starts fate launcher reaper (get old) hand
    → (k : ℕ) (h : Held T) → get new k ≡ Some h → IsChild starts fate h.job h.attempt (is_killed h.job h.attempt reaper || hand_kills (hand_without b job attempt hand) h.job h.attempt) (told h.child)
others_told {T = T} told faults starts fate b key job attempt x launcher reaper old new hand l tends t k h is = elim (update_cases old new key _ l.updates k h is) [
  | inl here ↦ absurd (none-some _ here.1)
  | inr other ↦ child_by starts fate h.job h.attempt _ _ (told h.child)
      (ap (λ (o : Bool). is_killed h.job h.attempt reaper || o) (without_kills b job attempt hand h.job h.attempt
      (false_from_ne_true _ (λ yes_run. (let same = run_same job attempt h.job h.attempt yes_run in
      other.0 (tends.apart k key h l.held other.1 l.there (sym same.0 ∙ sym l.of_job) (sym same.1 ∙ sym l.of_attempt)))))))
      (t.children k h other.1)
]

end_tells : {T : Type 0} (told : T → Option Told) (faults : T → ℕ) (starts : List Asked) (fate : ℕ → Fate) (n : ℕ) (r : Reply) (key : ℕ) (job : JobId) (attempt : ℕ) (x : Option Exit) (launcher reaper : List Act) (old new : Slab (Held T)) (hand : Option Hand)
    → Leaves told faults key job attempt x old new → Tends launcher reaper (get old) hand
    → Tells told starts fate launcher reaper (get old) hand
    → Tells told starts fate launcher (reaper ++ entry_of n (end_call job attempt x) r ∷ []) (get new) (hand_without true job attempt hand)
end_tells {T = T} told faults starts fate n r key job attempt x launcher reaper old new hand l tends t = record {
  asked = t.asked;
  children = λ k h is. child_by starts fate h.job h.attempt _ _ (told h.child)
      (ap (λ (b : Bool). b || hand_kills (hand_without true job attempt hand) h.job h.attempt)
      (sym (any_skip (λ (e : Act). is_kill_report h.job h.attempt e.call) reaper (entry_of n (end_call job attempt x) r) (end_no_kill job attempt x h.job h.attempt))))
      (others_told told faults starts fate true key job attempt x launcher reaper old new hand l tends t k h is);
  failing = λ h is no_answer. t.failing h (without_is true job attempt hand h is) no_answer;
  faults = each_more (IsFault starts fate) reaper (entry_of n (end_call job attempt x) r) t.faults
      (end_fault told faults starts fate l.held.child job attempt _ x l.seen
      (subst (λ (j : JobId). IsChild starts fate j attempt (is_killed l.held.job l.held.attempt reaper || hand_kills hand l.held.job l.held.attempt) (told l.held.child)) l.of_job
      (subst (λ (a : ℕ). IsChild starts fate l.held.job a (is_killed l.held.job l.held.attempt reaper || hand_kills hand l.held.job l.held.attempt) (told l.held.child)) l.of_attempt (t.children key l.held l.there))));
}

-- a child that leaves with no report: an order of it that was not delivered is dropped
lost_tends : {T : Type 0} (b : Bool) (job : JobId) (attempt : ℕ) (launcher reaper : List Act) (at : ℕ → Option (Held T)) (hand : Option Hand) → Tends launcher reaper at hand → Tends launcher reaper at (hand_without b job attempt hand)
lost_tends b job attempt launcher reaper at hand t = record {
  launches = t.launches;
  reports = t.reports;
  started = t.started;
  ended = t.ended;
  killed = t.killed;
  children = t.children;
  apart = t.apart;
  owes = λ h is. t.owes h (without_is b job attempt hand h is);
  delivered = λ h is has. t.delivered h (without_is b job attempt hand h is) has;
}

lost_tells : {T : Type 0} (told : T → Option Told) (faults : T → ℕ) (starts : List Asked) (fate : ℕ → Fate) (key : ℕ) (job : JobId) (attempt : ℕ) (x : Option Exit) (launcher reaper : List Act) (old new : Slab (Held T)) (hand : Option Hand)
    → Leaves told faults key job attempt x old new → Tends launcher reaper (get old) hand → Tells told starts fate launcher reaper (get old) hand
    → Tells told starts fate launcher reaper (get new) (hand_without false job attempt hand)
lost_tells told faults starts fate key job attempt x launcher reaper old new hand l tends t = record {
  asked = t.asked;
  children = others_told told faults starts fate false key job attempt x launcher reaper old new hand l tends t;
  failing = λ h is no_answer. t.failing h (without_is false job attempt hand h is) no_answer;
  faults = t.faults;
}

-- as long as no round was refused

unanswered_none : (hand : Option Hand) (job : JobId) (attempt : ℕ) → IsUnanswered hand → hand_kills hand job attempt ≡ false
unanswered_none None job attempt u = refl
unanswered_none (Some h) job attempt u = unanswered_kills h job attempt u

end_exit : {T : Type 0} (told : T → Option Told) (faults : T → ℕ) (starts : List Asked) (fate : ℕ → Fate) (child : T) (job : JobId) (attempt : ℕ) (reaper : List Act) (killed : Bool) (x : Option Exit)
    → killed ≡ is_killed job attempt reaper → SeenEnd told faults child x → IsChild starts fate job attempt killed (told child) → ExitTells starts fate reaper (end_call job attempt x)
end_exit told faults starts fate child job attempt reaper killed None same seen c = tt
end_exit told faults starts fate child job attempt reaper killed (Some x) same seen c = record {
  before = c.before;
  start = c.start;
  fated = (let e : x ≡ exit_of c.child = subst (λ (o : Option Told). IfSome o (λ c. x ≡ exit_of c)) c.is seen in
      e ∙ ap (λ (b : Bool). cond b (exit.Signal 9) c.child.fate.exit) (c.killed_is ∙ same) ∙ ap (λ (f : Fate). cond (is_killed job attempt reaper) (exit.Signal 9) f.exit) c.fate_is);
}

end_agrees : {T : Type 0} (told : T → Option Told) (faults : T → ℕ) (starts : List Asked) (fate : ℕ → Fate) (n : ℕ) (r : Reply) (key : ℕ) (job : JobId) (attempt : ℕ) (x : Option Exit) (launcher reaper : List Act) (old new : Slab (Held T)) (hand : Option Hand)
    → Leaves told faults key job attempt x old new → IsUnanswered hand
    → Tells told starts fate launcher reaper (get old) hand → Agrees starts fate launcher reaper → Agrees starts fate launcher (reaper ++ entry_of n (end_call job attempt x) r ∷ [])
end_agrees {T = T} told faults starts fate n r key job attempt x launcher reaper old new hand l u t a = record {
  starts_reported = a.starts_reported;
  exits = each_more (IsExit starts fate) reaper (entry_of n (end_call job attempt x) r) a.exits
      (end_exit told faults starts fate l.held.child job attempt reaper _ x
      (ap (λ (b : Bool). is_killed job attempt reaper || b) (unanswered_none hand job attempt u) ∙ or-false _) l.seen
      (subst (λ (j : JobId). IsChild starts fate j attempt (is_killed j attempt reaper || hand_kills hand j attempt) (told l.held.child)) l.of_job
      (subst (λ (a : ℕ). IsChild starts fate l.held.job a (is_killed l.held.job a reaper || hand_kills hand l.held.job a) (told l.held.child)) l.of_attempt (t.children key l.held l.there))));
}

signal_exit : (starts : List Asked) (fate : ℕ → Fate) (b : Bool) (s : Signal) (front : List Act) → ExitTells starts fate front (signal_report b s)
signal_exit starts fate true s front = tt
signal_exit starts fate false s front = tt

-- steps

pub keeping_none : {T : Type 0} (told : T → Option Told) (reaper : List Act) (at : ℕ → Option (Held T)) (hand : Option Hand) → Keeping told reaper reaper at at hand hand
keeping_none told reaper at hand = record { keeps = λ launcher asked fate k. k }

pub keeping_on : {T : Type 0} (told : T → Option Told) (r0 r1 r2 : List Act) (a0 a1 a2 : ℕ → Option (Held T)) (h0 h1 h2 : Option Hand)
    → Keeping told r0 r1 a0 a1 h0 h1 → Keeping told r1 r2 a1 a2 h1 h2 → Keeping told r0 r2 a0 a2 h0 h2
keeping_on told r0 r1 r2 a0 a1 a2 h0 h1 h2 a b = record { keeps = λ launcher asked fate k. b.keeps launcher asked fate (a.keeps launcher asked fate k) }

pub agreeing_none : (reaper : List Act) → Agreeing reaper reaper
agreeing_none reaper = record { agrees = λ launcher asked fate a. a }

pub agreeing_on : (r0 r1 r2 : List Act) → Agreeing r0 r1 → Agreeing r1 r2 → Agreeing r0 r2
agreeing_on r0 r1 r2 a b = record { agrees = λ launcher asked fate k. b.agrees launcher asked fate (a.agrees launcher asked fate k) }

agreeing_entry : (reaper : List Act) (e : Act) → ((starts : List Asked) (fate : ℕ → Fate) → ExitTells starts fate reaper e.call) → Agreeing reaper (reaper ++ e ∷ [])
agreeing_entry reaper e tells = record {
  agrees = λ launcher asked fate a. IfSome_then asked a (λ starts g.
      record { starts_reported = g.starts_reported; exits = each_more (IsExit starts fate) reaper e g.exits (tells starts fate) });
}

take_keeping : {T : Type 0} (told : T → Option Told) (n : ℕ) (s : Signal) (reaper : List Act) (at : ℕ → Option (Held T))
    → Keeping told reaper (reaper ++ entry_of n TakeSignal (reply.Signal s) ∷ []) at at None (Some (record { signal = s; answer = None }))
take_keeping told n s reaper at = record {
  keeps = λ launcher asked fate k. record {
    tends = take_tends n s launcher reaper at k.tends;
    tells = IfSome_then asked k.tells (λ starts t. take_tells told starts fate n s launcher reaper at t);
  };
}

pub take_order_keeping : {T : Type 0} (told : T → Option Told) (old new : Post) (at : ℕ → Option (Held T)) (hand hand2 : Option Hand) (r : Result (Unit {0}) Refusal)
    → TakeSteps old new hand hand2 r → Keeping told (acts_at old) (acts_at new) at at hand hand2
take_order_keeping told old new at (Some h) hand2 r s =
    subst (λ (o : Option Hand). Keeping told (acts_at old) (acts_at new) at at (Some h) o) (sym s.1) (subst (λ (m : List Act). Keeping told (acts_at old) m at at (Some h) (Some h)) (sym s.0) (keeping_none told (acts_at old) at (Some h)))
take_order_keeping told old new at None hand2 r (inl s) =
    subst (λ (o : Option Hand). Keeping told (acts_at old) (acts_at new) at at None o) (sym s.1) (subst (λ (m : List Act). Keeping told (acts_at old) m at at None None) (sym s.0) (keeping_none told (acts_at old) at None))
take_order_keeping told old new at None hand2 r (inr t) =
    subst (λ (o : Option Hand). Keeping told (acts_at old) (acts_at new) at at None o) (sym t.0.hand_is)
    (subst (λ (m : List Act). Keeping told (acts_at old) m at at None (Some (record { signal = t.0.signal; answer = None }))) (sym t.0.mine_is) (take_keeping told (number_of old.client) t.0.signal (acts_at old) at))

pub take_order_agreeing : (old new : Post) (hand hand2 : Option Hand) (r : Result (Unit {0}) Refusal) → TakeSteps old new hand hand2 r → Agreeing (acts_at old) (acts_at new)
take_order_agreeing old new (Some h) hand2 r s = subst (Agreeing (acts_at old)) (sym s.0) (agreeing_none (acts_at old))
take_order_agreeing old new None hand2 r (inl s) = subst (Agreeing (acts_at old)) (sym s.0) (agreeing_none (acts_at old))
take_order_agreeing old new None hand2 r (inr t) = subst (Agreeing (acts_at old)) (sym t.0.mine_is)
    (agreeing_entry (acts_at old) (entry_of (number_of old.client) TakeSignal (reply.Signal t.0.signal)) (λ starts fate. tt))

pub deliver_keeping : {T : Type 0} (told : T → Option Told) (faults : T → ℕ) (reaper : List Act) (old new : Slab (Held T)) (hand hand2 : Hand)
    → Serves told faults hand hand2 old new → Keeping told reaper reaper (get old) (get new) (Some hand) (Some hand2)
deliver_keeping told faults reaper old new hand hand2 s = record {
  keeps = λ launcher asked fate k. record {
    tends = deliver_tends told faults launcher reaper old new hand hand2 s k.tends;
    tells = IfSome_then asked k.tells (λ starts t. deliver_tells told faults starts fate launcher reaper old new hand hand2 s k.tends t);
  };
}

report_keeping_at : {T : Type 0} (told : T → Option Told) (n : ℕ) (b : Bool) (s : Signal) (r : Reply) (reaper : List Act) (at : ℕ → Option (Held T))
    → Keeping told reaper (reaper ++ entry_of n (signal_report b s) r ∷ []) at at (Some (record { signal = s; answer = Some b })) None
report_keeping_at told n b s r reaper at = record {
  keeps = λ launcher asked fate k. record {
    tends = report_tends n b s r launcher reaper at k.tends;
    tells = IfSome_then asked k.tells (λ starts t. report_tells told starts fate n b s r launcher reaper at t);
  };
}

pub report_keeping : {T : Type 0} (told : T → Option Told) (n : ℕ) (b : Bool) (h : Hand) (mine mine2 : List Act) (at : ℕ → Option (Held T))
    → h.answer ≡ Some b → SignalReports n b h.signal true mine mine2 → Keeping told mine mine2 at at (Some h) None
report_keeping told n b h mine mine2 at is made =
    subst (λ (m : List Act). Keeping told mine m at at (Some h) None) (sym made.1)
    (subst (λ (o : Option Bool). Keeping told mine (mine ++ entry_of n (signal_report b h.signal) made.0 ∷ []) at at (Some (record { signal = h.signal; answer = o })) None) (sym is)
    (report_keeping_at told n b h.signal made.0 mine at))

pub report_agreeing : (n : ℕ) (b : Bool) (s : Signal) (mine mine2 : List Act) → SignalReports n b s true mine mine2 → Agreeing mine mine2
report_agreeing n b s mine mine2 made = subst (Agreeing mine) (sym made.1) (agreeing_entry mine (entry_of n (signal_report b s) made.0) (λ starts fate. signal_exit starts fate b s mine))

pub polling_none : {T : Type 0} (told : T → Option Told) (reaper : List Act) (at : ℕ → Option (Held T)) (hand : Option Hand) → Polling told reaper reaper at at hand hand
polling_none told reaper at hand = record { keeping = keeping_none told reaper at hand; unanswered = λ u. u; agrees = λ launcher asked fate u k a. a }

pub polling_on : {T : Type 0} (told : T → Option Told) (r0 r1 r2 : List Act) (a0 a1 a2 : ℕ → Option (Held T)) (h0 h1 h2 : Option Hand)
    → Polling told r0 r1 a0 a1 h0 h1 → Polling told r1 r2 a1 a2 h1 h2 → Polling told r0 r2 a0 a2 h0 h2
polling_on told r0 r1 r2 a0 a1 a2 h0 h1 h2 a b = record {
  keeping = keeping_on told r0 r1 r2 a0 a1 a2 h0 h1 h2 a.keeping b.keeping;
  unanswered = λ u. b.unanswered (a.unanswered u);
  agrees = λ launcher asked fate u k g. b.agrees launcher asked fate (a.unanswered u) (a.keeping.keeps launcher asked fate k) (a.agrees launcher asked fate u k g);
}

without_unanswered : (b : Bool) (job : JobId) (attempt : ℕ) (hand : Option Hand) → IsUnanswered hand → IsUnanswered (hand_without b job attempt hand)
without_unanswered b job attempt None u = tt
without_unanswered b job attempt (Some h) u =
    elim (is_over b job attempt h) as (λ o. IsUnanswered (cond o None (Some h))) [ true ↦ tt | false ↦ u ]

end_agrees_of : {T : Type 0} (told : T → Option Told) (faults : T → ℕ) (n : ℕ) (r : Reply) (key : ℕ) (job : JobId) (attempt : ℕ) (x : Option Exit) (launcher reaper : List Act) (old new : Slab (Held T)) (hand : Option Hand)
    (asked : Option (List Asked)) (fate : ℕ → Fate)
    → Leaves told faults key job attempt x old new → IsUnanswered hand
    → TellsOf told asked fate launcher reaper (get old) hand → AgreesOf asked fate launcher reaper → AgreesOf asked fate launcher (reaper ++ entry_of n (end_call job attempt x) r ∷ [])
end_agrees_of told faults n r key job attempt x launcher reaper old new hand None fate l u t a = tt
end_agrees_of told faults n r key job attempt x launcher reaper old new hand (Some starts) fate l u t a = end_agrees told faults starts fate n r key job attempt x launcher reaper old new hand l u t a

polling_end : {T : Type 0} (told : T → Option Told) (faults : T → ℕ) (n : ℕ) (r : Reply) (key : ℕ) (job : JobId) (attempt : ℕ) (x : Option Exit) (reaper : List Act) (old new : Slab (Held T)) (hand : Option Hand)
    → Leaves told faults key job attempt x old new → Polling told reaper (reaper ++ entry_of n (end_call job attempt x) r ∷ []) (get old) (get new) hand (hand_without true job attempt hand)
polling_end told faults n r key job attempt x reaper old new hand l = record {
  keeping = record {
    keeps = λ launcher asked fate k. record {
      tends = end_tends told faults n r key job attempt x launcher reaper old new hand l k.tends;
      tells = IfSome_then asked k.tells (λ starts t. end_tells told faults starts fate n r key job attempt x launcher reaper old new hand l k.tends t);
    };
  };
  unanswered = without_unanswered true job attempt hand;
  agrees = λ launcher asked fate u k a. end_agrees_of told faults n r key job attempt x launcher reaper old new hand asked fate l u k.tells a;
}

pub polling_ended : {T : Type 0} (told : T → Option Told) (faults : T → ℕ) (n : ℕ) (key : ℕ) (job : JobId) (attempt : ℕ) (x : Option Exit) (made : Bool) (mine mine2 : List Act) (old new : Slab (Held T)) (hand hand2 : Option Hand)
    → Leaves told faults key job attempt x old new → EndReports n job attempt x made mine mine2 hand hand2 → Polling told mine mine2 (get old) (get new) hand hand2
polling_ended told faults n key job attempt x true mine mine2 old new hand hand2 l e =
    subst (λ (o : Option Hand). Polling told mine mine2 (get old) (get new) hand o) (sym e.1)
    (subst (λ (m : List Act). Polling told mine m (get old) (get new) hand (hand_without true job attempt hand)) (sym e.0.1) (polling_end told faults n e.0.0 key job attempt x mine old new hand l))
polling_ended told faults n key job attempt x false mine mine2 old new hand hand2 l e =
    subst (λ (o : Option Hand). Polling told mine mine2 (get old) (get new) hand o) (sym e.1)
    (subst (λ (m : List Act). Polling told mine m (get old) (get new) hand (hand_without false job attempt hand)) (sym e.0) (record {
      keeping = record {
        keeps = λ launcher asked fate k. record {
          tends = lost_tends false job attempt launcher mine (get new) hand (leave_tends told faults key job attempt x launcher mine old new hand l k.tends);
          tells = IfSome_then asked k.tells (λ starts t. lost_tells told faults starts fate key job attempt x launcher mine old new hand l k.tends t);
        };
      };
      unanswered = without_unanswered false job attempt hand;
      agrees = λ launcher asked fate u k a. a;
    }))

pub polling_running : {T : Type 0} (told : T → Option Told) (faults : T → ℕ) (key : ℕ) (reaper : List Act) (old new : Slab (Held T)) (hand : Option Hand)
    → PollSteps told faults key old new Running → Polling told reaper reaper (get old) (get new) hand hand
polling_running told faults key reaper old new hand (inl n) = record {
  keeping = record {
    keeps = λ launcher asked fate k. record {
      tends = tends_mapped launcher reaper (get old) (get new) hand (λ j h is. (h, sym (n.same j) ∙ is, refl, refl)) k.tends;
      tells = IfSome_then asked k.tells (λ starts t. record { asked = t.asked; children = λ j h is. t.children j h (sym (n.same j) ∙ is); failing = t.failing; faults = t.faults });
    };
  };
  unanswered = λ u. u;
  agrees = λ launcher asked fate u k a. a;
}
polling_running told faults key reaper old new hand (inr r) = record {
  keeping = record {
    keeps = λ launcher asked fate k. record {
      tends = poll_tends told faults key r.0 launcher reaper old new hand r.1 k.tends;
      tells = IfSome_then asked k.tells (λ starts t. poll_tells told faults starts fate key r.0 launcher reaper old new hand r.1 t);
    };
  };
  unanswered = λ u. u;
  agrees = λ launcher asked fate u k a. a;
}

pub round_agreed : {T : Type 0} (told : T → Option Told) (r0 r1 r2 : List Act) (a0 a1 a2 : ℕ → Option (Held T)) (h0 h1 h2 : Option Hand)
    → Keeping told r0 r1 a0 a1 h0 h1 → Agreeing r0 r1 → IsUnanswered h1 → Polling told r1 r2 a1 a2 h1 h2 → Agreed told r0 r2 a0 h0
round_agreed told r0 r1 r2 a0 a1 a2 h0 h1 h2 k g u p = record {
  agrees = λ launcher asked fate keeps a. p.agrees launcher asked fate u (k.keeps launcher asked fate keeps) (g.agrees launcher asked fate a);
}
