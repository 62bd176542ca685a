-- The steps of a round of the reaper.
use Rattle.std.specs.List.{AllByRecursion}
use Rattle.std.specs.Prelude.{◌≡◌, ◌⊎◌, ℕ, ◌+◌, ◌≤◌, ◌<◌, length, ◌-◌, ◌^◌, min, IfOk, IfErr, IsOk, Bool, true, false, ◌&&◌, ◌||◌, is_none, List, [], ◌∷◌, ◌++◌, Option, Some, None, IfSome, IsSome, Result, Ok, Err, is_ok, OnOk, OnErr, option_map, if◌then◌else◌}
use Rattle.drmaa_types.specs.declared.changes.Failed.{Failed}
use Rattle.drmaa_types.specs.declared.identifiers.JobId.{JobId}
use Rattle.drmaa_types.specs.declared.states.Exit.{Exit}
use Rattle.drmaa_types.specs.declared.refusals.Refusal.{Refusal}
use Rattle.drmaa_types.specs.declared.refusals.Refusal.TheVariants.{OutOfResource, OutOfMemory}
use Rattle.drmaa_types.specs.declared.refusals.Limit.TheVariants as limit
use Rattle.drmaa_model.specs.declared.faults.NoEntry.{NoEntry}
use Rattle.drmaa_model.specs.declared.faults.NoEntry.TheVariants as no
use Rattle.call_history.specs.Clients.{number_of}
use Rattle.child_spawner.specs.Children.{Told, exit_of, after_poll, after_signal}
use Rattle.drmaa_types.specs.Counts.{Rose}
use Rattle.slab.specs.Slab.{Slab, get, SameValues, Updates}
use Rattle.drmaa_model.specs.declared.calls.Call.{Call}
use Rattle.drmaa_model.specs.declared.calls.Call.TheVariants as call
use Rattle.attendant.specs.Acts.{Duty}
use Rattle.attendant.specs.Acts.{TakeSignal, SignalDone, SignalFailed, Exited, ExitUnknown}
use Rattle.drmaa_model.specs.declared.replies.Reply.{Reply}
use Rattle.drmaa_model.specs.declared.replies.Reply.TheVariants as reply
use Rattle.attendant.specs.Acts.{Act}
use Rattle.drmaa_model.specs.declared.replies.Signal.{Signal}
use Rattle.attendant.specs.Acts.{is_run}
use Rattle.attendant.specs.Posts.{Post, acts_at, IsStillAt, Succeeds, Fails, FailsWithin}
use Rattle.attendant.specs.declared.reaper.Held.{Held}
use Rattle.attendant.specs.declared.reaper.Hand.{Hand}
use Rattle.attendant.specs.declared.reaping.Polled.{Polled}
use Rattle.attendant.specs.declared.reaping.Polled.TheVariants.{Running, Ended}
use Rattle.attendant.specs.Runs.{is_ended}
use Rattle.attendant.specs.Steps.{entry_of, MayFail}

-- the report of what a delivery was answered
abbrev pub signal_report : Bool → Signal → Duty
signal_report true s = SignalDone s.job s.attempt s.kind
signal_report false s = SignalFailed s.job s.attempt s.kind

-- the call that it is
abbrev pub asked_signal : Bool → Signal → Call
asked_signal true s = call.SignalDone s.job s.attempt s.kind
asked_signal false s = call.SignalFailed s.job s.attempt s.kind

-- the report of a delivery made an entry, or none
abbrev pub SignalReports : ℕ → Bool → Signal → Bool → List Act → List Act → Type 0
SignalReports number answer s true mine mine_after = (r : Reply) × (mine_after ≡ mine ++ entry_of number (signal_report answer s) r ∷ [])
SignalReports number answer s false mine mine_after = mine_after ≡ mine

-- the child of the order, which was not delivered, was sent the signal
pub record Delivers {T : Type 0} (told : T → Option Told) (faults : T → ℕ) (hand hand_after : Hand) (old new : Slab (Held T)) : Type 0 where
  pub unanswered : hand.answer ≡ None
  pub key : ℕ
  pub held : Held T
  pub there : get old key ≡ Some held
  pub same : is_run hand.signal.job hand.signal.attempt held.job held.attempt ≡ true
  pub answer : Result (Unit {0}) Failed
  pub child : T
  pub told_is : told child ≡ option_map (after_signal hand.signal.kind answer) (told held.child)
  pub named : OnErr answer (IfSome (told held.child) (λ c. IsSome c.fate.failing_signal))
  pub cause : OnErr answer (Rose (faults held.child) (faults child))
  pub hand_is : hand_after ≡ record hand { answer = Some (is_ok answer) }
  pub updates : Updates old new key (Some (record held { child = child }))
  pub counted : OnOk answer (faults child ≡ faults held.child)

-- there is no child at this place
pub record IsEmpty {T : Type 0} (key : ℕ) (old new : Slab (Held T)) : Type 0 where
  pub none : get old key ≡ None
  pub same : SameValues old new

-- a child runs on: one poll was answered so, and none failed
pub record RunsOn {T : Type 0} (told : T → Option Told) (faults : T → ℕ) (key : ℕ) (held : Held T) (old new : Slab (Held T)) : Type 0 where
  pub there : get old key ≡ Some held
  pub child : T
  pub told_is : told child ≡ option_map (after_poll (Ok None)) (told held.child)
  pub updates : Updates old new key (Some (record held { child = child }))
  pub counted : faults child ≡ faults held.child

-- the answer of a poll that failed
abbrev pub failed_poll : Result (Option Exit) Failed
failed_poll = Err (record {})

-- A poll of a child failed: its count rose, and, where it tells, it tells after the poll what it told before, and its fate names
-- a failing poll.
pub record FailsToTell {T : Type 0} (told : T → Option Told) (faults : T → ℕ) (child : T) : Type 0 where
  pub named : IfSome (told child) (λ c. IsSome c.fate.failing_poll)
  pub after : T
  pub rose : Rose (faults child) (faults after)
  pub told_is : told after ≡ option_map (after_poll failed_poll) (told child)

abbrev pub SeenEnd : {T : Type 0} → (T → Option Told) → (T → ℕ) → T → Option Exit → Type 0
SeenEnd told faults child (Some x) = IfSome (told child) (λ c. x ≡ exit_of c)
SeenEnd told faults child None = FailsToTell told faults child

-- a child that has ended, or whose end can't be learnt, leaves the list
pub record Leaves {T : Type 0} (told : T → Option Told) (faults : T → ℕ) (key : ℕ) (job : JobId) (attempt : ℕ) (exit : Option Exit) (old new : Slab (Held T)) : Type 0 where
  pub held : Held T
  pub there : get old key ≡ Some held
  pub of_job : held.job ≡ job
  pub of_attempt : held.attempt ≡ attempt
  pub seen : SeenEnd told faults held.child exit
  pub updates : Updates old new key None

abbrev pub PollSteps : {T : Type 0} → (T → Option Told) → (T → ℕ) → ℕ → Slab (Held T) → Slab (Held T) → Polled → Type 0
PollSteps {T} told faults key old new Running = IsEmpty key old new ⊎ ((held : Held T) × RunsOn told faults key held old new)
PollSteps told faults key old new (Ended job attempt exit) = Leaves told faults key job attempt exit old new

-- the report of an end
abbrev pub end_call : JobId → ℕ → Option Exit → Duty
end_call job attempt (Some exit) = Exited job attempt exit
end_call job attempt None = ExitUnknown job attempt

-- the call that it is
abbrev pub asked_end : JobId → ℕ → Option Exit → Call
asked_end job attempt (Some exit) = call.Exited job attempt exit
asked_end job attempt None = call.ExitUnknown job attempt

-- an order that is over once its run has ended: if the end is reported, or if the order was not delivered
abbrev pub is_over : Bool → JobId → ℕ → Hand → Bool
is_over reported job attempt h = is_run h.signal.job h.signal.attempt job attempt && (reported || is_none h.answer)

-- the order in hand, unless it is over
abbrev pub hand_without : Bool → JobId → ℕ → Option Hand → Option Hand
hand_without reported job attempt None = None
hand_without reported job attempt (Some h) = if is_over reported job attempt h then None else Some h

-- the report of an end made an entry, or none
abbrev pub EndReports : ℕ → JobId → ℕ → Option Exit → Bool → List Act → List Act → Option Hand → Option Hand → Type 0
EndReports number job attempt exit true mine mine_after hand hand_after =
    ((r : Reply) × (mine_after ≡ mine ++ entry_of number (end_call job attempt exit) r ∷ [])) × (hand_after ≡ hand_without true job attempt hand)
EndReports number job attempt exit false mine mine_after hand hand_after = (mine_after ≡ mine) × (hand_after ≡ hand_without false job attempt hand)

-- An order that was delivered before is not delivered again, and one whose child is not in the list is kept.
pub record Waits {T : Type 0} (hand hand_after : Hand) (old new : Slab (Held T)) : Type 0 where
  pub hand_is : hand_after ≡ hand
  pub same : SameValues old new
  pub why : IsSome hand.answer ⊎ ((key : ℕ) (held : Held T) → get old key ≡ Some held → is_run hand.signal.job hand.signal.attempt held.job held.attempt ≡ false)

abbrev pub Serves : {T : Type 0} → (T → Option Told) → (T → ℕ) → Hand → Hand → Slab (Held T) → Slab (Held T) → Type 0
Serves told faults hand hand_after old new = Waits hand hand_after old new ⊎ Delivers told faults hand hand_after old new

-- a call made no entry, and this refusal stands for the cause
pub record IsRefusedBy (old : Post) (asked : Call) (new : Post) (why : Refusal) : Type 0 where
  pub fault : NoEntry
  pub fails : Fails old asked fault new
  pub stands : MayFail fault why

-- an order was taken, by one call
pub record Took (old new : Post) (hand_after : Option Hand) : Type 0 where
  pub signal : Signal
  pub mine_is : acts_at new ≡ acts_at old ++ entry_of (number_of old.client) TakeSignal (reply.Signal signal) ∷ []
  pub hand_is : hand_after ≡ Some (record { signal = signal; answer = None })
  pub takes : Succeeds old call.TakeSignal (reply.Signal signal) new

-- no order was taken: the machine has none to hand out, or it made no entry, and that is answered
abbrev pub FindsNone : Post → Post → Result (Unit {0}) Refusal → Type 0
FindsNone old new (Ok done) = Fails old call.TakeSignal no.Nothing new
FindsNone old new (Err why) = IsRefusedBy old call.TakeSignal new why

-- what taking an order did: one was kept from before, and nothing was asked; or none was taken; or one was
abbrev pub TakeSteps : Post → Post → Option Hand → Option Hand → Result (Unit {0}) Refusal → Type 0
TakeSteps old new (Some hand) hand_after result = (acts_at new ≡ acts_at old) × (hand_after ≡ Some hand) × IsOk result × (new ≡ old)
TakeSteps old new None hand_after result =
    ((acts_at new ≡ acts_at old) × (hand_after ≡ None) × FindsNone old new result)
    ⊎ (Took old new hand_after × IsOk result)

-- a child that was polled and runs on
pub record RanOn {T : Type 0} (told : T → Option Told) (faults : T → ℕ) (before after : Held T) : Type 0 where
  pub of_job : after.job ≡ before.job
  pub of_attempt : after.attempt ≡ before.attempt
  pub told_is : told after.child ≡ option_map (after_poll (Ok None)) (told before.child)
  pub counted : faults after.child ≡ faults before.child

-- a place before and after a poll: the child there was polled once, and left where its end was seen
abbrev pub IsPolled : {T : Type 0} → (T → Option Told) → (T → ℕ) → Option (Held T) → Option (Held T) → Type 0
IsPolled told faults None None = Unit {0}
IsPolled told faults None (Some after) = ⊥
IsPolled told faults (Some before) None = (exit : Option Exit) × SeenEnd told faults before.child exit
IsPolled told faults (Some before) (Some after) = RanOn told faults before after

-- an entry that reports the end that was seen of a child which has left
pub record IsEndOf {T : Type 0} (told : T → Option Told) (faults : T → ℕ) (at now : ℕ → Option (Held T)) (e : Act) : Type 0 where
  pub key : ℕ
  pub held : Held T
  pub there : at key ≡ Some held
  pub left : now key ≡ None
  pub exit : Option Exit
  pub seen : SeenEnd told faults held.child exit
  pub call : e.call ≡ end_call held.job held.attempt exit

-- a child of the order's run has left the list
pub record HasLeft {T : Type 0} (at now : ℕ → Option (Held T)) (h : Hand) : Type 0 where
  pub key : ℕ
  pub held : Held T
  pub there : at key ≡ Some held
  pub left : now key ≡ None
  pub same : is_run h.signal.job h.signal.attempt held.job held.attempt ≡ true

-- The order stays in hand: no end of its run was reported, and if it was not delivered no child of its run has left.
pub record KeepsOrder {T : Type 0} (added : List Act) (at now : ℕ → Option (Held T)) (h : Hand) (hand_after : Option Hand) : Type 0 where
  pub stays : hand_after ≡ Some h
  pub goes_on : is_ended h.signal.job h.signal.attempt added ≡ false
  pub attended : h.answer ≡ None → HasLeft at now h → ⊥

-- The order is dropped: the end of its run was reported, or it was not delivered and a child of its run has left.
pub record DropsOrder {T : Type 0} (added : List Act) (at now : ℕ → Option (Held T)) (h : Hand) (hand_after : Option Hand) : Type 0 where
  pub gone : hand_after ≡ None
  pub why : (is_ended h.signal.job h.signal.attempt added ≡ true) ⊎ ((h.answer ≡ None) × HasLeft at now h)

-- the order in hand after polls
abbrev pub OrderAfter : {T : Type 0} → List Act → (ℕ → Option (Held T)) → (ℕ → Option (Held T)) → Option Hand → Option Hand → Type 0
OrderAfter added at now None hand_after = hand_after ≡ None
OrderAfter added at now (Some h) hand_after = KeepsOrder added at now h hand_after ⊎ DropsOrder added at now h hand_after

-- Each child in these places was polled once; the entries that were added report ends that were seen.
pub record PollsPlaces {T : Type 0} (told : T → Option Told) (faults : T → ℕ) (from to : ℕ) (mine mine_after : List Act) (at now : ℕ → Option (Held T)) (hand hand_after : Option Hand) (count : ℕ) (Clean : Type 0) : Type 0 where
  pub polled : (k : ℕ) → from ≤ k → k < to → IsPolled told faults (at k) (now k)
  pub before : (k : ℕ) → k < from → now k ≡ at k
  pub after : (k : ℕ) → to ≤ k → now k ≡ at k
  pub added : List Act
  pub mine_is : mine_after ≡ mine ++ added
  pub ends : AllByRecursion (IsEndOf told faults at now) added
  pub counted : count ≡ length added
  pub order : OrderAfter added at now hand hand_after
  -- where no report was lost, the end of each child that left is among them
  pub whole : Clean → (k : ℕ) (h : Held T) → at k ≡ Some h → now k ≡ None → is_ended h.job h.attempt added ≡ true

-- such an entry, of a child in one of these places
pub record IsEndIn {T : Type 0} (told : T → Option Told) (faults : T → ℕ) (at now : ℕ → Option (Held T)) (Here : ℕ → Type 0) (e : Act) : Type 0 where
  pub reports : IsEndOf told faults at now e
  pub here : Here reports.key

-- The end of a child that has left was seen, but its report made no entry: that is answered as want of memory. The report was
-- asked for in its place: after those of children in lower places, and before those of children in higher ones.
pub record LosesEnd {T : Type 0} (told : T → Option Told) (faults : T → ℕ) (old new : Post) (at now : ℕ → Option (Held T)) (why : Refusal) : Type 0 where
  pub key : ℕ
  pub held : Held T
  pub there : at key ≡ Some held
  pub left : now key ≡ None
  pub exit : Option Exit
  pub seen : SeenEnd told faults held.child exit
  pub fault : NoEntry
  pub fails : FailsWithin old (asked_end held.job held.attempt exit) fault new
  pub wants : why ≡ OutOfMemory
  pub front : List Act
  pub back : List Act
  pub behind : acts_at fails.before ≡ acts_at old ++ front
  pub ahead : acts_at new ≡ acts_at fails.after ++ back
  pub lower : AllByRecursion (IsEndIn told faults at now (λ k. k < key)) front
  pub higher : AllByRecursion (IsEndIn told faults at now (λ k. key < k)) back

-- The end of each child that has left is among these reports, or its own report made no entry.
pub record ReportsEach {T : Type 0} (told : T → Option Told) (faults : T → ℕ) (old new : Post) (at now : ℕ → Option (Held T)) (added : List Act) : Type 0 where
  pub each : (k : ℕ) (h : Held T) → at k ≡ Some h → now k ≡ None →
      (is_ended h.job h.attempt added ≡ true) ⊎ ((l : LosesEnd told faults old new at now OutOfMemory) × (l.key ≡ k))

-- Every child was polled once. The answer is the number of ends that were reported, up to the greatest count.
pub record PollsAll {T : Type 0} (told : T → Option Told) (faults : T → ℕ) (old new : Post) (at now : ℕ → Option (Held T)) (hand hand_after : Option Hand) (result : Result ℕ Refusal) : Type 0 where
  pub polled : (k : ℕ) → IsPolled told faults (at k) (now k)
  pub added : List Act
  pub mine_is : acts_at new ≡ acts_at old ++ added
  pub ends : AllByRecursion (IsEndOf told faults at now) added
  pub counted : IfOk result (λ n. n ≡ min (length added) (2 ^ 32 - 1))
  pub order : OrderAfter added at now hand hand_after
  pub whole : IsOk result → (k : ℕ) (h : Held T) → at k ≡ Some h → now k ≡ None → is_ended h.job h.attempt added ≡ true
  pub lost : IfErr result (LosesEnd told faults old new at now)
  pub all : ReportsEach told faults old new at now added

-- what is made of the answer of a delivery: it is reported by one call, and where there is none nothing is asked
abbrev pub ReportSteps : Post → Post → Hand → Option Bool → Option Hand → Result ℕ Refusal → Type 0
ReportSteps old new h None hand_after result = (acts_at new ≡ acts_at old) × (hand_after ≡ Some h) × (result ≡ Ok 0) × (new ≡ old)
ReportSteps old new h (Some answer) hand_after (Ok n) =
    SignalReports (number_of old.client) answer h.signal true (acts_at old) (acts_at new) × (hand_after ≡ None) × (n ≡ 1)
    × ((r : Reply) × Succeeds old (asked_signal answer h.signal) r new)
ReportSteps old new h (Some answer) hand_after (Err why) =
    (acts_at new ≡ acts_at old) × (hand_after ≡ Some h) × IsRefusedBy old (asked_signal answer h.signal) new why

-- an order in hand is delivered where its child is there and it was not delivered before, and then reported
pub record ServesHand {T : Type 0} (told : T → Option Told) (faults : T → ℕ) (old new : Post) (hand : Hand) (children children_after : Slab (Held T))
    (hand_after : Option Hand) (result : Result ℕ Refusal) : Type 0 where
  pub delivered : Hand
  pub serves : Serves told faults hand delivered children children_after
  pub reports : ReportSteps old new delivered delivered.answer hand_after result

-- with no order in hand nothing is done, and nothing asked
pub record ServesNone {T : Type 0} (old new : Post) (children children_after : Slab (Held T)) (hand_after : Option Hand) : Type 0 where
  pub mine_is : acts_at new ≡ acts_at old
  pub hand_is : hand_after ≡ None
  pub same : SameValues children children_after
  pub unasked : new ≡ old

abbrev pub ServesTaken : {T : Type 0} → (T → Option Told) → (T → ℕ) → Post → Post → Option Hand → Result (Unit {0}) Refusal → Slab (Held T) → Slab (Held T) → Option Hand → Result ℕ Refusal → Type 0
ServesTaken told faults old new None (Ok done) children children_after hand_after result = ServesNone old new children children_after hand_after × (result ≡ Ok 0)
ServesTaken told faults old new None (Err why) children children_after hand_after result = ServesNone old new children children_after hand_after × (result ≡ Err why)
ServesTaken told faults old new (Some h) take children children_after hand_after result = ServesHand told faults old new h children children_after hand_after result

-- the first half of a round: an order is taken where none is in hand, and served
pub record ServesOrder {T : Type 0} (told : T → Option Told) (faults : T → ℕ) (old new : Post) (children children_after : Slab (Held T))
    (hand hand_after : Option Hand) (result : Result ℕ Refusal) : Type 0 where
  pub taken : Post
  pub hand_taken : Option Hand
  pub take : Result (Unit {0}) Refusal
  pub to_taken : IsStillAt old taken
  pub takes : TakeSteps old taken hand hand_taken take
  pub to_new : IsStillAt taken new
  pub serves : ServesTaken told faults taken new hand_taken take children children_after hand_after result

-- the answer of a round: the refusal that was met first, or the number of its reports
abbrev pub RoundAnswer : Result ℕ Refusal → Result ℕ Refusal → Result ℕ Refusal → Type 0
RoundAnswer (Err why) ended result = result ≡ Err why
RoundAnswer (Ok n) (Err why) result = result ≡ Err why
RoundAnswer (Ok n) (Ok m) result = result ≡ Ok (min (n + m) (2 ^ 32 - 1))

-- a round of the reaper
pub record ReapSteps {T : Type 0} (told : T → Option Told) (faults : T → ℕ) (old new : Post) (children children_after : Slab (Held T)) (hand hand_after : Option Hand) (result : Result ℕ Refusal) : Type 0 where
  pub served : Post
  pub children_served : Slab (Held T)
  pub hand_served : Option Hand
  pub reports : Result ℕ Refusal
  pub ends : Result ℕ Refusal
  pub to_served : IsStillAt old served
  pub order : ServesOrder told faults old served children children_served hand hand_served reports
  pub to_new : IsStillAt served new
  pub polls : PollsAll told faults served new (get children_served) (get children_after) hand_served hand_after ends
  pub answer : RoundAnswer reports ends result

-- A round took an order first of all; or it took none: one was kept from before, or the machine had none to hand out, or its
-- journal had no room for the entry and the round is refused for that, or the round is refused for want of memory.
pub data IsTaking (old new : Post) (hand : Option Hand) (result : Result ℕ Refusal) : Type 0 where
  takes : (signal : Signal) (rest : List Act)
      → acts_at new ≡ (acts_at old ++ entry_of (number_of old.client) TakeSignal (reply.Signal signal) ∷ []) ++ rest → IsTaking old new hand result
  keeps : IsSome hand → IsTaking old new hand result
  finds_none : FailsWithin old call.TakeSignal no.Nothing new → IsTaking old new hand result
  finds_full : (size : ℕ) → FailsWithin old call.TakeSignal (no.Journal size) new → result ≡ Err (OutOfResource (limit.Journal size))
      → IsTaking old new hand result
  lacks_memory : result ≡ Err OutOfMemory → IsTaking old new hand result

-- the order that a round serves: the one that was kept, or the one that it took
abbrev pub IsOrderServed : Option Hand → Post → Signal → Post → Type 0
IsOrderServed (Some h) old signal now = (signal ≡ h.signal) × (acts_at now ≡ acts_at old)
IsOrderServed None old signal now = acts_at now ≡ acts_at old ++ entry_of (number_of old.client) TakeSignal (reply.Signal signal) ∷ []

-- Why a round is refused: for want of memory; or since the journal had no room for the entry by which an order is taken, or for
-- that by which the round's order is reported.
pub data IsRoundRefused (old new : Post) (hand : Option Hand) (why : Refusal) : Type 0 where
  wants_memory : why ≡ OutOfMemory → IsRoundRefused old new hand why
  full_at_take : (size : ℕ) → why ≡ OutOfResource (limit.Journal size) → FailsWithin old call.TakeSignal (no.Journal size) new
      → IsRoundRefused old new hand why
  full_at_report : (size : ℕ) (signal : Signal) (answer : Bool) → why ≡ OutOfResource (limit.Journal size)
      → (f : FailsWithin old (asked_signal answer signal) (no.Journal size) new) → IsOrderServed hand old signal f.before
      → IsRoundRefused old new hand why
