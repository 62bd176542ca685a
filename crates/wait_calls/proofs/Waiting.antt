-- How a wait goes on from look to look, and how it ends.
use Rattle.std.proofs.Common.{◌≡◌, ℕ, ◌≤◌, List, [], ◌∷◌, ◌++◌, refl, sym, ap, ◌∙◌, subst, append-nil, Option, Some, None, Result, Ok, Err, inl, inr, IfOk, IfErr, Bool, true, false, arith}
use Rattle.drmaa_types.specs.declared.identifiers.JobId.{JobId}
use Rattle.drmaa_types.specs.declared.identifiers.SessionId.{SessionId}
use Rattle.drmaa_types.specs.declared.moments.Timeout.{Timeout}
use Rattle.drmaa_types.specs.declared.refusals.Refusal.{Refusal}
use Rattle.drmaa_types.specs.declared.refusals.Refusal.TheVariants as reason_is
use Rattle.drmaa_types.specs.declared.states.WaitKind.{WaitKind}
use Rattle.drmaa_model.specs.declared.calls.Call.{Call}
use Rattle.drmaa_model.specs.declared.calls.Call.TheVariants as call
use Rattle.drmaa_model.specs.declared.configs.Config.{Config}
use Rattle.drmaa_model.specs.declared.entries.Entry.{Entry}
use Rattle.drmaa_model.specs.declared.faults.NoEntry.{NoEntry}
use Rattle.drmaa_model.specs.declared.faults.NoEntry.TheVariants as fault
use Rattle.drmaa_model.specs.declared.replies.Reply.{Reply}
use Rattle.drmaa_model.specs.declared.replies.Reply.TheVariants as reply
use Rattle.drmaa_model.specs.AnswerLaws.{answer-cases, reply-kind}
use Rattle.drmaa_model.specs.Effects.{StepAnswer, gives, nothing, not_yet, wait_answer}
use Rattle.drmaa_model.specs.History.{IsLegal, replay}
use Rattle.drmaa_model.specs.RecordedCalls.{recorded}
use Rattle.drmaa_model.specs.ReplyKinds.{kind_of_call, a_reached_job, IsReplyOf}
use Rattle.drmaa_model.specs.Steps.{answer}
use Rattle.drmaa_model.specs.Time.{advance}
use Rattle.drmaa_model.specs.Waiting.{first_reached, is_timed_out}
use Rattle.drmaa_model.specs.World.{World}
use Rattle.drmaa_machine.specs.declared.waits.Awaited.{Awaited}
use Rattle.drmaa_machine.specs.Applying.{IsRefusedFor}
use Rattle.drmaa_machine.specs.Waits.{call_of}
use Rattle.turn_lock.specs.Histories.{BeginsWith}
use Rattle.call_history.specs.declared.waits.WaitLook.TheVariants as look
use Rattle.call_history.specs.Looks.{IsLookOf}
use Rattle.call_history.specs.Calls.{entry_by, IsServed, IsUnserved}
use Rattle.call_history.specs.ClientLaws.{more-both, makes-both, begins-itself, begins-both, begins-made, begins-more}
use Rattle.call_history.specs.Clients.{Seat, seen_of, number_of, SeesMore, Makes}
use Rattle.call_history.specs.Clocks.{Dial, IsReading, Gives}
use Rattle.call_history.specs.ClockLaws.{gives-one, gives-more}
use Rattle.call_history.specs.Refused.{refusal_of}
use Rattle.wait_calls.specs.Waited.{Look, readings_of, Climb, AreEarly, IsWaited, Answers, IsReached, Reaches, Refuses, Tells, IsRefusal}
use Rattle.wait_calls.specs.Waited.Refuses.{by_entry, by_fault}
use Rattle.wait_calls.proofs.Seats.{made-step}

-- ---- readings

readings-more : (looks : List Look) (l : Look) → readings_of (looks ++ l ∷ []) ≡ readings_of looks ++ l.at ∷ []
readings-more [] l = refl
readings-more (k ∷ looks) l = ap (λ (rs : List ℕ). k.at ∷ rs) (readings-more looks l)

climb-more : (from : ℕ) (readings : List ℕ) (mid reading to : ℕ) → Climb from readings mid → mid ≤ reading → reading ≤ to → Climb from (readings ++ reading ∷ []) to
climb-more from [] mid reading to low above below = (omega (arith, low, above), below)
climb-more from (r ∷ readings) mid reading to low above below = (low.0, climb-more r readings mid reading to low.1 above below)

-- no reading is below an earlier one, so the last is not below the first
pub climbed : (from to : ℕ) (readings : List ℕ) → Climb from readings to → from ≤ to
climbed from to [] low = low
climbed from to (r ∷ readings) low = let rest = climbed r to readings low.1 in omega (arith, low.0, rest)

climb-end : (from : ℕ) (readings : List ℕ) (mid last : ℕ) → Climb from readings mid → mid ≤ last → Climb from readings last
climb-end from [] mid last low above = omega (arith, low, above)
climb-end from (r ∷ readings) mid last low above = (low.0, climb-end r readings mid last low.1 above)

-- ---- looks that came too early

early-grow : (config : Config) (asked : Call) (before : List Entry) (looks : List Look) (mid after : List Entry) → AreEarly config asked before looks mid → BeginsWith after mid → AreEarly config asked before looks after
early-grow config asked before [] mid after e b = begins-both before mid after e b
early-grow config asked before (k ∷ looks) mid after e b = (e.0, e.1, early-grow config asked k.seen looks mid after e.2 b)

early-more : (config : Config) (asked : Call) (before : List Entry) (looks : List Look) (l : Look) (mid : List Entry) → AreEarly config asked before looks mid → BeginsWith l.seen mid
    → answer (replay config l.seen) l.at asked ≡ not_yet → AreEarly config asked before (looks ++ l ∷ []) l.seen
early-more config asked before [] l mid e b is = (begins-both before mid l.seen e b, is, begins-itself l.seen)
early-more config asked before (k ∷ looks) l mid e b is = (e.0, e.1, early-more config asked k.seen looks l mid e.2 b is)

-- ---- the looks so far

-- all looks so far came too early
pub record SoFar (config : Config) (before : Dial) (old : Seat) (asked : Call) (begun : ℕ) (now : Dial) (new : Seat) : Type 0 where
  pub looks : List Look
  pub gave : Gives before.given (begun ∷ readings_of looks) now.given
  pub least : before.least ≤ begun
  pub rising : Climb begun (readings_of looks) now.least
  pub early : AreEarly config asked (seen_of old) looks (seen_of new)
  pub more : SeesMore old new

pub so-far-first : (config : Config) (before : Dial) (old : Seat) (asked : Call) (begun : ℕ) (now : Dial) → IsReading before begun now → SoFar config before old asked begun now old
so-far-first config before old asked begun now r = record {
  looks = [];
  gave = gives-one before.given begun now.given r.told;
  least = r.least;
  rising = r.rising;
  early = begins-itself (seen_of old);
  more = record { between = []; seen = sym (append-nil (seen_of old)); others = refl; mine = refl };
}

module _ (config : Config) (before : Dial) (old : Seat) (asked : Call) (begun : ℕ) (now : Dial) (mid : Seat) (s : SoFar config before old asked begun now mid) (same : number_of mid ≡ number_of old) where
  pub so-far-next : (after : Dial) (new : Seat) → recorded asked ≡ asked → IsUnserved config now mid asked fault.NotYet after new → SoFar config before old asked begun after new
  so-far-next after new is u =
      let l : Look = record { at = u.at; seen = seen_of new } in
      let waits : answer (replay config (seen_of new)) u.at asked ≡ not_yet = subst (λ (c : Call). answer (replay config (seen_of new)) u.at c ≡ not_yet) is u.reason.cause in
      record {
        looks = s.looks ++ l ∷ [];
        gave = subst (λ (rs : List ℕ). Gives before.given (begun ∷ rs) after.given) (sym (readings-more s.looks l)) (gives-more before.given now.given after.given (begun ∷ readings_of s.looks) u.at s.gave u.read.told);
        least = s.least;
        rising = subst (λ (rs : List ℕ). Climb begun rs after.least) (sym (readings-more s.looks l)) (climb-more begun (readings_of s.looks) now.least u.at after.least s.rising u.read.least u.read.rising);
        early = early-more config asked (seen_of old) s.looks l (seen_of mid) s.early (begins-more mid new u.more) waits;
        more = more-both old mid new s.more same u.more;
      }

  module _ (waits : ℕ → Call) (is : waits begun ≡ asked) (after : Dial) (new : Seat) where
    -- the last look, at its reading
    ends : (Decides : Call → ℕ → Type 0) (last : ℕ) → IsReading now last after → BeginsWith (seen_of new) (seen_of mid) → Decides asked last → IsWaited config before old waits Decides after new
    ends Decides last read more decided =
        record {
          begun = begun;
          looks = s.looks;
          last = last;
          gave = gives-more before.given now.given after.given (begun ∷ readings_of s.looks) last s.gave read.told;
          least = s.least;
          climb = climb-end begun (readings_of s.looks) now.least last s.rising read.least;
          rising = read.rising;
          early = subst (λ (c : Call). AreEarly config c (seen_of old) s.looks (seen_of new)) (sym is) (early-grow config asked (seen_of old) s.looks (seen_of mid) (seen_of new) s.early more);
          decided = subst (λ (c : Call). Decides c last) (sym is) decided;
        }

    made-at : (told : Reply) (v : IsServed now mid asked told after new) → Makes old (entry_by (number_of old) v.at asked told) new
    made-at told v = makes-both old mid new s.more same (entry_by (number_of old) v.at asked told) (subst (λ (n : ℕ). Makes mid (entry_by n v.at asked told) new) same v.made)

    pub ends-served : (job : JobId) (v : IsServed now mid asked (reply.Reached job) after new) → ((m : Answers old (reply.Reached job) new asked v.at) → IsReached (replay config (seen_of old ++ m.between)) v.at asked job)
        → IsWaited config before old waits (Reaches config old job new) after new
    ends-served job v first = let m = made-at (reply.Reached job) v in ends (Reaches config old job new) v.at v.read (begins-made mid new _ v.made) (record { made = m; first = first m })

    pub ends-refused : (why : Refusal) (v : IsServed now mid asked (reply.Refused why) after new)
        → ((m : Makes old (entry_by (number_of old) v.at asked (reply.Refused why)) new) → IsRefusedFor (replay config (seen_of old ++ m.between)) v.at asked why)
        → IsWaited config before old waits (Refuses config old why new) after new
    ends-refused why v cause = ends (Refuses config old why new) v.at v.read (begins-made mid new _ v.made) (by_entry (made-at (reply.Refused why) v) (cause (made-at (reply.Refused why) v)))

    pub ends-unserved : (f : NoEntry) (why : Refusal) → refusal_of f ≡ Some why → IsUnserved config now mid asked f after new → IsWaited config before old waits (Refuses config old why new) after new
    ends-unserved f why for u = ends (Refuses config old why new) u.at u.read (begins-more mid new u.more) (by_fault f for (more-both old mid new s.more same u.more) u.reason)

-- ---- what the reply of a wait may be

-- where a wait is not told a job, its entry's reply is the refusal that it is told
pub refused-so : (config : Config) (before : Dial) (old : Seat) (c : Call) (r : Reply) (after : Dial) (new : Seat) (why : Refusal) → kind_of_call (recorded c) ≡ a_reached_job → IsLegal config (seen_of new)
    → IsServed before old c r after new → IsRefusal r why → r ≡ reply.Refused why
refused-so config before old c r after new why kind legal s told =
    let step = made-step config old (entry_by (number_of old) s.at c r) new legal s.made in
    let is : IsReplyOf (recorded c) r = reply-kind (replay config (seen_of old ++ s.made.between)) s.at (recorded c) r _ step.answered in
    elim is as (λ _. r ≡ reply.Refused why) [ inl refused ↦ told.refused refused | inr reached ↦ absurd (told.unreached (reached ∙ kind)) ]

-- What the answer to a wait tells: why it is refused, or which job has reached the state. It is never that there is nothing to hand out.
abbrev IsSound : World → ℕ → Call → StepAnswer → Type 0
IsSound w at asked (gives (reply.Refused why) next) = IsRefusedFor w at asked why
IsSound w at asked (gives (reply.Reached job) next) = IsReached w at asked job
IsSound w at asked (gives _ next) = Unit {0}
IsSound w at asked nothing = ⊥
IsSound w at asked not_yet = Unit {0}

wait-sound : (first : Option ℕ) (over : Bool) (v w : World) (at : ℕ) (asked : Call) → (first ≡ None → over ≡ true → IsRefusedFor w at asked reason_is.Timeout)
    → ((job : ℕ) → first ≡ Some job → IsReached w at asked (record { 0 = job })) → IsSound w at asked (wait_answer first over v)
wait-sound None true v w at asked late reached = late refl refl
wait-sound None false v w at asked late reached = tt
wait-sound (Some job) over v w at asked late reached = reached job refl

answer-sound : (w : World) (at : ℕ) (a : Awaited) → IsSound w at (call_of a) (answer w at (call_of a))
answer-sound w at a =
    let v = advance w at in
    answer-cases at v (call_of a) (IsSound w at (call_of a)) (λ why e. inl e)
    (λ free. wait-sound (first_reached a.kind v.plan.rows a.jobs) (is_timed_out at a.begun a.timeout) v w at (call_of a)
    (λ unreached over. inr (refl, record { session = a.session; listed = a.jobs; kind = a.kind; begun = a.begun; timeout = a.timeout; waits = refl; valid = free; unreached = unreached; over = over }))
    (λ job is. record { session = a.session; listed = a.jobs; kind = a.kind; begun = a.begun; timeout = a.timeout; waits = refl; valid = free; first = is }))

entry-sound : (config : Config) (old : Seat) (a : Awaited) (at : ℕ) (told : Reply) (new : Seat) → IsLegal config (seen_of new) → (m : Makes old (entry_by (number_of old) at (call_of a) told) new)
    → IsSound (replay config (seen_of old ++ m.between)) at (call_of a) (gives told (replay config ((seen_of old ++ m.between) ++ entry_by (number_of old) at (call_of a) told ∷ [])))
entry-sound config old a at told new legal m =
    let step = made-step config old (entry_by (number_of old) at (call_of a) told) new legal m in
    subst (IsSound (replay config (seen_of old ++ m.between)) at (call_of a)) step.answered (answer-sound (replay config (seen_of old ++ m.between)) at a)

-- ---- a look that is over

-- what is known where a look is over
pub record IsOver (config : Config) (before : Dial) (old : Seat) (session : SessionId) (jobs : List ℕ) (kind : WaitKind) (timeout : Timeout) (now : Dial) (mid : Seat) (awaited : Awaited) (after : Dial) (new : Seat) : Type 0 where
  pub so_far : SoFar config before old (call_of awaited) awaited.begun now mid
  pub same : number_of mid ≡ number_of old
  pub awaited_is : awaited ≡ record { session = session; jobs = jobs; kind = kind; begun = awaited.begun; timeout = timeout }
  pub legal : IsLegal config (seen_of new)

module _ (config : Config) (before : Dial) (old : Seat) (session : SessionId) (jobs : List ℕ) (kind : WaitKind) (timeout : Timeout) (now : Dial) (mid : Seat) (awaited : Awaited) (after : Dial) (new : Seat)
    (o : IsOver config before old session jobs kind timeout now mid awaited after new) where
  abbrev waits : ℕ → Call
  waits begun = call.Wait session jobs kind begun timeout

  waits-is : waits awaited.begun ≡ call_of awaited
  waits-is = sym (ap call_of o.awaited_is)

  pub over-ok : (k : Config) → k ≡ config → (made : Result Reply NoEntry) (r : Result JobId Refusal) → IsLookOf k now mid awaited after new (look.Over made) → IfOk r (λ job. made ≡ Ok (reply.Reached job))
      → IfOk r (λ job. IsWaited config before old waits (Reaches config old job new) after new)
  over-ok k known made (Ok job) l is =
      ends-served config before old (call_of awaited) awaited.begun now mid o.so_far o.same waits waits-is after new job
      (subst (λ (m : Result Reply NoEntry). IsLookOf k now mid awaited after new (look.Over m)) is l)
      (λ m. entry-sound config old awaited _ (reply.Reached job) new o.legal m)
  over-ok k known made (Err why) l is = tt

  refused : (made : Result Reply NoEntry) (why : Refusal) → (look.Over made ≡ look.Over (Err fault.NotYet) → ⊥) → IsLookOf config now mid awaited after new (look.Over made) → Tells made why
      → IsWaited config before old waits (Refuses config old why new) after new
  refused (Ok told) why decided l tells =
      ends-refused config before old (call_of awaited) awaited.begun now mid o.so_far o.same waits waits-is after new why
      (subst (λ (r : Reply). IsServed now mid (call_of awaited) r after new) (refused-so config now mid (call_of awaited) told after new why refl o.legal l tells) l)
      (λ m. entry-sound config old awaited _ (reply.Refused why) new o.legal m)
  refused (Err fault.OutOfMemory) why decided l tells = ends-unserved config before old (call_of awaited) awaited.begun now mid o.so_far o.same waits waits-is after new fault.OutOfMemory why (ap Some (sym tells)) l
  refused (Err fault.NotYet) why decided l tells = absurd (decided refl)
  refused (Err fault.Nothing) why decided l tells = absurd (subst (IsSound (replay config (seen_of new)) l.at (call_of awaited)) l.reason.cause (answer-sound (replay config (seen_of new)) l.at awaited))
  refused (Err (fault.Journal n)) why decided l tells = ends-unserved config before old (call_of awaited) awaited.begun now mid o.so_far o.same waits waits-is after new (fault.Journal n) why (ap Some (sym tells)) l

  pub over-err : (k : Config) → k ≡ config → (made : Result Reply NoEntry) (r : Result JobId Refusal) → (look.Over made ≡ look.Over (Err fault.NotYet) → ⊥) → IsLookOf k now mid awaited after new (look.Over made) → IfErr r (Tells made)
      → IfErr r (λ why. IsWaited config before old waits (Refuses config old why new) after new)
  over-err k known made (Ok job) decided l tells = tt
  over-err k known made (Err why) decided l tells = refused made why decided (subst (λ (x : Config). IsLookOf x now mid awaited after new (look.Over made)) known l) tells

  -- a look that came too early
  pub early-so-far : (k : Config) → k ≡ config → (back : Awaited) → IsLookOf k now mid awaited after new (look.NotYet back) → SoFar config before old (call_of back) back.begun after new
  early-so-far k known back l =
      subst (λ (a : Awaited). SoFar config before old (call_of a) a.begun after new) (sym l.0)
      (so-far-next config before old (call_of awaited) awaited.begun now mid o.so_far o.same after new refl (subst (λ (x : Config). IsUnserved x now mid (call_of awaited) fault.NotYet after new) known l.1))

  pub early-same : (k : Config) (back : Awaited) → IsLookOf k now mid awaited after new (look.NotYet back) → back ≡ record { session = session; jobs = jobs; kind = kind; begun = back.begun; timeout = timeout }
  early-same k back l = l.0 ∙ (o.awaited_is ∙ ap (λ (b : ℕ). record { session = session; jobs = jobs; kind = kind; begun = b; timeout = timeout }) (sym (ap (λ (a : Awaited). a.begun) l.0)))
