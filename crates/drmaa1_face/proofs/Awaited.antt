-- What a wait comes to, as a step of the face.
use Rattle.std.proofs.Common.{◌≡◌, inl, inr, ℕ, ◌+◌, ◌-◌, ◌≤◌, min, Bool, true, List, [], ◌∷◌, ◌++◌, Option, Some, None, refl, sym, subst, ◌∙◌, append_assoc, arith}
use Rattle.std.specs.Prelude.{length, nat_lt, ◌==◌}
use Rattle.std.proofs.lemmas.Bool.{leb-true}
use Rattle.drmaa_types.specs.Moments.{greatest}
use Rattle.drmaa_types.specs.declared.identifiers.JobId.{JobId}
use Rattle.drmaa_types.specs.declared.identifiers.SessionId.{SessionId}
use Rattle.drmaa_types.specs.declared.moments.Timeout.{Timeout}
use Rattle.drmaa_types.specs.declared.moments.Timeout.TheVariants.{Seconds, Infinite}
use Rattle.drmaa_types.specs.declared.refusals.Limit.TheVariants as limit
use Rattle.drmaa_types.specs.declared.refusals.Refusal.{Refusal}
use Rattle.drmaa_types.specs.declared.refusals.Refusal.TheVariants as why
use Rattle.drmaa_types.specs.declared.refusals.Which.TheVariants as which
use Rattle.drmaa_types.specs.declared.sessions.SessionKind.TheVariants.{Jobs}
use Rattle.drmaa_types.specs.declared.states.WaitKind.TheVariants as until
use Rattle.drmaa_model.specs.declared.calls.Call.{Call}
use Rattle.drmaa_model.specs.declared.calls.Call.TheVariants as call
use Rattle.drmaa_model.specs.declared.configs.Config.{Config}
use Rattle.drmaa_model.specs.declared.entries.Entry.{Entry}
use Rattle.drmaa_model.specs.declared.replies.Reply.TheVariants as reply
use Rattle.drmaa_model.specs.History.{replay}
use Rattle.drmaa_model.specs.Homes.{session_test, own_rows}
use Rattle.drmaa_model.specs.Refusals.{refusal, lists_other}
use Rattle.drmaa_model.specs.Time.{advance}
use Rattle.drmaa_model.specs.Waiting.{most_waited, first_reached, is_timed_out}
use Rattle.drmaa_model.specs.World.{World}
use Rattle.drmaa_machine.specs.Applying.{IsOver}
use Rattle.call_history.specs.Calls.{entry_by}
use Rattle.call_history.specs.Clients.{seen_of, number_of}
use Rattle.call_history.specs.Clocks.{HasGiven}
use Rattle.wait_calls.specs.Waited.{IsWaited, Answers, Reaches, Refuses, readings_of}
use Rattle.wait_calls.specs.Waited.Refuses.{by_entry as decided_by_entry, by_fault as decided_by_fault}
use Rattle.drmaa1_face.specs.Answers.{IsLate}
use Rattle.drmaa1_face.specs.FaceEntries.{left_of}
use Rattle.drmaa1_face.specs.Posts.{Post, EndsWith}
use Rattle.drmaa1_face.specs.Steps.{waiting, Waits, MakesNoEntry, Halts}
use Rattle.drmaa1_face.specs.Steps.Halts.{by_entry, by_fault}
use Rattle.drmaa1_face.specs.Steps.IsUnwaited.{unasked, unmade}
use Rattle.drmaa1_face.proofs.Making.{made-none, made-one}
use Rattle.drmaa1_face.proofs.Timely.{has-reason, fault-timely}

module _ (config : Config) (old new : Post) (session : SessionId) (jobs : List ℕ) (timeout : Timeout) where
  abbrev waits : ℕ → Call
  waits begun = call.Wait session jobs until.Terminated begun timeout

  -- a wait that decided something else too
  abbrev rests : (P Q : Call → ℕ → Type 0) (w : IsWaited config old.clock old.client waits P new.clock new.client) → Q (waits w.begun) w.last → IsWaited config old.clock old.client waits Q new.clock new.client
  rests P Q w decided = record {
    begun = w.begun;
    looks = w.looks;
    last = w.last;
    gave = w.gave;
    least = w.least;
    climb = w.climb;
    rising = w.rising;
    early = w.early;
    decided = decided;
  }

  pub waits-reached : (job : JobId) (w : IsWaited config old.clock old.client waits (Reaches config old.client job new.client) new.clock new.client)
      → Waits config old session jobs w.begun timeout (reply.Reached job) new
  waits-reached job w = record { waited = rests (Reaches config old.client job new.client) (Answers old.client (reply.Reached job) new.client) w w.decided.made; begins = refl }

  halts-decided : (reason : Refusal) (w : IsWaited config old.clock old.client waits (Refuses config old.client reason new.client) new.clock new.client) → number_of new.client ≡ number_of old.client
      → Refuses config old.client reason new.client (waits w.begun) w.last → Halts config old [] (waiting session jobs w.begun timeout) reason new
  halts-decided reason w same (decided_by_entry made is) =
      by_entry (made-one config old new (waiting session jobs w.begun timeout) (reply.Refused reason) same
      (record { waited = rests (Refuses config old.client reason new.client) (Answers old.client (reply.Refused reason) new.client) w made; begins = refl }))
  halts-decided reason w same (decided_by_fault f is more none) =
      by_fault old (made-none config old) (unmade (rests (Refuses config old.client reason new.client) (MakesNoEntry config old.client reason new.client) w (f, is, more, none))) more.mine

  -- a wait that is refused
  pub halts-wait : (reason : Refusal) (w : IsWaited config old.clock old.client waits (Refuses config old.client reason new.client) new.clock new.client) → number_of new.client ≡ number_of old.client
      → Halts config old [] (waiting session jobs w.begun timeout) reason new
  halts-wait reason w same = halts-decided reason w same w.decided

-- no memory for the list of the one job
pub halts-unasked : (config : Config) (old : Post) (session : SessionId) (jobs : List ℕ) (begun : ℕ) (timeout : Timeout) (reason : Refusal) → reason ≡ why.OutOfMemory → Halts config old [] (waiting session jobs begun timeout) reason old
halts-unasked config old session jobs begun timeout reason is = by_fault old (made-none config old) (unasked is refl) refl

-- ---- a wait whose time is over

ends-with : (before after : Option (List ℕ)) (xs : List ℕ) (last : ℕ) → HasGiven before (xs ++ last ∷ []) after → EndsWith after last
ends-with before None xs last g = tt
ends-with None (Some a) xs last g = absurd g
ends-with (Some b) (Some a) xs last g = (b ++ xs, g ∙ sym (append_assoc b xs (last ∷ [])))

-- the end of what is left is not before that of the whole timeout
pub record IsLimit (first : ℕ) (timeout : Timeout) (last : ℕ) : Type 0 where
  pub seconds : ℕ
  pub limited : timeout ≡ Seconds seconds
  pub over : min (first + seconds) greatest ≤ last

timed-out : (first read begun last : ℕ) (timeout : Timeout) → first ≤ read → read ≤ begun → is_timed_out last begun (left_of timeout first read) ≡ true → IsLimit first timeout last
timed-out first read begun last (Seconds seconds) low high is =
    let over : min (begun + (seconds - (read - first))) greatest ≤ last = leb-true _ _ is in
    record { seconds = seconds; limited = refl; over = omega (arith, low, high, over) }
timed-out first read begun last Infinite low high is = absurd cc

-- the tests of a wait
abbrev wait-tests : World → SessionId → List ℕ → List (Bool × Refusal)
wait-tests w session js = session_test (Jobs ∷ []) session w ∷ (length js == 0, why.InvalidArgument which.Jobs) ∷ (nat_lt most_waited (length js), why.OutOfResource limit.WaitList) ∷ (lists_other js (own_rows session w), why.InvalidArgument which.Job) ∷ []

tests-timely : (w : World) (session : SessionId) (js : List ℕ) (begun : ℕ) (timeout : Timeout) → refusal w (call.Wait session js until.Terminated begun timeout) ≡ Some why.Timeout → ⊥
tests-timely w session js begun timeout is = elim (has-reason (wait-tests w session js) why.Timeout is) [
  | inl a ↦ cc
  | inr (inl a) ↦ cc
  | inr (inr (inl a)) ↦ cc
  | inr (inr (inr (inl a))) ↦ cc
  | inr (inr (inr (inr a))) ↦ elim a [ ]
]

module _ (config : Config) (old new : Post) (session : SessionId) (job first read : ℕ) (timeout : Timeout) (low : first ≤ read) (before : read ≤ old.clock.least) where
  abbrev left : Timeout
  left = left_of timeout first read

  abbrev asks-one : ℕ → Call
  asks-one begun = call.Wait session (job ∷ []) until.Terminated begun left

  late-over : (w : IsWaited config old.clock old.client asks-one (Refuses config old.client why.Timeout new.client) new.clock new.client) (front : List Entry)
      → seen_of new.client ≡ front ++ entry_by (number_of old.client) w.last (asks-one w.begun) (reply.Refused why.Timeout) ∷ []
      → IsOver (replay config front) w.last (asks-one w.begun) → IsLate config first timeout (number_of old.client) new
  late-over w front seen o =
      let begun : o.begun ≡ w.begun = (let e = o.waits in cc) in
      let time : o.timeout ≡ left = (let e = o.waits in cc) in
      let listed : o.listed ≡ job ∷ [] = (let e = o.waits in cc) in
      let kind : o.kind ≡ until.Terminated = (let e = o.waits in cc) in
      let over : is_timed_out w.last w.begun left ≡ true = subst (λ (t : Timeout). is_timed_out w.last w.begun t ≡ true) time (subst (λ (b : ℕ). is_timed_out w.last b o.timeout ≡ true) begun o.over) in
      let limit : IsLimit first timeout w.last = timed-out first read w.begun w.last timeout low (omega (arith, before, w.least)) over in
      record {
        seconds = limit.seconds;
        limited = limit.limited;
        last = w.last;
        ends = ends-with old.clock.given.told new.clock.given.told (w.begun ∷ readings_of w.looks) w.last w.gave.told;
        over = limit.over;
        session = session;
        job = job;
        begun = w.begun;
        left = left;
        front = front;
        seen = seen;
        unended = subst (λ (l : List ℕ). first_reached until.Terminated (advance (replay config front) w.last).plan.rows l ≡ None) listed
            (subst (λ k. first_reached k (advance (replay config front) w.last).plan.rows o.listed ≡ None) kind o.unreached);
      }

  late-decided : (w : IsWaited config old.clock old.client asks-one (Refuses config old.client why.Timeout new.client) new.clock new.client)
      → Refuses config old.client why.Timeout new.client (asks-one w.begun) w.last → IsLate config first timeout (number_of old.client) new
  late-decided w (decided_by_entry made (inl is)) = absurd (tests-timely (advance (replay config (seen_of old.client ++ made.between)) w.last) session (job ∷ []) w.begun left is)
  late-decided w (decided_by_entry made (inr (is, over))) = late-over w (seen_of old.client ++ made.between) made.seen over
  late-decided w (decided_by_fault f is more none) = absurd (fault-timely f is)

  pub late-wait : IsWaited config old.clock old.client asks-one (Refuses config old.client why.Timeout new.client) new.clock new.client → IsLate config first timeout (number_of old.client) new
  late-wait w = late-decided w w.decided
