-- What a wait says of the play of its line.
use Rattle.std.proofs.Common.{◌≡◌, ◌⊎◌, inl, inr, ℕ, ◌≤◌, Bool, true, false, List, [], ◌∷◌, ◌++◌, Option, Some, None, refl, sym, ap, ◌∙◌, subst, arith}
use Rattle.std.specs.Prelude.{length, nat_lt, ◌==◌}
use Rattle.drmaa_types.specs.declared.identifiers.JobId.{JobId}
use Rattle.drmaa_types.specs.declared.identifiers.SessionId.{SessionId}
use Rattle.drmaa_types.specs.declared.moments.Timeout.{Timeout}
use Rattle.drmaa_types.specs.declared.refusals.Limit.TheVariants as limit
use Rattle.drmaa_types.specs.declared.refusals.Refusal.{Refusal}
use Rattle.drmaa_types.specs.declared.refusals.Refusal.TheVariants as why
use Rattle.drmaa_types.specs.declared.refusals.Refusal.TheVariants.{OutOfMemory, OutOfResource, InvalidArgument}
use Rattle.drmaa_types.specs.declared.refusals.Which.TheVariants as which
use Rattle.drmaa_types.specs.declared.sessions.SessionKind.TheVariants.{Jobs}
use Rattle.drmaa_model.specs.Homes.{session_test, own_rows}
use Rattle.drmaa_model.specs.Waiting.{most_waited}
use Rattle.drmaa_types.specs.Readings.{Readings}
use Rattle.drmaa_types.specs.Refusals.{first_refusal}
use Rattle.drmaa_types.specs.declared.states.WaitKind.{WaitKind}
use Rattle.drmaa_types.specs.declared.states.WaitKind.TheVariants as reached
use Rattle.drmaa_model.specs.declared.calls.Call.TheVariants as call
use Rattle.drmaa_model.specs.declared.configs.Config.{Config}
use Rattle.drmaa_model.specs.declared.faults.NoEntry.{NoEntry}
use Rattle.drmaa_model.specs.declared.faults.NoEntry.TheVariants as fault
use Rattle.drmaa_model.specs.declared.replies.Reply.{Reply}
use Rattle.drmaa_model.specs.declared.replies.Reply.TheVariants as reply
use Rattle.drmaa_model.specs.Refusals.{refusal, lists_other}
use Rattle.drmaa_model.specs.Time.{advance}
use Rattle.drmaa_model.specs.World.{World}
use Rattle.drmaa_machine.specs.Applying.{IsRefusedFor}
use Rattle.text_codec.specs.Formats.{◌>>=◌}
use Rattle.script_lines.specs.declared.lines.Line.{Line}
use Rattle.script_lines.specs.declared.refs.Ref.{Ref}
use Rattle.script_text.specs.declared.scripts.Script.{Script}
use Rattle.script_asks.specs.declared.given.Given.{Given}
use Rattle.script_asks.specs.Asks.{asks, in_session, number_of, numbers_of}
use Rattle.script_asks.specs.Plays.{no_attempt}
use Rattle.script_asks.specs.Replies.{names_after}
use Rattle.call_history.specs.Calls.{entry_by}
use Rattle.call_history.specs.Clients.{Seat, mine_of, number_of as number_of_client, Makes}
use Rattle.call_history.specs.Clocks.{Dial, Gives}
use Rattle.call_history.specs.Refused.{refusal_of}
use Rattle.wait_calls.proofs.Waiting.{climbed}
use Rattle.wait_calls.specs.Waited.{IsWaited, Reaches, Refuses, readings_of}
use Rattle.wait_calls.specs.Waited.Refuses.{by_entry, by_fault}
use Rattle.block_play.specs.declared.stops.Stopped.{Stopped}
use Rattle.block_play.specs.declared.stops.Stopped.TheVariants as stopped
use Rattle.block_play.specs.Played.{PlayedLine, StopsLine, taken_by}
use Rattle.block_play.specs.Played.PlaysLine.{asks_once}
use Rattle.block_play.specs.Played.StopsLine.{unmade, unkept}
use Rattle.block_play.specs.Waits.{wait_line, stop_of}

-- a line that waits asks a wait
line-asks : (s : Script) (names : List (List ℕ × Given)) (begun : ℕ) (kind : WaitKind) (session : Ref) (timeout : Timeout) (jobs : List Ref)
    → asks s names no_attempt begun (wait_line kind session timeout jobs) ≡ in_session names session (numbers_of names jobs) (λ n js. call.Wait n js kind begun timeout)
line-asks s names begun reached.Started session timeout jobs = refl
line-asks s names begun reached.Terminated session timeout jobs = refl

line-binds : (kind : WaitKind) (session : Ref) (timeout : Timeout) (jobs : List Ref) (told : Reply) (names : List (List ℕ × Given)) → names ≡ names_after (wait_line kind session timeout jobs) told names
line-binds reached.Started session timeout jobs told names = refl
line-binds reached.Terminated session timeout jobs told names = refl

-- what a wait takes of its client's clock
wait-reads : (kind : WaitKind) (session : Ref) (timeout : Timeout) (jobs : List Ref) (begun at : ℕ) (looks : List ℕ) (early late : Readings)
    → Gives early (begun ∷ (looks ++ at ∷ [])) late → Gives early (taken_by (wait_line kind session timeout jobs) begun looks at) late
wait-reads reached.Started session timeout jobs begun at looks early late gave = gave
wait-reads reached.Terminated session timeout jobs begun at looks early late gave = gave

-- a fault stops a client
fault-stops : (f : NoEntry) (why : Refusal) → refusal_of f ≡ Some why → stop_of why ≡ None → ⊥
fault-stops fault.OutOfMemory why is goes = let same : why ≡ OutOfMemory = cc in cc
fault-stops fault.NotYet why is goes = cc
fault-stops fault.Nothing why is goes = cc
fault-stops (fault.Journal size) why is goes = let same : why ≡ OutOfResource (limit.Journal size) = cc in cc

stops-short : (why : Refusal) (st : Stopped) → why ≡ OutOfMemory → stop_of why ≡ Some st → st ≡ stopped.Memory
stops-short why st same stops = let known : Some stopped.Memory ≡ Some st = ap stop_of (sym same) ∙ stops in cc

stops-full : (why : Refusal) (st : Stopped) (size : ℕ) → why ≡ OutOfResource (limit.Journal size) → stop_of why ≡ Some st → st ≡ stopped.Full size
stops-full why st size same stops = let known : Some (stopped.Full size) ≡ Some st = ap stop_of (sym same) ∙ stops in cc

-- the reason of one of these tests
abbrev IsReason : Refusal → List (Bool × Refusal) → Type 0
IsReason why [] = ⊥
IsReason why (t ∷ ts) = (t.1 ≡ why) ⊎ IsReason why ts

has-reason : (ts : List (Bool × Refusal)) (why : Refusal) → first_refusal ts ≡ Some why → IsReason why ts
has-reason [] why is = cc
has-reason ((true, r) ∷ ts) why is = inl cc
has-reason ((false, r) ∷ ts) why is = inr (has-reason ts why is)

-- the tests of a wait
abbrev wait-tests : World → SessionId → List ℕ → List (Bool × Refusal)
wait-tests w session js = session_test (Jobs ∷ []) session w ∷ (length js == 0, InvalidArgument which.Jobs) ∷ (nat_lt most_waited (length js), OutOfResource limit.WaitList) ∷ (lists_other js (own_rows session w), InvalidArgument which.Job) ∷ []

-- an entry of a wait has no refusal for the journal's size
never-full : (w : World) (n : ℕ) (js : List ℕ) (kind : WaitKind) (begun : ℕ) (timeout : Timeout) (size : ℕ) → refusal w (call.Wait (record { 0 = n }) js kind begun timeout) ≡ Some (OutOfResource (limit.Journal size)) → ⊥
never-full w n js kind begun timeout size is = elim (has-reason (wait-tests w (record { 0 = n }) js) (OutOfResource (limit.Journal size)) is) [
  | inl a ↦ cc
  | inr (inl a) ↦ cc
  | inr (inr (inl a)) ↦ cc
  | inr (inr (inr (inl a))) ↦ cc
  | inr (inr (inr (inr a))) ↦ elim a [ ]
]

unfulfilled : (w : World) (at n : ℕ) (js : List ℕ) (kind : WaitKind) (begun : ℕ) (timeout : Timeout) (size : ℕ) → IsRefusedFor w at (call.Wait (record { 0 = n }) js kind begun timeout) (OutOfResource (limit.Journal size)) → ⊥
unfulfilled w at n js kind begun timeout size (inl is) = never-full (advance w at) n js kind begun timeout size is
unfulfilled w at n js kind begun timeout size (inr (time, over)) = cc

-- a wait whose entry is a refusal that stops its client wants memory
entry-stops : (w : World) (at n : ℕ) (js : List ℕ) (kind : WaitKind) (begun : ℕ) (timeout : Timeout) (why : Refusal) (st : Stopped) → stop_of why ≡ Some st
    → IsRefusedFor w at (call.Wait (record { 0 = n }) js kind begun timeout) why → st ≡ stopped.Memory
entry-stops w at n js kind begun timeout (why.OutOfResource (limit.Journal size)) st stops is = absurd (unfulfilled w at n js kind begun timeout size is)
entry-stops w at n js kind begun timeout why.OutOfMemory st stops is = cc
entry-stops w at n js kind begun timeout _ st stops is = absurd cc

module _ (s : Script) (names : List (List ℕ × Given)) (kind : WaitKind) (session : Ref) (timeout : Timeout) (jobs : List Ref) where
  l : Line
  l = wait_line kind session timeout jobs

  -- where a name has no number
  pub unnamed : number_of names session ≡ None → asks s names no_attempt 0 (wait_line kind session timeout jobs) ≡ None
  unnamed none = line-asks s names 0 kind session timeout jobs ∙ ap (λ (o : Option ℕ). o >>= λ n. numbers_of names jobs >>= λ js. Some (call.Wait (record { 0 = n }) js kind 0 timeout)) none

  pub unlisted : (n : ℕ) → number_of names session ≡ Some n → numbers_of names jobs ≡ None → asks s names no_attempt 0 (wait_line kind session timeout jobs) ≡ None
  unlisted n named none =
      line-asks s names 0 kind session timeout jobs
      ∙ (ap (λ (o : Option ℕ). o >>= λ n. numbers_of names jobs >>= λ js. Some (call.Wait (record { 0 = n }) js kind 0 timeout)) named
      ∙ ap (λ (o : Option (List ℕ)). o >>= λ js. Some (call.Wait (record { 0 = n }) js kind 0 timeout)) none)

  module _ (n : ℕ) (js : List ℕ) (named : number_of names session ≡ Some n) (listed : numbers_of names jobs ≡ Some js) where
    asked : (begun : ℕ) → asks s names no_attempt begun (wait_line kind session timeout jobs) ≡ Some (call.Wait (record { 0 = n }) js kind begun timeout)
    asked begun =
        line-asks s names begun kind session timeout jobs
        ∙ (ap (λ (o : Option ℕ). o >>= λ m. numbers_of names jobs >>= λ ks. Some (call.Wait (record { 0 = m }) ks kind begun timeout)) named
        ∙ ap (λ (o : Option (List ℕ)). o >>= λ ks. Some (call.Wait (record { 0 = n }) ks kind begun timeout)) listed)

    -- the wait's one entry is what its line asks
    entry-played : (before : ℕ) (old new : Seat) (begun last least : ℕ) (told : Reply) → before ≤ begun → begun ≤ last → last ≤ least
        → Makes old (entry_by (number_of_client old) last (call.Wait (record { 0 = n }) js kind begun timeout) told) new
        → PlayedLine s names (wait_line kind session timeout jobs) before (mine_of old) (mine_of new) names least
    entry-played before old new begun last least told early late rising made = record {
      added = entry_by (number_of_client old) last (call.Wait (record { 0 = n }) js kind begun timeout) told ∷ [];
      then = last;
      mine = made.mine;
      plays = asks_once (entry_by (number_of_client old) last (call.Wait (record { 0 = n }) js kind begun timeout) told) (call.Wait (record { 0 = n }) js kind 0 timeout) (asked 0) refl
          (record { begun = begun; call = call.Wait (record { 0 = n }) js kind begun timeout; asked = asked begun; same = refl; in_time = λ waits. (early, late) })
          (line-binds kind session timeout jobs told names) refl;
      behind = rising;
    }

    -- a wait that was answered
    pub reached-played : (config : Config) (early late : Dial) (old new : Seat) (before : ℕ) (job : JobId) → before ≤ early.least
        → IsWaited config early old (λ begun. call.Wait (record { 0 = n }) js kind begun timeout) (Reaches config old job new) late new
        → PlayedLine s names (wait_line kind session timeout jobs) before (mine_of old) (mine_of new) names late.least
    reached-played config early late old new before job first w =
        entry-played before old new w.begun w.last late.least (reply.Reached job) (let a = w.least in omega (arith, first, a)) (climbed w.begun w.last (readings_of w.looks) w.climb) w.rising w.decided.made

    refused-entry : (config : Config) (early late : Dial) (old new : Seat) (before : ℕ) (why : Refusal) → before ≤ early.least
        → (w : IsWaited config early old (λ begun. call.Wait (record { 0 = n }) js kind begun timeout) (Refuses config old why new) late new)
        → Makes old (entry_by (number_of_client old) w.last (call.Wait (record { 0 = n }) js kind w.begun timeout) (reply.Refused why)) new
        → PlayedLine s names (wait_line kind session timeout jobs) before (mine_of old) (mine_of new) names late.least
    refused-entry config early late old new before why first w made =
        entry-played before old new w.begun w.last late.least (reply.Refused why) (let a = w.least in omega (arith, first, a)) (climbed w.begun w.last (readings_of w.looks) w.climb) w.rising made

    -- a wait that was refused by its entry
    pub refused-played : (config : Config) (early late : Dial) (old new : Seat) (before : ℕ) (why : Refusal) → before ≤ early.least → stop_of why ≡ None
        → (w : IsWaited config early old (λ begun. call.Wait (record { 0 = n }) js kind begun timeout) (Refuses config old why new) late new)
        → Refuses config old why new (call.Wait (record { 0 = n }) js kind w.begun timeout) w.last
        → PlayedLine s names (wait_line kind session timeout jobs) before (mine_of old) (mine_of new) names late.least
    refused-played config early late old new before why first goes w (by_entry made is) = refused-entry config early late old new before why first w made
    refused-played config early late old new before why first goes w (by_fault f is more none) = absurd (fault-stops f why is goes)

    -- a wait that stops its client
    stops-by : (config : Config) (early late : Dial) (old new : Seat) (before : ℕ) (why : Refusal) (st : Stopped) → before ≤ early.least → stop_of why ≡ Some st
        → (w : IsWaited config early old (λ begun. call.Wait (record { 0 = n }) js kind begun timeout) (Refuses config old why new) late new)
        → Refuses config old why new (call.Wait (record { 0 = n }) js kind w.begun timeout) w.last
        → StopsLine config s names (wait_line kind session timeout jobs) before old new early.given late.given st
    stops-by config early late old new before why st first stops w (by_fault fault.OutOfMemory is more none) =
        let memory : st ≡ stopped.Memory = (let same : why ≡ OutOfMemory = cc in stops-short why st same stops) in
        subst (λ (x : Stopped). StopsLine config s names (wait_line kind session timeout jobs) before old new early.given late.given x) (sym memory) (unmade more.mine tt)
    stops-by config early late old new before why st first stops w (by_fault fault.NotYet is more none) = absurd cc
    stops-by config early late old new before why st first stops w (by_fault fault.Nothing is more none) = absurd cc
    stops-by config early late old new before why st first stops w (by_fault (fault.Journal size) is more none) =
        let full : st ≡ stopped.Full size = (let same : why ≡ OutOfResource (limit.Journal size) = cc in stops-full why st size same stops) in
        subst (λ (x : Stopped). StopsLine config s names (wait_line kind session timeout jobs) before old new early.given late.given x) (sym full)
        (unmade more.mine (record {
          begun = w.begun;
          call = call.Wait (record { 0 = n }) js kind w.begun timeout;
          at = w.last;
          asked = asked w.begun;
          none = none;
          looks = readings_of w.looks;
          read = wait-reads kind session timeout jobs w.begun w.last (readings_of w.looks) early.given late.given w.gave;
          behind = (let a = w.least in let b = climbed w.begun w.last (readings_of w.looks) w.climb in omega (arith, first, a, b));
          in_time = λ waits. ((let a = w.least in omega (arith, first, a)), climbed w.begun w.last (readings_of w.looks) w.climb);
        }))
    stops-by config early late old new before why st first stops w (by_entry made is) =
        subst (λ (x : Stopped). StopsLine config s names (wait_line kind session timeout jobs) before old new early.given late.given x) (sym (entry-stops _ w.last n js kind w.begun timeout why st stops is))
        (unkept names late.least (refused-entry config early late old new before why first w made) refl)

    pub refused-stops : (config : Config) (early late : Dial) (old new : Seat) (before : ℕ) (why : Refusal) (st : Stopped) → before ≤ early.least → stop_of why ≡ Some st
        → IsWaited config early old (λ begun. call.Wait (record { 0 = n }) js kind begun timeout) (Refuses config old why new) late new
        → StopsLine config s names (wait_line kind session timeout jobs) before old new early.given late.given st
    refused-stops config early late old new before why st first stops w = stops-by config early late old new before why st first stops w w.decided
