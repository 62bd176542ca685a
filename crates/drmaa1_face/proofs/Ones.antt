-- One wait of `synchronize`, for one job alone.
use Rattle.std.proofs.Common.{◌≡◌, ℕ, ◌≤◌, List, [], ◌∷◌, refl, subst, arith}
use Rattle.drmaa_types.specs.declared.identifiers.JobId.{JobId}
use Rattle.drmaa_types.specs.declared.identifiers.SessionId.{SessionId}
use Rattle.drmaa_types.specs.declared.moments.Timeout.{Timeout}
use Rattle.drmaa_types.specs.declared.refusals.Refusal.{Refusal}
use Rattle.drmaa_types.specs.declared.refusals.Refusal.TheVariants as why
use Rattle.drmaa_types.specs.declared.states.WaitKind.TheVariants as until
use Rattle.drmaa_model.specs.declared.calls.Call.{Call}
use Rattle.drmaa_model.specs.declared.calls.Call.TheVariants as call
use Rattle.drmaa_model.specs.declared.configs.Config.{Config}
use Rattle.drmaa_model.specs.declared.replies.Reply.TheVariants as reply
use Rattle.call_history.specs.Clients.{number_of}
use Rattle.call_history.specs.Clocks.{Dial, IsReading}
use Rattle.wait_calls.specs.Waited.{IsWaited, Reaches, Refuses}
use Rattle.wait_calls.proofs.Alone.{waits-alone}
use Rattle.drmaa1_face.specs.Answers.{IsLate}
use Rattle.drmaa1_face.specs.FaceEntries.{Start, left_of, waits_of}
use Rattle.drmaa1_face.specs.Posts.{Post}
use Rattle.drmaa1_face.specs.Steps.{waiting, reads, enters, IsMade, Stops}
use Rattle.drmaa1_face.proofs.Awaited.{waits-reached, halts-wait, halts-unasked, late-wait}
use Rattle.drmaa1_face.proofs.Making.{made-both, made-read, made-one, stops-behind, stops-first}

abbrev pub at_clock : Post → Dial → Post
at_clock old clock = record { client = old.client; clock = clock }

module _ (config : Config) (old : Post) (clock : Dial) (session : SessionId) (job first read : ℕ) (timeout : Timeout) (r : IsReading old.clock read clock) where
  abbrev left : Timeout
  left = left_of timeout first read

  abbrev done : JobId
  done = record { 0 = job }

  front : IsMade config old (reads read ∷ []) (at_clock old clock)
  front = made-read config old (at_clock old clock) read refl r

  pub one-unasked : (s : Start) × (s.job ≡ job) × Stops config old (waits_of session timeout first (s ∷ [])) why.OutOfMemory (at_clock old clock)
  one-unasked = (
    record { job = job; read = read; begun = 0 },
    refl,
    stops-behind config old (at_clock old clock) (at_clock old clock) (reads read ∷ []) (enters (waiting session (job ∷ []) 0 left) (reply.Reached done) ∷ []) why.OutOfMemory front
        (stops-first config (at_clock old clock) (at_clock old clock) (waiting session (job ∷ []) 0 left) (reply.Reached done) [] why.OutOfMemory
        (halts-unasked config (at_clock old clock) session (job ∷ []) 0 left why.OutOfMemory refl)),
  )

  module _ (new : Post) (jobs : List ℕ) (time : Timeout) (listed : jobs ≡ job ∷ []) (timed : time ≡ left) where
    abbrev AsksOf : List ℕ → Timeout → (Call → ℕ → Type 0) → Type 0
    AsksOf js t P = IsWaited config clock old.client (λ b. call.Wait session js until.Terminated b t) P new.clock new.client

    alone : (P : Call → ℕ → Type 0) → AsksOf jobs time P → AsksOf (job ∷ []) left P
    alone P w = subst (λ (t : Timeout). AsksOf (job ∷ []) t P) timed (subst (λ (js : List ℕ). AsksOf js time P) listed w)

    made-alone : number_of new.client ≡ number_of old.client → AsksOf (job ∷ []) left (Reaches config old.client done new.client) → (s : Start) × (s.job ≡ job) × IsMade config old (waits_of session timeout first (s ∷ [])) new
    made-alone same w = (
      record { job = job; read = read; begun = w.begun },
      refl,
      made-both config old (at_clock old clock) new (reads read ∷ []) (enters (waiting session (job ∷ []) w.begun left) (reply.Reached done) ∷ []) front
          (made-one config (at_clock old clock) new (waiting session (job ∷ []) w.begun left) (reply.Reached done) same (waits-reached config (at_clock old clock) new session (job ∷ []) left done w)),
    )

    pub one-made : (told : JobId) → number_of new.client ≡ number_of old.client → AsksOf jobs time (Reaches config old.client told new.client)
        → (s : Start) × (s.job ≡ job) × IsMade config old (waits_of session timeout first (s ∷ [])) new
    one-made told same w =
        made-alone same (waits-alone config clock old.client session job until.Terminated left new.clock new.client jobs told listed (subst (λ (t : Timeout). AsksOf jobs t (Reaches config old.client told new.client)) timed w))

    stops-alone : (reason : Refusal) → number_of new.client ≡ number_of old.client → AsksOf (job ∷ []) left (Refuses config old.client reason new.client)
        → (s : Start) × (s.job ≡ job) × Stops config old (waits_of session timeout first (s ∷ [])) reason new
    stops-alone reason same w = (
      record { job = job; read = read; begun = w.begun },
      refl,
      stops-behind config old (at_clock old clock) new (reads read ∷ []) (enters (waiting session (job ∷ []) w.begun left) (reply.Reached done) ∷ []) reason front
          (stops-first config (at_clock old clock) new (waiting session (job ∷ []) w.begun left) (reply.Reached done) [] reason
          (halts-wait config (at_clock old clock) new session (job ∷ []) left reason w same)),
    )

    pub one-stops : (reason : Refusal) → number_of new.client ≡ number_of old.client → AsksOf jobs time (Refuses config old.client reason new.client)
        → (s : Start) × (s.job ≡ job) × Stops config old (waits_of session timeout first (s ∷ [])) reason new
    one-stops reason same w = stops-alone reason same (alone (Refuses config old.client reason new.client) w)

    pub one-late : (reason : Refusal) → first ≤ old.clock.least → reason ≡ why.Timeout → AsksOf jobs time (Refuses config old.client reason new.client) → IsLate config first timeout (number_of old.client) new
    one-late reason low is w =
        late-wait config (at_clock old clock) new session job first read timeout (omega (arith, low, r.least)) (r.rising)
        (alone (Refuses config old.client why.Timeout new.client) (subst (λ (e : Refusal). AsksOf jobs time (Refuses config old.client e new.client)) is w))
