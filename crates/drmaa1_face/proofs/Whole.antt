-- The whole of `synchronize`: its first reading, what is picked, its waits and its reaps.
use Rattle.std.proofs.Common.{◌≡◌, ℕ, ◌≤◌, Bool, List, [], ◌∷◌, ◌++◌, sym, subst, arith}
use Rattle.drmaa_types.specs.declared.identifiers.SessionId.{SessionId}
use Rattle.drmaa_types.specs.declared.moments.Timeout.{Timeout}
use Rattle.drmaa_types.specs.declared.refusals.Refusal.{Refusal}
use Rattle.drmaa_model.specs.declared.configs.Config.{Config}
use Rattle.turn_lock.specs.Tokens.{Named}
use Rattle.call_history.specs.Clocks.{IsReading}
use Rattle.drmaa1_face.specs.declared.synchronizing.Pick.{Pick}
use Rattle.drmaa1_face.specs.Answers.{IsLate}
use Rattle.drmaa1_face.specs.FaceEntries.{Start, jobs_of, picking, waits_of, disposing, face_entries}
use Rattle.drmaa1_face.specs.FaceEntries.FaceCall.{synchronize}
use Rattle.drmaa1_face.specs.Posts.{Post}
use Rattle.drmaa1_face.specs.Steps.{Step, reads, IsMade, Stops}
use Rattle.drmaa1_face.proofs.Making.{made-both, made-then, made-read, stops-behind, stops-before, stops-then, follows-least}

module _ (shared : Named Config) (old mid : Post) (session : SessionId) (pick : Pick) (timeout : Timeout) (dispose : Bool) (first : ℕ) (read : IsReading old.clock first mid.clock) (same : mid.client ≡ old.client) where
  abbrev steps : List Start → List ℕ → List Step
  steps starts jobs = reads first ∷ (picking session pick jobs ++ (waits_of session timeout first starts ++ disposing session dispose jobs))

  pub whole-made : (next : Named Config) (is : next ≡ shared) (picked new : Post) (starts : List Start) (jobs : List ℕ) → jobs_of starts ≡ jobs → IsMade shared.fixed mid (picking session pick jobs) picked
      → IsMade next.fixed picked (waits_of session timeout first starts ++ disposing session dispose jobs) new → IsMade shared.fixed old (face_entries session (synchronize pick timeout dispose first starts)) new
  whole-made next is picked new starts jobs of front back =
      let rest = made-then shared next is mid picked new (picking session pick jobs) (waits_of session timeout first starts ++ disposing session dispose jobs) front back in
      let all : IsMade shared.fixed old (steps starts jobs) new =
      made-both shared.fixed old mid new (reads first ∷ []) (picking session pick jobs ++ (waits_of session timeout first starts ++ disposing session dispose jobs)) (made-read shared.fixed old mid first same read) rest in
      subst (λ (js : List ℕ). IsMade shared.fixed old (steps starts js) new) (sym of) all

  pub whole-stops : (next : Named Config) (is : next ≡ shared) (picked new : Post) (starts : List Start) (jobs : List ℕ) (why : Refusal) → jobs_of starts ≡ jobs → IsMade shared.fixed mid (picking session pick jobs) picked
      → Stops next.fixed picked (waits_of session timeout first starts ++ disposing session dispose jobs) why new → Stops shared.fixed old (face_entries session (synchronize pick timeout dispose first starts)) why new
  whole-stops next is picked new starts jobs why of front back =
      let rest = stops-then shared next is mid picked new (picking session pick jobs) (waits_of session timeout first starts ++ disposing session dispose jobs) front why back in
      let all : Stops shared.fixed old (steps starts jobs) why new =
      stops-behind shared.fixed old mid new (reads first ∷ []) (picking session pick jobs ++ (waits_of session timeout first starts ++ disposing session dispose jobs)) why (made-read shared.fixed old mid first same read) rest in
      subst (λ (js : List ℕ). Stops shared.fixed old (steps starts js) why new) (sym of) all

  pub picked-stops : (new : Post) (why : Refusal) → Stops shared.fixed mid (picking session pick []) why new → Stops shared.fixed old (face_entries session (synchronize pick timeout dispose first [])) why new
  picked-stops new why s =
      stops-behind shared.fixed old mid new (reads first ∷ []) (picking session pick [] ++ (waits_of session timeout first [] ++ disposing session dispose [])) why (made-read shared.fixed old mid first same read)
      (stops-before shared.fixed mid new (picking session pick []) (waits_of session timeout first [] ++ disposing session dispose []) why s)

-- a wait that was late, as one who began before sees it
pub late-from : (shared next : Named Config) (is : next ≡ shared) (first : ℕ) (timeout : Timeout) (number then : ℕ) (new : Post) → then ≡ number → IsLate next.fixed first timeout then new → IsLate shared.fixed first timeout number new
late-from shared next is first timeout number then new same late =
    subst (λ (n : Named Config). IsLate n.fixed first timeout number new) is (subst (λ (n : ℕ). IsLate next.fixed first timeout n new) same late)

-- the least reading that may come is not below the first
pub least-behind : (config : Config) (old new : Post) (xs : List Step) (first : ℕ) → first ≤ old.clock.least → IsMade config old xs new → first ≤ new.clock.least
least-behind config old new xs first low made = let d = follows-least config old new xs made.follows in omega (arith, low, d)
