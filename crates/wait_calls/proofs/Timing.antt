-- The entry of a wait is timed by the clock that the wait read.
use Rattle.std.proofs.Common.{ℕ, List, [], ◌∷◌, ◌++◌, refl, sym, subst}
use Rattle.std.specs.Prelude.{Result, Ok, Err, IfOk, IfErr}
use Rattle.drmaa_types.specs.declared.identifiers.JobId.{JobId}
use Rattle.drmaa_types.specs.declared.identifiers.SessionId.{SessionId}
use Rattle.drmaa_types.specs.declared.moments.Timeout.{Timeout}
use Rattle.drmaa_types.specs.declared.refusals.Refusal.{Refusal}
use Rattle.drmaa_types.specs.declared.states.WaitKind.{WaitKind}
use Rattle.drmaa_model.specs.declared.calls.Call.{Call}
use Rattle.drmaa_model.specs.declared.calls.Call.TheVariants as call
use Rattle.drmaa_model.specs.declared.configs.Config.{Config}
use Rattle.drmaa_model.specs.declared.entries.Entry.{Entry}
use Rattle.drmaa_model.specs.declared.replies.Reply.{Reply}
use Rattle.drmaa_model.specs.declared.replies.Reply.TheVariants as reply
use Rattle.turn_lock.specs.Histories.{BeginsWith}
use Rattle.call_history.specs.Calls.{entry_by}
use Rattle.call_history.specs.ClientLaws.{begins-made, begins-more}
use Rattle.call_history.specs.Clients.{Seat, seen_of, mine_of, number_of, SeesMore, Makes}
use Rattle.call_history.specs.Clocks.{Dial, Gives}
use Rattle.call_history.specs.Timed.{StandsIn, StaysTimed}
use Rattle.call_history.specs.TimedLaws.{timed-more, timed-still}
use Rattle.wait_calls.specs.Waited.{IsWaited, Reaches, Refuses, readings_of}
use Rattle.wait_calls.specs.Waited.Refuses.{by_entry, by_fault}

-- the beginning is the first of the readings, and the end is the last
both-ends : (begun last : ℕ) (between : List ℕ) → StandsIn (begun ∷ last ∷ []) (begun ∷ (between ++ last ∷ []))
both-ends begun last between = ([], between ++ last ∷ [], refl, (between, [], refl, tt))

module _ (before after : Dial) (old new : Seat) (session : SessionId) (jobs : List ℕ) (kind : WaitKind) (begun : ℕ) (timeout : Timeout) (last : ℕ) (between : List ℕ)
    (gave : Gives before.given (begun ∷ (between ++ last ∷ [])) after.given) where
  timed-made : (told : Reply) → Makes old (entry_by (number_of old) last (call.Wait session jobs kind begun timeout) told) new → StaysTimed (mine_of old) before.given (mine_of new) after.given
  timed-made told made =
      subst (λ (es : List Entry). StaysTimed (mine_of old) before.given es after.given) (sym made.mine)
      (timed-more before.given after.given (mine_of old) (entry_by (number_of old) last (call.Wait session jobs kind begun timeout) told) (begun ∷ (between ++ last ∷ [])) gave (both-ends begun last between))

  timed-none : SeesMore old new → StaysTimed (mine_of old) before.given (mine_of new) after.given
  timed-none more =
      subst (λ (es : List Entry). StaysTimed (mine_of old) before.given es after.given) (sym more.mine)
      (timed-still before.given after.given (mine_of old) (begun ∷ (between ++ last ∷ [])) gave)

module _ (config : Config) (before after : Dial) (old new : Seat) (session : SessionId) (jobs : List ℕ) (kind : WaitKind) (timeout : Timeout) where
  timed-refused : (why : Refusal) (w : IsWaited config before old (λ begun. call.Wait session jobs kind begun timeout) (Refuses config old why new) after new)
      → Refuses config old why new (call.Wait session jobs kind w.begun timeout) w.last → StaysTimed (mine_of old) before.given (mine_of new) after.given
  timed-refused why w (by_entry made is) = timed-made before after old new session jobs kind w.begun timeout w.last (readings_of w.looks) w.gave (reply.Refused why) made
  timed-refused why w (by_fault f is more none) = timed-none before after old new session jobs kind w.begun timeout w.last (readings_of w.looks) w.gave more

  pub timed-wait : (result : Result JobId Refusal)
      → IfOk result (λ job. IsWaited config before old (λ begun. call.Wait session jobs kind begun timeout) (Reaches config old job new) after new)
      → IfErr result (λ why. IsWaited config before old (λ begun. call.Wait session jobs kind begun timeout) (Refuses config old why new) after new)
      → StaysTimed (mine_of old) before.given (mine_of new) after.given
  timed-wait (Ok job) good bad = timed-made before after old new session jobs kind good.begun timeout good.last (readings_of good.looks) good.gave (reply.Reached job) good.decided.made
  timed-wait (Err why) good bad = timed-refused why bad bad.decided

  begins-refused : (why : Refusal) (asked : Call) (last : ℕ) → Refuses config old why new asked last → BeginsWith (seen_of new) (seen_of old)
  begins-refused why asked last (by_entry made is) = begins-made old new (entry_by (number_of old) last asked (reply.Refused why)) made
  begins-refused why asked last (by_fault f is more none) = begins-more old new more

  pub begins-wait : (result : Result JobId Refusal)
      → IfOk result (λ job. IsWaited config before old (λ begun. call.Wait session jobs kind begun timeout) (Reaches config old job new) after new)
      → IfErr result (λ why. IsWaited config before old (λ begun. call.Wait session jobs kind begun timeout) (Refuses config old why new) after new)
      → BeginsWith (seen_of new) (seen_of old)
  begins-wait (Ok job) good bad = begins-made old new (entry_by (number_of old) good.last (call.Wait session jobs kind good.begun timeout) (reply.Reached job)) good.decided.made
  begins-wait (Err why) good bad = begins-refused why (call.Wait session jobs kind bad.begun timeout) bad.last bad.decided
