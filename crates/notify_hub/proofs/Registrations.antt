-- What a Register that a client makes comes to.
use Rattle.std.proofs.Common.{◌≡◌, ℕ, ◌<◌, ◌≤◌, inl, inr, List, [], ◌∷◌, ◌++◌, length, refl, sym, ap, ◌∙◌, subst, arith, Some, Result, Ok, Err, IfOk, IfErr}
use Rattle.std.proofs.lemmas.Result.{IfOk-weaker}
use Rattle.drmaa_types.specs.declared.refusals.Refusal.{Refusal}
use Rattle.drmaa_model.specs.AnswerLaws.{answer-cases, reply-kind}
use Rattle.drmaa_model.specs.declared.calls.Call.TheVariants as call
use Rattle.drmaa_model.specs.declared.configs.Config.{Config}
use Rattle.drmaa_model.specs.declared.entries.Entry.{Entry}
use Rattle.drmaa_model.specs.declared.faults.NoEntry.{NoEntry}
use Rattle.drmaa_model.specs.declared.faults.NoEntry.TheVariants as fault
use Rattle.drmaa_model.specs.declared.replies.Reply.{Reply}
use Rattle.drmaa_model.specs.declared.replies.Reply.TheVariants as reply
use Rattle.drmaa_model.specs.Effects.{StepAnswer, gives, nothing, not_yet}
use Rattle.drmaa_model.specs.Faults.{refusal_for}
use Rattle.drmaa_model.specs.History.{IsLegal, replay}
use Rattle.drmaa_model.specs.HistoryLaws.{legal-last, legal-prefix, legal_from-back, replay_from-append, replay-push}
use Rattle.drmaa_model.specs.StepLaws.{legal-consistent}
use Rattle.drmaa_model.specs.Steps.{answer, IsStep}
use Rattle.drmaa_model.specs.Time.{advance}
use Rattle.drmaa_model.specs.World.{World, opening_world}
use Rattle.turn_lock.specs.Histories.{BeginsWith}
use Rattle.call_history.specs.Calls.{entry_by, IsServed, IsUnserved}
use Rattle.call_history.specs.ClientLaws.{begins-made, begins-more}
use Rattle.call_history.specs.Clients.{Seat, seen_of, mine_of, number_of}
use Rattle.call_history.specs.Clocks.{Dial}
use Rattle.call_history.specs.Timed.{StaysTimed}
use Rattle.call_history.specs.TimedLaws.{timed-served, timed-unserved}
use Rattle.notify_hub.specs.Hubs.{IsUnregistered}
use Rattle.notify_hub.specs.Hubs.IsUnregistered.{by_entry, by_fault}
use Rattle.change_callbacks.specs.Places.{changes_of, place_of, registrations_of}
use Rattle.notify_hub.specs.Registered.{IsRefusal, TellsNone, IsNew}
use Rattle.change_callbacks.specs.RegisterLaws.{run-no_fewer, step-registers, step-refuses, place-last}

-- what is told of what was made
pub ok-told : (made : Result (ℕ × Reply) NoEntry) (r : Result (ℕ × ℕ) Refusal) (P : ℕ → Reply → Type 0) → IfOk r (λ t. made ≡ Ok (t.0, reply.Callback t.1)) → IfOk made (λ m. P m.0 m.1)
    → IfOk r (λ t. P t.0 (reply.Callback t.1))
ok-told made (Ok t) P is h = subst (λ (m : Result (ℕ × Reply) NoEntry). IfOk m (λ m. P m.0 m.1)) is h
ok-told made (Err why) P is h = tt

-- the last entry of what was seen is the one that was made
pub record Ends (config : Config) (old new : List Entry) (e : Entry) : Type 0 where
  pub front : List Entry
  pub begins : BeginsWith front old
  pub whole : new ≡ front ++ e ∷ []
  pub legal : IsLegal config front
  pub step : IsStep (replay config front) e (replay config new)

pub ends : (config : Config) (before after : Dial) (old new : Seat) (r : Reply) → (s : IsServed before old call.Register r after new) → IsLegal config (seen_of new)
    → Ends config (seen_of old) (seen_of new) (entry_by (number_of old) s.at call.Register r)
ends config before after old new r s legal =
    let front : List Entry = seen_of old ++ s.made.between in
    let e : Entry = entry_by (number_of old) s.at call.Register r in
    let here : IsLegal config (front ++ e ∷ []) = subst (IsLegal config) s.made.seen legal in
    record {
      front = front;
      begins = record { rest = s.made.between; whole = refl };
      whole = s.made.seen;
      legal = legal-prefix config front (e ∷ []) here;
      step = subst (λ (h : List Entry). IsStep (replay config front) e (replay config h)) (sym s.made.seen) (legal-last config front e here);
    }

-- a history that goes on registers no fewer
pub fewer-begins : (config : Config) (old new : List Entry) → IsLegal config new → BeginsWith new old → registrations_of config old ≤ registrations_of config new
fewer-begins config old new legal b =
    let more = run-no_fewer (replay config old) b.rest (legal_from-back (opening_world config) old b.rest (subst (IsLegal config) b.whole legal)) in
    let same = ap (λ (w : World). w.registrations) (replay_from-append (opening_world config) old b.rest) in
    let is = ap (registrations_of config) b.whole in
    omega (arith, more, same, is)

new-of : (config : Config) (old new : List Entry) (e : Entry) (n : ℕ) → Ends config old new e → e.reply ≡ reply.Callback n → IsNew config old n new
new-of config old new e n s is =
    let r = step-registers (replay config s.front) e (replay config new) n s.step is in
    let number = r.number in
    let after = r.after in
    let few = r.few in
    let since = fewer-begins config old s.front s.legal s.begins in
    let above : registrations_of config s.front < n = omega (arith, number) in
    let last = ap (λ (w : World). length w.plan.changes) (replay-push config s.front e) in
    let end = ap (λ (h : List Entry). length (changes_of config h)) s.whole in
    record {
      number = sym after;
      unknown = omega (arith, since, above);
      most = omega (arith, number, few);
      place = ap (λ (h : List Entry). place_of config h n) s.whole ∙ (place-last (opening_world config) n s.front e s.legal above is ∙ ap Some (sym (end ∙ last)));
    }

-- the entry registers a new number
pub registers-new : (config : Config) (before after : Dial) (old new : Seat) (n : ℕ) → IsLegal config (seen_of new) → IsServed before old call.Register (reply.Callback n) after new
    → IsNew config (seen_of old) n (seen_of new)
registers-new config before after old new n legal s =
    new-of config (seen_of old) (seen_of new) (entry_by (number_of old) s.at call.Register (reply.Callback n)) n (ends config before after old new (reply.Callback n) s legal) refl

pub told-new : (config : Config) (before after : Dial) (old new : Seat) (r : Result (ℕ × ℕ) Refusal) → IsLegal config (seen_of new)
    → IfOk r (λ t. IsServed before old call.Register (reply.Callback t.1) after new) → IfOk r (λ t. IsNew config (seen_of old) t.1 (seen_of new))
told-new config before after old new r legal h = IfOk-weaker r _ _ (λ t s. registers-new config before after old new t.1 legal s) h

-- ---- a Register that registers nothing

MakesOne : StepAnswer → Type 0
MakesOne (gives r next) = Unit {0}
MakesOne nothing = ⊥
MakesOne not_yet = ⊥

always : (w : World) (at : ℕ) → MakesOne (answer w at call.Register)
unfolding MakesOne
always w at = answer-cases at (advance w at) call.Register MakesOne (λ why e. tt) (λ free. tt)

never-waits : (w : World) (at : ℕ) → answer w at call.Register ≡ not_yet → ⊥
unfolding MakesOne
never-waits w at is = subst MakesOne is (always w at)

never-lacks : (w : World) (at : ℕ) → answer w at call.Register ≡ nothing → ⊥
unfolding MakesOne
never-lacks w at is = subst MakesOne is (always w at)

none-of : (config : Config) (before after : Dial) (old new : Seat) (r : Reply) (why : Refusal) → IsLegal config (seen_of new) → IsServed before old call.Register r after new → IsRefusal r why
    → IsUnregistered config before old why after new
none-of config before after old new r why legal s refusal =
    let e : Entry = entry_by (number_of old) s.at call.Register r in
    let f = ends config before after old new r s legal in
    elim (reply-kind (replay config f.front) s.at call.Register r (replay config (seen_of new)) f.step.answered) [
      | inl refused ↦
          (let is = refusal.refused refused in
          let n = step-refuses (replay config f.front) e (replay config (seen_of new)) why f.step refl is in
          let most = n.most in
          let after_is = n.after in
          let few = (legal-consistent config (seen_of new) legal).callbacks in
          by_entry n.full (subst (λ (q : Reply). IsServed before old call.Register q after new) is s) (omega (arith, most, after_is, few)))
      | inr same ↦ absurd (refusal.unregistered same)
    ]

fault-of : (config : Config) (before after : Dial) (old new : Seat) (f : NoEntry) (why : Refusal) → IsUnserved config before old call.Register f after new → why ≡ refusal_for f
    → IsUnregistered config before old why after new
fault-of config before after old new fault.OutOfMemory why u told = by_fault fault.OutOfMemory (ap Some (sym told)) u
fault-of config before after old new fault.NotYet why u told = absurd (never-waits (replay config (seen_of new)) u.at u.reason.cause)
fault-of config before after old new fault.Nothing why u told = absurd (never-lacks (replay config (seen_of new)) u.at u.reason.cause)
fault-of config before after old new (fault.Journal n) why u told = by_fault (fault.Journal n) (ap Some (sym told)) u

made-none : (config : Config) (before after : Dial) (old new : Seat) (made : Result (ℕ × Reply) NoEntry) (why : Refusal) → IsLegal config (seen_of new)
    → IfOk made (λ m. IsServed before old call.Register m.1 after new) → IfErr made (λ f. IsUnserved config before old call.Register f after new) → TellsNone made why
    → IsUnregistered config before old why after new
made-none config before after old new (Ok m) why legal good bad told = none-of config before after old new m.1 why legal good told
made-none config before after old new (Err f) why legal good bad told = fault-of config before after old new f why bad told

pub told-none : (config : Config) (before after : Dial) (old new : Seat) (made : Result (ℕ × Reply) NoEntry) (r : Result (ℕ × ℕ) Refusal) → IsLegal config (seen_of new)
    → IfOk made (λ m. IsServed before old call.Register m.1 after new) → IfErr made (λ f. IsUnserved config before old call.Register f after new) → IfErr r (λ why. TellsNone made why)
    → IfErr r (λ why. IsUnregistered config before old why after new)
told-none config before after old new made (Ok t) legal good bad told = tt
told-none config before after old new made (Err why) legal good bad told = made-none config before after old new made why legal good bad told

-- ---- either way

pub begins-made-so : (config : Config) (before after : Dial) (old new : Seat) (made : Result (ℕ × Reply) NoEntry)
    → IfOk made (λ m. IsServed before old call.Register m.1 after new) → IfErr made (λ f. IsUnserved config before old call.Register f after new) → BeginsWith (seen_of new) (seen_of old)
begins-made-so config before after old new (Ok m) good bad = begins-made old new (entry_by (number_of old) good.at call.Register m.1) good.made
begins-made-so config before after old new (Err f) good bad = begins-more old new bad.more

pub timed-made-so : (config : Config) (before after : Dial) (old new : Seat) (made : Result (ℕ × Reply) NoEntry)
    → IfOk made (λ m. IsServed before old call.Register m.1 after new) → IfErr made (λ f. IsUnserved config before old call.Register f after new)
    → StaysTimed (mine_of old) before.given (mine_of new) after.given
timed-made-so config before after old new (Ok m) good bad = timed-served before after old new call.Register m.1 refl good
timed-made-so config before after old new (Err f) good bad = timed-unserved config before after old new call.Register f bad
