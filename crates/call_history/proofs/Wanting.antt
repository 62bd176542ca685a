-- A call that can't be made for want of memory: why the machine makes no entry.
use Rattle.std.proofs.Common.{◌≡◌, ℕ, ◌<◌, Bool, true, false, Option, Some, None, refl, sym, ◌∙◌, ap, subst, nat_lt, if◌then◌else◌}
use Rattle.std.proofs.lemmas.Bool.{ltb-true, lt-ltb}
use Rattle.std.proofs.lemmas.Option.{cond_some, none-some}
use Rattle.drmaa_types.specs.declared.identifiers.SessionId.{SessionId}
use Rattle.drmaa_types.specs.declared.filters.JobFilter.{JobFilter}
use Rattle.drmaa_types.specs.declared.refusals.Limit.TheVariants as limit
use Rattle.drmaa_types.specs.declared.refusals.Refusal.{Refusal}
use Rattle.drmaa_types.specs.declared.refusals.Refusal.TheVariants as why
use Rattle.job_template.specs.declared.templates.ReservationTemplate.{ReservationTemplate}
use Rattle.drmaa_model.specs.declared.calls.Call.{Call}
use Rattle.drmaa_model.specs.declared.calls.Call.TheVariants as call
use Rattle.drmaa_model.specs.declared.configs.Config.{Config}
use Rattle.drmaa_model.specs.declared.faults.NoEntry.{NoEntry}
use Rattle.drmaa_model.specs.declared.faults.NoEntry.TheVariants as fault
use Rattle.drmaa_model.specs.declared.looks.Answer.{Answer}
use Rattle.drmaa_model.specs.declared.looks.Answer.TheVariants as told
use Rattle.drmaa_model.specs.declared.looks.Question.{Question}
use Rattle.drmaa_model.specs.declared.looks.Question.TheVariants as question
use Rattle.drmaa_model.specs.AnswerLaws.{answer-cases}
use Rattle.drmaa_model.specs.Effects.{StepAnswer, gives, nothing, not_yet}
use Rattle.drmaa_model.specs.History.{replay}
use Rattle.drmaa_model.specs.RecordedCalls.{recorded}
use Rattle.drmaa_model.specs.ReplyKinds.{kind_of_call}
use Rattle.drmaa_model.specs.Size.{size}
use Rattle.drmaa_model.specs.Steps.{answer}
use Rattle.drmaa_model.specs.Time.{advance}
use Rattle.drmaa_model.specs.World.{World, counted}
use Rattle.drmaa_machine.specs.Applying.{IsTooLarge, is_run_report, is_submission}
use Rattle.drmaa_machine.specs.Chronicles.{Explains, MayWant}
use Rattle.drmaa_machine.specs.Looks.{overfull}
use Rattle.call_history.specs.Calls.{IsLookedAt, IsUnserved}
use Rattle.call_history.specs.Clients.{Seat, seen_of}
use Rattle.call_history.specs.Clocks.{Dial}
use Rattle.call_history.specs.Refused.{IsRefused, is_answered, shortage}
use Rattle.call_history.specs.Refused.IsRefused.{by_fault}
use Rattle.call_history.proofs.Answering.{MakesOne, always}

-- what makes an entry neither waits nor finds nothing
waits-not : (a : StepAnswer) → MakesOne a → a ≡ not_yet → ⊥
waits-not a one is = subst MakesOne is one

finds : (a : StepAnswer) → MakesOne a → a ≡ nothing → ⊥
finds a one is = subst MakesOne is one

-- memory may be wanting for a submission, whatever room the journal has
submits : (w : World) (at : ℕ) (c : Call) → is_answered (kind_of_call c) ≡ true → is_submission c ≡ true → MayWant w at c
submits w at c one is = record {
  waits_not = waits-not (answer w at c) (always at w c one);
  finds = finds (answer w at c) (always at w c one);
  fits = λ n large. is;
}

-- the answer adds no more to the journal than its entry
pub AddsOne : World → StepAnswer → Type 0
AddsOne w (gives r next) = size next ≡ size (counted w)
AddsOne w nothing = ⊥
AddsOne w not_yet = ⊥

pub jobs-add : (at : ℕ) (w : World) (session : SessionId) (f : JobFilter) → AddsOne (advance w at) (answer w at (call.GetJobs session f))
unfolding AddsOne
jobs-add at w session f = answer-cases at (advance w at) (call.GetJobs session f) (AddsOne (advance w at)) (λ why e. refl) (λ free. refl)

pub all-jobs-add : (at : ℕ) (w : World) (session : SessionId) (f : JobFilter) → AddsOne (advance w at) (answer w at (call.AllJobs session f))
unfolding AddsOne
all-jobs-add at w session f = answer-cases at (advance w at) (call.AllJobs session f) (AddsOne (advance w at)) (λ why e. refl) (λ free. refl)

pub request-adds : (at : ℕ) (w : World) (session : SessionId) (t : ReservationTemplate) → AddsOne (advance w at) (answer w at (call.RequestReservation session t))
unfolding AddsOne
request-adds at w session t = answer-cases at (advance w at) (call.RequestReservation session t) (AddsOne (advance w at)) (λ why e. refl) (λ free. refl)

not-over : (most n : ℕ) → (if nat_lt most n then Some n else None) ≡ None → most < n → ⊥
not-over most n is above =
    let t : nat_lt most n ≡ true = lt-ltb most n above in
    none-some n (sym is ∙ ap (λ (b : Bool). if b then Some n else None) t)

over-is : (most n m : ℕ) → (if nat_lt most n then Some n else None) ≡ Some m → (most < n) × (n ≡ m)
over-is most n m is =
    let p = cond_some (nat_lt most n) n m is in
    (ltb-true most n p.0, p.1)

-- where an entry more has room, so has the answer
has-room : (w : World) (at : ℕ) (c : Call) → AddsOne (advance w at) (answer w at c) → overfull (advance w at) ≡ None → (n : ℕ) → IsTooLarge w at c n → ⊥
unfolding AddsOne
has-room w at c adds room n large =
    let e : size large.after ≡ size (counted (advance w at)) = subst (AddsOne (advance w at)) large.answered adds in
    let above : w.config.journal < size (counted (advance w at)) = subst (λ (m : ℕ). w.config.journal < m) (large.size_is ∙ e) large.above in
    not-over w.config.journal (size (counted (advance w at))) room above

-- where it has none, the answer is too large by as much
too-large : (w : World) (at : ℕ) (c : Call) (a : StepAnswer) → answer w at c ≡ a → AddsOne (advance w at) a → (n : ℕ) → overfull (advance w at) ≡ Some n → IsTooLarge w at c n
unfolding AddsOne
too-large w at c (gives r next) is adds n over =
    let e : (w.config.journal < size (counted (advance w at))) × (size (counted (advance w at)) ≡ n) = over-is w.config.journal (size (counted (advance w at))) n over in
    record {
      reply = r;
      after = next;
      answered = is;
      size_is = sym e.1 ∙ sym adds;
      above = subst (λ (m : ℕ). w.config.journal < m) e.1 e.0;
    }
too-large w at c nothing is adds n over = absurd adds
too-large w at c not_yet is adds n over = absurd adds

-- nothing was answered for want of memory, or since the journal would be too large
unserved : (config : Config) (before after : Dial) (old new : Seat) (asked : Question) (answered : Answer) (c : Call) (f : NoEntry)
    → (is : IsLookedAt config before old asked answered after new) → is_run_report (recorded c) ≡ false → Explains (replay config (seen_of new)) is.at (recorded c) f
    → IsUnserved config before old c f after new
unserved config before after old new asked answered c f is other cause = record {
  at = is.at;
  read = is.read;
  more = is.more;
  reason = record {
    cause = cause;
    unreported = λ report free. absurd (let e : true ≡ false = sym report ∙ other in cc);
  };
}

-- a submission for which memory is wanting
pub short-submission : (config : Config) (before after : Dial) (old new : Seat) (asked : Question) (answered : Answer) (c : Call)
    → is_run_report (recorded c) ≡ false → is_answered (kind_of_call (recorded c)) ≡ true → is_submission (recorded c) ≡ true
    → IsLookedAt config before old asked answered after new → IsRefused config before old c why.OutOfMemory after new
short-submission config before after old new asked answered c other one submission is =
    by_fault fault.OutOfMemory refl
    (unserved config before after old new asked answered c fault.OutOfMemory is other (submits (replay config (seen_of new)) is.at (recorded c) one submission))

is-none : (o : Option ℕ) → told.Full None ≡ told.Full o → o ≡ None
is-none o is = cc

is-some : (o : Option ℕ) (n : ℕ) → told.Full (Some n) ≡ told.Full o → o ≡ Some n
is-some o n is = cc

-- a call that adds no more than its entry, where the journal has room for that
has-none : (w : World) (at : ℕ) (c : Call) → is_answered (kind_of_call c) ≡ true → AddsOne (advance w at) (answer w at c) → overfull (advance w at) ≡ None → MayWant w at c
has-none w at c one adds room = record {
  waits_not = waits-not (answer w at c) (always at w c one);
  finds = finds (answer w at c) (always at w c one);
  fits = λ n large. absurd (has-room w at c adds room n large);
}

short-plain : (config : Config) (before after : Dial) (old new : Seat) (c : Call)
    → is_run_report (recorded c) ≡ false → is_answered (kind_of_call (recorded c)) ≡ true → ((w : World) (at : ℕ) → AddsOne (advance w at) (answer w at (recorded c)))
    → IsLookedAt config before old question.Full (told.Full None) after new → IsRefused config before old c why.OutOfMemory after new
short-plain config before after old new c other one adds is =
    by_fault fault.OutOfMemory refl
    (unserved config before after old new question.Full (told.Full None) c fault.OutOfMemory is other
    (has-none (replay config (seen_of new)) is.at (recorded c) one (adds (replay config (seen_of new)) is.at) (is-none (overfull (advance (replay config (seen_of new)) is.at)) is.told)))

-- and where it has none
full-plain : (config : Config) (before after : Dial) (old new : Seat) (c : Call) (n : ℕ)
    → is_run_report (recorded c) ≡ false → ((w : World) (at : ℕ) → AddsOne (advance w at) (answer w at (recorded c)))
    → IsLookedAt config before old question.Full (told.Full (Some n)) after new → IsRefused config before old c (why.OutOfResource (limit.Journal n)) after new
full-plain config before after old new c n other adds is =
    by_fault (fault.Journal n) refl
    (unserved config before after old new question.Full (told.Full (Some n)) c (fault.Journal n) is other
    (too-large (replay config (seen_of new)) is.at (recorded c) (answer (replay config (seen_of new)) is.at (recorded c)) refl (adds (replay config (seen_of new)) is.at) n
    (is-some (overfull (advance (replay config (seen_of new)) is.at)) n is.told)))

-- each of the two
plain-refused : (config : Config) (before after : Dial) (old new : Seat) (c : Call) (size : Option ℕ) (reason : Refusal) → reason ≡ shortage size
    → is_run_report (recorded c) ≡ false → is_answered (kind_of_call (recorded c)) ≡ true → ((w : World) (at : ℕ) → AddsOne (advance w at) (answer w at (recorded c)))
    → IsLookedAt config before old question.Full (told.Full size) after new → IsRefused config before old c reason after new
plain-refused config before after old new c None reason same other one adds is =
    subst (λ (r : Refusal). IsRefused config before old c r after new) (sym same) (short-plain config before after old new c other one adds is)
plain-refused config before after old new c (Some n) reason same other one adds is =
    subst (λ (r : Refusal). IsRefused config before old c r after new) (sym same) (full-plain config before after old new c n other adds is)

-- what is short is what the look at the journal told
pub looked-refused : (config : Config) (before after : Dial) (old new : Seat) (c : Call) (looked : Answer) (reason : Refusal) → ((size : Option ℕ) → looked ≡ told.Full size → reason ≡ shortage size)
    → is_run_report (recorded c) ≡ false → is_answered (kind_of_call (recorded c)) ≡ true → ((w : World) (at : ℕ) → AddsOne (advance w at) (answer w at (recorded c)))
    → IsLookedAt config before old question.Full looked after new → IsRefused config before old c reason after new
looked-refused config before after old new c looked reason tells other one adds is =
    let size : Option ℕ = overfull (advance (replay config (seen_of new)) is.at) in
    plain-refused config before after old new c size reason (tells size is.told) other one adds
    (subst (λ (a : Answer). IsLookedAt config before old question.Full a after new) is.told is)
