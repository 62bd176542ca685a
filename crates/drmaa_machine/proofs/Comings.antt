-- What a call comes to in a world, from what the function that serves it promises.
use Rattle.std.proofs.Common.{◌≡◌, ℕ, ◌<◌, ◌≤◌, true, inl, inr, None, refl, sym, ◌∙◌, ap, subst, arith}
use Rattle.std.specs.Prelude.{◌⊎◌, max, Result, Ok, Err, IsSome}
use Rattle.drmaa_types.specs.Moments.{greatest}
use Rattle.drmaa_types.specs.declared.identifiers.CallerId.{CallerId}
use Rattle.drmaa_types.specs.declared.refusals.Refusal.{Refusal}
use Rattle.drmaa_types.specs.declared.refusals.Refusal.TheVariants as why
use Rattle.drmaa_model.specs.declared.calls.Call.{Call}
use Rattle.drmaa_model.specs.declared.faults.NoEntry.{NoEntry}
use Rattle.drmaa_model.specs.declared.faults.NoEntry.TheVariants as fault
use Rattle.drmaa_model.specs.declared.replies.Reply.{Reply}
use Rattle.drmaa_model.specs.declared.replies.Reply.TheVariants as reply
use Rattle.drmaa_model.specs.AnswerLaws.{given-reply, given-world, refused-gives}
use Rattle.drmaa_model.specs.Consistent.{IsConsistent}
use Rattle.drmaa_model.specs.Effects.{StepAnswer, gives, nothing, not_yet}
use Rattle.drmaa_model.specs.Honoured.{reservations-honoured}
use Rattle.drmaa_model.specs.NextLaunch.{next_launch}
use Rattle.drmaa_model.specs.Size.{size}
use Rattle.drmaa_model.specs.StepLaws.{advance-consistent, step-edges}
use Rattle.drmaa_model.specs.Steps.{answer, IsStep}
use Rattle.drmaa_model.specs.Time.{advance}
use Rattle.drmaa_model.specs.WaitLaws.{launch-hands_out, launch-nothing, signal-sends_out}
use Rattle.drmaa_model.specs.World.{World, counted}
use Rattle.machine_calls.specs.declared.replies.Replies.{Replies}
use Rattle.machine_calls.specs.Serving.{Comes, is_sized_first}
use Rattle.machine_calls.specs.Serving.Comes.{answers, is_full, finds_none, waits, is_short}
use Rattle.drmaa_machine.specs.Applies.{ComesTo, entry_of}
use Rattle.drmaa_machine.specs.Applying.{IsTooLarge, is_submission}
use Rattle.drmaa_machine.proofs.RecordedLaws.{sized-or}
use Rattle.drmaa_machine.proofs.Refusing.{refused-for, over-answer}

gives-nothing : (r : Reply) (w : World) → gives r w ≡ nothing → ⊥
gives-nothing r w e = cc

gives-not_yet : (r : Reply) (w : World) → gives r w ≡ not_yet → ⊥
gives-not_yet r w e = cc

nothing-not_yet : nothing ≡ not_yet → ⊥
nothing-not_yet e = cc

same-reason : (r : Reply) (reason : Refusal) → ◌≡◌ {A = Result Reply NoEntry} (Ok r) (Ok (reply.Refused reason)) → r ≡ reply.Refused reason
same-reason r reason e = cc

ok-err : {A : Type 0} (r : Reply) (e : NoEntry) → ◌≡◌ {A = Result Reply NoEntry} (Ok r) (Err e) → A
ok-err r e is = absurd (cc)

same-fault : (e f : NoEntry) → ◌≡◌ {A = Result Reply NoEntry} (Err e) (Err f) → e ≡ f
same-fault e f is = cc

err-same : (e f : NoEntry) → e ≡ f → ◌≡◌ {A = Result Reply NoEntry} (Err e) (Err f)
err-same e f is = ap (λ (x : NoEntry). let r : Result Reply NoEntry = Err x in r) is

same-size : (n m : ℕ) → fault.Journal n ≡ fault.Journal m → n ≡ m
same-size n m is = cc

module _ (w : World) (caller : CallerId) (at : ℕ) (asked : Call) where
  abbrev does : StepAnswer
  does = answer w at asked

  -- two answers with an entry have the same world
  one-world : (r s : Reply) (u v : World) → does ≡ gives r u → does ≡ gives s v → u ≡ v
  one-world r s u v a b = given-world r s u v (sym a ∙ b)

  -- ---- a call that is served

  pub comes-ok : (told : Reply) (next : World) → IsConsistent w → answer w at asked ≡ gives told next → size next ≤ w.config.journal → ComesTo w caller at asked (Ok told) next
  comes-ok told next ok answered within =
      let step : IsStep w (entry_of caller at asked told) next = record { answered = answered; within = within } in
      record {
        step = step;
        waits = (λ e. ok-err told fault.NotYet e, λ e. absurd (gives-not_yet told next (sym answered ∙ e)));
        finds_nothing = (λ e. ok-err told fault.Nothing e, λ e. absurd (gives-nothing told next (sym answered ∙ e)));
        full = λ n e. ok-err told (fault.Journal n) e;
        above = λ n large.
            (let same : size next ≡ size large.after = ap size (one-world told large.reply next large.after answered large.answered) in
            let high = large.above in
            let is = large.size_is in
            absurd (omega arith));
        refuses = λ reason is. given-reply told (reply.Refused reason) next (counted (advance w at)) (sym answered ∙ refused-gives at (advance w at) asked reason is);
        over = λ x. given-reply told (reply.Refused why.Timeout) next (counted (advance w at)) (sym answered ∙ over-answer w at asked x);
        refused = λ reason is. refused-for w at asked reason next (answered ∙ ap (λ r. gives r next) (same-reason told reason is));
        edges = step-edges w (entry_of caller at asked told) next ok step;
        launch = λ is. launch-hands_out (advance w at) at told next (ap (answer w at) (sym is) ∙ answered);
        signal = λ is. signal-sends_out (advance w at) at told next (ap (answer w at) (sym is) ∙ answered);
        honoured = λ row is time due e. ok-err told fault.Nothing e;
      }

  -- ---- a call that makes no entry

  -- an error of a call that would make one
  failed : (e : NoEntry) (next : World) (r : Reply) (after : World) → answer w at asked ≡ gives r after → (e ≡ fault.NotYet → ⊥) → (e ≡ fault.Nothing → ⊥)
      → ((n : ℕ) → e ≡ fault.Journal n → IsTooLarge w at asked n)
      → ((n : ℕ) → IsTooLarge w at asked n → (e ≡ fault.Journal n) ⊎ ((e ≡ fault.OutOfMemory) × (is_submission asked ≡ true)))
      → ComesTo w caller at asked (Err e) next
  failed e next r after answered no_wait no_launch full above =
      record {
        step = tt;
        waits = (λ is. absurd (no_wait (same-fault e fault.NotYet is)), λ is. absurd (gives-not_yet r after (sym answered ∙ is)));
        finds_nothing = (λ is. absurd (no_launch (same-fault e fault.Nothing is)), λ is. absurd (gives-nothing r after (sym answered ∙ is)));
        full = λ n is. full n (same-fault e (fault.Journal n) is);
        above = λ n large.
            (elim (above n large) as (λ _. (◌≡◌ {A = Result Reply NoEntry} (Err e) (Err (fault.Journal n))) ⊎ ((◌≡◌ {A = Result Reply NoEntry} (Err e) (Err fault.OutOfMemory)) × (is_submission asked ≡ true))) [
              | inl is ↦ inl (err-same e (fault.Journal n) is)
              | inr both ↦ inr (err-same e fault.OutOfMemory both.0, both.1)
            ]);
        refuses = λ reason is. tt;
        over = λ x. tt;
        refused = λ reason is. absurd (cc);
        edges = tt;
        launch = λ is. tt;
        signal = λ is. tt;
        honoured = λ row is time due wrong. no_launch (same-fault e fault.Nothing wrong);
      }

  failed-full : (next : World) (r : Reply) (after : World) → answer w at asked ≡ gives r after → w.config.journal < size after → ComesTo w caller at asked (Err (fault.Journal (size after))) next
  failed-full next r after answered high =
      failed (fault.Journal (size after)) next r after answered (λ is. cc) (λ is. cc)
      (λ n is. (let same : n ≡ size after = sym (same-size (size after) n is) in record { reply = r; after = after; answered = answered; size_is = same; above = omega arith }))
      (λ n large. inl (ap fault.Journal (ap size (one-world r large.reply after large.after answered large.answered) ∙ sym large.size_is)))

  failed-short : (next : World) (r : Reply) (after : World) → answer w at asked ≡ gives r after → (is_sized_first asked ≡ true → size after ≤ w.config.journal) → ComesTo w caller at asked (Err fault.OutOfMemory) next
  failed-short next r after answered sized =
      failed fault.OutOfMemory next r after answered (λ is. cc) (λ is. cc) (λ n is. absurd (cc))
      (λ n large.
      (let same : size after ≡ size large.after = ap size (one-world r large.reply after large.after answered large.answered) in
      elim (sized-or asked) as (λ _. (fault.OutOfMemory ≡ fault.Journal n) ⊎ ((fault.OutOfMemory ≡ fault.OutOfMemory) × (is_submission asked ≡ true))) [
        | inl first ↦
            (let low = sized first in
            let high = large.above in
            let is = large.size_is in
            absurd (omega arith))
        | inr submits ↦ inr (refl, submits)
      ]))

  failed-nothing : (next : World) → IsConsistent w → w.plan.moment ≤ greatest → at ≤ greatest → answer w at asked ≡ nothing → ComesTo w caller at asked (Err fault.Nothing) next
  failed-nothing next ok now coming answered = record {
    step = tt;
    waits = (λ is. (let same = same-fault fault.Nothing fault.NotYet is in absurd (cc)), λ is. absurd (nothing-not_yet (sym answered ∙ is)));
    finds_nothing = (λ is. answered, λ is. refl);
    full = λ n is. (let same = same-fault fault.Nothing (fault.Journal n) is in absurd (cc));
    above = λ n large. absurd (gives-nothing large.reply large.after (sym large.answered ∙ answered));
    refuses = λ reason is. tt;
    over = λ x. tt;
    refused = λ reason is. absurd (cc);
    edges = tt;
    launch = λ is. tt;
    signal = λ is. tt;
    honoured = λ row is time due wrong.
        (let v = advance w at in
        let low : max w.plan.moment at ≤ greatest = omega arith in
        let some : IsSome (next_launch v.plan) = (reservations-honoured v.plan row low (advance-consistent w at ok).fit time due).1 in
        let none : next_launch v.plan ≡ None = launch-nothing v at (ap (answer w at) (sym is) ∙ answered) in
        (let gone = subst IsSome none some in absurd (cc)));
  }

  failed-waits : (next : World) → answer w at asked ≡ not_yet → ComesTo w caller at asked (Err fault.NotYet) next
  failed-waits next answered = record {
    step = tt;
    waits = (λ is. answered, λ is. refl);
    finds_nothing = (λ is. (let same = same-fault fault.NotYet fault.Nothing is in absurd (cc)), λ is. absurd (nothing-not_yet (sym is ∙ answered)));
    full = λ n is. (let same = same-fault fault.NotYet (fault.Journal n) is in absurd (cc));
    above = λ n large. absurd (gives-not_yet large.reply large.after (sym large.answered ∙ answered));
    refuses = λ reason is. tt;
    over = λ x. tt;
    refused = λ reason is. absurd (cc);
    edges = tt;
    launch = λ is. tt;
    signal = λ is. tt;
    honoured = λ row is time due wrong. (let same = same-fault fault.NotYet fault.Nothing wrong in absurd (cc));
  }

  no-replies : {A : Type 0} (e : NoEntry) (replies : Replies) → ◌≡◌ {A = Result Replies NoEntry} (Err e) (Ok replies) → A
  no-replies e replies is = absurd (cc)

  as-fault : (e f : NoEntry) → ◌≡◌ {A = Result Replies NoEntry} (Err e) (Err f) → e ≡ f
  as-fault e f is = cc

  -- What an error says, and that nothing has changed.
  pub comes-err : (e : NoEntry) (next : World) → IsConsistent w → w.plan.moment ≤ greatest → at ≤ greatest → Comes w at asked (Err e) next
      → ComesTo w caller at asked (Err e) next × (next ≡ w)
  comes-err e next ok now coming (answers replies is answered twice within) = no-replies e replies is
  comes-err e next ok now coming (is_full r after is answered high same) =
      (subst (λ (f : NoEntry). ComesTo w caller at asked (Err f) next) (sym (as-fault e (fault.Journal (size after)) is)) (failed-full next r after answered high), same)
  comes-err e next ok now coming (finds_none is answered same) =
      (subst (λ (f : NoEntry). ComesTo w caller at asked (Err f) next) (sym (as-fault e fault.Nothing is)) (failed-nothing next ok now coming answered), same)
  comes-err e next ok now coming (waits is answered same) =
      (subst (λ (f : NoEntry). ComesTo w caller at asked (Err f) next) (sym (as-fault e fault.NotYet is)) (failed-waits next answered), same)
  comes-err e next ok now coming (is_short r after is answered sized same) =
      (subst (λ (f : NoEntry). ComesTo w caller at asked (Err f) next) (sym (as-fault e fault.OutOfMemory is)) (failed-short next r after answered sized), same)

  -- the replies and the next world of a call that is served
  pub record Answered (replies : Replies) (next : World) : Type 0 where
    pub answered : answer w at asked ≡ gives replies.told next
    pub twice : replies.recorded ≡ replies.told
    pub within : size next ≤ w.config.journal

  same-replies : (r s : Replies) → ◌≡◌ {A = Result Replies NoEntry} (Ok r) (Ok s) → r ≡ s
  same-replies r s is = cc

  pub comes-answered : (replies : Replies) (next : World) → Comes w at asked (Ok replies) next → Answered replies next
  comes-answered replies next (answers r is answered twice within) =
      subst (λ (x : Replies). Answered x next) (sym (same-replies replies r is)) record { answered = answered; twice = twice; within = within }
  comes-answered replies next (is_full r after is answered high same) = absurd (cc)
  comes-answered replies next (finds_none is answered same) = absurd (cc)
  comes-answered replies next (waits is answered same) = absurd (cc)
  comes-answered replies next (is_short r after is answered sized same) = absurd (cc)
