-- How registrations go on in a history, and where a number has its place in it.
use Rattle.std.proofs.Common.{◌≡◌, ℕ, ◌+◌, ◌<◌, ◌≤◌, Bool, true, false, cond, leb, inl, inr, List, [], ◌∷◌, ◌++◌, length, Option, Some, None, refl, sym, ◌∙◌, ap, subst, arith}
use Rattle.std.specs.Option.{option_map_or}
use Rattle.std.proofs.lemmas.Bool.{eqb-true, eq-eqb, leb-false, leb-true}
use Rattle.drmaa_types.specs.declared.refusals.Limit.TheVariants as resource
use Rattle.drmaa_types.specs.declared.refusals.Refusal.{Refusal}
use Rattle.drmaa_types.specs.declared.refusals.Refusal.TheVariants.{OutOfResource}
use Rattle.drmaa_types.specs.declared.sessions.SessionKind.{SessionKind}
use Rattle.drmaa_types.specs.declared.sessions.SessionKind.TheVariants.{Jobs, Reservations}
use Rattle.drmaa_model.specs.AnswerLaws.{answer-cases, reply-kind}
use Rattle.drmaa_model.specs.declared.calls.Call.{Call}
use Rattle.drmaa_model.specs.declared.calls.Call.TheVariants as call
use Rattle.drmaa_model.specs.declared.entries.Entry.{Entry}
use Rattle.drmaa_model.specs.declared.replies.Reply.{Reply}
use Rattle.drmaa_model.specs.declared.replies.Reply.TheVariants as reply
use Rattle.drmaa_model.specs.Effects.{StepAnswer, gives, nothing, not_yet, makes, through_some, destroy, forget_home, wait_answer, effect}
use Rattle.drmaa_model.specs.Heard.{registers, place_from}
use Rattle.drmaa_model.specs.History.{after_entry, replay_from, IsLegalFrom}
use Rattle.drmaa_model.specs.Launching.{launch, signal}
use Rattle.drmaa_model.specs.Operation.{Operation}
use Rattle.drmaa_model.specs.Refusals.{most_callbacks}
use Rattle.drmaa_model.specs.ReplyKinds.{kind_of_call, kind_of_reply, a_callback, a_refusal, IsReplyOf}
use Rattle.drmaa_model.specs.Steps.{answer, IsStep}
use Rattle.drmaa_model.specs.Time.{advance}
use Rattle.drmaa_model.specs.Waiting.{first_reached, is_timed_out}
use Rattle.drmaa_model.specs.World.{World, counted}
use Rattle.session_table.specs.Sessions.{destroyed, home_of}

-- ---- one entry

-- an entry registers no fewer callbacks
NoFewer : World → StepAnswer → Type 0
NoFewer w (gives r next) = w.registrations ≤ next.registrations
NoFewer w nothing = Unit {0}
NoFewer w not_yet = Unit {0}

same : (n : ℕ) → n ≤ n
same n = omega arith

destroyed-same : (kind : SessionKind) (name : List ℕ) (w : World) → w.registrations ≤ (destroy kind name w).registrations
destroyed-same kind name w =
    elim (home_of kind name w.sessions.named) as (λ o. w.registrations ≤ (option_map_or (λ (home : ℕ). record w { sessions = destroyed home w.sessions; plan = forget_home home w.plan }) o w).registrations) [
      | None ↦ same w.registrations
      | Some home ↦ same w.registrations
    ]

waited-same : (w : World) (first : Option ℕ) (over : Bool) → NoFewer w (wait_answer first over w)
unfolding NoFewer
waited-same w None true = same w.registrations
waited-same w None false = tt
waited-same w (Some job) over = same w.registrations

some-same : {A : Type 0} (tell : A → Reply) (op : Operation (Option A)) (w : World) → NoFewer w (through_some tell op w)
unfolding NoFewer
some-same tell op w =
    elim (op.told w.plan) as (λ o. NoFewer w (option_map_or (λ told. makes (tell told) (record w { plan = op.effect (w.entries + 1) w.plan })) o nothing)) [
      | None ↦ tt
      | Some told ↦ same w.registrations
    ]

effect-no_fewer : (at : ℕ) (w : World) (c : Call) → NoFewer w (effect at w c)
unfolding NoFewer
effect-no_fewer at w (call.DestroyJobSession name) = destroyed-same Jobs name w
effect-no_fewer at w (call.DestroyReservationSession name) = destroyed-same Reservations name w
effect-no_fewer at w (call.Wait session listed kind begun timeout) = waited-same w (first_reached kind w.plan.rows listed) (is_timed_out at begun timeout)
effect-no_fewer at w call.Register = omega arith
effect-no_fewer at w call.TakeLaunch = some-same reply.Launch launch w
effect-no_fewer at w call.TakeSignal = some-same reply.Signal signal w
effect-no_fewer at w _ = same w.registrations

pub step-no_fewer : (w : World) (entry : Entry) (next : World) → IsStep w entry next → w.registrations ≤ next.registrations
unfolding NoFewer
step-no_fewer w entry next step =
    subst (NoFewer w) step.answered (answer-cases entry.at (advance w entry.at) entry.call (NoFewer w) (λ why e. same w.registrations) (λ free. effect-no_fewer entry.at (advance w entry.at) entry.call))

only-register : (c : Call) → kind_of_call c ≡ a_callback → c ≡ call.Register
only-register call.Register is = refl
only-register _ is = absurd (cc)

-- only Register is answered a callback's number
register-of : (c : Call) (n : ℕ) → IsReplyOf c (reply.Callback n) → c ≡ call.Register
register-of c n is = elim is [ inl e ↦ absurd (cc) | inr e ↦ only-register c (sym e) ]

-- the callback with this number was registered
pub record Registers (w : World) (n : ℕ) (next : World) : Type 0 where
  pub number : n ≡ w.registrations + 1
  pub after : next.registrations ≡ n
  pub few : w.registrations < 64

-- a Register is refused as there are 64
pub record RegistersNone (w : World) (why : Refusal) (next : World) : Type 0 where
  pub full : why ≡ OutOfResource resource.Callbacks
  pub most : 64 ≤ w.registrations
  pub after : next.registrations ≡ w.registrations

-- what an answer to Register says
abbrev Said : World → StepAnswer → Type 0
Said w a = ((n : ℕ) (next : World) → a ≡ gives (reply.Callback n) next → Registers w n next) × ((why : Refusal) (next : World) → a ≡ gives (reply.Refused why) next → RegistersNone w why next)

gives-world : (r q : Reply) (v next : World) → gives r v ≡ gives q next → v ≡ next
gives-world r q v next e = cc

gives-reply : (r q : Reply) (v next : World) → gives r v ≡ gives q next → r ≡ q
gives-reply r q v next e = cc

same-number : (m n : ℕ) → reply.Callback m ≡ reply.Callback n → m ≡ n
same-number m n e = cc

same-reason : (m n : Refusal) → reply.Refused m ≡ reply.Refused n → m ≡ n
same-reason m n e = cc

no-callback : (why : Refusal) (n : ℕ) → reply.Refused why ≡ reply.Callback n → ⊥
no-callback why n e = cc

no-refusal : (why : Refusal) (n : ℕ) → reply.Callback n ≡ reply.Refused why → ⊥
no-refusal why n e = cc

-- the one test of Register
test-refuses : (b : Bool) (r why : Refusal) → cond b (Some r) None ≡ Some why → (b ≡ true) × (r ≡ why)
test-refuses true r why e = (refl, (let same : r ≡ why = cc in same))
test-refuses false r why e = absurd (cc)

test-passes : (b : Bool) (r : Refusal) → cond b (Some r) None ≡ None → b ≡ false
test-passes true r e = absurd (cc)
test-passes false r e = refl

register-said : (w : World) (at : ℕ) → Said w (answer w at call.Register)
register-said w at = answer-cases at (advance w at) call.Register (Said w)
    (λ why is. (
      (λ n next e. absurd (no-callback why n (gives-reply (reply.Refused why) (reply.Callback n) (counted (advance w at)) next e))),
      (λ told next e.
          let t = test-refuses (leb most_callbacks w.registrations) (OutOfResource resource.Callbacks) why is in
          record {
            full = sym (t.1 ∙ same-reason why told (gives-reply (reply.Refused why) (reply.Refused told) (counted (advance w at)) next e));
            most = leb-true most_callbacks w.registrations t.0;
            after = sym (ap (λ (v : World). v.registrations) (gives-world (reply.Refused why) (reply.Refused told) (counted (advance w at)) next e));
          }),
    ))
    (λ free.
    let v : World = counted (record (advance w at) { registrations = w.registrations + 1 }) in (
      (λ n next e.
          let number : w.registrations + 1 ≡ n = same-number (w.registrations + 1) n (gives-reply (reply.Callback (w.registrations + 1)) (reply.Callback n) v next e) in
          record {
            number = sym number;
            after = sym (ap (λ (u : World). u.registrations) (gives-world (reply.Callback (w.registrations + 1)) (reply.Callback n) v next e)) ∙ number;
            few = leb-false most_callbacks w.registrations (test-passes (leb most_callbacks w.registrations) (OutOfResource resource.Callbacks) free);
          }),
      (λ told next e. absurd (no-refusal told (w.registrations + 1) (gives-reply (reply.Callback (w.registrations + 1)) (reply.Refused told) v next e))),
    ))

-- an entry whose reply is a callback's number is a Register
pub step-register-call : (w : World) (entry : Entry) (next : World) (n : ℕ) → IsStep w entry next → entry.reply ≡ reply.Callback n → entry.call ≡ call.Register
step-register-call w entry next n step is =
    register-of entry.call n (reply-kind w entry.at entry.call (reply.Callback n) next (step.answered ∙ ap (λ (r : Reply). gives r next) is))

-- this is its next number
pub step-registers : (w : World) (entry : Entry) (next : World) (n : ℕ) → IsStep w entry next → entry.reply ≡ reply.Callback n → Registers w n next
step-registers w entry next n step is =
    let told : answer w entry.at entry.call ≡ gives (reply.Callback n) next = step.answered ∙ ap (λ (r : Reply). gives r next) is in
    let own : entry.call ≡ call.Register = register-of entry.call n (reply-kind w entry.at entry.call (reply.Callback n) next told) in
    (register-said w entry.at).0 n next (ap (answer w entry.at) (sym own) ∙ told)

-- a Register that is refused is beyond the 64th
pub step-refuses : (w : World) (entry : Entry) (next : World) (why : Refusal) → IsStep w entry next → entry.call ≡ call.Register → entry.reply ≡ reply.Refused why → RegistersNone w why next
step-refuses w entry next why step own is =
    (register-said w entry.at).1 why next (ap (answer w entry.at) (sym own) ∙ step.answered ∙ ap (λ (r : Reply). gives r next) is)

-- a Register is answered a callback's number, or a refusal
pub register-replies : (w : World) (entry : Entry) (next : World) → IsStep w entry next → entry.call ≡ call.Register → (kind_of_reply entry.reply ≡ a_refusal → ⊥) → kind_of_reply entry.reply ≡ a_callback
register-replies w entry next step own served =
    elim (reply-kind w entry.at entry.call entry.reply next step.answered) [ inl e ↦ absurd (served e) | inr e ↦ e ∙ ap kind_of_call own ]

-- ---- many entries

pub run-no_fewer : (w : World) (entries : List Entry) → IsLegalFrom w entries → w.registrations ≤ (replay_from w entries).registrations
run-no_fewer w [] legal = same w.registrations
run-no_fewer w (x ∷ xs) legal =
    let one = step-no_fewer w x (after_entry w x) legal.0 in
    let rest = run-no_fewer (after_entry w x) xs legal.1 in
    omega (arith, one, rest)

pub registers-is : (n : ℕ) (r : Reply) → registers n r ≡ true → r ≡ reply.Callback n
registers-is n (reply.Callback number) is = ap reply.Callback (eqb-true number n is)
registers-is n _ is = absurd (cc)

pub registers-own : (n : ℕ) (r : Reply) → r ≡ reply.Callback n → registers n r ≡ true
registers-own n r is = ap (registers n) is ∙ eq-eqb n n refl

-- a place stays where a history goes on
pub place-stays : (w : World) (n place : ℕ) (xs ys : List Entry) → place_from w n xs ≡ Some place → place_from w n (xs ++ ys) ≡ Some place
place-stays w n place [] ys is = absurd (cc)
place-stays w n place (x ∷ xs) ys is =
    (elim (registers n x.reply) as (λ b. cond b (Some (length (after_entry w x).plan.changes)) (place_from (after_entry w x) n xs) ≡ Some place
    → cond b (Some (length (after_entry w x).plan.changes)) (place_from (after_entry w x) n (xs ++ ys)) ≡ Some place) [
      | true ↦ λ e. e
      | false ↦ λ e. place-stays (after_entry w x) n place xs ys e
    ]) is

-- a number that has a place is one of those that were registered since
pub record IsAmong (n before after : ℕ) : Type 0 where
  pub above : before < n
  pub within : n ≤ after

pub placed-among : (w : World) (n place : ℕ) (xs : List Entry) → IsLegalFrom w xs → place_from w n xs ≡ Some place → IsAmong n w.registrations (replay_from w xs).registrations
placed-among w n place [] legal is = absurd (cc)
placed-among w n place (x ∷ xs) legal is =
    let next : World = after_entry w x in
    let end : ℕ = (replay_from next xs).registrations in
    (elim (registers n x.reply) as (λ b. registers n x.reply ≡ b → cond b (Some (length next.plan.changes)) (place_from next n xs) ≡ Some place → IsAmong n w.registrations end) [
      | true ↦ λ own e.
          (let r = step-registers w x next n legal.0 (registers-is n x.reply own) in
          let number = r.number in
          let after = r.after in
          let rest = run-no_fewer next xs legal.1 in
          record { above = omega (arith, number); within = omega (arith, after, rest) })
      | false ↦ λ own e.
          (let more = placed-among next n place xs legal.1 e in
          let above = more.above in
          let one = step-no_fewer w x next legal.0 in
          record { above = omega (arith, above, one); within = more.within })
    ]) refl is

-- the place of a number that the last entry registers first
pub place-last : (w : World) (n : ℕ) (xs : List Entry) (e : Entry) → IsLegalFrom w xs → (replay_from w xs).registrations < n → e.reply ≡ reply.Callback n
    → place_from w n (xs ++ e ∷ []) ≡ Some (length (after_entry (replay_from w xs) e).plan.changes)
place-last w n [] e legal new is = ap (λ b. cond b (Some (length (after_entry w e).plan.changes)) None) (registers-own n e.reply is)
place-last w n (x ∷ xs) e legal new is =
    let next : World = after_entry w x in
    (elim (registers n x.reply) as (λ b. registers n x.reply ≡ b
    → cond b (Some (length next.plan.changes)) (place_from next n (xs ++ e ∷ [])) ≡ Some (length (after_entry (replay_from next xs) e).plan.changes)) [
      | true ↦ λ own.
          (let r = step-registers w x next n legal.0 (registers-is n x.reply own) in
          let after = r.after in
          let rest = run-no_fewer next xs legal.1 in
          absurd (omega (arith, after, rest, new)))
      | false ↦ λ own. place-last next n xs e legal.1 new is
    ]) refl
