-- From what the table of sessions has answered to what a call comes to.
use Rattle.std.proofs.Common.{◌≡◌, ◌≢◌, ℕ, ◌+◌, ◌≤◌, true, ◌⊎◌, inl, inr, List, Option, Some, refl, sym, ◌∙◌, ap, subst, arith}
use Rattle.std.specs.Prelude.{IsTrue, Result, Ok, Err, IfOk, OnOk, OnErr}
use Rattle.session_table.specs.Sessions.{Sessions, RefusesAs, create_refusal, open_refusal, created, opened, home_of, has_names}
use Rattle.drmaa_types.specs.declared.identifiers.SessionId.{SessionId}
use Rattle.drmaa_types.specs.declared.refusals.Refusal.{Refusal}
use Rattle.drmaa_types.specs.declared.refusals.Refusal.TheVariants.{DeniedByDrms, TryLater, Timeout, InvalidArgument, InvalidSession, InvalidState, OutOfResource, OutOfMemory, UnsupportedAttribute, UnsupportedOperation}
use Rattle.drmaa_types.specs.declared.sessions.SessionKind.{SessionKind}
use Rattle.drmaa_types.specs.declared.sessions.SessionKind.TheVariants.{Jobs, Reservations, Monitoring}
use Rattle.drmaa_model.specs.declared.calls.Call.{Call}
use Rattle.drmaa_model.specs.declared.faults.NoEntry.{NoEntry}
use Rattle.drmaa_model.specs.declared.replies.Reply.{Reply}
use Rattle.drmaa_model.specs.declared.replies.Reply.TheVariants as reply
use Rattle.drmaa_model.specs.AnswerLaws.{refused-gives, served-gives}
use Rattle.drmaa_model.specs.Consistent.{IsConsistent}
use Rattle.drmaa_model.specs.Effects.{gives, effect, new_number}
use Rattle.drmaa_model.specs.Refusals.{refusal}
use Rattle.drmaa_model.specs.Size.{size, weight}
use Rattle.drmaa_model.specs.Time.{advance}
use Rattle.drmaa_model.specs.TimeLaws.{weight-advance}
use Rattle.drmaa_model.specs.World.{World, counted}
use Rattle.machine_readings.specs.declared.store.Store.{Store}
use Rattle.machine_readings.specs.Stores.{world_of}
use Rattle.machine_calls.specs.declared.replies.Replies.{Replies}
use Rattle.machine_calls.specs.Opening.{Opens, create_call, open_call}
use Rattle.machine_calls.specs.Serving.{Comes}
use Rattle.machine_calls.specs.Serving.Comes.{answers}
use Rattle.machine_calls.proofs.Sizes.{is_plain, planned, short-of}

memory-or : (why : Refusal) → (why ≡ OutOfMemory) ⊎ (why ≢ OutOfMemory)
memory-or (DeniedByDrms m) = inr (λ e. absurd (cc))
memory-or (TryLater a b) = inr (λ e. absurd (cc))
memory-or Timeout = inr (λ e. absurd (cc))
memory-or (InvalidArgument a) = inr (λ e. absurd (cc))
memory-or InvalidSession = inr (λ e. absurd (cc))
memory-or (InvalidState s) = inr (λ e. absurd (cc))
memory-or (OutOfResource l) = inr (λ e. absurd (cc))
memory-or OutOfMemory = inl refl
memory-or (UnsupportedAttribute a) = inr (λ e. absurd (cc))
memory-or UnsupportedOperation = inr (λ e. absurd (cc))

module _ (w : World) (at : ℕ) (asked : Call) (ok : IsConsistent w) (plain : is_plain asked ≡ true) (within : w.entries + 1 + weight w.plan ≤ w.config.journal)
    (r : Option Refusal) (after s : Sessions) (refuses : refusal (advance w at) asked ≡ r) (does : effect at (advance w at) asked ≡ new_number after (advance w at))
    (result : Result Replies NoEntry) (next : World) where
  fits : size (counted (advance w at)) ≤ w.config.journal
  fits = (let same = weight-advance (w.entries + 1) at w.plan in omega (arith, same, within))

  pub session-comes : (made : Result SessionId Refusal) → RefusesAs r made → IfOk made (λ (session : SessionId). session.0 ≡ w.sessions.next_session) → OnOk made (s ≡ after) → OnErr made (s ≡ w.sessions)
      → Opens made (record w { sessions = s }) at result next → Comes w at asked result next
  session-comes (Ok session) none number made same ends =
      (let v = advance w at in
      let replies = ends.0 in
      let told : replies.told ≡ reply.Session (record { 0 = v.sessions.next_session }) = ends.2.told ∙ ap (λ n. reply.Session (record { 0 = n })) number in
      let there : next ≡ counted (record v { sessions = after }) = ends.3 ∙ ap (λ (x : Sessions). counted (record v { sessions = x })) made in
      answers replies ends.1
      (served-gives at v asked (refuses ∙ none) ∙ does ∙ ap (λ (x : Reply). gives x (counted (record v { sessions = after }))) (sym told) ∙ ap (λ (x : World). gives replies.told x) (sym there))
      (ends.2.recorded ∙ sym ends.2.told)
      (subst (λ (x : World). size x ≤ w.config.journal) (sym there) fits))
  session-comes (Err why) refused number made same ends =
      (let v = advance w at in
      let back : record w { sessions = s } ≡ w = ap (λ (x : Sessions). record w { sessions = x }) same in
      elim (memory-or why) [
        | inl memory ↦
            (let ended = ends.0 memory in
            subst (λ (x : Result Replies NoEntry). Comes w at asked x next) (sym ended.0) (short-of w next at asked (planned w at asked ok plain) within (ended.1 ∙ back)))
        | inr other ↦
            (let ended = ends.1 other in
            let replies = ended.0 in
            let there : next ≡ counted v = ended.3 ∙ ap (λ (x : World). counted (advance x at)) back in
            let is : r ≡ Some why = elim refused [ inl e ↦ e | inr both ↦ absurd (other both.1) ] in
            answers replies ended.1
            (refused-gives at v asked why (refuses ∙ is) ∙ ap (λ (x : Reply). gives x (counted v)) (sym ended.2.told) ∙ ap (λ (x : World). gives replies.told x) (sym there))
            (ended.2.recorded ∙ sym ended.2.told)
            (subst (λ (x : World). size x ≤ w.config.journal) (sym there) fits))
      ])

-- after memory for the entry was taken
pub session-after : (s mid : Store) (at : ℕ) (asked : Call) → IsConsistent (world_of s) → is_plain asked ≡ true → s.entries + 1 + weight s.core.plan ≤ s.config.journal
    → world_of mid ≡ world_of s → (rf : Sessions → Option Refusal) (af : Sessions → Sessions)
    → ((w : World) → refusal (advance w at) asked ≡ rf w.sessions) → ((w : World) → effect at (advance w at) asked ≡ new_number (af w.sessions) (advance w at))
    → (made : Result SessionId Refusal) (t : Sessions) → RefusesAs (rf mid.sessions) made → IfOk made (λ (session : SessionId). session.0 ≡ mid.sessions.next_session)
    → OnOk made (t ≡ af mid.sessions) → OnErr made (t ≡ mid.sessions) → (result : Result Replies NoEntry) (next : World) → Opens made (record (world_of mid) { sessions = t }) at result next
    → Comes (world_of s) at asked result next
session-after s mid at asked ok plain within same rf af refuses does made t refused number effect_is unchanged result next ends =
    let w = world_of mid in
    let within_then : w.entries + 1 + weight w.plan ≤ w.config.journal = subst (λ (x : World). x.entries + 1 + weight x.plan ≤ x.config.journal) (sym same) within in
    subst (λ (x : World). Comes x at asked result next) same
    (session-comes w at asked (subst IsConsistent (sym same) ok) plain within_then (rf w.sessions) (af w.sessions) t (refuses w) (does w) result next made refused number effect_is unchanged ends)

pub create-plain : (kind : SessionKind) (name : Option (List ℕ)) → is_plain (create_call kind name) ≡ true
create-plain Jobs name = refl
create-plain Reservations name = refl
create-plain Monitoring name = refl

pub create-refuses : (kind : SessionKind) (name : Option (List ℕ)) → IsTrue (has_names kind) → (at : ℕ) (w : World) → refusal (advance w at) (create_call kind name) ≡ create_refusal kind name w.sessions
create-refuses Jobs name has at w = refl
create-refuses Reservations name has at w = refl
create-refuses Monitoring name has at w = absurd (cc)

pub create-does : (kind : SessionKind) (name : Option (List ℕ)) → IsTrue (has_names kind) → (at : ℕ) (w : World)
    → effect at (advance w at) (create_call kind name) ≡ new_number (created kind name w.sessions) (advance w at)
create-does Jobs name has at w = refl
create-does Reservations name has at w = refl
create-does Monitoring name has at w = absurd (cc)

pub open-plain : (kind : SessionKind) (name : List ℕ) → is_plain (open_call kind name) ≡ true
open-plain Jobs name = refl
open-plain Reservations name = refl
open-plain Monitoring name = refl

pub open-refuses : (kind : SessionKind) (name : List ℕ) → IsTrue (has_names kind) → (at : ℕ) (w : World) → refusal (advance w at) (open_call kind name) ≡ open_refusal kind name w.sessions
open-refuses Jobs name has at w = refl
open-refuses Reservations name has at w = refl
open-refuses Monitoring name has at w = absurd (cc)

pub open-does : (kind : SessionKind) (name : List ℕ) → IsTrue (has_names kind) → (at : ℕ) (w : World)
    → effect at (advance w at) (open_call kind name) ≡ new_number (opened kind (home_of kind name w.sessions.named) w.sessions) (advance w at)
open-does Jobs name has at w = refl
open-does Reservations name has at w = refl
open-does Monitoring name has at w = absurd (cc)
