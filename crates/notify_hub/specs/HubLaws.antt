-- Laws of a hub's calls, one after the other: which callbacks have their places.
use Rattle.std.proofs.Common.{◌≡◌, ℕ, ◌-◌, ◌<◌, ◌≤◌, Bool, true, false, cond, List, [], ◌∷◌, ◌++◌, length, Option, Some, None, refl, sym, ◌∙◌, ap, subst, arith, slice_set, append_assoc, append-nil}
use Rattle.std.specs.Prelude.{IsSome}
use Rattle.std.proofs.lemmas.List.{get_or-set_same, length-set}
use Rattle.drmaa_types.specs.declared.changes.Notification.{Notification}
use Rattle.drmaa_types.specs.declared.refusals.Refusal.{Refusal}
use Rattle.drmaa_model.specs.declared.calls.Call.TheVariants as call
use Rattle.drmaa_model.specs.declared.configs.Config.{Config}
use Rattle.drmaa_model.specs.declared.entries.Entry.{Entry}
use Rattle.drmaa_model.specs.declared.replies.Reply.TheVariants as reply
use Rattle.drmaa_model.specs.Heard.{registers, place_from}
use Rattle.drmaa_model.specs.History.{after_entry, replay, IsLegal}
use Rattle.drmaa_model.specs.HistoryLaws.{legal-last, legal-prefix}
use Rattle.drmaa_model.specs.World.{World, opening_world}
use Rattle.turn_lock.specs.Histories.{BeginsWith}
use Rattle.turn_lock.specs.Tokens.{Named}
use Rattle.call_history.specs.Calls.{entry_by}
use Rattle.call_history.specs.ClientLaws.{begins-itself}
use Rattle.call_history.specs.Clients.{Seat, seen_of, mine_of, number_of}
use Rattle.call_history.specs.Clocks.{Dial}
use Rattle.change_callbacks.specs.Ears.{Listening, HaveHeard, place_at}
use Rattle.notify_hub.specs.Hubs.{Following, noted, IsNoteOf, IsNoteAt, FollowsNote, with_place, RegistersOn, IsRegistered, IsUnregistered}
use Rattle.notify_hub.specs.Hubs.IsUnregistered.{by_entry, by_fault}
use Rattle.change_callbacks.specs.Places.{HasPlace, HavePlaces, place_of}
use Rattle.change_callbacks.specs.PlacedLaws.{have-set}
use Rattle.change_callbacks.specs.RegisterLaws.{registers-own, step-registers}

begins-then : (a b c : List Entry) → BeginsWith b a → BeginsWith c b → BeginsWith c a
begins-then a b c f s = record { rest = f.rest ++ s.rest; whole = s.whole ∙ (ap (λ (l : List Entry). l ++ s.rest) f.whole ∙ append_assoc a f.rest s.rest) }

begins-same : (a b : List Entry) → b ≡ a → BeginsWith a b
begins-same a b is = record { rest = []; whole = sym is ∙ sym (append-nil b) }

-- an entry that registers a number gives it a place
place-there : (w : World) (n : ℕ) (xs : List Entry) (e : Entry) (ys : List Entry) → e.reply ≡ reply.Callback n → IsSome (place_from w n (xs ++ e ∷ ys))
place-there w n [] e ys is =
    subst (λ (b : Bool). IsSome (cond b (Some (length (after_entry w e).plan.changes)) (place_from (after_entry w e) n ys))) (sym (registers-own n e.reply is)) refl
place-there w n (x ∷ xs) e ys is =
    elim (registers n x.reply) as (λ b. IsSome (cond b (Some (length (after_entry w x).plan.changes)) (place_from (after_entry w x) n (xs ++ e ∷ ys)))) [
      | true ↦ refl
      | false ↦ place-there (after_entry w x) n xs e ys is
    ]

have-push : (es : List Entry) (e : Entry) (ps : List (Option ℕ)) → HavePlaces es ps → HasPlace ps e → HavePlaces (es ++ e ∷ []) ps
have-push [] e ps all one = (one, tt)
have-push (x ∷ xs) e ps all one = (all.0, have-push xs e ps all.1 one)

have-more : (es more : List Entry) (ps : List (Option ℕ)) → HavePlaces es ps → HavePlaces more ps → HavePlaces (es ++ more) ps
have-more [] more ps all rest = rest
have-more (x ∷ xs) more ps all rest = (all.0, have-more xs more ps all.1 rest)

same-number : (m n : ℕ) → reply.Callback m ≡ reply.Callback n → m ≡ n
same-number m n e = cc

-- the number that the last entry registers has its place now
has-now : (ps : List (Option ℕ)) (e : Entry) (n : ℕ) (place : Option ℕ) → n - 1 < length ps → e.reply ≡ reply.Callback n → IsSome place → HasPlace (slice_set ps (n - 1) place) e
has-now ps e n place inside is some = λ own m told.
    (let same : n ≡ m = same-number n m (sym is ∙ told) in
    subst (λ (k : ℕ). IsSome (place_at (slice_set ps (n - 1) place) (k - 1))) same (subst (λ (o : Option ℕ). IsSome o) (sym (get_or-set_same ps (n - 1) place None inside)) some))

-- the number that an entry registers is one of 1 and on
least-number : (config : Config) (front : List Entry) (e : Entry) (back : List Entry) (n : ℕ) → e.reply ≡ reply.Callback n → IsLegal config (front ++ e ∷ back) → 1 ≤ n
least-number config front e back n is legal =
    let same : front ++ e ∷ back ≡ (front ++ e ∷ []) ++ back = sym (append_assoc front (e ∷ []) back) in
    let here = legal-prefix config (front ++ e ∷ []) back (subst (IsLegal config) same legal) in
    let number = (step-registers (replay config front) e (replay config (front ++ e ∷ [])) n (legal-last config front e here) is).number in
    omega (arith, number)

have-set-so : (es : List Entry) (ps : List (Option ℕ)) (k : ℕ) (place : Option ℕ) → IsSome place → HavePlaces es ps → HavePlaces es (slice_set ps k place)
have-set-so es ps k None some all = absurd (cc)
have-set-so es ps k (Some q) some all = have-set es ps k q all

-- as many places as there are numbers
note-many : {B : Type 0} (shared : Named Config) (h : Following B) → IsNoteOf shared h.note → FollowsNote h.ears h.note → length h.ears.places ≡ 64
note-many shared h own follows =
    (elim h.note as (λ o. IsNoteOf shared o → FollowsNote h.ears o → length h.ears.places ≡ 64) [
      | None ↦ λ is f. (f shared.fixed tt).as_many
      | Some seat ↦ λ is f. (f shared.fixed is.fixed_is).as_many
    ]) own follows

module _ {B : Type 0} {counted : B → ℕ} {told : B → Option (List Notification)} where
  -- a Register by the hub
  pub registered-on : (shared : Named Config) (early late : Dial) (old new : Following B) (client after : Seat) (n : ℕ) → IsRegistered shared.fixed early client n late after → IsNoteAt shared (seen_of after) new.note
      → new.ears ≡ with_place old.ears n (place_of shared.fixed (seen_of after) n) → FollowsNote new.ears new.note → (HaveHeard counted told old.ears → HaveHeard counted told new.ears)
      → IsLegal shared.fixed (seen_of after) → RegistersOn counted told shared old client new after
  registered-on shared early late old new client after n r note ears follows heard legal =
      let e : Entry = entry_by (number_of client) r.entry.at call.Register (reply.Callback n) in
      let front : List Entry = seen_of client ++ r.entry.made.between in
      let place : Option ℕ = place_of shared.fixed (seen_of after) n in
      let whole : seen_of after ≡ front ++ e ∷ r.looked.between =
      r.looked.seen ∙ (ap (λ (l : List Entry). l ++ r.looked.between) r.entry.made.seen ∙ append_assoc front (e ∷ []) r.looked.between) in
      let some : IsSome place = subst (λ (l : List Entry). IsSome (place_of shared.fixed l n)) (sym whole) (place-there (opening_world shared.fixed) n front e r.looked.between refl) in
      let places : new.ears.places ≡ slice_set old.ears.places (n - 1) place = ap (λ (l : Listening B). l.places) ears in
      let many : length old.ears.places ≡ 64 =
      sym (length-set old.ears.places (n - 1) place) ∙ (ap length (sym places) ∙ note-many shared new note.own follows) in
      let most = r.most in
      let low : 1 ≤ n = least-number shared.fixed front e r.looked.between n refl (subst (IsLegal shared.fixed) whole legal) in
      let inside : n - 1 < length old.ears.places = omega (arith, many, most, low) in
      let mine : mine_of after ≡ mine_of client ++ e ∷ [] = r.looked.mine ∙ r.entry.made.mine in
      record {
        note = note.own;
        known = λ b. begins-same (seen_of after) (noted new.note) note.seen_is;
        begun = ap (λ (l : Listening B). l.begun) ears;
        follows = λ f. follows;
        heard = heard;
        placed = λ all.
            subst (λ (l : List Entry). HavePlaces l new.ears.places) (sym mine)
            (subst (HavePlaces (mine_of client ++ e ∷ [])) (sym places)
            (have-push (mine_of client) e (slice_set old.ears.places (n - 1) place) (have-set-so (mine_of client) old.ears.places (n - 1) place some all) (has-now old.ears.places e n place inside refl some)));
      }

  -- a Register that registers nothing
  pub unregistered-on : (shared : Named Config) (early late : Dial) (old new : Following B) (client after : Seat) (why : Refusal) → IsUnregistered shared.fixed early client why late after → IsNoteAt shared (seen_of after) new.note
      → new.ears ≡ old.ears → FollowsNote new.ears new.note → RegistersOn counted told shared old client new after
  unregistered-on shared early late old new client after why u note ears follows = record {
    note = note.own;
    known = λ b. begins-same (seen_of after) (noted new.note) note.seen_is;
    begun = ap (λ (l : Listening B). l.begun) ears;
    follows = λ f. follows;
    heard = λ h. subst (HaveHeard counted told) (sym ears) h;
    placed = λ all. subst (λ (l : Listening B). HavePlaces (mine_of after) l.places) (sym ears) (same-places all u);
  } where
    same-places : HavePlaces (mine_of client) old.ears.places → IsUnregistered shared.fixed early client why late after → HavePlaces (mine_of after) old.ears.places
    same-places all (by_entry full served most) =
        subst (λ (l : List Entry). HavePlaces l old.ears.places) (sym served.made.mine)
        (have-push (mine_of client) (entry_by (number_of client) served.at call.Register (reply.Refused why)) old.ears.places all (λ own n is. absurd (cc)))
    same-places all (by_fault f is none) = subst (λ (l : List Entry). HavePlaces l old.ears.places) (sym none.more.mine) all

  -- other calls of the client
  pub others-on : (shared : Named Config) (hub : Following B) (client after : Seat) (added : List Entry) → IsNoteOf shared hub.note → BeginsWith (seen_of after) (seen_of client) → mine_of after ≡ mine_of client ++ added
      → HavePlaces added hub.ears.places → RegistersOn counted told shared hub client hub after
  others-on shared hub client after added note begins mine none = record {
    note = note;
    known = λ b. begins-then (noted hub.note) (seen_of client) (seen_of after) b begins;
    begun = refl;
    follows = λ f. f;
    heard = λ h. h;
    placed = λ all. subst (λ (l : List Entry). HavePlaces l hub.ears.places) (sym mine) (have-more (mine_of client) added hub.ears.places all none);
  }

  -- one stretch after the other
  pub registers-both : (shared : Named Config) (a b c : Following B) (first then after : Seat) → RegistersOn counted told shared a first b then → RegistersOn counted told shared b then c after → RegistersOn counted told shared a first c after
  registers-both shared a b c first then after x y = record {
    note = y.note;
    known = λ k. y.known (x.known k);
    begun = y.begun ∙ x.begun;
    follows = λ f. y.follows (x.follows f);
    heard = λ h. y.heard (x.heard h);
    placed = λ all. y.placed (x.placed all);
  }

  -- no call at all
  pub registers-none : (shared : Named Config) (hub : Following B) (client : Seat) → IsNoteOf shared hub.note → RegistersOn counted told shared hub client hub client
  registers-none shared hub client note = others-on shared hub client client [] note (begins-itself (seen_of client)) (sym (append-nil (mine_of client))) tt
