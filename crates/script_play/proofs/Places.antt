-- The places of the numbers of this run, as a history goes on by one entry.
use Rattle.std.proofs.Common.{◌≡◌, ℕ, ◌+◌, ◌-◌, ◌<◌, ◌≤◌, true, false, List, [], ◌∷◌, ◌++◌, length, Option, Some, None, refl, sym, ◌∙◌, ap, subst, arith, slice_set, ⊎_elim}
use Rattle.std.specs.Prelude.{nat_le, replicate, if◌then◌else◌}
use Rattle.std.proofs.lemmas.Bool.{ne_eqb, cases_eq}
use Rattle.std.proofs.lemmas.List.{get_or-set_other, get_or-set_same, length-set, length-replicate}
use Rattle.drmaa_model.specs.declared.configs.Config.{Config}
use Rattle.drmaa_model.specs.declared.entries.Entry.{Entry}
use Rattle.drmaa_model.specs.declared.replies.Reply.TheVariants as reply
use Rattle.drmaa_model.specs.Heard.{registers}
use Rattle.drmaa_model.specs.History.{replay, IsLegal}
use Rattle.drmaa_model.specs.HistoryLaws.{replay-push, replay_from-append, legal-last, legal-prefix, legal_from-back}
use Rattle.drmaa_model.specs.World.{World, opening_world}
use Rattle.change_callbacks.specs.Ears.{place_at}
use Rattle.change_callbacks.specs.PlacedLaws.{none-there, place-other, unplaced}
use Rattle.change_callbacks.specs.Places.{changes_of, place_of, registrations_of}
use Rattle.change_callbacks.specs.RegisterLaws.{step-registers, run-no_fewer, place-last}
use Rattle.script_play.specs.CallbackLaws.{choice-else, le-false}
use Rattle.script_play.specs.Callbacks.{ArePlacedAfter, place_since}

-- a number of this run that has no place in the history has none, and neither has one of an earlier run
since-none : (earlier : ℕ) (config : Config) (history : List Entry) (n : ℕ) → (earlier < n → place_of config history n ≡ None) → place_since earlier config history n ≡ None
since-none earlier config history n none =
    (elim (nat_le n earlier) as (λ t. nat_le n earlier ≡ t → (if t then None else place_of config history n) ≡ None) [
      | true ↦ λ is. refl
      | false ↦ λ is. none (le-false n earlier is)
    ]) refl

-- before the first entry of this run no number has a place
pub placed-first : (config : Config) (history : List Entry) → IsLegal config history → ArePlacedAfter (registrations_of config history) config history (replicate 64 None)
placed-first config history legal = record {
  as_many = length-replicate {A = Option ℕ} 64 None;
  each = λ i. none-there 64 i ∙ sym (since-none (registrations_of config history) config history (i + 1) (λ above. unplaced config (i + 1) history legal above));
}

-- an entry that registers no callback leaves all places as they are
pub placed-same : (earlier : ℕ) (config : Config) (history : List Entry) (places : List (Option ℕ)) (e : Entry) → ((n : ℕ) → registers n e.reply ≡ false) → ArePlacedAfter earlier config history places
    → ArePlacedAfter earlier config (history ++ e ∷ []) places
placed-same earlier config history places e none p = record {
  as_many = p.as_many;
  each = λ i. p.each i ∙ ap (λ (o : Option ℕ). if nat_le (i + 1) earlier then None else o) (sym (place-other (opening_world config) (i + 1) history e (none (i + 1))));
}

-- An entry that registers a callback gives its number, which had none, the place behind all changes.
pub record IsPlacedNow (earlier : ℕ) (config : Config) (after : List Entry) (places : List (Option ℕ)) (m : ℕ) : Type 0 where
  pub least : 1 ≤ m
  pub most : m ≤ 64
  pub free : place_at places (m - 1) ≡ None
  pub places_are : ArePlacedAfter earlier config after (slice_set places (m - 1) (Some (length (changes_of config after))))

pub placed-new : (earlier : ℕ) (config : Config) (history : List Entry) (places : List (Option ℕ)) (e : Entry) (m : ℕ) → IsLegal config (history ++ e ∷ []) → e.reply ≡ reply.Callback m → earlier ≤ registrations_of config history
    → ArePlacedAfter earlier config history places → IsPlacedNow earlier config (history ++ e ∷ []) places m
placed-new earlier config history places e m legal is registered p =
    let w : World = replay config history in
    let after : List Entry = history ++ e ∷ [] in
    let here : ℕ = length (changes_of config after) in
    let before = legal-prefix config history (e ∷ []) legal in
    let r = step-registers w e (replay config after) m (legal-last config history e legal) is in
    let number : m ≡ w.registrations + 1 = r.number in
    let few : w.registrations < 64 = r.few in
    let above : registrations_of config history < m = omega (arith, number) in
    let index : (m - 1) + 1 ≡ m = omega (arith, number) in
    let own : earlier < m = omega (arith, number, registered) in
    let none : place_of config history m ≡ None = unplaced config m history before above in
    let end : place_of config after m ≡ Some here =
    place-last (opening_world config) m history e before above is ∙ ap (λ (v : World). Some (length v.plan.changes)) (sym (replay-push config history e)) in
    let len : length places ≡ 64 = p.as_many in
    let short : m - 1 < length places = omega (arith, len, number, few) in
    record {
      least = omega (arith, number);
      most = omega (arith, number, few);
      free = p.each (m - 1) ∙ since-none earlier config history ((m - 1) + 1) (λ _. ap (place_of config history) index ∙ none);
      places_are = record {
        as_many = length-set places (m - 1) (Some here) ∙ len;
        each = λ i. ⊎_elim
            (λ (same : i ≡ m - 1).
            (ap (place_at (slice_set places (m - 1) (Some here))) same
            ∙ (get_or-set_same places (m - 1) (Some here) None short
            ∙ sym (ap (place_since earlier config after) (ap (λ (k : ℕ). k + 1) same ∙ index) ∙ (choice-else m earlier None (place_of config after m) own ∙ end)))))
            (λ (other : i ≡ m - 1 → ⊥).
            (get_or-set_other places (m - 1) i (Some here) None other
            ∙ (p.each i
            ∙ ap (λ (o : Option ℕ). if nat_le (i + 1) earlier then None else o) (sym (place-other (opening_world config) (i + 1) history e
            (ap (registers (i + 1)) is ∙ ne_eqb m (i + 1) (λ at. other (omega (arith, at)))))))))
            (cases_eq i (m - 1));
      };
    }

-- a history registers no fewer callbacks than a beginning of it
pub no-fewer : (config : Config) (front back : List Entry) → IsLegal config (front ++ back) → registrations_of config front ≤ registrations_of config (front ++ back)
no-fewer config front back legal =
    subst (λ (w : World). registrations_of config front ≤ w.registrations) (sym (replay_from-append (opening_world config) front back))
    (run-no_fewer (replay config front) back (legal_from-back (opening_world config) front back legal))
