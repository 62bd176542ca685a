-- What the hub's callbacks hear of a run.
use Rattle.std.proofs.Common.{◌≡◌, inl, inr, ℕ, zero, suc, ◌+◌, ◌≤◌, true, List, [], ◌∷◌, take, length, Option, Some, None, sym, ap, ◌∙◌, subst, arith}
use Rattle.std.proofs.Common.{get_or}
use Rattle.std.proofs.Math.Seq.{take-append_seam}
use Rattle.std.specs.List.{slice_get, AllByRecursion}
use Rattle.std.proofs.lemmas.Option.{slice_get-get_or}
use Rattle.child_spawner.specs.declared.fates.Asked.{Asked}
use Rattle.child_spawner.specs.declared.fates.Fate.{Fate}
use Rattle.drmaa_types.specs.Readings.{Readings}
use Rattle.drmaa_model.specs.declared.configs.Config.{Config}
use Rattle.drmaa_model.specs.declared.entries.Entry.{Entry}
use Rattle.turn_lock.specs.Tokens.{Named}
use Rattle.call_history.specs.Callers.{calls_of}
use Rattle.notify_hub.specs.Hubs.{Following, MayBe, noted}
use Rattle.change_callbacks.specs.PlacedLaws.{all-placed}
use Rattle.change_callbacks.specs.Places.{Follows, HasPlace, HavePlaces, changes_of}
use Rattle.script_lines.specs.declared.lines.Line.{Line}
use Rattle.script_text.specs.declared.scripts.Script.{Script}
use Rattle.script_asks.specs.declared.given.Given.{Given}
use Rattle.script_asks.specs.Plays.{Plays, PlaysPart}
use Rattle.script_journals.specs.Calls.{is_registers, IsNoRegister}
use Rattle.beside_clients.specs.HubClients.{FollowsAll}
use Rattle.beside_clients.proofs.Callers.{all-of-callers}
use Rattle.beside_clients.proofs.Outside.{may-note}
use Rattle.thread_play.specs.Hubs.{HearRun}
use Rattle.thread_play.specs.Runs.{names_given, launcher_of, reaper_of, HasRun, PlaysUpTo, EndsBy, in_setup, behind_setup}
use Rattle.thread_play.proofs.Callers.{by-caller, IsAttendants, launcher-attends, reaper-attends}

-- what a client's block asks, whole or in part, registers nothing
pub record NoneRegisters (s : Script) : Type 0 where
  pub whole : (names : List (List ℕ × Given)) (before n : ℕ) (block : List Line) (es : List Entry) → slice_get s.clients n ≡ Some block → Plays s names before block es → AllByRecursion IsNoRegister es
  pub part : (names : List (List ℕ × Given)) (before n : ℕ) (block : List Line) (es : List Entry) → slice_get s.clients n ≡ Some block → PlaysPart s names before block es → AllByRecursion IsNoRegister es

up-to-none : {C : Type 0} (given : C → Readings) (clocks : List C) (s : Script) (names : List (List ℕ × Given)) (n : ℕ) (block : List Line) (caller : ℕ) (history : List Entry) → NoneRegisters s → slice_get s.clients n ≡ Some block
    → PlaysUpTo given clocks s names block caller history → AllByRecursion IsNoRegister (calls_of history caller)
up-to-none given clocks s names n block caller history none at (inl p) = none.whole names 0 n block (calls_of history caller) at p
up-to-none given clocks s names n block caller history none at (inr (size, cut)) =
    none.part names 0 n block (calls_of history caller) at (
      length cut.front,
      subst (λ (ls : List Line). Plays s names 0 ls (calls_of history caller)) (sym (ap (λ (ls : List Line). take (length cut.front) ls) cut.lines ∙ take-append_seam cut.front (cut.line ∷ cut.back))) cut.played,
    )

-- the calls of launcher and reaper register nothing
attended-none : (es : List Entry) → AllByRecursion IsAttendants es → AllByRecursion IsNoRegister es
attended-none [] all = tt
attended-none (e ∷ es) all = (all.0.no_register, attended-none es all.1)

none-none : (es : List Entry) → es ≡ [] → AllByRecursion IsNoRegister es
none-none es none = subst (AllByRecursion IsNoRegister) (sym none) tt

module _ {C : Type 0} (given : C → Readings) (s : Script) (history : List Entry) (asked asked2 : Option (List Asked)) (fate : ℕ → Fate) (clocks : List C) (none : NoneRegisters s) where
  client-none : (full : Option ℕ) → EndsBy given s history asked asked2 fate clocks full → (i : ℕ) (block : List Line) → slice_get s.clients i ≡ Some block → AllByRecursion IsNoRegister (calls_of history (i + 1))
  client-none None e i block at = none.whole (names_given s history) 0 i block (calls_of history (i + 1)) at (e.plays.clients i block at)
  client-none (Some size) (in_setup cut alone unasked callers) i block at = none-none (calls_of history (i + 1)) (alone (i + 1) (omega arith))
  client-none (Some size) (behind_setup setup clients met launched callers) i block at = up-to-none given clocks s (names_given s history) i block (i + 1) history none at (clients i block at)

  -- nobody registers a callback behind setup
  run-none : (full : Option ℕ) → HasRun given s history asked asked2 fate clocks full → (k : ℕ) → 1 ≤ k → AllByRecursion IsNoRegister (calls_of history k)
  run-none full r = by-caller (λ k. 1 ≤ k → AllByRecursion IsNoRegister (calls_of history k)) (length s.clients)
      (λ low. absurd (omega arith))
      (λ i below low. client-none full r.ends i (get_or s.clients i []) (slice_get-get_or s.clients i [] below))
      (λ low. attended-none (calls_of history (launcher_of s)) (launcher-attends [] (calls_of history (launcher_of s)) r.run.launcher))
      (λ low. attended-none (calls_of history (reaper_of s)) (reaper-attends [] (calls_of history (reaper_of s)) r.run.reaper))
      (λ k above low. none-none (calls_of history k) (r.run.strangers k above))

  others-have : (ps : List (Option ℕ)) (es : List Entry) → AllByRecursion IsNoRegister es → HavePlaces es ps
  others-have ps [] all = tt
  others-have ps (e ∷ es) all = ((λ own n told. absurd (let no = all.0 in let is : is_registers e.call ≡ true = ap is_registers own in cc)), others-have ps es all.1)

  caller-has : (ps : List (Option ℕ)) (full : Option ℕ) → HasRun given s history asked asked2 fate clocks full → HavePlaces (calls_of history 0) ps → (k : ℕ) → HavePlaces (calls_of history k) ps
  caller-has ps full r setup zero = setup
  caller-has ps full r setup (suc k) = others-have ps (calls_of history (suc k)) (run-none full r (suc k) (omega arith))

  -- where setup's numbers have their places, all have
  run-has : (ps : List (Option ℕ)) (full : Option ℕ) → HasRun given s history asked asked2 fate clocks full → HavePlaces (calls_of history 0) ps → HavePlaces history ps
  run-has ps full r setup = all-of-callers (HasPlace ps) history (caller-has ps full r setup)

  -- a hub that has followed what all callers had seen has followed the run
  pub hear-run : {B : Type 0} (shared : Named Config) (seen : List Entry) (hub : Following B) (full : Option ℕ) → HasRun given s history asked asked2 fate clocks full → shared.fixed ≡ s.config → history ≡ seen
      → FollowsAll shared seen hub → HavePlaces (calls_of history 0) hub.ears.places → HearRun s.config history hub
  hear-run shared seen hub full r config_is same f setup =
      let may : MayBe s.config hub.note = subst (λ (c : Config). MayBe c hub.note) config_is (may-note shared hub.note f.note.own) in
      let at : noted hub.note ≡ history = f.note.seen_is ∙ sym same in
      let follows : Follows s.config history hub.ears = subst (λ (h : List Entry). Follows s.config h hub.ears) at (f.follows s.config may) in
      record {
        may = may;
        noted_is = at;
        places = record { as_many = follows.as_many; each = all-placed s.config history hub.ears follows (run-has hub.ears.places full r setup) };
        handed = f.handed ∙ (ap (λ (c : Config). changes_of c seen) config_is ∙ ap (λ (h : List Entry). changes_of s.config h) (sym same));
      }
