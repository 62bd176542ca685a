-- From what the play of all blocks leaves to the one history.
use Rattle.std.proofs.Common.{◌≡◌, ℕ, ◌+◌, List, [], ◌∷◌, length, Option, Some, sym, ap, subst}
use Rattle.std.specs.Prelude.{Ok, Err, IfOk}
use Rattle.child_spawner.specs.declared.fates.Asked.{Asked}
use Rattle.child_spawner.specs.declared.fates.Fate.{Fate}
use Rattle.child_spawner.specs.Children.{Told}
use Rattle.drmaa_types.specs.Readings.{Readings}
use Rattle.drmaa_types.specs.declared.changes.Notification.{Notification}
use Rattle.drmaa_model.specs.declared.configs.Config.{Config}
use Rattle.drmaa_model.specs.declared.entries.Entry.{Entry}
use Rattle.turn_lock.specs.Histories.{left_of}
use Rattle.turn_lock.specs.Tokens.{Named, BelongsTo}
use Rattle.call_history.specs.Callers.{calls_of}
use Rattle.call_history.specs.Clients.{Seat, retired_of}
use Rattle.notify_hub.specs.Hubs.{Following}
use Rattle.script_text.specs.declared.scripts.Script.{Script}
use Rattle.script_text.specs.Follows.{lines_of}
use Rattle.script_asks.specs.declared.given.Given.{Given}
use Rattle.script_asks.specs.Plays.{Plays, setup_names}
use Rattle.attendant.specs.declared.reaper.Held.{Held}
use Rattle.attendant.specs.declared.reaper.Hand.{Hand}
use Rattle.attendant.specs.Acts.{acts_of}
use Rattle.attendant.specs.Outside.{Keeps, AgreesOf}
use Rattle.attendant.specs.Whole.{AgreesWithOutside, AreAlone}
use Rattle.beside_clients.proofs.Outside.{IsClosed}
use Rattle.block_play.specs.declared.stops.Stopped.TheVariants as stopped
use Rattle.thread_play.specs.declared.firsts.First.{First}
use Rattle.thread_play.specs.Hubs.{HearRun}
use Rattle.thread_play.specs.Stages.{PlaysOn, IsFirst}
use Rattle.thread_play.specs.Others.{ArePlayed, setup_alone, with_others}
use Rattle.thread_play.specs.Runs.{HasRun}
use Rattle.thread_play.proofs.Hearing.{NoneRegisters}
use Rattle.thread_play.proofs.Whole.{Laws, none-left, has-run, stopped-first, heard-run, stopped-heard}

-- a setup that was whole, by the names that it gave
module _ {C : Type 0} (given : C → Readings) (s : Script) (shared : Named Config) (o : Seat) (f : First C) (names : List (List ℕ × Given)) (first : IsFirst given s shared o f) (whole : f.played ≡ Ok names) where
  gave : names ≡ setup_names s first.own
  gave = subst (λ (r : _). IfOk r (λ (n : List (List ℕ × Given)). n ≡ setup_names s first.own)) whole first.names

  setup-whole : Plays s [] 0 (lines_of s.setup) first.own
  setup-whole = subst (λ (r : _). PlaysOn shared.fixed s [] (lines_of s.setup) first.own first.own (given f.clock) r) whole first.played

module _ {B C T : Type 0} (counted : B → ℕ) (hears : B → Option (List Notification)) (given : C → Readings) (told : T → Option Told) (s : Script) (shared : Named Config) (p : Seat)
    (asked asked2 : Option (List Asked)) (fate : ℕ → Fate) (clocks : List C) (full : Option ℕ) (before hub : Following B) where
  pub belongs : ArePlayed counted hears given told s shared p asked asked2 fate clocks full before hub → BelongsTo shared p
  belongs (setup_alone f size h is same are stops) = h.first.opener
  belongs (with_others o f middle names h is places y) = y.others.opener

  -- all are back
  pub all-back : ArePlayed counted hears given told s shared p asked asked2 fate clocks full before hub → left_of (retired_of p) ≡ 0
  all-back (setup_alone f size h is same are stops) = ap left_of h.first.retired
  all-back (with_others o f middle names h is places y) =
      none-left given told s names shared o p f h.first (gave given s shared o f names h.first is) (setup-whole given s shared o f names h.first is) asked asked2 fate clocks full y.others

  module _ (history : List Entry) (laws : Laws s) (config_is : shared.fixed ≡ s.config) (closed : IsClosed shared.fixed p history) where
    alone-run : (f : First C) (size : ℕ) → IsFirst given s shared p f → f.played ≡ Err (stopped.Full size) → asked2 ≡ asked → clocks ≡ f.clock ∷ [] → full ≡ Some size → HasRun given s history asked asked2 fate clocks full
    alone-run f size first is same are stops =
        subst (λ (a : Option (List Asked)). HasRun given s history asked a fate clocks full) (sym same)
        (subst (λ (o : Option ℕ). HasRun given s history asked asked fate clocks o) (sym stops) (stopped-first given s shared p f first history laws config_is closed asked fate size clocks is are))

    pub blocks-run : ((starts : List Asked) (es : List Entry) (at : ℕ → Option (Held T)) (hand : Option Hand) → AreAlone (length s.clients + 1) (length s.clients + 2) (acts_of es)
        → Keeps told (Some starts) fate (acts_of (calls_of es (length s.clients + 1))) (acts_of (calls_of es (length s.clients + 2))) at hand
        → AgreesOf (Some starts) fate (acts_of (calls_of es (length s.clients + 1))) (acts_of (calls_of es (length s.clients + 2))) → AgreesWithOutside starts fate (acts_of es)) → ArePlayed counted hears given told s shared p asked asked2 fate clocks full before hub → HasRun given s history asked asked2 fate clocks full
    blocks-run law (setup_alone f size h is same are stops) = alone-run f size h.first is same are stops
    blocks-run law (with_others o f middle names h is places y) =
        has-run given told s names shared o p f h.first (gave given s shared o f names h.first is) (setup-whole given s shared o f names h.first is) asked asked2 fate clocks full y.others history laws config_is closed law

    -- and the hub has followed the run
    pub blocks-heard : NoneRegisters s → HasRun given s history asked asked2 fate clocks full → ArePlayed counted hears given told s shared p asked asked2 fate clocks full before hub → HearRun s.config history hub
    blocks-heard none r (setup_alone f size h is same are stops) =
        stopped-heard given s shared p f h.first history laws config_is closed hub asked fate size clocks none (stopped-first given s shared p f h.first history laws config_is closed asked fate size clocks is are) h.hears.follows h.hears.placed
    blocks-heard none r (with_others o f middle names h is places y) =
        heard-run given told s names shared o p f h.first (gave given s shared o f names h.first is) (setup-whole given s shared o f names h.first is) asked asked2 fate clocks full y.others history laws config_is closed
        middle hub none r y.known y.launcher y.reaping y.follows h.hears.placed places
