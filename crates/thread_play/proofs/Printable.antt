-- The calls of a run may stand in a journal.
use Rattle.std.proofs.Common.{◌≡◌, inl, inr, ℕ, ◌+◌, true, List, [], ◌∷◌, length, Option, Some, None, sym, subst, arith}
use Rattle.std.specs.List.{slice_get, AllByRecursion}
use Rattle.std.proofs.lemmas.Option.{slice_get-get_or}
use Rattle.std.proofs.Common.{get_or}
use Rattle.child_spawner.specs.declared.fates.Asked.{Asked}
use Rattle.child_spawner.specs.declared.fates.Fate.{Fate}
use Rattle.drmaa_types.specs.Readings.{Readings}
use Rattle.drmaa_model.specs.declared.entries.Entry.{Entry}
use Rattle.call_history.specs.Callers.{calls_of}
use Rattle.script_lines.specs.declared.lines.Line.{Line}
use Rattle.script_text.specs.declared.scripts.Script.{Script}
use Rattle.script_text.specs.Follows.{lines_of}
use Rattle.script_asks.specs.declared.given.Given.{Given}
use Rattle.script_asks.specs.Plays.{Plays}
use Rattle.script_journals.specs.Calls.{CallMayStand, is_attendants}
use Rattle.thread_play.specs.Runs.{names_given, launcher_of, reaper_of, HasRun, PlaysUpTo, EndsBy, in_setup, behind_setup}
use Rattle.thread_play.proofs.Callers.{by-caller, IsAttendants, launcher-attends, reaper-attends}

-- what lines ask may stand there
abbrev pub AskedStands : Script → Type 0
AskedStands s = (names : List (List ℕ × Given)) (before : ℕ) (block : List Line) (es : List Entry) → Plays s names before block es → AllByRecursion CallMayStand es

attended : ((e : Entry) → is_attendants e.call ≡ true → CallMayStand e) → (es : List Entry) → AllByRecursion IsAttendants es → AllByRecursion CallMayStand es
attended each [] all = tt
attended each (e ∷ es) all = (each e all.0.attends, attended each es all.1)

up-to-stands : {C : Type 0} (given : C → Readings) (clocks : List C) (s : Script) (names : List (List ℕ × Given)) (block : List Line) (caller : ℕ) (history : List Entry) → AskedStands s → PlaysUpTo given clocks s names block caller history → AllByRecursion CallMayStand (calls_of history caller)
up-to-stands given clocks s names block caller history stands (inl p) = stands names 0 block (calls_of history caller) p
up-to-stands given clocks s names block caller history stands (inr (size, cut)) = stands names 0 cut.front (calls_of history caller) cut.played

none-stand : (es : List Entry) → es ≡ [] → AllByRecursion CallMayStand es
none-stand es none = subst (AllByRecursion CallMayStand) (sym none) tt

module _ {C : Type 0} (given : C → Readings) (s : Script) (history : List Entry) (asked asked2 : Option (List Asked)) (fate : ℕ → Fate) (clocks : List C) (stands : AskedStands s) where
  setup-stands : (full : Option ℕ) → EndsBy given s history asked asked2 fate clocks full → AllByRecursion CallMayStand (calls_of history 0)
  setup-stands None e = stands [] 0 (lines_of s.setup) (calls_of history 0) e.plays.setup
  setup-stands (Some size) (in_setup cut none unasked callers) = stands [] 0 cut.front (calls_of history 0) cut.played
  setup-stands (Some size) (behind_setup setup clients met launched callers) = stands [] 0 (lines_of s.setup) (calls_of history 0) setup

  client-stands : (full : Option ℕ) → EndsBy given s history asked asked2 fate clocks full → (i : ℕ) (block : List Line) → slice_get s.clients i ≡ Some block → AllByRecursion CallMayStand (calls_of history (i + 1))
  client-stands None e i block at = stands (names_given s history) 0 block (calls_of history (i + 1)) (e.plays.clients i block at)
  client-stands (Some size) (in_setup cut none unasked callers) i block at = none-stand (calls_of history (i + 1)) (none (i + 1) (omega arith))
  client-stands (Some size) (behind_setup setup clients met launched callers) i block at = up-to-stands given clocks s (names_given s history) block (i + 1) history stands (clients i block at)

  -- the calls of each caller may stand in a journal
  pub run-stands : (full : Option ℕ) → ((e : Entry) → is_attendants e.call ≡ true → CallMayStand e) → HasRun given s history asked asked2 fate clocks full → (k : ℕ) → AllByRecursion CallMayStand (calls_of history k)
  run-stands full each r = by-caller (λ k. AllByRecursion CallMayStand (calls_of history k)) (length s.clients)
      (setup-stands full r.ends)
      (λ i below. client-stands full r.ends i (get_or s.clients i []) (slice_get-get_or s.clients i [] below))
      (attended each (calls_of history (launcher_of s)) (launcher-attends [] (calls_of history (launcher_of s)) r.run.launcher))
      (attended each (calls_of history (reaper_of s)) (reaper-attends [] (calls_of history (reaper_of s)) r.run.reaper))
      (λ k above. none-stand (calls_of history k) (r.run.strangers k above))
