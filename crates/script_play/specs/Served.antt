-- What the play of a script on one thread comes to.
use Rattle.std.specs.Prelude.{◌≡◌, ◌++◌}
use Rattle.drmaa_model.specs.History.{Ledger, now_of}
use Rattle.script_text.specs.declared.scripts.Script.{Script}
use Rattle.script_asks.specs.Plays.{serial_play_from}
use Rattle.script_play.specs.View.{View}

-- the play of a script, on a machine that had served this before, has come to this
pub record IsServed (before : Ledger) (s : Script) (v : View) : Type 0 where
  pub ledger : v.ledger ≡ record { config = before.config; history = before.history ++ (serial_play_from (now_of before) s).entries }
  pub world : now_of v.ledger ≡ (serial_play_from (now_of before) s).world
  pub full : v.full ≡ (serial_play_from (now_of before) s).full
