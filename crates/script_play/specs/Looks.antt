-- What a line asks in a play, and what a look at the machine comes to.
use Rattle.std.specs.Prelude.{◌≡◌, ℕ, Option}
use Rattle.drmaa_types.specs.declared.identifiers.CallerId.{CallerId}
use Rattle.drmaa_model.specs.declared.calls.Call.{Call}
use Rattle.drmaa_model.specs.declared.replies.Reply.{Reply}
use Rattle.script_lines.specs.declared.lines.Line.{Line}
use Rattle.script_text.specs.declared.scripts.Script.{Script}
use Rattle.script_asks.specs.Asks.{asks}
use Rattle.script_asks.specs.Attempts.{Notes}
use Rattle.script_asks.specs.Plays.{Playing, after_look}
use Rattle.script_asks.specs.Replies.{last_attempt, names_after}
use Rattle.script_play.specs.View.{View, IsNoted, added_to, playing, replies_of}
use Rattle.script_play.specs.declared.players.Looked.{Looked}
use Rattle.script_play.specs.declared.players.Looked.TheVariants.{Done, NotYet}

-- what a line asks, where a wait began at this moment
abbrev pub asks_from : Script → View → ℕ → Line → Option Call
asks_from s v begun l = asks s v.names (λ job. last_attempt job (replies_of (added_to v.start v.ledger.history))) begun l

-- The look was the last one, whatever a second one were; or it changed nothing, and a second one decides.
abbrev pub ComesTo : Playing → CallerId → Line → Call → Looked → Playing → Type 0
ComesTo p caller l c Done q = (second : Playing) → after_look p caller l c second ≡ q
ComesTo p caller l c NotYet q = (q ≡ p) × ((second : Playing) → after_look p caller l c second ≡ second)

-- by this look, at a machine that was made with the same, in a play that began where it did
pub record IsLook (before : View) (caller : CallerId) (l : Line) (c : Call) (looked : Looked) (after : View) : Type 0 where
  pub comes : ComesTo (playing before) caller l c looked (playing after)
  pub config : after.ledger.config ≡ before.ledger.config
  pub start : after.start ≡ before.start
  pub noted : IsNoted after

-- what the reply to a line gives its name, and the attempt of a launch, and nothing else
pub record Learns (before : View) (l : Line) (r : Reply) (after : View) : Type 0 where
  pub same : after ≡ record before { names = after.names; attempts = after.attempts }
  pub names : after.names ≡ names_after l r before.names
  pub attempts : Notes before.attempts r after.attempts

-- The play came to this, at a machine that was made with the same; it began where it did.
pub record GoesTo (before : View) (p : Playing) (after : View) : Type 0 where
  pub played : playing after ≡ p
  pub config : after.ledger.config ≡ before.ledger.config
  pub start : after.start ≡ before.start
  pub noted : IsNoted after
