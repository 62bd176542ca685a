-- What a soak comes to: our profile.
use Rattle.std.specs.Prelude.{ℕ, List}
use Rattle.script_asks.specs.Plays.{serial_play}
use Rattle.script_text.specs.Scripts as scripts
use Rattle.script_text.specs.declared.scripts.Mode.TheVariants as mode
use Rattle.script_text.specs.declared.scripts.Script.{Script}
use Rattle.soak_laws.specs.Scripts.{soak_of}
use Rattle.soak.specs.declared.summaries.Summary.{Summary}
use Rattle.soak.specs.Summaries.{summary}

-- some lines are this script's
abbrev pub IsSpelled : Script → Type 0
IsSpelled script = (lines : List (List ℕ)) × scripts.Spells mode.Serial lines script

-- the summary of a script's play
abbrev pub summary_of : Script → Summary
summary_of script = summary (serial_play script).entries (serial_play script).world

-- The summary of the play of the script of these steps and this seed.
abbrev pub soak_summary : ℕ → ℕ → Summary
soak_summary steps seed = summary_of (soak_of steps seed)
