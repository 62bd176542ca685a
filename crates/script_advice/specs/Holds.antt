-- The names that are gathered of what is held.
use Rattle.std.specs.Prelude.{◌≡◌, ℕ, ◌||◌, Bool, List, [], ◌++◌}
use Rattle.script_lines.specs.declared.lines.Line.{Line}
use Rattle.script_text.specs.declared.scripts.Script.{Script}
use Rattle.script_text.specs.Names.{is_there}
use Rattle.script_text.specs.Follows.{lines_of}
use Rattle.script_advice.specs.declared.finding.Holds.{Holds}
use Rattle.script_advice.specs.declared.gathering.Sort.TheVariants.{LetGo, Held}
use Rattle.script_advice.specs.declared.warning_kinds.Place.{Place}
use Rattle.script_advice.specs.declared.warning_kinds.Warning.{Warning}
use Rattle.script_advice.specs.NameSets.{Extends}
use Rattle.script_advice.specs.Roles.{role}
use Rattle.script_advice.specs.Warnings.{names_at, names_in, names_anywhere, endless_at, remains}

-- what is held by these names, and not let go
abbrev pub remains_in : Holds → List ℕ → Bool
remains_in h name = remains (is_there h.held) (is_there h.let_go) name

-- by those of earlier lines, or by those of the setup block
abbrev pub stays_in : Holds → Holds → List ℕ → Bool
stays_in earlier of_setup name = remains_in earlier name || remains_in of_setup name

-- these are the names of lines
pub record AreHolds (s : Script) (lines : List Line) (h : Holds) : Type 0 where
  pub held : Extends [] h.held (names_in Held s lines)
  pub let_go : Extends [] h.let_go (names_in LetGo s lines)

-- these are the names that are held by the setup block, and those that any line lets go
pub record AreSetupHolds (s : Script) (h : Holds) : Type 0 where
  pub held : Extends [] h.held (names_in Held s (lines_of s.setup))
  pub let_go : Extends [] h.let_go (names_anywhere LetGo s)

-- behind a line, by what was found before it and what was held then: what is found, and what is held
pub record Passes (place : Place) (s : Script) (of_setup : Holds) (line : Line) (old new : Holds) (before behind : List Warning) : Type 0 where
  pub found : behind ≡ before ++ endless_at place (stays_in old of_setup) (role line)
  pub held : Extends old.held new.held (names_at Held s line)
  pub let_go : Extends old.let_go new.let_go (names_at LetGo s line)
