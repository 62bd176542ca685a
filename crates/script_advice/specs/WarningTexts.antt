-- What is written of warnings: our profile.
use Rattle.std.specs.Prelude.{ℕ, List, [], ◌∷◌, ◌++◌, codes, decimal}
use Rattle.std.specs.List.{flat_map}
use Rattle.script_text.specs.declared.scripts.Script.{Script}
use Rattle.script_advice.specs.declared.warning_kinds.Place.{Place}
use Rattle.script_advice.specs.declared.warning_kinds.Place.TheVariants.{Setup, Client}
use Rattle.script_advice.specs.declared.warning_kinds.Warning.{Warning}
use Rattle.script_advice.specs.declared.warning_kinds.Warning.TheVariants.{Unwaited, Endless}
use Rattle.script_advice.specs.Warnings.{warnings}

abbrev pub place_text : Place → List ℕ
place_text Setup = codes "setup"
place_text (Client n) = codes "client " ++ decimal n

-- the line of a warning
abbrev pub warning_line : Warning → List ℕ
warning_line (Unwaited place name) = place_text place ++ (codes ": nobody waits for " ++ (name ++ codes ", or reaps it\n"))
warning_line (Endless place name) = place_text place ++ (codes ": waits without end for " ++ (name ++ codes ", which stays held\n"))

-- the lines of warnings, or that there are none
abbrev pub warnings_text : List Warning → List ℕ
warnings_text [] = codes "no warnings\n"
warnings_text (w ∷ ws) = flat_map warning_line (w ∷ ws)

-- what is written of a script
abbrev pub lint_text : Script → List ℕ
lint_text s = warnings_text (warnings s)
