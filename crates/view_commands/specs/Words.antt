-- The words of the program's command line: our profile.
use Rattle.std.specs.Prelude.{ℕ, List, [], ◌∷◌, Option, None, codes}
use Rattle.text_codec.specs.Formats.{first_spelled}
use Rattle.view_commands.specs.declared.views.TheConstants.{VIEWS}
use Rattle.view_commands.specs.declared.views.View.{View}
use Rattle.view_commands.specs.declared.views.View.TheVariants.{Jobs, Log, Why, Chart}

abbrev pub view_word : View → List ℕ
view_word Jobs = codes "jobs"
view_word Log = codes "log"
view_word Why = codes "why"
view_word Chart = codes "chart"

-- the view that words ask for: one word, the view's
abbrev pub asked : List (List ℕ) → Option View
asked [] = None
asked (word ∷ []) = first_spelled view_word VIEWS word
asked (word ∷ next ∷ others) = None
