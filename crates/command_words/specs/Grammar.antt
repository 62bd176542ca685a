-- The command that `clap` is given, and the words that its matches hold.
use Rattle.std.specs.Prelude.{ℕ, true, List, [], ◌∷◌, codes, Option, Some, None, unwrap_or}
use Rattle.clap.specs.Words.{App, Row, Rule, Shape, Text, all_of, new_app, new_rule, with_rule, with_subcommand}
use Rattle.clap.specs.Simple.{new_shape, on_top}

-- what stands behind a command's name: so many values, of which there has to be one
abbrev pub values : ℕ → Rule
values n = record (new_rule (codes "values")) { required = true; value_names = n }

-- a command with so many values
abbrev pub with_values : Text → ℕ → Shape
with_values name n = (with_rule (new_app name) (values n)).top

-- all words count, nothing but the commands is there, and one of them has to be named
abbrev pub settings : App → App
settings = on_top (λ s. record s { no_binary_name = true; disable_help_flag = true; disable_help_subcommand = true; subcommand_required = true })

-- with the commands that play a script, and with those of one word that read a journal
abbrev pub plays : App
plays = with_subcommand (with_subcommand (with_subcommand (settings (new_app (codes "drmaa"))) (new_shape (codes "serial"))) (new_shape (codes "threads"))) (new_shape (codes "table"))

abbrev pub words : App
words =
    with_subcommand (with_subcommand (with_subcommand (with_subcommand (with_subcommand plays
    (new_shape (codes "check"))) (new_shape (codes "migrate"))) (new_shape (codes "json"))) (new_shape (codes "forecast"))) (new_shape (codes "continue"))

abbrev pub program : App
program = with_subcommand (with_subcommand words (with_values (codes "recur") 7)) (with_values (codes "soak") 2)

-- the values that the matches of a command hold
abbrev pub values_in : List Row → List Text
values_in rows = unwrap_or (all_of (codes "values") rows) []

-- the words that the matches of the program hold: the command's name and its values
abbrev pub words_in : Option (Text × List Row) → List Text
words_in None = []
words_in (Some p) = p.0 ∷ values_in p.1
