-- Why there is nothing to write: our profile.
use Rattle.std.specs.Prelude.{◌≡◌, ℕ, true, List, Option, None}
use Rattle.std.specs.List.{list_all}
use Rattle.text_codec.specs.Lexical.{no_feed}
use Rattle.lint_command.specs.declared.judging.Refused.{Refused}
use Rattle.lint_command.specs.declared.judging.Refused.TheVariants.{Line, OutOfMemory}
use Rattle.lint_command.specs.Kinds.{IsBadLine}

-- the advice is one line
abbrev pub IsOneLine : List ℕ → Type 0
IsOneLine advice = list_all no_feed advice ≡ true

-- the line that is refused is the bad one
abbrev pub IsRefusedBy : List ℕ → Refused → Type 0
IsRefusedBy bytes (Line line advice) = IsBadLine bytes line
IsRefusedBy bytes OutOfMemory = Unit {0}

-- what is said of it
abbrev pub advice_at : Refused → Option (List ℕ)
advice_at (Line line advice) = advice
advice_at OutOfMemory = None
