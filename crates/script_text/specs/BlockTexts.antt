-- Lines of a block, as they are kept: the byte strings that spell them.
use Rattle.std.specs.Prelude.{◌≡◌, ℕ, true, List, [], ◌∷◌, is_some}
use Rattle.std.specs.List.{AllByRecursion}
use Rattle.script_lines.specs.declared.lines.Line.{Line}
use Rattle.script_lines.specs.Lines.{read_line}
use Rattle.script_text.specs.Names.{onto}

-- the lines that byte strings spell
abbrev pub said : List (List ℕ) → List Line
said [] = []
said (t ∷ ts) = onto (read_line t) (said ts)

-- each byte string spells a line
abbrev pub AreLines : List (List ℕ) → Type 0
AreLines = AllByRecursion (λ t. is_some (read_line t) ≡ true)
