-- What the client asks of each job, and by which line.
use Rattle.std.specs.Prelude.{ℕ, List}
use Rattle.command_scripts.specs.declared.printing.Ask.{Ask}
use Rattle.command_scripts.specs.declared.printing.Ask.TheVariants.{Run, Wait, Info}
use Rattle.command_scripts.specs.Texts.{run_line, wait_line, info_line}

abbrev pub ask_line : Ask → ℕ → List ℕ
ask_line Run n = run_line n
ask_line Wait n = wait_line n
ask_line Info n = info_line n
