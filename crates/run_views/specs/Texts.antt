-- The text of a log: our profile.
use Rattle.std.specs.Prelude.{ℕ, List, [], ◌∷◌, ◌++◌, Option, Some, None, codes, decimal}
use Rattle.std.specs.List.{flat_map}
use Rattle.drmaa_types.specs.declared.states.Exit.TheVariants.{Code, Signal}
use Rattle.text_codec.specs.Formats.{spell_list}
use Rattle.text_codec.specs.Lexical.{quoted}
use Rattle.run_views.specs.declared.runs.Ending.{Ending}
use Rattle.run_views.specs.declared.runs.Ending.TheVariants.{Exited, Unknown, NotStarted}
use Rattle.run_views.specs.declared.runs.Run.{Run}
use Rattle.run_views.specs.declared.runs.RunEnd.{RunEnd}

-- how a run ended: `code N`, `signal N`, `unknown` or `notStarted`
abbrev pub ending_text : Ending → List ℕ
ending_text (Exited (Code n)) = codes "code " ++ decimal n
ending_text (Exited (Signal n)) = codes "signal " ++ decimal n
ending_text Unknown = codes "unknown"
ending_text NotStarted = codes "notStarted"

-- the moment of an end, and how it was; `-` where there is none
abbrev pub ended_text : Option RunEnd → List ℕ
ended_text None = codes "-"
ended_text (Some end) = decimal end.at

abbrev pub exit_text : Option RunEnd → List ℕ
exit_text None = codes "-"
exit_text (Some end) = ending_text end.how

-- words as a journal spells them: each in quotes, in brackets
abbrev pub words_text : List (List ℕ) → List ℕ
words_text words = spell_list quoted words

-- job, attempt and launch, each with a tab behind it
abbrev pub launch_text : Run → List ℕ
launch_text run = decimal run.job.0 ++ (codes "\t" ++ (decimal run.attempt ++ (codes "\t" ++ (decimal run.launched ++ codes "\t"))))

-- end, slots and exit, each with a tab behind it
abbrev pub course_text : Run → List ℕ
course_text run = ended_text run.end ++ (codes "\t" ++ (decimal run.slots ++ (codes "\t" ++ (exit_text run.end ++ codes "\t"))))

-- The line of a run: job, attempt, launch, end, slots, exit and words.
abbrev pub run_line : Run → List ℕ
run_line run = launch_text run ++ (course_text run ++ (words_text run.words ++ 10 ∷ []))

-- the lines of all runs, in order
abbrev pub log_text : List Run → List ℕ
log_text runs = flat_map run_line runs
