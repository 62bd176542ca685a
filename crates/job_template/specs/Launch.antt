-- The words that a launch hands to a spawner: our profile.
use Rattle.std.specs.Prelude.{ℕ, List, [], ◌∷◌, ◌++◌, length, map, codes, decimal, Option, unwrap_or, if◌then◌else◌}
use Rattle.job_template.specs.declared.templates.JobTemplate.{JobTemplate}
use Rattle.drmaa_types.specs.declared.template_parts.Pair.{Pair}

-- an unset path is the empty text
abbrev pub path_word : Option (List ℕ) → List ℕ
path_word path = unwrap_or path []

-- the working directory, and the paths of input, output and error
abbrev pub path_words : JobTemplate → List (List ℕ)
path_words t =
    path_word t.working_directory ∷ path_word t.input_path ∷ path_word t.output_path ∷ path_word t.error_path ∷ []

-- whether the output and the error go to one file
abbrev pub join_word : JobTemplate → List ℕ
join_word t = if t.join_files then codes "join" else codes "apart"

-- `NAME=VALUE`
abbrev pub pair_word : Pair → List ℕ
pair_word p = p.name ++ codes "=" ++ p.value

-- the number of environment pairs in decimal, and the pairs
abbrev pub environment_words : JobTemplate → List (List ℕ)
environment_words t = decimal (length t.job_environment) ∷ map pair_word t.job_environment

-- the command and the args
abbrev pub command_words : JobTemplate → List (List ℕ)
command_words t = t.remote_command ∷ t.args

-- the paths, whether the files are joined, the environment, the command
abbrev pub launch_words : JobTemplate → List (List ℕ)
launch_words t = path_words t ++ join_word t ∷ [] ++ environment_words t ++ command_words t
