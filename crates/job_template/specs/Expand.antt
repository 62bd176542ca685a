-- What a member of an array is run with (GFD.231, runBulkJobs): its index stands for the placeholder.
use Rattle.std.specs.Prelude.{ℕ, zero, suc, ◌-◌, List, [], ◌∷◌, ◌++◌, length, map, codes, decimal, nat_eq, if◌then◌else◌}
use Rattle.std.specs.Option.{option_map}
use Rattle.std.specs.List.{starts_with}
use Rattle.job_template.specs.declared.templates.JobTemplate.{JobTemplate}
use Rattle.drmaa_types.specs.declared.template_parts.Pair.{Pair}

abbrev pub placeholder : List ℕ
placeholder = codes "$DRMAA2_INDEX$"

-- The text with the digits in place of each placeholder, from left to right; the first `passed` bytes are the rest of
-- a placeholder. The digits stand beside the text and are not looked at again.
abbrev pub replaced : List ℕ → ℕ → List ℕ → List ℕ
replaced digits passed [] = []
replaced digits (suc passed) (b ∷ bs) = replaced digits passed bs
replaced digits zero (b ∷ bs) =
    if starts_with nat_eq (b ∷ bs) placeholder then digits ++ replaced digits (length placeholder - 1) bs
    else b ∷ replaced digits 0 bs

abbrev pub expanded_text : ℕ → List ℕ → List ℕ
expanded_text index text = replaced (decimal index) 0 text

-- an environment's variable with this made of its value; its name stays
abbrev pub with_value : (List ℕ → List ℕ) → Pair → Pair
with_value made p = record p { value = made p.value }

-- this made of the args, of the environment's values and of the paths; all else stays
abbrev pub with_texts : (List ℕ → List ℕ) → JobTemplate → JobTemplate
with_texts made t = record t {
  args = map made t.args;
  job_environment = map (with_value made) t.job_environment;
  working_directory = option_map made t.working_directory;
  input_path = option_map made t.input_path;
  output_path = option_map made t.output_path;
  error_path = option_map made t.error_path;
}

-- the template of the member with this index
abbrev pub expanded : ℕ → JobTemplate → JobTemplate
expanded index t = with_texts (expanded_text index) t
