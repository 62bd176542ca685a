-- What is asked of the texts of a template: our profile.
use Rattle.std.specs.Prelude.{ℕ, ◌+◌, Bool, true, false, not, ◌&&◌, ◌||◌, ◌==◌, nat_le, nat_lt, List, [], ◌∷◌, length, map, sum_by, Option}
use Rattle.std.specs.Option.{option_map_or}
use Rattle.std.specs.List.{list_any, list_all}
use Rattle.std.specs.Str.{bytes_eq}
use Rattle.job_template.specs.declared.templates.JobTemplate.{JobTemplate}
use Rattle.drmaa_types.specs.declared.template_parts.Pair.{Pair}
use Rattle.job_template.specs.declared.templates.ReservationTemplate.{ReservationTemplate}
use Rattle.drmaa_types.specs.declared.template_parts.ResourceLimit.{ResourceLimit}

-- ---- how long a template's text is

-- the most bytes of a template's text, and the most of a name
abbrev pub most_text : ℕ
most_text = 65_536

abbrev pub most_name : ℕ
most_name = 255

-- a text counts its bytes and one more
abbrev pub text_size : List ℕ → ℕ
text_size text = length text + 1

-- an unset text counts nothing
abbrev pub set_size : Option (List ℕ) → ℕ
set_size text = option_map_or text_size text 0

-- a variable counts its name and its value
abbrev pub pair_size : Pair → ℕ
pair_size p = text_size p.name + text_size p.value

-- a limit counts its name
abbrev pub limit_size : ResourceLimit → ℕ
limit_size l = text_size l.name

-- the optional texts
abbrev pub options_size : JobTemplate → ℕ
options_size t =
    set_size t.working_directory + set_size t.job_name + set_size t.input_path + set_size t.output_path +
    set_size t.error_path + set_size t.queue_name

-- how long a job template's text is
abbrev pub text_length : JobTemplate → ℕ
text_length t =
    text_size t.remote_command + sum_by text_size t.args + sum_by pair_size t.job_environment + options_size t +
    sum_by limit_size t.resource_limits

-- how long a reservation template's text is
abbrev pub reservation_text_length : ReservationTemplate → ℕ
reservation_text_length t = set_size t.reservation_name

-- ---- which texts are in form

-- a text has the character U+0000, whose one byte is 0
abbrev pub has_nul : List ℕ → Bool
has_nul text = list_any (λ (byte : ℕ). byte == 0) text

abbrev pub is_empty : List ℕ → Bool
is_empty text = length text == 0

-- a command is empty, begins with `-`, or has U+0000
abbrev pub is_bad_command : List ℕ → Bool
is_bad_command [] = true
is_bad_command (first ∷ rest) = (first == 45) || has_nul (first ∷ rest)

-- a path is set, and is empty or has U+0000
abbrev pub is_bad_path : Option (List ℕ) → Bool
is_bad_path path = option_map_or (λ (text : List ℕ). is_empty text || has_nul text) path false

-- a name is set, and is empty or too long
abbrev pub is_bad_name : Option (List ℕ) → Bool
is_bad_name name = option_map_or (λ (text : List ℕ). is_empty text || nat_lt most_name (length text)) name false

-- ---- the environment

-- a byte is an ASCII letter or `_`
abbrev pub begins_name : ℕ → Bool
begins_name b = (nat_le 65 b && nat_le b 90) || (nat_le 97 b && nat_le b 122) || (b == 95)

-- a byte is an ASCII letter, a digit or `_`
abbrev pub continues_name : ℕ → Bool
continues_name b = begins_name b || (nat_le 48 b && nat_le b 57)

-- a variable's name: a letter or `_`, followed by letters, digits and `_`
abbrev pub is_variable : List ℕ → Bool
is_variable [] = false
is_variable (first ∷ rest) = begins_name first && list_all continues_name rest

-- the names of variables
abbrev pub names_of : List Pair → List (List ℕ)
names_of pairs = map (λ (p : Pair). p.name) pairs

-- a text stands in the list twice
abbrev pub has_repeat : List (List ℕ) → Bool
has_repeat [] = false
has_repeat (text ∷ texts) = list_any (bytes_eq text) texts || has_repeat texts

abbrev pub has_good_name : Pair → Bool
has_good_name p = is_variable p.name

abbrev pub has_nul_value : Pair → Bool
has_nul_value p = has_nul p.value

-- a name is not one of a variable, a name stands twice, or a value has U+0000
abbrev pub is_bad_environment : List Pair → Bool
is_bad_environment pairs =
    not (list_all has_good_name pairs) || has_repeat (names_of pairs) || list_any has_nul_value pairs
