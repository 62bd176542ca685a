-- The listing of jobs: our profile.
use Rattle.std.specs.Prelude.{ℕ, ◌-◌, List, [], ◌∷◌, ◌++◌, length, codes, decimal, replicate}
use Rattle.std.specs.List.{flat_map}
use Rattle.drmaa_types.specs.declared.infos.JobInfo.{JobInfo}
use Rattle.text_codec.specs.Formats.{spell_or}
use Rattle.text_codec.specs.Lexical.{quoted}
use Rattle.drmaa_types.specs.Said.{state_name}

-- the spaces that fill a word up to so many places; none where it has more
abbrev pub spaces : ℕ → List ℕ → List ℕ
spaces places word = replicate (places - length word) 32

-- a word at the right and at the left of so many places
abbrev pub right : ℕ → List ℕ → List ℕ
right places word = spaces places word ++ word

abbrev pub left : ℕ → List ℕ → List ℕ
left places word = word ++ spaces places word

-- the columns that have places: 10, 13 and 5 of them, with a space between
abbrev pub columns : List ℕ → List ℕ → List ℕ → List ℕ
columns job state slots = right 10 job ++ 32 ∷ (left 13 state ++ 32 ∷ right 5 slots)

-- a line; the name is not filled up
abbrev pub line : List ℕ → List ℕ → List ℕ → List ℕ → List ℕ
line job state slots name = columns job state slots ++ 32 ∷ (name ++ 10 ∷ [])

abbrev pub header : List ℕ
header = line (codes "job") (codes "state") (codes "slots") (codes "name")

-- the line of a job; what has no value is `-`
abbrev pub row : JobInfo → List ℕ
row info = line (decimal info.job.0) (state_name info.state) (spell_or (codes "-") decimal info.slots) (spell_or (codes "-") quoted info.name)

-- a header and the line of each job, in order
abbrev pub listing_text : List JobInfo → List ℕ
listing_text infos = header ++ flat_map row infos
