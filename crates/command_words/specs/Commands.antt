-- The commands of the program, and the words that ask for them: our profile.
use Rattle.std.specs.Prelude.{◌≡◌, ℕ, ◌==◌, ◌<◌, ◌≤◌, ◌^◌, Bool, false, List, [], ◌∷◌, Option, MatchOption, codes, decimal}
use Rattle.std.specs.List.{list_any}
use Rattle.drmaa_types.specs.Moments.{greatest}
use Rattle.command_words.specs.declared.commands.Command.{Command}
use Rattle.command_words.specs.declared.commands.Command.TheVariants.{Serial, Threads, Table, Check, Migrate, Json, Forecast, Continue, Recur, Soak}
use Rattle.command_words.specs.declared.commands.Unit.{Unit as StepUnit}
use Rattle.command_words.specs.declared.commands.Unit.TheVariants.{Days, Weeks, Months}
use Rattle.command_words.specs.declared.commands.RecurWords.{RecurWords}
use Rattle.command_words.specs.declared.commands.SoakWords.{SoakWords}

abbrev pub unit_word : StepUnit → List ℕ
unit_word Days = codes "days"
unit_word Weeks = codes "weeks"
unit_word Months = codes "months"

-- the words behind `recur`; a moment is `@` (64) and its number
abbrev pub recur_values : RecurWords → List (List ℕ)
recur_values r =
    r.session ∷ unit_word r.unit ∷ decimal r.number ∷ decimal r.count ∷ (64 ∷ decimal r.start) ∷ decimal r.duration ∷ decimal r.slots ∷ []

-- the words behind `soak`
abbrev pub soak_values : SoakWords → List (List ℕ)
soak_values s = decimal s.steps ∷ decimal s.seed ∷ []

abbrev pub words_of : Command → List (List ℕ)
words_of Serial = codes "serial" ∷ []
words_of Threads = codes "threads" ∷ []
words_of Table = codes "table" ∷ []
words_of Check = codes "check" ∷ []
words_of Migrate = codes "migrate" ∷ []
words_of Json = codes "json" ∷ []
words_of Forecast = codes "forecast" ∷ []
words_of Continue = codes "continue" ∷ []
words_of (Recur r) = codes "recur" ∷ recur_values r
words_of (Soak s) = codes "soak" ∷ soak_values s

-- whether a word begins with `-` (45)
abbrev pub begins_dash : List ℕ → Bool
begins_dash [] = false
begins_dash (b ∷ bs) = b == 45

-- the numbers are in their ranges, and the name of the session does not begin with `-`
pub record AreRanged (r : RecurWords) : Type 0 where
  pub session : begins_dash r.session ≡ false
  pub number : (1 ≤ r.number) × (r.number ≤ 1_000)
  pub count : (1 ≤ r.count) × (r.count ≤ 1_000)
  pub start : r.start ≤ greatest
  pub duration : r.duration < 2 ^ 64
  pub slots : (1 ≤ r.slots) × (r.slots ≤ 65_535)

-- the number of steps, and the number that the draws begin from, which is below 2 ^ 31
abbrev pub AreSoakWords : SoakWords → Type 0
AreSoakWords s = (s.steps ≤ 100_000) × (s.seed ≤ 2_147_483_647)

-- what the command has beside its name is in its ranges
abbrev pub IsRanged : Command → Type 0
IsRanged Serial = Unit {0}
IsRanged Threads = Unit {0}
IsRanged Table = Unit {0}
IsRanged Check = Unit {0}
IsRanged Migrate = Unit {0}
IsRanged Json = Unit {0}
IsRanged Forecast = Unit {0}
IsRanged Continue = Unit {0}
IsRanged (Recur r) = AreRanged r
IsRanged (Soak s) = AreSoakWords s

-- the words ask for the command: they are its words
abbrev pub AsksFor : List (List ℕ) → Command → Type 0
AsksFor words command = IsRanged command × (words ≡ words_of command)

-- the words ask for no command
abbrev pub NamesNone : List (List ℕ) → Type 0
NamesNone words = (command : Command) → AsksFor words command → ⊥

-- no word begins with `-`
abbrev pub IsPlain : List (List ℕ) → Type 0
IsPlain words = list_any begins_dash words ≡ false

-- what was found has the property, and where nothing was found nothing has it
abbrev pub Finds : {A : Type 0} → (A → Type 0) → Option A → Type 0
Finds {A} P found = MatchOption found ((x : A) → P x → ⊥) P
