-- What a host is asked, and what it answered: our profile.
use Rattle.std.specs.Prelude.{◌≡◌, ◌≢◌, ℕ, ◌<◌, Bool, true, false, List, [], ◌∷◌, ◌++◌, map, length, All, Option, Some, None, option_map}
use Rattle.drmaa_types.specs.declared.states.SignalKind.{SignalKind}
use Rattle.child_spawner.specs.Launch.{number_line, shell, launch_args, kill_args}

-- one thing that was asked, with its answer
pub data Deed : Type 0 where
  -- to remove a file, and whether it is gone
  Removes : (file : List ℕ) (done : Bool) → Deed
  -- to read a file, and its text
  Reads : (file : List ℕ) (text : Option (List ℕ)) → Deed
  -- to start a program with these arguments, and the number of its process
  Starts : (program : List ℕ) (args : List (List ℕ)) (number : Option ℕ) → Deed
  -- to run a program with these arguments to its end, and whether it succeeded
  Runs : (program : List ℕ) (args : List (List ℕ)) (succeeded : Bool) → Deed

-- Where a host tells what was asked of it, these deeds were added to it.
abbrev pub Did : Option (List Deed) → List Deed → Option (List Deed) → Type 0
Did before deeds after = after ≡ option_map (λ told. told ++ deeds) before

-- A start of `sh` for this process, and nothing else.
abbrev pub Launches : List ℕ → List (List ℕ) → ℕ → Option (List Deed) → Option (List Deed) → Type 0
Launches file words number before after =
    Did before (Starts shell (launch_args file words) (Some number) ∷ []) after

-- A launch that failed: nothing was asked, or `sh` was not started.
pub data Fails (file : List ℕ) (words : List (List ℕ)) (before after : Option (List Deed)) : Type 0 where
  unasked : after ≡ before → Fails file words before after
  not_started : Did before (Starts shell (launch_args file words) None ∷ []) after → Fails file words before after

-- the file was removed, or at least that was asked
pub record Clears (file : List ℕ) (before after : Option (List Deed)) : Type 0 where
  pub done : Bool
  pub did : Did before (Removes file done ∷ []) after

-- how often a file with a process's number is looked at
abbrev pub looks : ℕ
looks = 1000

-- that many looks at a file, and none showed this line
pub record Misses (file line : List ℕ) (count : ℕ) (before after : Option (List Deed)) : Type 0 where
  pub texts : List (Option (List ℕ))
  pub others : All (λ text. text ≢ Some line) texts
  pub counted : length texts ≡ count
  pub did : Did before (map (Reads file) texts) after

-- looks at a file until it was exactly this line
pub record Finds (file line : List ℕ) (before after : Option (List Deed)) : Type 0 where
  pub count : ℕ
  pub few : count < looks
  pub between : Option (List Deed)
  pub missed : Misses file line count before between
  pub found : Did between (Reads file (Some line) ∷ []) after

-- A signal that was sent: once the file showed the process's own number, `sh` sent that process the signal, and succeeded.
pub record Sends (kind : SignalKind) (number : ℕ) (file : List ℕ) (before after : Option (List Deed)) : Type 0 where
  pub between : Option (List Deed)
  pub found : Finds file (number_line number) before between
  pub ran : Did between (Runs shell (kill_args kind number) true ∷ []) after

-- A signal that was not sent: nothing was asked for want of memory, or the process's own number was never seen, or
-- `sh` was not run for want of memory, or it was run with this signal for this process and did not succeed.
pub data Withholds (kind : SignalKind) (number : ℕ) (file : List ℕ) (before after : Option (List Deed)) : Type 0 where
  unasked : after ≡ before → Withholds kind number file before after
  unseen : Misses file (number_line number) looks before after → Withholds kind number file before after
  not_run : Finds file (number_line number) before after → Withholds kind number file before after
  not_sent : (between : Option (List Deed)) → Finds file (number_line number) before between
      → Did between (Runs shell (kill_args kind number) false ∷ []) after → Withholds kind number file before after
