-- What was asked of a spawner, by the entries of the launcher: our profile.
use Rattle.std.specs.Prelude.{◌≡◌, List, map}
use Rattle.child_spawner.specs.declared.fates.Asked.{Asked}
use Rattle.attendant.specs.Acts.{Act}
use Rattle.attendant.specs.Runs.{requests_in}

-- the launches of these entries, in order, are the job, attempt and words of each start that was asked of a spawner
abbrev pub AreAsked : List Act → List Asked → Type 0
AreAsked es starts = requests_in es ≡ map (λ (a : Asked). record { job = a.job; attempt = a.attempt; words = a.words }) starts
