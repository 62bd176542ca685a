-- What is said to a person where no machine goes on from a journal: our profile.
use Rattle.std.specs.Prelude.{ℕ, List, ◌++◌, codes, decimal}
use Rattle.revival.specs.declared.revives.ReviveFault.{ReviveFault}
use Rattle.revival.specs.declared.revives.ReviveFault.TheVariants.{OutOfMemory, NotLegal}

-- why no machine goes on from a journal
abbrev pub fault_text : ReviveFault → List ℕ
fault_text OutOfMemory = codes "out of memory"
fault_text (NotLegal entry given machine) = codes "entry " ++ decimal entry ++ codes " is not legal"
