-- The worlds of the history of moments.
use Rattle.std.specs.Prelude.{List, [], ◌∷◌}
use Rattle.drmaa_types.specs.declared.states.JobState.TheVariants.{Queued, Running}
use Rattle.drmaa_model.specs.Plan.{Plan}
use Rattle.drmaa_model.specs.World.{World}
use Rattle.model_rows.specs.Events.{later}
use Rattle.model_rows.specs.Machines.{plain}
use Rattle.model_rows.proofs.ReservationWorlds.{accepted, both}
use Rattle.model_rows.proofs.Worlds.{row, queued, launching, change, empty_plan, world}

abbrev reserved : Plan
reserved = record empty_plan { reservations = accepted 10 20 ∷ []; next_reservation = 2 }

abbrev pub begun : Plan
begun = record reserved { rows = row 1 plain (launching 1) ∷ row 2 later queued ∷ []; next_job = 3; changes = change 6 1 Queued Running ∷ [] }

abbrev pub passing : List World
passing =
    world 1 empty_plan ∷ both 2 empty_plan ∷ both 3 reserved ∷
    both 4 (record reserved { rows = row 1 plain queued ∷ []; next_job = 2 }) ∷
    both 5 (record reserved { rows = row 1 plain queued ∷ row 2 later queued ∷ []; next_job = 3 }) ∷
    both 6 begun ∷ []
