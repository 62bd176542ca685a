-- The worlds of the histories of slots, priorities and time.
use Rattle.std.specs.Prelude.{ℕ, true, negsuc, pos, List, [], ◌∷◌, Some}
use Rattle.job_template.specs.declared.templates.JobTemplate.{JobTemplate}
use Rattle.drmaa_types.specs.declared.states.JobState.TheVariants.{Queued, Running, Done, Failed}
use Rattle.drmaa_types.specs.declared.states.Note.TheVariants as note
use Rattle.drmaa_types.specs.declared.states.SignalKind.TheVariants as signal
use Rattle.drmaa_model.specs.declared.courses.Course.{Course}
use Rattle.drmaa_model.specs.declared.courses.Kill.TheVariants as kill
use Rattle.drmaa_model.specs.Plan.{Plan}
use Rattle.drmaa_model.specs.World.{World}
use Rattle.model_rows.specs.Jobs.{one_slot, urgent}
use Rattle.model_rows.specs.Machines.{plain, wide}
use Rattle.model_rows.proofs.Worlds.{row, queued, launching, alive, done, change, order, empty_plan, world}

-- ---- slots

abbrev three : Course → Course → Course → Plan
three first second third = record empty_plan { rows = row 1 (wide 3 plain) first ∷ row 2 (wide 2 plain) second ∷ row 3 (wide 1 plain) third ∷ []; next_job = 4 }

abbrev pub fitting : List World
fitting =
    world 1 empty_plan ∷
    world 2 (record empty_plan { rows = row 1 (wide 3 plain) queued ∷ []; next_job = 2 }) ∷
    world 3 (record empty_plan { rows = row 1 (wide 3 plain) queued ∷ row 2 (wide 2 plain) queued ∷ []; next_job = 3 }) ∷
    world 4 (three queued queued queued) ∷
    world 5 (record (three (launching 3) queued queued) { changes = change 5 1 Queued Running ∷ [] }) ∷
    world 6 (record (three (launching 3) queued (launching 1)) { changes = change 5 1 Queued Running ∷ change 6 3 Queued Running ∷ [] }) ∷ []

abbrev pub other : List World
other =
    world 7 (record (three (done (launching 3)) queued (launching 1)) { changes = change 5 1 Queued Running ∷ change 6 3 Queued Running ∷ change 7 1 Running Done ∷ [] }) ∷
    world 8 (record (three (done (launching 3)) (launching 2) (launching 1)) {
      changes = change 5 1 Queued Running ∷ change 6 3 Queued Running ∷ change 7 1 Running Done ∷ change 8 2 Queued Running ∷ [];
    }) ∷ []

-- ---- priorities

abbrev lesser : JobTemplate
lesser = record plain { priority = Some (negsuc 0) }

abbrev greater : JobTemplate
greater = record plain { priority = Some (pos 3) }

abbrev single : ℕ → Plan → World
single entries plan = record (world entries (record plan { total = 1 })) { config = one_slot }

abbrev pub prior : List World
prior =
    single 1 empty_plan ∷
    single 2 (record empty_plan { rows = row 1 lesser queued ∷ []; next_job = 2 }) ∷
    single 3 (record empty_plan { rows = row 1 lesser queued ∷ row 2 greater queued ∷ []; next_job = 3 }) ∷
    single 4 (record empty_plan { rows = row 1 lesser queued ∷ row 2 greater (launching 1) ∷ []; next_job = 3; changes = change 4 2 Queued Running ∷ [] }) ∷ []

-- ---- time

abbrev one : JobTemplate → Course → Plan
one t course = record empty_plan { rows = row 1 t course ∷ []; next_job = 2 }

abbrev pub late : List World
late =
    world 1 empty_plan ∷ world 2 (one urgent queued) ∷
    world 3 (record (one urgent (record queued { state = Failed; finished = Some 5; note = note.PastDeadline })) { moment = 5; changes = change 3 1 Queued Failed ∷ [] }) ∷ []

abbrev running : Course → Plan
running course = record (one plain course) { changes = change 3 1 Queued Running ∷ [] }

abbrev over : Plan
over = record (running (record (alive 1) { kill = kill.Asked; note = note.PastLimit })) { moment = 3; orders = order 1 signal.Kill ∷ [] }

abbrev pub limits : List World
limits =
    world 1 empty_plan ∷ world 2 (one plain queued) ∷ world 3 (running (launching 1)) ∷ world 4 (running (alive 1)) ∷ world 5 over ∷
    world 6 (record over { orders = record (order 1 signal.Kill) { taken = true } ∷ [] }) ∷ []
