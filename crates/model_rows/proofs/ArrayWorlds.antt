-- The worlds of the histories of arrays and waits.
use Rattle.std.specs.Prelude.{ℕ, List, [], ◌∷◌, codes, Some, None}
use Rattle.job_template.specs.declared.templates.JobTemplate.{JobTemplate}
use Rattle.drmaa_types.specs.declared.states.JobState.TheVariants.{Queued, Running, Done, Failed}
use Rattle.drmaa_types.specs.declared.states.Note.TheVariants as note
use Rattle.drmaa_model.specs.declared.courses.Course.{Course}
use Rattle.drmaa_model.specs.declared.rows.Row.{Row}
use Rattle.drmaa_model.specs.Courses.{wants_of}
use Rattle.drmaa_model.specs.Plan.{Plan}
use Rattle.drmaa_model.specs.World.{World}
use Rattle.model_rows.specs.Machines.{plain, array}
use Rattle.model_rows.proofs.Worlds.{row, queued, launching, done, change, empty_plan, world}

-- ---- an array that is terminated as a whole

abbrev plain_member : ℕ → Course → Row
plain_member number course = record (row number plain course) { wants = wants_of [] plain (record { array = Some (array 1); index = Some number; bound = None }) }

abbrev three_alike : Course → Plan
three_alike course = record empty_plan { rows = plain_member 1 course ∷ plain_member 2 course ∷ plain_member 3 course ∷ []; next_job = 4; next_array = 2 }

abbrev terminated : Plan
terminated = record (three_alike (record queued { state = Failed; finished = Some 0; note = note.Terminated })) {
  changes = change 5 1 Queued Failed ∷ change 5 2 Queued Failed ∷ change 5 3 Queued Failed ∷ [];
}

abbrev reaped : Plan
reaped = record terminated { rows = [] }

abbrev pub wholly : List World
wholly =
    world 1 empty_plan ∷ world 2 empty_plan ∷ world 3 empty_plan ∷ world 4 (three_alike queued) ∷ world 5 terminated ∷ world 6 terminated ∷
    world 7 reaped ∷ world 8 reaped ∷ []

-- ---- an array that runs

abbrev told : List ℕ → JobTemplate
told index = record plain { args = index ∷ [] }

-- a member by its number, its index and that in decimal
abbrev member_row : ℕ → ℕ → List ℕ → Course → Row
member_row number index digits course =
    record (row number (told digits) course) { wants = wants_of [] (told digits) (record { array = Some (array 1); index = Some index; bound = Some 2 }) }

abbrev members : Course → Course → Course → Plan
members first second third = record empty_plan {
  rows = member_row 1 1 (codes "1") first ∷ member_row 2 5 (codes "5") second ∷ member_row 3 9 (codes "9") third ∷ [];
  next_job = 4;
  next_array = 2;
}

abbrev pub bound : List World
bound =
    world 1 empty_plan ∷ world 2 (members queued queued queued) ∷
    world 3 (record (members (launching 1) queued queued) { changes = change 3 1 Queued Running ∷ [] }) ∷
    world 4 (record (members (launching 1) (launching 1) queued) { changes = change 3 1 Queued Running ∷ change 4 2 Queued Running ∷ [] }) ∷ []

abbrev three_begun : Plan
three_begun = record (members (done (launching 1)) (launching 1) (launching 1)) {
  changes = change 3 1 Queued Running ∷ change 4 2 Queued Running ∷ change 5 1 Running Done ∷ change 6 3 Queued Running ∷ [];
}

abbrev pub third : List World
third =
    world 5 (record (members (done (launching 1)) (launching 1) queued) {
      changes = change 3 1 Queued Running ∷ change 4 2 Queued Running ∷ change 5 1 Running Done ∷ [];
    }) ∷
    world 6 three_begun ∷ world 7 three_begun ∷ world 8 three_begun ∷ []

-- ---- waits

abbrev waiting : Course → Course → Course → Plan
waiting first second third = record empty_plan { rows = row 1 plain first ∷ row 2 plain second ∷ row 3 plain third ∷ []; next_job = 4 }

abbrev all_begun : Course → Course → Plan
all_begun second third = record (waiting (launching 1) second third) {
  changes = change 5 1 Queued Running ∷ change 6 2 Queued Running ∷ change 7 3 Queued Running ∷ [];
}

abbrev one_done : Plan
one_done = record (all_begun (done (launching 1)) (launching 1)) {
  changes = change 5 1 Queued Running ∷ change 6 2 Queued Running ∷ change 7 3 Queued Running ∷ change 8 2 Running Done ∷ [];
}

abbrev two_done : Plan
two_done = record (all_begun (done (launching 1)) (done (launching 1))) {
  changes = change 5 1 Queued Running ∷ change 6 2 Queued Running ∷ change 7 3 Queued Running ∷ change 8 2 Running Done ∷ change 9 3 Running Done ∷ [];
}

abbrev pub ends : List World
ends =
    world 1 empty_plan ∷
    world 2 (record empty_plan { rows = row 1 plain queued ∷ []; next_job = 2 }) ∷
    world 3 (record empty_plan { rows = row 1 plain queued ∷ row 2 plain queued ∷ []; next_job = 3 }) ∷
    world 4 (waiting queued queued queued) ∷
    world 5 (record (waiting (launching 1) queued queued) { changes = change 5 1 Queued Running ∷ [] }) ∷
    world 6 (record (waiting (launching 1) (launching 1) queued) { changes = change 5 1 Queued Running ∷ change 6 2 Queued Running ∷ [] }) ∷
    world 7 (all_begun (launching 1) (launching 1)) ∷
    world 8 one_done ∷ world 9 two_done ∷ world 10 two_done ∷ world 11 two_done ∷ world 12 two_done ∷ []

abbrev pub over : List World
over = world 13 (record two_done { moment = 2 }) ∷ []
