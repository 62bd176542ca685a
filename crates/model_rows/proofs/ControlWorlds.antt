-- The worlds of the histories of control.
use Rattle.std.specs.Prelude.{ℕ, true, List, [], ◌∷◌, Some, None}
use Rattle.drmaa_types.specs.declared.states.Exit.TheVariants.{Code, Signal}
use Rattle.drmaa_types.specs.declared.states.JobState.TheVariants.{Queued, Running, Suspended, Requeued, RequeuedHeld, Done, Failed}
use Rattle.drmaa_types.specs.declared.states.Note.TheVariants as note
use Rattle.drmaa_types.specs.declared.states.SignalKind.TheVariants as signal
use Rattle.drmaa_model.specs.declared.courses.Course.{Course}
use Rattle.drmaa_model.specs.declared.courses.Kill.TheVariants as kill
use Rattle.drmaa_model.specs.declared.courses.Phase.TheVariants.{Idle}
use Rattle.drmaa_model.specs.Plan.{Plan}
use Rattle.drmaa_model.specs.World.{World}
use Rattle.model_rows.specs.Controls.{rerunnable}
use Rattle.model_rows.specs.Jobs.{no_suspend}
use Rattle.model_rows.specs.Machines.{plain}
use Rattle.model_rows.proofs.Worlds.{row, queued, launching, alive, done, change, order, empty_plan, world}

-- ---- a job is killed

abbrev pub one_queued : Plan
one_queued = record empty_plan { rows = row 1 plain queued ∷ []; next_job = 2 }

abbrev two_queued : Plan
two_queued = record empty_plan { rows = row 1 plain queued ∷ row 2 plain queued ∷ []; next_job = 3 }

-- job 1 has this course, after its launch
abbrev with_first : Course → Plan
with_first course = record two_queued { rows = row 1 plain course ∷ row 2 plain queued ∷ []; changes = change 4 1 Queued Running ∷ [] }

abbrev asked : Course
asked = record (alive 1) { kill = kill.Asked; note = note.Terminated }

abbrev ordered : Plan
ordered = record (with_first asked) { orders = order 1 signal.Kill ∷ [] }

abbrev ended : Course
ended = record asked { state = Failed; phase = Idle; held = 0; planned = None; finished = Some 0; exit = Some (Signal 9) }

abbrev gone : Plan
gone = record (with_first ended) { changes = change 4 1 Queued Running ∷ change 13 1 Running Failed ∷ [] }

abbrev pub to_signal : List World
to_signal =
    world 1 empty_plan ∷ world 2 one_queued ∷ world 3 two_queued ∷ world 4 (with_first (launching 1)) ∷ world 5 (with_first (alive 1)) ∷
    world 6 (with_first (alive 1)) ∷ world 7 (with_first (alive 1)) ∷ world 8 ordered ∷ world 9 ordered ∷ world 10 ordered ∷
    world 11 (record ordered { orders = record (order 1 signal.Kill) { taken = true } ∷ [] }) ∷ []

abbrev pub from_signal : List World
from_signal = world 12 (with_first asked) ∷ world 13 gone ∷ world 14 gone ∷ []

-- ---- a job is queued again

abbrev again : Course → Plan
again course = record empty_plan { rows = row 1 rerunnable course ∷ []; next_job = 2 }

abbrev requeued : Course
requeued = record (launching 1) { state = Requeued; phase = Idle; held = 0; planned = None; exit = Some (Code 99) }

abbrev relaunched : Course
relaunched = record (launching 1) { attempt = 2; exit = Some (Code 99) }

abbrev reasked : Course
reasked = record relaunched { kill = kill.Asked; note = note.Terminated }

abbrev reended : Course
reended = record reasked { state = Failed; phase = Idle; held = 0; planned = None; finished = Some 0 }

abbrev pub rerun : List World
rerun =
    world 1 empty_plan ∷ world 2 (again queued) ∷
    world 3 (record (again (launching 1)) { changes = change 3 1 Queued Running ∷ [] }) ∷
    world 4 (record (again requeued) { changes = change 3 1 Queued Running ∷ change 4 1 Running Requeued ∷ [] }) ∷
    world 5 (record (again requeued) { changes = change 3 1 Queued Running ∷ change 4 1 Running Requeued ∷ [] }) ∷
    world 6 (record (again (record requeued { state = RequeuedHeld })) { changes = change 3 1 Queued Running ∷ change 4 1 Running Requeued ∷ change 6 1 Requeued RequeuedHeld ∷ [] }) ∷
    world 7 (record (again (record requeued { state = RequeuedHeld })) { changes = change 3 1 Queued Running ∷ change 4 1 Running Requeued ∷ change 6 1 Requeued RequeuedHeld ∷ [] }) ∷ []

abbrev four_changes : Course → Plan
four_changes course = record (again course) {
  changes = change 3 1 Queued Running ∷ change 4 1 Running Requeued ∷ change 6 1 Requeued RequeuedHeld ∷ change 8 1 RequeuedHeld Requeued ∷ [];
}

abbrev five_changes : Course → Plan
five_changes course = record (again course) {
  changes = change 3 1 Queued Running ∷ change 4 1 Running Requeued ∷ change 6 1 Requeued RequeuedHeld ∷ change 8 1 RequeuedHeld Requeued ∷ change 9 1 Requeued Running ∷ [];
}

abbrev six_changes : Course → Plan
six_changes course = record (again course) {
  changes =
      change 3 1 Queued Running ∷ change 4 1 Running Requeued ∷ change 6 1 Requeued RequeuedHeld ∷ change 8 1 RequeuedHeld Requeued ∷ change 9 1 Requeued Running ∷
      change 11 1 Running Failed ∷ [];
}

abbrev pub rerun_again : List World
rerun_again =
    world 8 (four_changes requeued) ∷ world 9 (five_changes relaunched) ∷ world 10 (record (five_changes reasked) { orders = order 1 signal.Kill ∷ [] }) ∷
    world 11 (six_changes reended) ∷ world 12 (six_changes reended) ∷ []

-- ---- a job is suspended

abbrev with_one : Course → Plan
with_one course = record one_queued { rows = row 1 plain course ∷ [] }

abbrev unable : ℕ → Plan → World
unable entries plan = record (world entries plan) { config = no_suspend }

abbrev launched_fourth : Plan
launched_fourth = record (with_one (launching 1)) { changes = change 4 1 Queued Running ∷ [] }

abbrev pub no_suspension : List World
no_suspension =
    unable 1 empty_plan ∷ unable 2 one_queued ∷ unable 3 one_queued ∷ unable 4 launched_fourth ∷ unable 5 launched_fourth ∷ unable 6 launched_fourth ∷ []

abbrev launched_third : Course → Plan
launched_third course = record (with_one course) { changes = change 3 1 Queued Running ∷ [] }

abbrev stopped : Plan
stopped = record (with_one (record (alive 1) { state = Suspended })) {
  orders = order 1 signal.Stop ∷ [];
  changes = change 3 1 Queued Running ∷ change 5 1 Running Suspended ∷ [];
}

abbrev finished : Plan
finished = record (with_one (done (alive 1))) {
  changes = change 3 1 Queued Running ∷ change 5 1 Running Suspended ∷ change 7 1 Suspended Done ∷ [];
}

abbrev pub suspension : List World
suspension =
    world 1 empty_plan ∷ world 2 one_queued ∷ world 3 (launched_third (launching 1)) ∷ world 4 (launched_third (alive 1)) ∷ world 5 stopped ∷ world 6 stopped ∷ world 7 finished ∷ []

abbrev pub after_suspension : List World
after_suspension = world 8 finished ∷ []
