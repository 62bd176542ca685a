-- The script of a soak: runs and reservations, ten seconds apart, each launched at once, and each run ended fifty steps later: our
-- profile.
use Rattle.std.specs.Prelude.{ℕ, zero, suc, ◌+◌, ◌*◌, ◌-◌, nat_lt, List, [], ◌∷◌, ◌++◌, codes, decimal, if◌then◌else◌}
use Rattle.text_codec.specs.Formats.{choose}
use Rattle.text_lines.specs.Lines.{ended}
use Rattle.soak_script.specs.Draws.{draw, template_of}

-- ---- a step

abbrev pub at_line : ℕ → List ℕ
at_line step = codes "at @" ++ decimal (10 * step)

abbrev pub run_line : ℕ → List ℕ → List ℕ
run_line step template = codes "run j" ++ (decimal step ++ (codes " s " ++ template))

abbrev pub reserve_line : ℕ → List ℕ
reserve_line step = codes "reserve r" ++ (decimal step ++ (codes " q x" ++ decimal step))

-- what the step does: a run, or a reservation
abbrev pub step_line : ℕ → ℕ → List ℕ
step_line step draw = choose (template_of draw) (run_line step) (reserve_line step)

-- the job of a run ends, is terminated, and is reaped
abbrev pub end_lines : ℕ → List (List ℕ)
end_lines step =
    (codes "exit j" ++ (decimal step ++ codes " 0")) ∷ (codes "terminate s j" ++ decimal step) ∷ (codes "reap s j" ++ decimal step) ∷ []

abbrev pub end_of : ℕ → ℕ → List (List ℕ)
end_of step draw = choose (template_of draw) (λ template. end_lines step) []

-- the end of the step fifty steps before, if there is one, by the draw of that step
abbrev pub ended_lines : ℕ → ℕ → List (List ℕ)
ended_lines step draw = if nat_lt 50 step then end_of (step - 50) draw else []

abbrev pub step_lines : ℕ → ℕ → List (List ℕ)
step_lines seed step =
    at_line step ∷ step_line step (draw seed step) ∷ codes "launch"
    ∷ ended_lines step (draw seed (step - 50))

-- the template of a step's reservation, if it is one
abbrev pub reservation_lines : ℕ → List (List ℕ)
reservation_lines step =
    (codes "rtemplate x" ++ decimal step) ∷ (codes "start @" ++ decimal (10 * step)) ∷ (codes "end @" ++ decimal (10 * step + 100_000))
    ∷ codes "duration 500" ∷ codes "minslots 8" ∷ codes "end" ∷ []

abbrev pub reservation_of : ℕ → ℕ → List (List ℕ)
reservation_of step draw = choose (template_of draw) (λ template. []) (reservation_lines step)

abbrev pub template_lines : ℕ → ℕ → List (List ℕ)
template_lines seed step = reservation_of step (draw seed step)

-- ---- the script

-- the lines of the first so many steps, from 1 on
abbrev pub for_each : (ℕ → List (List ℕ)) → ℕ → List (List ℕ)
for_each lines zero = []
for_each lines (suc step) = for_each lines step ++ lines (suc step)

-- the machine, and the templates of runs
abbrev pub first_lines : List (List ℕ)
first_lines =
    codes "machine 128 \"soak\" suspend"
    ∷ codes "template a" ∷ codes "command \"true\"" ∷ codes "limit WALLCLOCK_TIME 25" ∷ codes "end"
    ∷ codes "template b" ∷ codes "command \"true\"" ∷ codes "minslots 2" ∷ codes "priority 1" ∷ codes "limit WALLCLOCK_TIME 100" ∷ codes "end"
    ∷ codes "template c" ∷ codes "command \"true\"" ∷ codes "minslots 4" ∷ codes "limit WALLCLOCK_TIME 1000" ∷ codes "end" ∷ []

-- the client opens its sessions
abbrev pub client_lines : List (List ℕ)
client_lines = codes "client" ∷ codes "create-jobs s \"s\"" ∷ codes "create-reservations q \"q\"" ∷ []

-- The lines of the script of so many steps.
unfoldable pub soak_script : ℕ → ℕ → List (List ℕ)
soak_script steps seed =
    first_lines ++ (for_each (template_lines seed) steps ++ (client_lines ++ (for_each (step_lines seed) steps ++ codes "end" ∷ [])))

-- Its bytes.
abbrev pub soak_text : ℕ → ℕ → List ℕ
soak_text steps seed = ended (soak_script steps seed)
