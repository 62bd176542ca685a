-- How the lines of the script are spelled.
use Rattle.std.proofs.Common.{◌≡◌, ℕ, zero, suc, ◌+◌, ◌*◌, ◌-◌, nat_lt, pos, true, false, List, [], ◌∷◌, ◌++◌, Option, Some, None, map, decimal, codes, refl, sym, ap, ◌∙◌, append-nil}
use Rattle.std.specs.Fmt.{digits}
use Rattle.std.specs.List.{flat_map}
use Rattle.std.proofs.lemmas.Grind.{flat_map-append}
use Rattle.std.proofs.lemmas.List.{map-append}
use Rattle.text_codec.specs.Fields.{always, field, no_more}
use Rattle.text_codec.specs.Formats.{behind, checked, choose, mapped, number, or_else, pair}
use Rattle.text_codec.specs.Integers.{integer}
use Rattle.text_codec.specs.Lexical.{escaped}
use Rattle.text_codec.specs.Quotes.{text}
use Rattle.text_codec.specs.StepLaws.{by_test}
use Rattle.text_codec.specs.Words.{capitals, name}
use Rattle.text_dates.specs.declared.said.Said.{Said}
use Rattle.text_dates.specs.Said.{said}
use Rattle.text_codec.specs.TemplateParts.{resource_limit}
use Rattle.script_lines.specs.declared.fields.Beginning.TheVariants.{At}
use Rattle.script_lines.specs.declared.fields.JobField.{JobField}
use Rattle.script_lines.specs.declared.fields.JobField.TheVariants as job
use Rattle.script_lines.specs.declared.fields.ReservationField.{ReservationField}
use Rattle.script_lines.specs.declared.fields.ReservationField.TheVariants as reservation
use Rattle.script_lines.specs.declared.lines.Line.TheVariants as line
use Rattle.script_lines.specs.Refs.{reference}
use Rattle.script_lines.specs.Shapes.{create_fields, exit_fields, ran_fields, reserve_fields, run_fields, said_fields, text_fields, two_fields}
use Rattle.script_lines.specs.TemplateFields.{beginning, beginning_fields, count_fields, duration_fields, integer_fields, limit_fields}
use Rattle.script_lines.specs.Templates.{reservation_text}
use Rattle.script_text.specs.Header.{header, suspend}
use Rattle.script_text.specs.Scripts.{Part, Job, Reservation, Lines, line_text, part_lines}
use Rattle.soak_script.specs.Draws.{draw, template_of}
use Rattle.soak_script.specs.Lines as lines
use Rattle.soak_laws.specs.Scripts as script

-- ---- the blocks of the script

abbrev pub short_fields : List JobField
short_fields = job.Command (codes "true") ∷ job.Limit (script.wallclock 25) ∷ []

abbrev pub wide_fields : List JobField
wide_fields = job.Command (codes "true") ∷ job.MinSlots 2 ∷ job.Priority (pos 1) ∷ job.Limit (script.wallclock 100) ∷ []

abbrev pub long_fields : List JobField
long_fields = job.Command (codes "true") ∷ job.MinSlots 4 ∷ job.Limit (script.wallclock 1000) ∷ []

abbrev pub first_parts : List Part
first_parts = Job (codes "a") short_fields ∷ Job (codes "b") wide_fields ∷ Job (codes "c") long_fields ∷ []

abbrev pub frame_end : ℕ → Said
frame_end step = record { dated = None; moment = 10 * step + 100_000 }

abbrev pub frame_fields : ℕ → List ReservationField
frame_fields step =
    reservation.Start (At (script.moment_of step)) ∷ reservation.End (frame_end step) ∷ reservation.Duration 500 ∷ reservation.MinSlots 8 ∷ []

abbrev pub frame_parts : ℕ → Option (List ℕ) → List Part
frame_parts step run = choose run (λ (template : List ℕ). []) (Reservation (script.template_name step) (frame_fields step) ∷ [])

abbrev pub parts_at : ℕ → ℕ → List Part
parts_at seed step = frame_parts step (template_of (draw seed step))

abbrev pub parts_of : ℕ → ℕ → List Part
parts_of steps seed = first_parts ++ (script.for_steps (parts_at seed) steps ++ Lines false (script.client_of steps seed) ∷ [])

-- ---- the machine, and the templates of runs

pub first_text : header.spell (128, (codes "soak", true)) ∷ flat_map part_lines first_parts ≡ lines.first_lines
unfolding header suspend checked behind pair number text escaped name text_fields count_fields integer_fields limit_fields always no_more integer resource_limit mapped capitals digits
first_text = refl

-- ---- the templates of reservations

start_text : (step : ℕ) → reservation_text (reservation.Start (At (script.moment_of step))) ≡ codes "start @" ++ decimal (10 * step)
unfolding beginning_fields always no_more beginning mapped or_else said
start_text step = ap (λ t. codes "start @" ++ t) (append-nil (decimal (10 * step)))

end_text : (step : ℕ) → reservation_text (reservation.End (frame_end step)) ≡ codes "end @" ++ decimal (10 * step + 100_000)
unfolding said_fields always no_more said
end_text step = ap (λ t. codes "end @" ++ t) (append-nil (decimal (10 * step + 100_000)))

duration_text : reservation_text (reservation.Duration 500) ≡ codes "duration 500"
unfolding duration_fields always no_more number digits
duration_text = refl

slots_text : reservation_text (reservation.MinSlots 8) ≡ codes "minslots 8"
unfolding count_fields always no_more number digits
slots_text = refl

frame_text : (step : ℕ) → part_lines (Reservation (script.template_name step) (frame_fields step)) ≡ lines.reservation_lines step
unfolding name
frame_text step = rw (start_text step, end_text step, duration_text, slots_text) refl

frame_texts : (step : ℕ) (run : Option (List ℕ)) → flat_map part_lines (frame_parts step run) ≡ choose run (λ (template : List ℕ). []) (lines.reservation_lines step)
frame_texts step None = append-nil (part_lines (Reservation (script.template_name step) (frame_fields step))) ∙ frame_text step
frame_texts step (Some template) = refl

frames_text : (seed steps : ℕ) → flat_map part_lines (script.for_steps (parts_at seed) steps) ≡ lines.for_each (lines.template_lines seed) steps
frames_text seed zero = refl
frames_text seed (suc step) =
    flat_map-append part_lines (script.for_steps (parts_at seed) step) (parts_at seed (suc step))
    ∙ rw (frames_text seed step, frame_texts (suc step) (template_of (draw seed (suc step)))) refl

-- ---- the lines of a step

at_text : (step : ℕ) → line_text (line.At (script.moment_of step)) ≡ lines.at_line step
unfolding said_fields always no_more said
at_text step = ap (λ t. codes "at @" ++ t) (append-nil (decimal (10 * step)))

run_text : (step : ℕ) (template : List ℕ) → line_text (script.run_of step template) ≡ lines.run_line step template
unfolding run_fields ran_fields always field no_more name reference
run_text step template = ap (λ t. codes "run j" ++ (decimal step ++ (codes " s " ++ t))) (append-nil template)

reserve_text : (step : ℕ) → line_text (script.reserve_of step) ≡ lines.reserve_line step
unfolding reserve_fields always no_more name reference
reserve_text step = ap (λ t. codes "reserve r" ++ (decimal step ++ (codes " q x" ++ t))) (append-nil (decimal step))

asked_text : (step : ℕ) (run : Option (List ℕ)) → line_text (script.asked_by step run) ≡ choose run (lines.run_line step) (lines.reserve_line step)
asked_text step None = reserve_text step
asked_text step (Some template) = run_text step template

zero_text : decimal 0 ≡ codes "0"
unfolding digits
zero_text = refl

exit_text : (step : ℕ) → line_text (line.Exit (script.job step) 0) ≡ codes "exit j" ++ (decimal step ++ codes " 0")
unfolding exit_fields always no_more reference number
exit_text step = ap (λ t. codes "exit j" ++ (decimal step ++ (codes " " ++ (t ++ [])))) zero_text

terminate_text : (step : ℕ) → line_text (line.Terminate script.jobs (script.job step)) ≡ codes "terminate s j" ++ decimal step
unfolding two_fields always no_more reference
terminate_text step = ap (λ t. codes "terminate s j" ++ t) (append-nil (decimal step))

reap_text : (step : ℕ) → line_text (line.Reap script.jobs (script.job step)) ≡ codes "reap s j" ++ decimal step
unfolding two_fields always no_more reference
reap_text step = ap (λ t. codes "reap s j" ++ t) (append-nil (decimal step))

end_texts : (step : ℕ) (run : Option (List ℕ)) → map line_text (script.ended_by step run) ≡ choose run (λ (template : List ℕ). lines.end_lines step) []
end_texts step None = refl
end_texts step (Some template) = rw (exit_text step, terminate_text step, reap_text step) refl

ended_texts : (seed step : ℕ) → map line_text (script.ended_at seed step) ≡ lines.ended_lines step (draw seed (step - 50))
ended_texts seed step = by_test (nat_lt 50 step)
    (λ t. rw t (end_texts (step - 50) (template_of (draw seed (step - 50)))))
    (λ f. rw f refl)

step_text : (seed step : ℕ) → map line_text (script.lines_at seed step) ≡ lines.step_lines seed step
step_text seed step = rw (at_text step, asked_text step (template_of (draw seed step)), ended_texts seed step) refl

steps_text : (seed steps : ℕ) → map line_text (script.for_steps (script.lines_at seed) steps) ≡ lines.for_each (lines.step_lines seed) steps
steps_text seed zero = refl
steps_text seed (suc step) =
    map-append line_text (script.for_steps (script.lines_at seed) step) (script.lines_at seed (suc step))
    ∙ rw (steps_text seed step, step_text seed (suc step)) refl

-- ---- the client, and the script

opening_text : map line_text script.opening ≡ codes "create-jobs s \"s\"" ∷ codes "create-reservations q \"q\"" ∷ []
unfolding create_fields always field no_more name text escaped
opening_text = refl

client_text : (steps seed : ℕ) → part_lines (Lines false (script.client_of steps seed)) ≡ lines.client_lines ++ (lines.for_each (lines.step_lines seed) steps ++ codes "end" ∷ [])
client_text steps seed =
    let asked = script.for_steps (script.lines_at seed) steps in
    ap (λ ls. codes "client" ∷ (ls ++ codes "end" ∷ []))
    (map-append line_text script.opening asked ∙ ap (λ ls. ls ++ map line_text asked) opening_text ∙ ap (λ ls. codes "create-jobs s \"s\"" ∷ codes "create-reservations q \"q\"" ∷ ls) (steps_text seed steps))

pub script_spelled : (steps seed : ℕ) → lines.soak_script steps seed ≡ header.spell (128, (codes "soak", true)) ∷ flat_map part_lines (parts_of steps seed)
unfolding lines.soak_script
script_spelled steps seed =
    let frames = script.for_steps (parts_at seed) steps in
    let client = Lines false (script.client_of steps seed) in
    let rest : flat_map part_lines (frames ++ client ∷ []) ≡ lines.for_each (lines.template_lines seed) steps ++ (lines.client_lines ++ (lines.for_each (lines.step_lines seed) steps ++ codes "end" ∷ [])) =
    flat_map-append part_lines frames (client ∷ []) ∙ rw (frames_text seed steps, append-nil (part_lines client), client_text steps seed) refl in
    ap (λ ls. lines.first_lines ++ ls) (sym rest)
    ∙ ap (λ ls. ls ++ flat_map part_lines (frames ++ client ∷ [])) (sym first_text)
    ∙ ap (λ ls. header.spell (128, (codes "soak", true)) ∷ ls) (sym (flat_map-append part_lines first_parts (frames ++ client ∷ [])))
