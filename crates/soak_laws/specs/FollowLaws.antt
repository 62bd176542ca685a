-- The client's lines may stand one behind the other.
use Rattle.std.proofs.Common.{◌≡◌, ℕ, zero, suc, ◌+◌, ◌-◌, ◌/◌, ◌%◌, ◌<◌, ◌≤◌, nat_lt, true, false, List, [], ◌∷◌, ◌++◌, Option, Some, None, codes, lit<, refl, sym, ap, subst, ◌∙◌, arith, append_assoc, append-nil}
use Rattle.std.specs.Map.{lookup}
use Rattle.std.specs.Str.{bytes_eq}
use Rattle.std.proofs.lemmas.Bool.Decides.{nat_tests}
use Rattle.drmaa_types.specs.Moments.{greatest}
use Rattle.job_template.specs.declared.templates.ReservationTemplate.{ReservationTemplate}
use Rattle.text_codec.specs.CleanLaws.{letters_clean}
use Rattle.text_codec.specs.Formats.{number}
use Rattle.text_codec.specs.Fields.{always, field, no_more}
use Rattle.text_codec.specs.Quotes.{text}
use Rattle.text_codec.specs.StepLaws.{by_test}
use Rattle.text_codec.specs.Words.{is_lower, name}
use Rattle.text_dates.specs.Said.{said}
use Rattle.script_lines.specs.declared.lines.Line.{Line}
use Rattle.script_lines.specs.declared.lines.Line.TheVariants as line
use Rattle.script_lines.specs.Lines.{line_form}
use Rattle.script_lines.specs.Refs.{reference}
use Rattle.script_lines.specs.Shapes.{create_fields, exit_fields, ran_fields, reserve_fields, run_fields, said_fields, two_fields}
use Rattle.script_text.specs.declared.blocks.Kind.{Kind}
use Rattle.script_text.specs.declared.blocks.Kind.TheVariants.{Session, Job}
use Rattle.script_text.specs.declared.scripts.Mode.TheVariants.{Serial}
use Rattle.script_text.specs.declared.scripts.Script.{Script}
use Rattle.script_text.specs.Follows.{may_stand}
use Rattle.script_text.specs.Header.{config_of}
use Rattle.script_text.specs.NameLaws.{either, bound_append}
use Rattle.script_text.specs.Names.{binds, bound, is_there, names_of, onto}
use Rattle.script_text.specs.Scripts.{Follow}
use Rattle.soak_script.specs.Draws.{draw, template_by, template_of}
use Rattle.soak_laws.specs.NameLaws.{apart, is_numbered, itself}
use Rattle.soak_laws.specs.Scripts.{job_name, reservation_name, template_name, run_templates, jobs, job, run_of, reserve_of, asked_by, ended_by, ended_at, moment_of, lines_at, for_steps, opening, client_of}

-- the script before its client, with these templates of reservations
abbrev pub standing : List (List ℕ × ReservationTemplate) → Script
standing frames = record { config = config_of (128, (codes "soak", true)) []; jobs = run_templates; reservations = frames; setup = None; clients = [] }

-- a template has this name
abbrev pub IsFrame : List (List ℕ × ReservationTemplate) → ℕ → Type 0
IsFrame frames step = is_there frames (template_name step) ≡ true

-- ---- what lines bind

-- what is bound stays so behind more lines, and a line that binds nothing changes nothing
still_bound : (w : List ℕ) (k : Kind) (earlier ls : List Line) → bound w earlier ≡ Some k → bound w (earlier ++ ls) ≡ Some k
still_bound w k earlier ls e = bound_append w earlier ls ∙ rw e refl

same_either : {A : Type 0} (o : Option A) → either o None ≡ o
same_either None = refl
same_either (Some x) = refl

silent : (w : List ℕ) (earlier : List Line) (l : Line) → binds l ≡ None → bound w (earlier ++ l ∷ []) ≡ bound w earlier
silent w earlier l none =
    bound_append w earlier (l ∷ []) ∙ ap (λ b. either (bound w earlier) (lookup (bytes_eq w) (onto b []))) none ∙ same_either (bound w earlier)

-- lines may stand behind others, and then more behind these
follow_both : (s : Script) (earlier xs ys : List Line) → Follow Serial false s earlier xs → Follow Serial false s (earlier ++ xs) ys → Follow Serial false s earlier (xs ++ ys)
follow_both s earlier [] ys f g = subst (λ es. Follow Serial false s es ys) (append-nil earlier) g
follow_both s earlier (x ∷ xs) ys f g = (f.0, follow_both s (earlier ++ x ∷ []) xs ys f.1 (subst (λ es. Follow Serial false s es ys) (sym (append_assoc earlier (x ∷ []) xs)) g))

-- a step binds what it asks for, and no more
end_silent : (step : ℕ) (run : Option (List ℕ)) → names_of (ended_by step run) ≡ []
end_silent step None = refl
end_silent step (Some template) = refl

ended_silent : (seed step : ℕ) → names_of (ended_at seed step) ≡ []
ended_silent seed step = by_test (nat_lt 50 step)
    (λ t. rw t (end_silent (step - 50) (template_of (draw seed (step - 50)))))
    (λ f. rw f refl)

step_binds : (w : List ℕ) (seed step : ℕ) → bound w (lines_at seed step) ≡ bound w (asked_by step (template_of (draw seed step)) ∷ [])
step_binds w seed step = ap (λ ns. lookup (bytes_eq w) (onto (binds (asked_by step (template_of (draw seed step)))) ns)) (ended_silent seed step)

-- two steps have other names
other_job : (m step : ℕ) (run : Option (List ℕ)) → m ≤ 100_000 → step ≤ 100_000 → step < m → bound (job_name m) (asked_by step run ∷ []) ≡ None
other_job m step None h k l = refl
other_job m step (Some template) h k l = rw (apart 106 m step h k (λ e. omega (arith, l, e))) refl

other_reservation : (m step : ℕ) (run : Option (List ℕ)) → m ≤ 100_000 → step ≤ 100_000 → step < m → bound (reservation_name m) (asked_by step run ∷ []) ≡ None
other_reservation m step None h k l = rw (apart 114 m step h k (λ e. omega (arith, l, e))) refl
other_reservation m step (Some template) h k l = refl

own_job : (step : ℕ) (run : Option (List ℕ)) (template : List ℕ) → run ≡ Some template → bound (job_name step) (asked_by step run ∷ []) ≡ Some Job
own_job step None template is = cc
own_job step (Some other) template is = rw (itself (job_name step)) refl

-- ---- what is known behind the first so many steps

-- the sessions are bound, no later job or reservation is, and the jobs of runs are
record Stands (seed steps : ℕ) (earlier : List Line) : Type 0 where
  jobs : bound (codes "s") earlier ≡ Some Session
  reservations : bound (codes "q") earlier ≡ Some Session
  no_job : (m : ℕ) → steps < m → m ≤ 100_000 → bound (job_name m) earlier ≡ None
  no_reservation : (m : ℕ) → steps < m → m ≤ 100_000 → bound (reservation_name m) earlier ≡ None
  runs : (m : ℕ) (template : List ℕ) → 0 < m → m ≤ steps → template_of (draw seed m) ≡ Some template → bound (job_name m) earlier ≡ Some Job

opened : (seed : ℕ) → Stands seed 0 opening
opened seed = record {
  jobs = refl;
  reservations = refl;
  no_job = λ m l h. refl;
  no_reservation = λ m l h. refl;
  runs = λ m template some l is. absurd (omega (arith, some, l));
}

stands_more : (seed step : ℕ) (earlier : List Line) → step + 1 ≤ 100_000 → Stands seed step earlier → Stands seed (suc step) (earlier ++ lines_at seed (suc step))
stands_more seed step earlier h s =
    let next = suc step in
    let ls = lines_at seed next in
    let run = template_of (draw seed next) in
    let k : next ≤ 100_000 = omega (arith, h) in record {
      jobs = still_bound (codes "s") Session earlier ls s.jobs;
      reservations = still_bound (codes "q") Session earlier ls s.reservations;
      no_job = λ m l g. bound_append (job_name m) earlier ls ∙ rw (s.no_job m (omega (arith, l)) g) (step_binds (job_name m) seed next ∙ other_job m next run g k l);
      no_reservation = λ m l g. bound_append (reservation_name m) earlier ls ∙ rw (s.no_reservation m (omega (arith, l)) g) (step_binds (reservation_name m) seed next ∙ other_reservation m next run g k l);
      runs = λ m template some l is. by_test (nat_lt m next)
          (λ t. let before : m ≤ step = grind (arith, nat_tests) in still_bound (job_name m) Job earlier ls (s.runs m template some before is))
          (λ f.
          let same : next ≡ m = grind (arith, nat_tests) in
          let mine : template_of (draw seed next) ≡ Some template = ap (λ n. template_of (draw seed n)) same ∙ is in
          subst (λ n. bound (job_name n) (earlier ++ ls) ≡ Some Job) same
          (bound_append (job_name next) earlier ls ∙ rw (s.no_job next (omega arith) k) (step_binds (job_name next) seed next ∙ own_job next run template mine)));
    }

-- ---- each line is within its ranges, and may stand there

at_valid : (step : ℕ) → step ≤ 100_000 → (line_form (line.At (moment_of step))).valid
unfolding said_fields always no_more said greatest
at_valid step h = (omega (arith, h), tt)

run_valid : (step : ℕ) (template : List ℕ) → step ≤ 100_000 → name.valid template → (line_form (run_of step template)).valid
unfolding run_fields ran_fields always field no_more name reference
run_valid step template h is = (is_numbered 106 step refl h, (refl, (is, (tt, tt))))

reserve_valid : (step : ℕ) → step ≤ 100_000 → (line_form (reserve_of step)).valid
unfolding reserve_fields always no_more name reference
reserve_valid step h = (is_numbered 114 step refl h, (refl, (is_numbered 120 step refl h, tt)))

exit_valid : (step : ℕ) → step ≤ 100_000 → (line_form (line.Exit (job step) 0)).valid
unfolding exit_fields always no_more reference number
exit_valid step h = (is_numbered 106 step refl h, (lit< tt, tt))

both_valid : (step : ℕ) → step ≤ 100_000 → two_fields.body.valid (jobs, (job step, tt))
unfolding two_fields always no_more reference
both_valid step h = (refl, (is_numbered 106 step refl h, tt))

create_valid : (letter : ℕ) → name.valid (letter ∷ []) → text.valid (letter ∷ []) → create_fields.body.valid (letter ∷ [], (Some (letter ∷ []), tt))
unfolding create_fields always field no_more
create_valid letter n t = (n, (t, tt))

letter_name : (letter : ℕ) → is_lower letter ≡ true → name.valid (letter ∷ [])
unfolding name
letter_name letter lower = rw lower refl

session_text : text.valid (codes "s")
unfolding text
session_text = (letters_clean (codes "s") refl).utf8

other_text : text.valid (codes "q")
unfolding text
other_text = (letters_clean (codes "q") refl).utf8

run_stands : (frames : List (List ℕ × ReservationTemplate)) (earlier : List Line) (step : ℕ) (template : List ℕ) → bound (codes "s") earlier ≡ Some Session → bound (job_name step) earlier ≡ None
    → is_there run_templates template ≡ true → may_stand Serial false (standing frames) earlier (run_of step template) ≡ true
run_stands frames earlier step template session unused there = rw (session, unused, there) refl

reserve_stands : (frames : List (List ℕ × ReservationTemplate)) (earlier : List Line) (step : ℕ) → bound (codes "q") earlier ≡ Some Session → bound (reservation_name step) earlier ≡ None
    → IsFrame frames step → may_stand Serial false (standing frames) earlier (reserve_of step) ≡ true
reserve_stands frames earlier step session unused there = rw (session, unused, there) refl

-- what may be asked for in a step, whichever it is
record IsOpen (frames : List (List ℕ × ReservationTemplate)) (earlier : List Line) (step : ℕ) (run : Option (List ℕ)) : Type 0 where
  jobs : bound (codes "s") earlier ≡ Some Session
  reservations : bound (codes "q") earlier ≡ Some Session
  no_job : bound (job_name step) earlier ≡ None
  no_reservation : bound (reservation_name step) earlier ≡ None
  frame : run ≡ None → IsFrame frames step

abbrev IsNext : List (List ℕ × ReservationTemplate) → List Line → Line → Type 0
IsNext frames earlier l = (line_form l).valid × (may_stand Serial false (standing frames) earlier l ≡ true)

asked_follows : (frames : List (List ℕ × ReservationTemplate)) (earlier : List Line) (step rest : ℕ) → step ≤ 100_000 → IsOpen frames earlier step (template_by rest)
    → IsNext frames earlier (asked_by step (template_by rest))
asked_follows frames earlier step zero h o = (run_valid step (codes "a") h (letter_name 97 refl), run_stands frames earlier step (codes "a") o.jobs o.no_job refl)
asked_follows frames earlier step (suc zero) h o = (run_valid step (codes "b") h (letter_name 98 refl), run_stands frames earlier step (codes "b") o.jobs o.no_job refl)
asked_follows frames earlier step (suc (suc zero)) h o = (run_valid step (codes "c") h (letter_name 99 refl), run_stands frames earlier step (codes "c") o.jobs o.no_job refl)
asked_follows frames earlier step (suc (suc (suc rest))) h o = (reserve_valid step h, reserve_stands frames earlier step o.reservations o.no_reservation (o.frame refl))

exit_stands : (frames : List (List ℕ × ReservationTemplate)) (earlier : List Line) (step : ℕ) → bound (job_name step) earlier ≡ Some Job
    → may_stand Serial false (standing frames) earlier (line.Exit (job step) 0) ≡ true
exit_stands frames earlier step job = rw job refl

terminate_stands : (frames : List (List ℕ × ReservationTemplate)) (earlier : List Line) (step : ℕ) → bound (codes "s") earlier ≡ Some Session → bound (job_name step) earlier ≡ Some Job
    → may_stand Serial false (standing frames) earlier (line.Terminate jobs (job step)) ≡ true
terminate_stands frames earlier step session job = rw (session, job) refl

reap_stands : (frames : List (List ℕ × ReservationTemplate)) (earlier : List Line) (step : ℕ) → bound (codes "s") earlier ≡ Some Session → bound (job_name step) earlier ≡ Some Job
    → may_stand Serial false (standing frames) earlier (line.Reap jobs (job step)) ≡ true
reap_stands frames earlier step session job = rw (session, job) refl

end_follows : (frames : List (List ℕ × ReservationTemplate)) (earlier : List Line) (step : ℕ) (run : Option (List ℕ)) → step ≤ 100_000 → bound (codes "s") earlier ≡ Some Session
    → ((template : List ℕ) → run ≡ Some template → bound (job_name step) earlier ≡ Some Job) → Follow Serial false (standing frames) earlier (ended_by step run)
end_follows frames earlier step None h session runs = tt
end_follows frames earlier step (Some template) h session runs =
    let is = runs template refl in
    let exit = line.Exit (job step) 0 in
    let terminate = line.Terminate jobs (job step) in
    let second = earlier ++ exit ∷ [] in
    let third = second ++ terminate ∷ [] in
    let session' = silent (codes "s") earlier exit refl ∙ session in
    let is' = silent (job_name step) earlier exit refl ∙ is in
    let session'' = silent (codes "s") second terminate refl ∙ session' in
    let is'' = silent (job_name step) second terminate refl ∙ is' in
    ((exit_valid step h, exit_stands frames earlier step is), ((both_valid step h, terminate_stands frames second step session' is'), ((both_valid step h, reap_stands frames third step session'' is''), tt)))

ended_follows : (frames : List (List ℕ × ReservationTemplate)) (earlier : List Line) (seed step : ℕ) → step ≤ 100_000 → bound (codes "s") earlier ≡ Some Session
    → ((m : ℕ) (template : List ℕ) → 0 < m → m < step → template_of (draw seed m) ≡ Some template → bound (job_name m) earlier ≡ Some Job)
    → Follow Serial false (standing frames) earlier (ended_at seed step)
ended_follows frames earlier seed step h session runs = by_test (nat_lt 50 step)
    (λ t.
    let past : 50 < step = grind (arith, nat_tests) in
    rw t (end_follows frames earlier (step - 50) (template_of (draw seed (step - 50))) (omega (arith, h)) session (λ template is. runs (step - 50) template (omega (arith, past)) (omega (arith, past)) is)))
    (λ f. rw f tt)

step_follows : (frames : List (List ℕ × ReservationTemplate)) (earlier : List Line) (seed step : ℕ) → step + 1 ≤ 100_000 → (template_of (draw seed (suc step)) ≡ None → IsFrame frames (suc step))
    → Stands seed step earlier → Follow Serial false (standing frames) earlier (lines_at seed (suc step))
step_follows frames earlier seed step h frame s =
    let next = suc step in
    let k : next ≤ 100_000 = omega (arith, h) in
    let at = line.At (moment_of next) in
    let asked = asked_by next (template_of (draw seed next)) in
    let second = earlier ++ at ∷ [] in
    let third = second ++ asked ∷ [] in
    let fourth = third ++ line.Launch ∷ [] in
    let kept : (w : List ℕ) (b : Kind) → bound w earlier ≡ Some b → bound w fourth ≡ Some b =
    λ w b is. silent w third line.Launch refl ∙ still_bound w b second (asked ∷ []) (silent w earlier at refl ∙ is) in
    let o : IsOpen frames second next (template_of (draw seed next)) = record {
      jobs = silent (codes "s") earlier at refl ∙ s.jobs;
      reservations = silent (codes "q") earlier at refl ∙ s.reservations;
      no_job = silent (job_name next) earlier at refl ∙ s.no_job next (omega arith) k;
      no_reservation = silent (reservation_name next) earlier at refl ∙ s.no_reservation next (omega arith) k;
      frame = frame;
    } in (
      (at_valid next k, refl),
      (
        asked_follows frames second next (draw seed next / 65_536 % 4) k o,
        (
          (tt, refl),
          ended_follows frames fourth seed next k (kept (codes "s") Session s.jobs)
              (λ m template some l is. kept (job_name m) Job (s.runs m template some (omega (arith, l)) is)),
        ),
      ),
    )

-- ---- all of them

record Goes (frames : List (List ℕ × ReservationTemplate)) (seed steps : ℕ) : Type 0 where
  follow : Follow Serial false (standing frames) opening (for_steps (lines_at seed) steps)
  stands : Stands seed steps (opening ++ for_steps (lines_at seed) steps)

steps_go : (frames : List (List ℕ × ReservationTemplate)) (seed steps : ℕ) → steps ≤ 100_000
    → ((m : ℕ) → 0 < m → m ≤ steps → template_of (draw seed m) ≡ None → IsFrame frames m) → Goes frames seed steps
steps_go frames seed zero h each = record { follow = tt; stands = opened seed }
steps_go frames seed (suc step) h each =
    let before = steps_go frames seed step (omega (arith, h)) (λ m some l none. each m some (omega (arith, l)) none) in
    let xs = for_steps (lines_at seed) step in
    let ls = lines_at seed (suc step) in
    let here = step_follows frames (opening ++ xs) seed step (omega (arith, h)) (λ none. each (suc step) (omega arith) (omega arith) none) before.stands in
    let after = stands_more seed step (opening ++ xs) (omega (arith, h)) before.stands in
    record {
      follow = follow_both (standing frames) opening xs ls before.follow here;
      stands = subst (Stands seed (suc step)) (append_assoc opening xs ls) after;
    }

opening_follows : (frames : List (List ℕ × ReservationTemplate)) → Follow Serial false (standing frames) [] opening
opening_follows frames =
    ((create_valid 115 (letter_name 115 refl) session_text, refl), ((create_valid 113 (letter_name 113 refl) other_text, refl), tt))

pub client_follows : (frames : List (List ℕ × ReservationTemplate)) (steps seed : ℕ) → steps ≤ 100_000
    → ((m : ℕ) → 0 < m → m ≤ steps → template_of (draw seed m) ≡ None → IsFrame frames m) → Follow Serial false (standing frames) [] (client_of steps seed)
client_follows frames steps seed h each =
    follow_both (standing frames) [] opening (for_steps (lines_at seed) steps) (opening_follows frames) (steps_go frames seed steps h each).follow
