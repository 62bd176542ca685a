-- The journal's size stops no soak: each line adds at most five to it.
use Rattle.std.proofs.Common.{◌≡◌, ℕ, zero, suc, ◌+◌, ◌*◌, ◌-◌, ◌≤◌, nat_le, nat_lt, true, List, [], ◌∷◌, ◌++◌, length, Option, Some, None, codes, refl, subst, ap, ◌∙◌, arith, length-append}
use Rattle.std.specs.List.{AllByRecursion}
use Rattle.std.specs.Map.{lookup}
use Rattle.std.specs.Str.{bytes_eq}
use Rattle.std.proofs.lemmas.Bool.Decides.{nat_tests}
use Rattle.std.proofs.lemmas.Option.{same_Some}
use Rattle.drmaa_types.specs.declared.identifiers.CallerId.{CallerId}
use Rattle.drmaa_types.specs.declared.states.Exit.TheVariants as exit
use Rattle.drmaa_model.specs.declared.calls.Call.{Call}
use Rattle.drmaa_model.specs.declared.calls.Call.TheVariants as call
use Rattle.drmaa_model.specs.declared.calls.Target.TheVariants as target
use Rattle.drmaa_model.specs.declared.entries.Entry.{Entry}
use Rattle.drmaa_model.specs.Consistent.{IsConsistent}
use Rattle.drmaa_model.specs.Effects.{StepAnswer, gives, nothing, not_yet}
use Rattle.drmaa_model.specs.FitLaws.{advance-fit}
use Rattle.drmaa_model.specs.RecordedCalls.{recorded, recorded_template}
use Rattle.drmaa_model.specs.Size.{size}
use Rattle.drmaa_model.specs.SizeLaws.{advance-size}
use Rattle.drmaa_model.specs.Steps.{IsStep, answer}
use Rattle.drmaa_model.specs.StepLaws.{opening-consistent, step-config, step-consistent}
use Rattle.drmaa_model.specs.Time.{advance}
use Rattle.drmaa_model.specs.World.{opening_world}
use Rattle.text_codec.specs.Formats.{choose}
use Rattle.text_codec.specs.StepLaws.{bind, by_test}
use Rattle.script_lines.specs.declared.lines.Line.{Line}
use Rattle.script_lines.specs.declared.lines.Line.TheVariants as line
use Rattle.script_text.specs.declared.scripts.Script.{Script}
use Rattle.script_asks.specs.Asks.{number_of, template_of}
use Rattle.script_asks.specs.Plays.{Crew, Playing, after_answer, after_look, asks_now, crew_of, opening_in, play_line, play_lines, play_by, serial_play, performer_of}
use Rattle.soak_script.specs.Draws as draws
use Rattle.soak_laws.specs.GrowthLaws.{Grows, IsSlight, create_jobs_slight, create_reservations_slight, run_slight, request_slight, launch_slight, exit_slight, terminate_slight, reap_slight}
use Rattle.soak_laws.specs.Scripts.{jobs, reservations, job, template_name, run_of, reserve_of, asked_by, ended_by, ended_at, moment_of, lines_at, for_steps, opening, client_of, soak_of}

-- ---- one line

-- nothing stopped the play, and the journal has so much room
record HasRoom (room : ℕ) (p : Playing) : Type 0 where
  consistent : IsConsistent p.world
  journal : p.world.config.journal ≡ 4_000_000
  full : p.full ≡ None
  left : size p.world + room ≤ 4_000_000

less_room : (more room : ℕ) (p : Playing) → room ≤ more → HasRoom more p → HasRoom room p
less_room more room p l h = record { consistent = h.consistent; journal = h.journal; full = h.full; left = omega (arith, l, h.left) }

answered : (p : Playing) (caller : CallerId) (l : Line) (c : Call) (a : StepAnswer) (room : ℕ) → answer p.world p.moment (recorded c) ≡ a → IsSlight (recorded c) → HasRoom (room + 5) p
    → HasRoom room (after_answer p caller l c a p)
answered p caller l c (gives r next) room is slight h =
    let w = p.world in
    let entry : Entry = record { caller = caller; at = p.moment; call = recorded c; reply = r } in
    let more : size next ≤ size (advance w p.moment) + 5 = subst (Grows (advance w p.moment)) is (slight (advance w p.moment) p.moment (advance-fit (w.entries + 1) p.moment w.plan h.consistent.fit)) in
    let within : size next + room ≤ 4_000_000 = omega (arith, more, advance-size w p.moment, h.left) in
    let small : size next ≤ w.config.journal = omega (arith, within, h.journal) in
    let fits : nat_le (size next) w.config.journal ≡ true = grind (arith, nat_tests) in
    let step : IsStep w entry next = record { answered = is; within = small } in
    rw fits (record {
      consistent = step-consistent w entry next h.consistent step;
      journal = ap (λ k. k.journal) (step-config w entry next h.consistent step) ∙ h.journal;
      full = h.full;
      left = within;
    })
answered p caller l c nothing room is slight h = less_room (room + 5) room p (omega arith) h
answered p caller l c not_yet room is slight h = less_room (room + 5) room p (omega arith) h

asked : (p : Playing) (caller : CallerId) (l : Line) (o : Option Call) (room : ℕ) → ((c : Call) → o ≡ Some c → IsSlight (recorded c)) → HasRoom (room + 5) p
    → HasRoom room (choose o (λ c. after_look p caller l c p) p)
asked p caller l None room slight h = less_room (room + 5) room p (omega arith) h
asked p caller l (Some c) room slight h = answered p caller l c (answer p.world p.moment (recorded c)) room refl (slight c refl) h

-- a line of which this is so wherever it is played
abbrev IsLight : Script → Line → Type 0
IsLight s l = (crew : Crew) (p : Playing) (room : ℕ) → HasRoom (room + 5) p → HasRoom room (play_by s crew p l (performer_of l))

-- what is asked is this call
this_call : (c d : Call) → IsSlight (recorded c) → ◌≡◌ {A = Option Call} (Some c) (Some d) → IsSlight (recorded d)
this_call c d slight is = subst (λ k. IsSlight (recorded k)) (same_Some c d is) slight

create_jobs_light : (s : Script) (name : List ℕ) (session : Option (List ℕ)) → IsLight s (line.CreateJobs name session)
create_jobs_light s name session = λ crew p room h.
    asked p crew.client (line.CreateJobs name session) (asks_now s p (line.CreateJobs name session)) room (λ c is. this_call (call.CreateJobSession session) c (create_jobs_slight session) is) h

create_reservations_light : (s : Script) (name : List ℕ) (session : Option (List ℕ)) → IsLight s (line.CreateReservations name session)
create_reservations_light s name session = λ crew p room h.
    asked p crew.client (line.CreateReservations name session) (asks_now s p (line.CreateReservations name session)) room (λ c is. this_call (call.CreateReservationSession session) c (create_reservations_slight session) is) h

at_light : (s : Script) (step : ℕ) → IsLight s (line.At (moment_of step))
at_light s step = λ crew p room h. record { consistent = h.consistent; journal = h.journal; full = h.full; left = omega (arith, h.left) }

launch_light : (s : Script) → IsLight s line.Launch
launch_light s = λ crew p room h. asked p crew.launcher line.Launch (asks_now s p line.Launch) room (λ c is. this_call call.TakeLaunch c launch_slight is) h

asked_light : (s : Script) (step : ℕ) (run : Option (List ℕ)) → IsLight s (asked_by step run)
asked_light s step None = λ crew p room h. asked p crew.client (reserve_of step) (asks_now s p (reserve_of step)) room
    (λ c is. bind (number_of p.names reservations) _ c is (λ n a b. bind (lookup (bytes_eq (template_name step)) s.reservations) _ c b (λ t d e. this_call (call.RequestReservation (record { 0 = n }) t) c (request_slight (record { 0 = n }) t) e))) h
asked_light s step (Some template) = λ crew p room h. asked p crew.client (run_of step template) (asks_now s p (run_of step template)) room
    (λ c is. bind (number_of p.names jobs) _ c is (λ n a b. bind (template_of s p.names template None) _ c b (λ t d e. this_call (call.RunJob (record { 0 = n }) t) c (run_slight (record { 0 = n }) (recorded_template t)) e))) h

exit_light : (s : Script) (step : ℕ) → IsLight s (line.Exit (job step) 0)
exit_light s step = λ crew p room h. asked p crew.reaper (line.Exit (job step) 0) (asks_now s p (line.Exit (job step) 0)) room
    (λ c is. bind (number_of p.names (job step)) _ c is (λ n a e. this_call _ c (exit_slight (record { 0 = n }) _ (exit.Code 0)) e)) h

terminate_light : (s : Script) (step : ℕ) → IsLight s (line.Terminate jobs (job step))
terminate_light s step = λ crew p room h. asked p crew.client (line.Terminate jobs (job step)) (asks_now s p (line.Terminate jobs (job step))) room
    (λ c is. bind (number_of p.names jobs) _ c is (λ n a b. bind (number_of p.names (job step)) _ c b (λ m d e. this_call _ c (terminate_slight (record { 0 = n }) (target.Job (record { 0 = m }))) e))) h

reap_light : (s : Script) (step : ℕ) → IsLight s (line.Reap jobs (job step))
reap_light s step = λ crew p room h. asked p crew.client (line.Reap jobs (job step)) (asks_now s p (line.Reap jobs (job step))) room
    (λ c is. bind (number_of p.names jobs) _ c is (λ n a b. bind (number_of p.names (job step)) _ c b (λ m d e. this_call _ c (reap_slight (record { 0 = n }) (target.Job (record { 0 = m }))) e))) h

-- ---- the client's lines

all_both : {A : Type 0} (P : A → Type 0) (xs ys : List A) → AllByRecursion P xs → AllByRecursion P ys → AllByRecursion P (xs ++ ys)
all_both P [] ys h k = k
all_both P (x ∷ xs) ys h k = (h.0, all_both P xs ys h.1 k)

end_light : (s : Script) (step : ℕ) (run : Option (List ℕ)) → AllByRecursion (IsLight s) (ended_by step run)
end_light s step None = tt
end_light s step (Some template) = (exit_light s step, (terminate_light s step, (reap_light s step, tt)))

ended_light : (s : Script) (seed step : ℕ) → AllByRecursion (IsLight s) (ended_at seed step)
ended_light s seed step = by_test (nat_lt 50 step)
    (λ t. rw t (end_light s (step - 50) (draws.template_of (draws.draw seed (step - 50)))))
    (λ f. rw f tt)

steps_light : (s : Script) (seed steps : ℕ) → AllByRecursion (IsLight s) (for_steps (lines_at seed) steps)
steps_light s seed zero = tt
steps_light s seed (suc step) =
    all_both (IsLight s) (for_steps (lines_at seed) step) (lines_at seed (suc step)) (steps_light s seed step)
    (at_light s (suc step), (asked_light s (suc step) (draws.template_of (draws.draw seed (suc step))), (launch_light s, ended_light s seed (suc step))))

client_light : (s : Script) (steps seed : ℕ) → AllByRecursion (IsLight s) (client_of steps seed)
client_light s steps seed =
    all_both (IsLight s) opening (for_steps (lines_at seed) steps)
    (create_jobs_light s (codes "s") (Some (codes "s")), (create_reservations_light s (codes "q") (Some (codes "q")), tt)) (steps_light s seed steps)

-- there are at most six of a step
end_count : (step : ℕ) (run : Option (List ℕ)) → length (ended_by step run) ≤ 3
end_count step None = omega arith
end_count step (Some template) = omega arith

ended_count : (seed step : ℕ) → length (ended_at seed step) ≤ 3
ended_count seed step = by_test (nat_lt 50 step)
    (λ t. rw t (end_count (step - 50) (draws.template_of (draws.draw seed (step - 50)))))
    (λ f. rw f (omega arith))

steps_count : (seed steps : ℕ) → length (for_steps (lines_at seed) steps) ≤ 6 * steps
steps_count seed zero = omega arith
steps_count seed (suc step) =
    omega (arith, length-append (for_steps (lines_at seed) step) (lines_at seed (suc step)), steps_count seed step, ended_count seed (suc step))

-- ---- the play

unstopped : (full : Option ℕ) (next old : Playing) (room : ℕ) → full ≡ None → HasRoom room next → HasRoom room (choose full (λ size. old) next)
unstopped None next old room is h = h
unstopped (Some size) next old room is h = cc

line_played : (s : Script) (crew : Crew) (p : Playing) (l : Line) (room : ℕ) → IsLight s l → HasRoom (room + 5) p → HasRoom room (play_line s crew p l)
line_played s crew p l room light h = unstopped p.full (play_by s crew p l (performer_of l)) p room h.full (light crew p room h)

lines_played : (s : Script) (crew : Crew) (p : Playing) (ls : List Line) (room : ℕ) → AllByRecursion (IsLight s) ls → HasRoom (room + 5 * length ls) p → HasRoom room (play_lines s crew p ls)
lines_played s crew p [] room light h = less_room (room + 5 * 0) room p (omega arith) h
lines_played s crew p (l ∷ ls) room light h =
    lines_played s crew (play_line s crew p l) ls room light.1
    (line_played s crew p l (room + 5 * length ls) light.0 (less_room (room + 5 * length (l ∷ ls)) (room + 5 * length ls + 5) p (omega arith) h))

pub soak_is_whole : (steps seed : ℕ) → steps ≤ 100_000 → (serial_play (soak_of steps seed)).full ≡ None
soak_is_whole steps seed h =
    let s = soak_of steps seed in
    let ls = client_of steps seed in
    let count : length ls ≤ 600_002 = omega (arith, h, steps_count seed steps) in
    let start : HasRoom (0 + 5 * length ls) (opening_in (opening_world s.config)) = record {
      consistent = opening-consistent s.config;
      journal = refl;
      full = refl;
      left = omega (arith, count);
    } in
    (lines_played s (crew_of 1 1) (opening_in (opening_world s.config)) ls 0 (client_light s steps seed) start).full
