-- What may be amiss with a script that is in its grammar: our profile.
use Rattle.std.specs.Prelude.{ℕ, ◌+◌, ◌&&◌, ◌||◌, not, Bool, false, List, [], ◌∷◌, ◌++◌, Option, Some, None, is_some, if◌then◌else◌}
use Rattle.std.specs.List.{flat_map, list_all}
use Rattle.std.specs.Map.{lookup}
use Rattle.std.specs.Str.{bytes_eq}
use Rattle.drmaa_types.specs.declared.moments.Timeout.{Timeout}
use Rattle.drmaa_types.specs.declared.moments.Timeout.TheVariants.{Seconds, Infinite}
use Rattle.job_template.specs.declared.templates.JobTemplate.{JobTemplate}
use Rattle.script_lines.specs.declared.refs.Ref.{Ref}
use Rattle.script_lines.specs.declared.refs.Ref.TheVariants.{Bound, Member, Number}
use Rattle.script_lines.specs.declared.lines.Line.{Line}
use Rattle.script_text.specs.declared.scripts.Script.{Script}
use Rattle.script_text.specs.Follows.{lines_of}
use Rattle.script_advice.specs.declared.warning_kinds.Place.{Place}
use Rattle.script_advice.specs.declared.warning_kinds.Place.TheVariants.{Setup, Client}
use Rattle.script_advice.specs.declared.warning_kinds.Warning.{Warning}
use Rattle.script_advice.specs.declared.warning_kinds.Warning.TheVariants.{Unwaited, Endless}
use Rattle.script_advice.specs.declared.gathering.Sort.{Sort}
use Rattle.script_advice.specs.declared.gathering.Sort.TheVariants.{Awaited, LetGo, Held}
use Rattle.script_advice.specs.Roles.{Role, Starts, Waits, Reaps, LetsGo, Other, role, awaited, let_go}
use Rattle.script_advice.specs.NameSets.{is_among}

-- jobs of this template are submitted as held, and no deadline ends them
abbrev pub holds : Option JobTemplate → Bool
holds None = false
holds (Some t) = t.submit_as_hold && not (is_some t.deadline_time)

-- those that are started as held
abbrev pub held : Script → Role → List (List ℕ)
held s (Starts name template) = if holds (lookup (bytes_eq template) s.jobs) then name ∷ [] else []
held s (Waits timeout jobs) = []
held s (Reaps done) = []
held s (LetsGo kept) = []
held s Other = []

-- the names that a line has of a sort, and those of lines
abbrev pub names_at : Sort → Script → Line → List (List ℕ)
names_at Awaited s l = awaited (role l)
names_at LetGo s l = let_go (role l)
names_at Held s l = held s (role l)

abbrev pub names_in : Sort → Script → List Line → List (List ℕ)
names_in sort s lines = flat_map (names_at sort s) lines

abbrev pub names_of_all : Sort → Script → List (List Line) → List (List ℕ)
names_of_all sort s blocks = flat_map (names_in sort s) blocks

-- the names in the setup block and those of all clients
abbrev pub names_anywhere : Sort → Script → List (List ℕ)
names_anywhere sort s = names_in sort s (lines_of s.setup) ++ names_of_all sort s s.clients

-- ---- jobs that nobody waits for

-- a job or an array that is started, and passes no test of what is waited for
abbrev pub unwaited_at : Place → (List ℕ → Bool) → Role → List Warning
unwaited_at place is_awaited (Starts name template) = if is_awaited name then [] else Unwaited place name ∷ []
unwaited_at place is_awaited (Waits timeout jobs) = []
unwaited_at place is_awaited (Reaps done) = []
unwaited_at place is_awaited (LetsGo kept) = []
unwaited_at place is_awaited Other = []

abbrev pub unwaited : Place → (List ℕ → Bool) → List Line → List Warning
unwaited place is_awaited lines = flat_map (λ l. unwaited_at place is_awaited (role l)) lines

-- ---- waits that can't end

-- the job that is named passes the test
abbrev pub passes : (List ℕ → Bool) → Ref → Bool
passes test (Bound name) = test name
passes test (Member array index) = test array
passes test (Number n) = false

-- the warning that names this job
abbrev pub endless_with : Place → Ref → List Warning
endless_with place (Bound name) = Endless place name ∷ []
endless_with place (Member array index) = Endless place array ∷ []
endless_with place (Number n) = []

-- a wait without end for jobs, at least one, of which each passes the test of what stays held; the first is told
abbrev pub endless_of : Place → (List ℕ → Bool) → Timeout → List Ref → List Warning
endless_of place is_stuck (Seconds seconds) jobs = []
endless_of place is_stuck Infinite [] = []
endless_of place is_stuck Infinite (j ∷ js) = if list_all (passes is_stuck) (j ∷ js) then endless_with place j else []

abbrev pub endless_at : Place → (List ℕ → Bool) → Role → List Warning
endless_at place is_stuck (Starts name template) = []
endless_at place is_stuck (Waits timeout jobs) = endless_of place is_stuck timeout jobs
endless_at place is_stuck (Reaps done) = []
endless_at place is_stuck (LetsGo kept) = []
endless_at place is_stuck Other = []

-- what is held and not let go
abbrev pub remains : (List ℕ → Bool) → (List ℕ → Bool) → List ℕ → Bool
remains is_held is_let_go name = is_held name && not (is_let_go name)

-- A job stays held at a line of a client: an earlier line of the client starts it as held, and none lets it go; or the setup block
-- starts it as held, and no line of the script lets it go.
abbrev pub stays_held : Script → List Line → List ℕ → Bool
stays_held s before name =
    remains (is_among (names_in Held s before)) (is_among (names_in LetGo s before)) name
    || remains (is_among (names_in Held s (lines_of s.setup))) (is_among (names_anywhere LetGo s)) name

-- the lines of a client behind those before them
abbrev pub endless : Place → Script → List Line → List Line → List Warning
endless place s before [] = []
endless place s before (l ∷ ls) = endless_at place (stays_held s before) (role l) ++ endless place s (before ++ l ∷ []) ls

-- ---- all of them

-- A client's jobs may be named by its own lines alone.
abbrev pub of_client : Script → ℕ → List Line → List Warning
of_client s n lines = unwaited (Client n) (is_among (names_in Awaited s lines)) lines ++ endless (Client n) s [] lines

abbrev pub of_clients : Script → ℕ → List (List Line) → List Warning
of_clients s n [] = []
of_clients s n (c ∷ cs) = of_client s n c ++ of_clients s (n + 1) cs

-- those of the setup block, whose jobs any line may name, and those of each client, from the first on
abbrev pub warnings : Script → List Warning
warnings s = unwaited Setup (is_among (names_anywhere Awaited s)) (lines_of s.setup) ++ of_clients s 1 s.clients
