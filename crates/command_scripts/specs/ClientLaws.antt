-- The client's lines may stand one behind the other.
use Rattle.std.proofs.Common.{◌≡◌, ℕ, ◌+◌, ◌<◌, ◌≤◌, nat_lt, true, false, List, [], ◌∷◌, ◌++◌, Some, None, length, codes, refl, sym, subst, ◌∙◌, arith, append_assoc, append-nil}
use Rattle.std.proofs.lemmas.Bool.Decides.{nat_tests}
use Rattle.text_codec.specs.CleanLaws.{letters_clean}
use Rattle.text_codec.specs.Formats.{mapped, or_else}
use Rattle.text_codec.specs.Fields.{always, field, repeated, no_more}
use Rattle.text_codec.specs.Quotes.{text}
use Rattle.text_codec.specs.StepLaws.{by_test}
use Rattle.text_codec.specs.Words.{name}
use Rattle.script_lines.specs.declared.lines.Line.{Line}
use Rattle.script_lines.specs.declared.lines.Line.TheVariants as line
use Rattle.script_lines.specs.Lines.{line_form}
use Rattle.script_lines.specs.Refs.{reference}
use Rattle.script_lines.specs.Shapes.{create_fields, run_fields, ran_fields, wait_fields, timeout_form, two_fields}
use Rattle.script_text.specs.declared.blocks.Kind.{Kind}
use Rattle.script_text.specs.declared.blocks.Kind.TheVariants.{Session, Job}
use Rattle.script_text.specs.declared.scripts.Mode.TheVariants.{Threads}
use Rattle.script_text.specs.declared.scripts.Script.{Script}
use Rattle.script_text.specs.Follows.{may_stand}
use Rattle.script_text.specs.NameLaws.{bound_append}
use Rattle.script_text.specs.Names.{bound, is_there}
use Rattle.script_text.specs.Scripts.{Follow}
use Rattle.command_scripts.specs.NameLaws.{is_job_name, is_template_name, apart, itself}
use Rattle.command_scripts.specs.Scripts.{run_of, wait_of, info_of}
use Rattle.command_scripts.specs.Texts.{template_name, job_name, for_each}

-- each of these numbers has something
abbrev pub Each : (ℕ → Type 0) → ℕ → List (List ℕ) → Type 0
Each P n cs = (m : ℕ) → n ≤ m → m < n + length cs → P m

each_later : (P : ℕ → Type 0) (n : ℕ) (c : List ℕ) (cs : List (List ℕ)) → Each P n (c ∷ cs) → Each P (n + 1) cs
each_later P n c cs h = λ m l k. h m (omega (arith, l)) (omega (arith, k))

each_first : (P : ℕ → Type 0) (n : ℕ) (c : List ℕ) (cs : List (List ℕ)) → Each P n (c ∷ cs) → P n
each_first P n c cs h = h n (omega arith) (omega arith)

-- what is bound stays so behind more lines
still_bound : (w : List ℕ) (k : Kind) (earlier ls : List Line) → bound w earlier ≡ Some k → bound w (earlier ++ ls) ≡ Some k
still_bound w k earlier ls e = bound_append w earlier ls ∙ rw e refl

-- lines may stand behind others, and then more behind these
pub follow_both : (s : Script) (earlier xs ys : List Line) → Follow Threads false s earlier xs → Follow Threads false s (earlier ++ xs) ys → Follow Threads false s earlier (xs ++ ys)
follow_both s earlier [] ys f g = subst (λ es. Follow Threads false s es ys) (append-nil earlier) g
follow_both s earlier (x ∷ xs) ys f g = (f.0, follow_both s (earlier ++ x ∷ []) xs ys f.1 (subst (λ es. Follow Threads false s es ys) (sym (append_assoc earlier (x ∷ []) xs)) g))

-- the session is bound, and no job from a number on
pub record Opened (earlier : List Line) (n : ℕ) : Type 0 where
  pub session : bound (codes "s") earlier ≡ Some Session
  pub unused : (m : ℕ) → n ≤ m → m ≤ 65_536 → bound (job_name m) earlier ≡ None

-- each line is in its ranges
run_valid : (n : ℕ) → n ≤ 65_536 → (line_form (run_of n)).valid
unfolding run_fields ran_fields always field no_more name reference
run_valid n h = (is_job_name n h, (refl, (is_template_name n h, (tt, tt))))

wait_valid : (n : ℕ) → n ≤ 65_536 → (line_form (wait_of n)).valid
unfolding wait_fields timeout_form mapped or_else always repeated no_more name reference
wait_valid n h = (refl, (tt, ((is_job_name n h, tt), tt)))

info_valid : (n : ℕ) → n ≤ 65_536 → (line_form (info_of n)).valid
unfolding two_fields always no_more reference
info_valid n h = (refl, (is_job_name n h, tt))

-- and may stand there
run_stands : (s : Script) (earlier : List Line) (n : ℕ) → bound (codes "s") earlier ≡ Some Session → bound (job_name n) earlier ≡ None → is_there s.jobs (template_name n) ≡ true
    → may_stand Threads false s earlier (run_of n) ≡ true
run_stands s earlier n session unused there = rw (session, unused, there) refl

wait_stands : (s : Script) (earlier : List Line) (n : ℕ) → bound (codes "s") earlier ≡ Some Session → bound (job_name n) earlier ≡ Some Job → may_stand Threads false s earlier (wait_of n) ≡ true
wait_stands s earlier n session job = rw (session, job) refl

info_stands : (s : Script) (earlier : List Line) (n : ℕ) → bound (codes "s") earlier ≡ Some Session → bound (job_name n) earlier ≡ Some Job → may_stand Threads false s earlier (info_of n) ≡ true
info_stands s earlier n session job = rw (session, job) refl

-- one run more
other_job : (m n : ℕ) → m ≤ 65_536 → n ≤ 65_536 → n < m → bound (job_name m) (run_of n ∷ []) ≡ None
other_job m n h k l = rw (apart 106 m n h k (λ e. omega (arith, l, e))) refl

opened_more : (earlier : List Line) (n : ℕ) → n ≤ 65_536 → Opened earlier n → Opened (earlier ++ run_of n ∷ []) (n + 1)
opened_more earlier n h o = record {
  session = still_bound (codes "s") Session earlier (run_of n ∷ []) o.session;
  unused = λ m l k. bound_append (job_name m) earlier (run_of n ∷ []) ∙ rw (o.unused m (omega (arith, l)) k) (other_job m n k h (omega (arith, l)));
}

pub runs_follow : (s : Script) (earlier : List Line) (n : ℕ) (cs : List (List ℕ)) → n + length cs ≤ 65_537 → Opened earlier n
    → Each (λ m. is_there s.jobs (template_name m) ≡ true) n cs → Follow Threads false s earlier (for_each run_of n cs)
runs_follow s earlier n [] few o there = tt
runs_follow s earlier n (c ∷ cs) few o there =
    let h : n ≤ 65_536 = omega (arith, few) in
    let here = each_first (λ m. is_there s.jobs (template_name m) ≡ true) n c cs there in
    ((run_valid n h, run_stands s earlier n o.session (o.unused n (omega arith) h) here), runs_follow s (earlier ++ run_of n ∷ []) (n + 1) cs (omega (arith, few)) (opened_more earlier n h o) (each_later (λ m. is_there s.jobs (template_name m) ≡ true) n c cs there))

pub waits_follow : (s : Script) (earlier : List Line) (n : ℕ) (cs : List (List ℕ)) → n + length cs ≤ 65_537 → bound (codes "s") earlier ≡ Some Session
    → Each (λ m. bound (job_name m) earlier ≡ Some Job) n cs → Follow Threads false s earlier (for_each wait_of n cs)
waits_follow s earlier n [] few session jobs = tt
waits_follow s earlier n (c ∷ cs) few session jobs =
    let h : n ≤ 65_536 = omega (arith, few) in
    let here = each_first (λ m. bound (job_name m) earlier ≡ Some Job) n c cs jobs in (
      (wait_valid n h, wait_stands s earlier n session here),
      waits_follow s (earlier ++ wait_of n ∷ []) (n + 1) cs (omega (arith, few)) (still_bound (codes "s") Session earlier (wait_of n ∷ []) session)
          (λ m l k. still_bound (job_name m) Job earlier (wait_of n ∷ []) (jobs m (omega (arith, l)) (omega (arith, k)))),
    )

pub infos_follow : (s : Script) (earlier : List Line) (n : ℕ) (cs : List (List ℕ)) → n + length cs ≤ 65_537 → bound (codes "s") earlier ≡ Some Session
    → Each (λ m. bound (job_name m) earlier ≡ Some Job) n cs → Follow Threads false s earlier (for_each info_of n cs)
infos_follow s earlier n [] few session jobs = tt
infos_follow s earlier n (c ∷ cs) few session jobs =
    let h : n ≤ 65_536 = omega (arith, few) in
    let here = each_first (λ m. bound (job_name m) earlier ≡ Some Job) n c cs jobs in (
      (info_valid n h, info_stands s earlier n session here),
      infos_follow s (earlier ++ info_of n ∷ []) (n + 1) cs (omega (arith, few)) (still_bound (codes "s") Session earlier (info_of n ∷ []) session)
          (λ m l k. still_bound (job_name m) Job earlier (info_of n ∷ []) (jobs m (omega (arith, l)) (omega (arith, k)))),
    )

-- the runs bind each job
bound_first : (m : ℕ) (ls : List Line) → bound (job_name m) (run_of m ∷ ls) ≡ Some Job
bound_first m ls = rw (itself (job_name m)) refl

bound_later : (m n : ℕ) (ls : List Line) → m ≤ 65_536 → n ≤ 65_536 → n < m → bound (job_name m) (run_of n ∷ ls) ≡ bound (job_name m) ls
bound_later m n ls h k l = rw (apart 106 m n h k (λ e. omega (arith, l, e))) refl

runs_bind : (n : ℕ) (cs : List (List ℕ)) → n + length cs ≤ 65_537 → Each (λ m. bound (job_name m) (for_each run_of n cs) ≡ Some Job) n cs
runs_bind n [] few m l k = absurd (omega (arith, l, k))
runs_bind n (c ∷ cs) few m l k =
    by_test (nat_lt n m)
    (λ t. let less : n < m = grind (arith, nat_tests) in bound_later m n (for_each run_of (n + 1) cs) (omega (arith, few, k)) (omega (arith, few)) less ∙ runs_bind (n + 1) cs (omega (arith, few)) m (omega (arith, less)) (omega (arith, k)))
    (λ f. let same : n ≡ m = grind (arith, nat_tests) in subst (λ x. bound (job_name m) (run_of x ∷ for_each run_of (x + 1) cs) ≡ Some Job) (sym same) (bound_first m (for_each run_of (m + 1) cs)))

-- behind the line of the session
abbrev pub opening : Line
opening = line.CreateJobs (codes "s") (Some (codes "commands"))

create_valid : (line_form opening).valid
unfolding create_fields always field no_more name text
create_valid = (refl, ((letters_clean (codes "commands") refl).utf8, tt))

create_stands : (s : Script) → may_stand Threads false s [] opening ≡ true
create_stands s = refl

opening_binds : (ls : List Line) → bound (codes "s") (opening ∷ ls) ≡ Some Session
opening_binds ls = refl

opening_no_job : (m : ℕ) (ls : List Line) → bound (job_name m) (opening ∷ ls) ≡ bound (job_name m) ls
opening_no_job m ls = refl

pub client_follows : (s : Script) (cs : List (List ℕ)) → length cs ≤ 65_536 → Each (λ m. is_there s.jobs (template_name m) ≡ true) 1 cs
    → Follow Threads false s [] (opening ∷ (for_each run_of 1 cs ++ (for_each wait_of 1 cs ++ for_each info_of 1 cs)))
client_follows s cs h there =
    let few : 1 + length cs ≤ 65_537 = omega (arith, h) in
    let runs = for_each run_of 1 cs in
    let waits = for_each wait_of 1 cs in
    let infos = for_each info_of 1 cs in
    let first = opening ∷ [] in
    let opened : Opened first 1 = record { session = opening_binds []; unused = λ m l k. opening_no_job m [] } in
    let jobs : Each (λ m. bound (job_name m) (first ++ runs) ≡ Some Job) 1 cs = λ m l k. opening_no_job m runs ∙ runs_bind 1 cs few m l k in
    let later : Each (λ m. bound (job_name m) ((first ++ runs) ++ waits) ≡ Some Job) 1 cs = λ m l k. still_bound (job_name m) Job (first ++ runs) waits (jobs m l k) in
    let all_waits = waits_follow s (first ++ runs) 1 cs few (opening_binds runs) jobs in
    let all_infos = infos_follow s ((first ++ runs) ++ waits) 1 cs few (opening_binds (runs ++ waits)) later in
    ((create_valid, create_stands s), follow_both s first runs (waits ++ infos) (runs_follow s first 1 cs few opened there) (follow_both s (first ++ runs) waits infos all_waits all_infos))
