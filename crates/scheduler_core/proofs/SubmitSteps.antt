-- What a submission comes to, from what its parts answer.
use Rattle.std.proofs.Common.{◌≡◌, ℕ, ◌+◌, ◌<◌, ◌≤◌, Bool, true, false, cond, List, [], ◌∷◌, ◌++◌, map, length, Option, Some, None, refl, sym, ◌∙◌, ap, subst, arith, append_assoc}
use Rattle.std.specs.Prelude.{max, filter, nat_lt, Result, Ok, Err}
use Rattle.std.proofs.lemmas.Bool.{lt-ltb, le-ltb}
use Rattle.drmaa_types.specs.RefusalLaws.{passed_first, refused_first}
use Rattle.drmaa_types.specs.Refusals.{first_refusal}
use Rattle.drmaa_types.specs.States.{is_waiting}
use Rattle.drmaa_types.specs.declared.refusals.Refusal.{Refusal}
use Rattle.drmaa_types.specs.declared.refusals.Refusal.TheVariants.{OutOfResource}
use Rattle.drmaa_types.specs.declared.refusals.Limit.TheVariants as resource
use Rattle.job_template.specs.declared.templates.JobTemplate.{JobTemplate}
use Rattle.job_template.specs.JobTests.{job_tests}
use Rattle.job_template.specs.Texts.{text_length}
use Rattle.drmaa_model.specs.declared.calls.Indices.{Indices}
use Rattle.drmaa_model.specs.declared.faults.NoEntry.{NoEntry}
use Rattle.drmaa_model.specs.declared.replies.Submitted.{Submitted}
use Rattle.drmaa_model.specs.declared.reservations.Accepted.{Accepted}
use Rattle.drmaa_model.specs.declared.rows.Row.{Row}
use Rattle.drmaa_model.specs.Courses.{submitted_course}
use Rattle.drmaa_model.specs.Fit.{IsFit}
use Rattle.drmaa_model.specs.Plan.{Plan}
use Rattle.drmaa_model.specs.Submitting.{Member, members, bulk_tests, submit_tests, most_jobs, most_kept_text, kept_text, new_text, new_rows, arrays_used, submit}
use Rattle.drmaa_model.specs.SubmitLaws.{may-submit, submit-count, length-members, length-new, submit-keeps}
use Rattle.drmaa_model.specs.Time.{advance_plan, lasts, lapsed, called_in}
use Rattle.drmaa_model.specs.TimeLaws.{sum-kept, lapsed-only, called-only}
use Rattle.plan_book.specs.declared.occasions.Occasion.{Occasion}
use Rattle.plan_book.specs.Book.{joined}
use Rattle.plan_book.specs.MeetLaws.{free-meets, ok-meets, err-meets}
use Rattle.plan_book.specs.Occasions.{Meets, MeetsAt, StepsAt, plan_at}
use Rattle.plan_book.specs.Waiting.{AreWaiting}
use Rattle.scheduler_core.specs.Batches.{batch_of, batch_row, batch_rows, batch_members, told_of}
use Rattle.scheduler_core.specs.Early.{job_count, named_tests, jobs_tests, early_tests}

-- ---- the table

pub length-job_count : (t : JobTemplate) (indices : Option Indices) (p : Plan) → length (members t indices p) ≡ job_count indices
length-job_count t None p = refl
length-job_count t (Some i) p = length-members t i p

-- the last of the tests
abbrev pub text_test : JobTemplate → Option Indices → Plan → Bool × Refusal
text_test t indices p = (nat_lt most_kept_text (kept_text p.rows + new_text (members t indices p)), OutOfResource resource.KeptText)

early-then : (t : JobTemplate) (indices : Option Indices) (p : Plan) → submit_tests t indices p ≡ early_tests t indices p ++ text_test t indices p ∷ []
early-then t indices p =
    let front = bulk_tests indices ++ job_tests p.total p.queues p.moment t in
    let named = named_tests t p in
    let text = text_test t indices p in
    let jobs : ℕ → Bool × Refusal = λ n. (nat_lt most_jobs (length p.rows + n), OutOfResource resource.Jobs) in
    ap (λ (n : ℕ). front ++ (named ++ jobs n ∷ text ∷ [])) (length-job_count t indices p)
    ∙ sym (append_assoc (front ++ named) (jobs_tests indices p) (text ∷ []) ∙ append_assoc front named (jobs_tests indices p ++ text ∷ []))

pub early-refuses : (home : ℕ) (t : JobTemplate) (indices : Option Indices) (p : Plan) (why : Refusal) → first_refusal (early_tests t indices p) ≡ Some why
    → (submit home t indices).refusal p ≡ Some why
early-refuses home t indices p why is = ap first_refusal (early-then t indices p) ∙ refused_first (early_tests t indices p) (text_test t indices p ∷ []) why is

late : (home : ℕ) (t : JobTemplate) (indices : Option Indices) (p : Plan) → first_refusal (early_tests t indices p) ≡ None
    → (submit home t indices).refusal p ≡ first_refusal (text_test t indices p ∷ [])
late home t indices p free = ap first_refusal (early-then t indices p) ∙ passed_first (early_tests t indices p) (text_test t indices p ∷ []) free

pub text-refuses : (home : ℕ) (t : JobTemplate) (indices : Option Indices) (p : Plan) → first_refusal (early_tests t indices p) ≡ None
    → most_kept_text < kept_text p.rows + new_text (members t indices p) → (submit home t indices).refusal p ≡ Some (OutOfResource resource.KeptText)
text-refuses home t indices p free above =
    late home t indices p free
    ∙ ap (λ (b : Bool). cond b (Some (OutOfResource resource.KeptText)) None) (lt-ltb most_kept_text (kept_text p.rows + new_text (members t indices p)) above)

pub none-refuses : (home : ℕ) (t : JobTemplate) (indices : Option Indices) (p : Plan) → first_refusal (early_tests t indices p) ≡ None
    → kept_text p.rows + new_text (members t indices p) ≤ most_kept_text → (submit home t indices).refusal p ≡ None
none-refuses home t indices p free within =
    late home t indices p free
    ∙ ap (λ (b : Bool). cond b (Some (OutOfResource resource.KeptText)) None) (le-ltb most_kept_text (kept_text p.rows + new_text (members t indices p)) within)

-- ---- the rows

batch-members : (home : ℕ) (p : Plan) (t : JobTemplate) (indices : Option Indices) → batch_members (batch_of home p) t indices ≡ members t indices p
batch-members home p t None = refl
batch-members home p t (Some i) = refl

batch-rows : (home : ℕ) (p : Plan) (number : ℕ) (ms : List Member) → batch_rows p.queues (batch_of home p) number ms ≡ new_rows home p number ms
batch-rows home p number [] = refl
batch-rows home p number (m ∷ ms) = ap (λ (rows : List Row). batch_row p.queues (batch_of home p) number m ∷ rows) (batch-rows home p (number + 1) ms)

-- the rows of the jobs that are asked for
pub submitted-rows : (home : ℕ) (p : Plan) (t : JobTemplate) (indices : Option Indices)
    → batch_rows p.queues (batch_of home p) p.next_job (batch_members (batch_of home p) t indices) ≡ new_rows home p p.next_job (members t indices p)
submitted-rows home p t indices =
    ap (batch_rows p.queues (batch_of home p) p.next_job) (batch-members home p t indices) ∙ batch-rows home p p.next_job (members t indices p)

pub submitted-text : (home : ℕ) (p : Plan) (t : JobTemplate) (indices : Option Indices) → new_text (batch_members (batch_of home p) t indices) ≡ new_text (members t indices p)
submitted-text home p t indices = ap new_text (batch-members home p t indices)

submitted-waits : (on_hold : Bool) → is_waiting (submitted_course on_hold).state ≡ true
submitted-waits true = refl
submitted-waits false = refl

pub new-waits : (home : ℕ) (p : Plan) (number : ℕ) (ms : List Member) → AreWaiting (new_rows home p number ms)
new-waits home p number [] = tt
new-waits home p number (m ∷ ms) = (submitted-waits m.template.submit_as_hold, new-waits home p (number + 1) ms)

-- time leaves the text
pub text-then : (entry at : ℕ) (p : Plan) → kept_text (advance_plan entry at p).rows ≡ kept_text p.rows
text-then entry at p =
    let m = max p.moment at in
    let rs : List Accepted = filter (lasts m) p.reservations in
    let size : Row → ℕ = λ row. text_length row.template in
    sum-kept size (called_in m rs) (λ r. ap (λ (x : Row). text_length x.template) (called-only m rs r)) (map (lapsed m rs) p.rows)
    ∙ sum-kept size (lapsed m rs) (λ r. ap (λ (x : Row). text_length x.template) (lapsed-only m rs r)) p.rows

-- ---- what it takes for them to come in

pub record MayJoin (home : ℕ) (t : JobTemplate) (indices : Option Indices) (entry : ℕ) (q : Plan) (rows : List Row) : Type 0 where
  pub free : (submit home t indices).refusal q ≡ None
  pub rows_are : rows ≡ new_rows home q q.next_job (members t indices q)
  pub count : length rows ≡ job_count indices
  pub few : job_count indices ≤ 10_000
  pub waits : AreWaiting rows
  pub fit : IsFit (joined rows (arrays_used indices) q)
  pub leads : (submit home t indices).effect entry q ≡ joined rows (arrays_used indices) q

pub may-join : (home : ℕ) (t : JobTemplate) (indices : Option Indices) (entry : ℕ) (q : Plan) (rows : List Row) → IsFit q → first_refusal (early_tests t indices q) ≡ None
    → kept_text q.rows + new_text (members t indices q) ≤ most_kept_text → rows ≡ new_rows home q q.next_job (members t indices q)
    → MayJoin home t indices entry q rows
may-join home t indices entry q rows fit free within is =
    let none = none-refuses home t indices q free within in
    let ms = members t indices q in
    let new = new_rows home q q.next_job ms in
    let few = (submit-count t indices q (may-submit t indices q none)).1 in
    let length_is = length-job_count t indices q in
    record {
      free = none;
      rows_are = is;
      count = ap length is ∙ length-new home q q.next_job ms ∙ length_is;
      few = omega (arith, few, length_is);
      waits = subst AreWaiting (sym is) (new-waits home q q.next_job ms);
      fit = subst (λ (rs : List Row). IsFit (joined rs (arrays_used indices) q)) (sym is) ((submit-keeps home t indices).keeps entry q fit none);
      leads = ap (λ (rs : List Row). joined rs (arrays_used indices) q) (sym is);
    }

told-is : (home : ℕ) (t : JobTemplate) (indices : Option Indices) (q : Plan) → (submit home t indices).told q ≡ told_of (batch_of home q) indices
told-is home t None q = refl
told-is home t (Some i) q = ap (λ (n : ℕ). record { array = Some (record { 0 = q.next_array }); first = record { 0 = q.next_job }; count = n }) (length-job_count t (Some i) q)

-- what is told of them and what they lead to is what the submission comes to
joined-meets : (home : ℕ) (t : JobTemplate) (indices : Option Indices) (o : Occasion) (arrays : ℕ) (p new : Plan) (rows : List Row) (result : Result (Result Submitted Refusal) NoEntry)
    → MayJoin home t indices o.entry (plan_at o p) rows → arrays ≡ arrays_used indices
    → (let told : Result Submitted Refusal = Ok (told_of (batch_of home (plan_at o p)) indices) in Meets o told (joined rows arrays (plan_at o p)) p result new)
    → MeetsAt o (submit home t indices) p result new
joined-meets home t indices o arrays p new rows result may used met =
    let q = plan_at o p in
    free-meets (submit home t indices) o p new result may.free
    (subst (λ (n : Plan). let told : Result Submitted Refusal = Ok ((submit home t indices).told q) in Meets o told n p result new) (sym may.leads)
    (subst (λ (s : Submitted). let told : Result Submitted Refusal = Ok s in Meets o told (joined rows (arrays_used indices) q) p result new) (sym (told-is home t indices q))
    (subst (λ (n : ℕ). let told : Result Submitted Refusal = Ok (told_of (batch_of home q) indices) in Meets o told (joined rows n q) p result new) used met)))

module _ (home : ℕ) (t : JobTemplate) (indices : Option Indices) (o : Occasion) (arrays : ℕ) (p new : Plan) (rows : List Row) (made : Result (Unit {0}) NoEntry)
    (may : MayJoin home t indices o.entry (plan_at o p) rows) (used : arrays ≡ arrays_used indices) (met : StepsAt o (joined rows arrays) p made new) where
  pub joined-ok : (told : Submitted) (x : Unit {0}) → told ≡ told_of (batch_of home (plan_at o p)) indices → made ≡ Ok x
      → (let r : Result (Result Submitted Refusal) NoEntry = Ok (Ok told) in MeetsAt o (submit home t indices) p r new)
  joined-ok told x told_as is =
      let answer : Result Submitted Refusal = Ok told in
      let result : Result (Result Submitted Refusal) NoEntry = Ok answer in
      joined-meets home t indices o arrays p new rows result may used
      (subst (λ (s : Submitted). let told : Result Submitted Refusal = Ok s in Meets o told (joined rows arrays (plan_at o p)) p result new) told_as
      (ok-meets o tt x answer (joined rows arrays (plan_at o p)) p new made is met))

  pub joined-err : (why : NoEntry) → made ≡ Err why → (let r : Result (Result Submitted Refusal) NoEntry = Err why in MeetsAt o (submit home t indices) p r new)
  joined-err why is =
      let answer : Result Submitted Refusal = Ok (told_of (batch_of home (plan_at o p)) indices) in
      joined-meets home t indices o arrays p new rows (Err why) may used (err-meets o tt answer why (joined rows arrays (plan_at o p)) p new made is met)
