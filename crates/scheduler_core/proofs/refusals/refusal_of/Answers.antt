use Rattle.std.proofs.Common.{◌≡◌, ℕ, List, sym, ◌∙◌, ap}
use Rattle.drmaa_types.specs.Refusals.{first_refusal, refused_or}
use Rattle.drmaa_types.specs.declared.queues.QueueSpec.{QueueSpec}
use Rattle.job_template.specs.JobTests.{job_tests}
use Rattle.drmaa_model.specs.Submitting.{bulk_tests}
use Rattle.drmaa_model.specs.Time.{advance_plan}
use Rattle.plan_book.specs.Book.{plan_of}
use Rattle.scheduler_core.specs.Early.{named_tests, jobs_tests}
use Rattle.scheduler_core.proofs.TableLaws.{jobs-then, refuses_1, refuses_2, refuses_3, refuses_4, err-refused, ok-free}
use Rattle.scheduler_core.proofs.refusals.refusal_of.Goals as goal
use Rattle.scheduler_core.proofs.refusals.refusal_of.Goals.{After-validate_job}

pub returns-in-Some : goal.returns-in-Some
returns-in-Some c =
    let q = advance_plan 0 c.args.at (plan_of c.args.book.now) in
    let t = c.args.template.now in
    record {
      first = sym (refuses_1 (bulk_tests c.args.indices) (job_tests q.total q.queues q.moment t) (named_tests t q) (jobs_tests c.args.indices q) c.in-Some.why
          (sym c.bulk_refusal.ensures ∙ c.in-Some.is));
    }

-- what the template's tests answer
asked : (c : After-validate_job) → let q = advance_plan 0 c.args.at (plan_of c.args.book.now) in
    c.validate_job.result ≡ refused_or (first_refusal (job_tests q.total q.queues q.moment c.args.template.now)) tt
asked c =
    c.validate_job.ensures
    ∙ ap (λ (n : ℕ). refused_or (first_refusal (job_tests n c.queues.result.now c.moment_at.result c.args.template.now)) tt) c.total.ensures
    ∙ ap (λ (qs : List QueueSpec). refused_or (first_refusal (job_tests c.args.book.now.total qs c.moment_at.result c.args.template.now)) tt) c.queues.ensures.queues
    ∙ ap (λ (n : ℕ). refused_or (first_refusal (job_tests c.args.book.now.total c.args.book.now.queues n c.args.template.now)) tt) c.moment_at.ensures

pub returns-in-Err : goal.returns-in-Err
returns-in-Err c =
    let q = advance_plan 0 c.args.at (plan_of c.args.book.now) in
    let t = c.args.template.now in
    record {
      first = sym (refuses_2 (bulk_tests c.args.indices) (job_tests q.total q.queues q.moment t) (named_tests t q) (jobs_tests c.args.indices q) c.in-Err.why
          (sym c.bulk_refusal.ensures ∙ c.in_default.is)
          (err-refused (first_refusal (job_tests q.total q.queues q.moment t)) c.in-Err.why tt (sym c.in-Err.is ∙ asked c.before)));
    }

pub returns-in-Some-named_refusal : goal.returns-in-Some-named_refusal
returns-in-Some-named_refusal c =
    let q = advance_plan 0 c.args.at (plan_of c.args.book.now) in
    let t = c.args.template.now in
    record {
      first = sym (refuses_3 (bulk_tests c.args.indices) (job_tests q.total q.queues q.moment t) (named_tests t q) (jobs_tests c.args.indices q) c.in-Some-named_refusal.why
          (sym c.bulk_refusal.ensures ∙ c.in_default.is)
          (ok-free (first_refusal (job_tests q.total q.queues q.moment t)) c.in_default-validate_job.field-0 tt (sym c.in_default-validate_job.is ∙ asked c.before.before.before)).0
          (sym c.named_refusal.ensures ∙ c.in-Some-named_refusal.is));
    }

pub returns : goal.returns
returns c =
    let q = advance_plan 0 c.args.at (plan_of c.args.book.now) in
    let t = c.args.template.now in
    record {
      first = c.jobs_refusal.ensures.first ∙ jobs-then c.args.indices 0 c.args.at (plan_of c.args.book.now) ∙ sym (refuses_4 (bulk_tests c.args.indices) (job_tests q.total q.queues q.moment t) (named_tests t q) (jobs_tests c.args.indices q)
          (sym c.bulk_refusal.ensures ∙ c.in_default.is)
          (ok-free (first_refusal (job_tests q.total q.queues q.moment t)) c.in_default-validate_job.field-0 tt (sym c.in_default-validate_job.is ∙ asked c.before.before.before.before)).0
          (sym c.named_refusal.ensures ∙ c.in_default-named_refusal.is));
    }
