-- Tables of refusals: the first that refuses decides, and what a call without a refusal answers.
use Rattle.std.proofs.Common.{◌≡◌, ℕ, ◌+◌, Bool, List, [], ◌∷◌, ◌++◌, map, length, Option, Some, None, refl, sym, ◌∙◌, ap, subst}
use Rattle.std.specs.Prelude.{max, filter, nat_lt, Ok, Err}
use Rattle.std.proofs.lemmas.List.{length-map}
use Rattle.drmaa_types.specs.Refusals.{first_refusal, refused_or}
use Rattle.drmaa_types.specs.RefusalLaws.{refused_first, passed_first}
use Rattle.drmaa_types.specs.declared.refusals.Limit.TheVariants.{Jobs}
use Rattle.drmaa_types.specs.declared.refusals.Refusal.{Refusal}
use Rattle.drmaa_types.specs.declared.refusals.Refusal.TheVariants.{OutOfResource}
use Rattle.job_template.specs.declared.templates.Frame.{Frame}
use Rattle.job_template.specs.declared.templates.ReservationTemplate.{ReservationTemplate}
use Rattle.job_template.specs.Frames.{frame_of, frame_tests}
use Rattle.drmaa_model.specs.declared.calls.Indices.{Indices}
use Rattle.drmaa_model.specs.declared.reservations.Accepted.{Accepted}
use Rattle.drmaa_model.specs.Plan.{Plan}
use Rattle.drmaa_model.specs.Requests.{request_tests}
use Rattle.drmaa_model.specs.Submitting.{most_jobs}
use Rattle.drmaa_model.specs.Time.{advance_plan, lasts, lapsed, called_in}
use Rattle.scheduler_core.specs.Early.{job_count, jobs_tests}
use Rattle.scheduler_core.specs.Requesting.{room_tests, offered}

-- ---- tables of four parts

pub refuses_2 : (xs bs cs ds : List (Bool × Refusal)) (why : Refusal) → first_refusal xs ≡ None → first_refusal bs ≡ Some why → first_refusal (xs ++ bs ++ cs ++ ds) ≡ Some why
refuses_2 xs bs cs ds why a b =
    refused_first (xs ++ bs ++ cs) ds why (refused_first (xs ++ bs) cs why (passed_first xs bs a ∙ b))

pub refuses_1 : (xs bs cs ds : List (Bool × Refusal)) (why : Refusal) → first_refusal xs ≡ Some why → first_refusal (xs ++ bs ++ cs ++ ds) ≡ Some why
refuses_1 xs bs cs ds why a =
    refused_first (xs ++ bs ++ cs) ds why (refused_first (xs ++ bs) cs why (refused_first xs bs why a))

pub refuses_3 : (xs bs cs ds : List (Bool × Refusal)) (why : Refusal) → first_refusal xs ≡ None → first_refusal bs ≡ None → first_refusal cs ≡ Some why
    → first_refusal (xs ++ bs ++ cs ++ ds) ≡ Some why
refuses_3 xs bs cs ds why a b c =
    refused_first (xs ++ bs ++ cs) ds why (passed_first (xs ++ bs) cs (passed_first xs bs a ∙ b) ∙ c)

pub refuses_4 : (xs bs cs ds : List (Bool × Refusal)) → first_refusal xs ≡ None → first_refusal bs ≡ None → first_refusal cs ≡ None
    → first_refusal (xs ++ bs ++ cs ++ ds) ≡ first_refusal ds
refuses_4 xs bs cs ds a b c =
    passed_first (xs ++ bs ++ cs) ds (passed_first (xs ++ bs) cs (passed_first xs bs a ∙ b) ∙ c)

-- time neither adds a job nor takes one away
pub jobs-then : (indices : Option Indices) (entry at : ℕ) (p : Plan) → first_refusal (jobs_tests indices p) ≡ first_refusal (jobs_tests indices (advance_plan entry at p))
jobs-then indices entry at p =
    let m = max p.moment at in
    let rs : List Accepted = filter (lasts m) p.reservations in
    let same : length p.rows ≡ length (advance_plan entry at p).rows = sym (length-map (map (lapsed m rs) p.rows) (called_in m rs) ∙ length-map p.rows (lapsed m rs)) in
    ap (λ (n : ℕ). first_refusal ((nat_lt most_jobs (n + job_count indices), OutOfResource Jobs) ∷ [])) same

-- ---- what a table without a refusal answers

pub ok-free : {A : Type 0} (o : Option Refusal) (x y : A) → Ok x ≡ refused_or o y → (o ≡ None) × (x ≡ y)
ok-free None x y is = (refl, (cc))
ok-free (Some why) x y is = absurd (cc)

pub err-refused : {A : Type 0} (o : Option Refusal) (why : Refusal) (y : A) → Err why ≡ refused_or o y → o ≡ Some why
err-refused None why y is = absurd (cc)
err-refused (Some other) why y is = (cc)

-- the frame that was read from a template in form
pub record IsRead (t : ReservationTemplate) (p : Plan) (f : Frame) : Type 0 where
  pub free : first_refusal (frame_tests p.moment t) ≡ None
  pub frame : f ≡ frame_of p.moment t

pub frame-read : (t : ReservationTemplate) (p : Plan) (moment : ℕ) (f : Frame) → moment ≡ p.moment → Ok f ≡ refused_or (first_refusal (frame_tests moment t)) (frame_of moment t) → IsRead t p f
frame-read t p moment f now is =
    let here = ok-free (first_refusal (frame_tests p.moment t)) f (frame_of p.moment t)
    (subst (λ (m : ℕ). Ok f ≡ refused_or (first_refusal (frame_tests m t)) (frame_of m t)) now is) in
    record { free = here.0; frame = here.1 }

-- a template that is not in form is refused first
pub frame-refused : (t : ReservationTemplate) (p : Plan) (moment : ℕ) (why : Refusal) → moment ≡ p.moment → Err why ≡ refused_or (first_refusal (frame_tests moment t)) (frame_of moment t)
    → first_refusal (request_tests t p) ≡ Some why
frame-refused t p moment why now is =
    refused_first (frame_tests p.moment t) (room_tests t p) why
    (err-refused (first_refusal (frame_tests p.moment t)) why (frame_of p.moment t)
    (subst (λ (m : ℕ). Err why ≡ refused_or (first_refusal (frame_tests m t)) (frame_of m t)) now is))

pub err-offer : (t : ReservationTemplate) (p : Plan) (why : Refusal) → first_refusal (request_tests t p) ≡ Some why → Err why ≡ refused_or (first_refusal (request_tests t p)) (offered t p)
err-offer t p why is = sym (ap (λ (o : Option Refusal). refused_or o (offered t p)) is)
