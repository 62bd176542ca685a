-- Tables and lists of what a history tells, after one event, one entry or one job more.
use Rattle.std.proofs.Common.{◌≡◌, ℕ, suc, ◌+◌, ◌-◌, ◌<◌, nat_eq, true, false, List, [], ◌∷◌, ◌++◌, map, drop, get_or, length, Option, Some, refl, sym, ap, ◌∙◌, arith}
use Rattle.std.proofs.lemmas.Bool.{eqb-true}
use Rattle.std.proofs.lemmas.List.{append_assoc, drop_more}
use Rattle.std.specs.Map.{lookup}
use Rattle.std.specs.Option.{unwrap_or}
use Rattle.std.specs.Prelude.{◌==◌, if◌then◌else◌}
use Rattle.drmaa_model.specs.declared.entries.Entry.{Entry}
use Rattle.run_views.specs.declared.submissions.Submission.{Submission}
use Rattle.run_views.specs.declared.told.JobEvent.{JobEvent}
use Rattle.run_views.specs.declared.told.Told.{Told}
use Rattle.run_views.specs.Submitted.{numbers_from, session_in, name_in, used_after, name_after, name_from, name_of_session}
use Rattle.run_views.specs.Tables.{tale_in}
use Rattle.run_views.specs.Told.{nothing, after, tale_from, tale_of}

-- what the table tells of each job, once it has what is told of the event's
pub heard : (old : List (ℕ × Told)) (event : JobEvent) (job : ℕ)
    → unwrap_or (if nat_eq event.job.0 job then Some (after event.what (tale_in old event.job.0)) else lookup (nat_eq job) old) nothing
    ≡ (if event.job.0 == job then after event.what (tale_in old job) else tale_in old job)
heard old event job =
    (elim (nat_eq event.job.0 job) as (λ b. nat_eq event.job.0 job ≡ b
    → unwrap_or (if b then Some (after event.what (tale_in old event.job.0)) else lookup (nat_eq job) old) nothing
    ≡ (if b then after event.what (tale_in old job) else tale_in old job)) [
      | true ↦ λ p. ap (λ (n : ℕ). after event.what (tale_in old n)) (eqb-true event.job.0 job p)
      | false ↦ λ p. refl
    ]) refl

-- one event more is heard, and fewer are left
pub one_heard : (job : ℕ) (events : List JobEvent) (i : ℕ) (d : JobEvent) (told more : Told) → i < length events
    → more ≡ (if (get_or events i d).job.0 == job then after (get_or events i d).what told else told)
    → tale_from job told (drop i events) ≡ tale_of job events
    → tale_from job more (drop (i + 1) events) ≡ tale_of job events
one_heard job events i d told more less hears was =
    ap (λ (t : Told). tale_from job t (drop (i + 1) events)) hears
    ∙ ap (λ (es : List JobEvent). tale_from job told es) (sym (drop_more events i d less))
    ∙ was

-- one entry more is noted, and fewer are left
pub one_named : (session : ℕ) (entries : List Entry) (i : ℕ) (d entry : Entry) (used more : List (List ℕ)) (name next : Option (List ℕ)) → i < length entries
    → entry ≡ get_or entries i d
    → more ≡ used_after used entry.call entry.reply
    → next ≡ name_after session (session_in entry.reply) (name_in used entry.call) name
    → name_from session used name (drop i entries) ≡ name_of_session session entries
    → name_from session more next (drop (i + 1) entries) ≡ name_of_session session entries
one_named session entries i d entry used more name next less is notes names was =
    ap (λ (us : List (List ℕ)). name_from session us next (drop (i + 1) entries)) notes
    ∙ ap (λ (n : Option (List ℕ)). name_from session (used_after used entry.call entry.reply) n (drop (i + 1) entries)) names
    ∙ ap (λ (e : Entry). name_from session used name (e ∷ drop (i + 1) entries)) is
    ∙ ap (λ (es : List Entry). name_from session used name es) (sym (drop_more entries i d less))
    ∙ was

-- ---- numbers that follow one another

pub numbers_step : (first place count : ℕ) → place < count → numbers_from (first + place) (count - place) ≡ (first + place) ∷ numbers_from (first + (place + 1)) (count - (place + 1))
numbers_step first place count less =
    let left : count - place ≡ suc (count - (place + 1)) = omega (arith, less) in
    let next : first + place + 1 ≡ first + (place + 1) = omega arith in
    ap (λ (n : ℕ). numbers_from (first + place) n) left
    ∙ ap (λ (n : ℕ). (first + place) ∷ numbers_from n (count - (place + 1))) next

-- one more is added, and fewer are left
pub one_added : (f : ℕ → Submission) (first place count : ℕ) (start subs more : List Submission) → place < count
    → more ≡ subs ++ f (first + place) ∷ []
    → subs ++ map f (numbers_from (first + place) (count - place)) ≡ start
    → more ++ map f (numbers_from (first + (place + 1)) (count - (place + 1))) ≡ start
one_added f first place count start subs more less pushed was =
    ap (λ (ss : List Submission). ss ++ map f (numbers_from (first + (place + 1)) (count - (place + 1)))) pushed
    ∙ append_assoc subs (f (first + place) ∷ []) (map f (numbers_from (first + (place + 1)) (count - (place + 1))))
    ∙ ap (λ (ns : List ℕ). subs ++ map f ns) (sym (numbers_step first place count less))
    ∙ was
