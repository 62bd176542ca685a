use Rattle.std.proofs.Common.{◌≡◌, ℕ, List, [], ◌∷◌, ◌++◌, Option, Some, ap, sym, subst, ◌∙◌}
use Rattle.job_template.specs.declared.templates.JobTemplate.{JobTemplate}
use Rattle.script_text.specs.declared.scripts.Script.{Script}
use Rattle.script_text.specs.Scripts.{with_template}
use Rattle.script_text.proofs.states.with_template.Goals as goal

with_jobs : (s r made : Script) (n : List ℕ) (t : JobTemplate) (jobs : List (List ℕ × JobTemplate)) → r ≡ s → jobs ≡ r.jobs ++ (n, t) ∷ [] → made ≡ record r { jobs = jobs }
    → ◌≡◌ {A = Option Script} (Some (with_template s n t)) (Some made)
with_jobs s r made n t jobs same e m =
    subst (λ (x : Script). ◌≡◌ {A = Option Script} (Some (with_template x n t)) (Some made)) same
    (ap (λ js. Some (record r { jobs = js })) (sym e) ∙ ap (λ (x : Script). Some x) (sym m))

pub returns-in_ok-new-in-Ok : goal.returns-in_ok-new-in-Ok
returns-in_ok-new-in-Ok c =
    subst (λ (p : Script × List ℕ). ◌≡◌ {A = Option Script} (Some (with_template p.0 p.1 c.args.template)) (Some c.in_ok-new-in-Ok.field-0)) c.naming.view_is
    (subst (λ (t : JobTemplate). ◌≡◌ {A = Option Script} (Some (with_template c.naming.inside.script c.naming.inside.name t)) (Some c.in_ok-new-in-Ok.field-0)) c.in_ok-template.ensures
    (with_jobs c.naming.inside.script c.into_inner-script.result c.in_ok-new-in-Ok.field-0 c.naming.inside.name c.in_ok-template.template c.add.new.self c.into_inner-script.ensures c.in-Ok.ensures c.in_ok-new-in-Ok.ensures))
