use Rattle.std.proofs.Common.{◌≡◌, ℕ, List, map, ap, subst, ◌∙◌, IfOk, Bor}
use Rattle.command_words.specs.Commands.{Finds, AsksFor}
use Rattle.command_words.proofs.asking.command_of.Goals as goal

pub returns-clause-named : goal.returns-clause-named
returns-clause-named c =
    let ws = c.args.words.now in
    let are : map (λ w. w.now) c.as_slice.result.now ≡ ws =
    ap (map (λ (w : Bor (List ℕ)). w.now)) c.as_slice.ensures.value ∙ c.in_ok-lent.ensures ∙ c.as_slice-words.ensures in
    subst (λ (x : List (List ℕ)). IfOk c.asked.result (Finds (AsksFor x))) are c.asked.ensures
