use Rattle.std.proofs.Common.{◌≡◌, ◌++◌, ℕ, List, map, drop}
use denote.Ref.{Bor}
use Rattle.job_template.proofs.additions.push_texts.Given as goal

-- with the words that are left it is all of them
abbrev pub invariant-loop-word : goal.invariant-loop-word
invariant-loop-word l =
    l.texts ++ map (λ (w : Bor (List ℕ)). w.now) (drop l.word-index l.words) ≡ l.fn.texts ++ map (λ (w : Bor (List ℕ)). w.now) l.fn.words
