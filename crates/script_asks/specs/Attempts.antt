-- Attempts by jobs, as a table.
use Rattle.std.proofs.Common.{◌≡◌, ℕ, nat_eq, List, [], ◌∷◌, ◌++◌, Option, Some, None, refl, sym, ap, ◌∙◌}
use Rattle.std.specs.Map.{lookup}
use Rattle.drmaa_model.specs.declared.replies.Reply.{Reply}
use Rattle.script_asks.specs.Replies.{attempt_after, attempt_from, last_attempt}

-- an attempt, and 0 where there is none
abbrev pub or_none : Option ℕ → ℕ
or_none None = 0
or_none (Some n) = n

abbrev pub attempt_in : List (ℕ × ℕ) → ℕ → ℕ
attempt_in attempts job = or_none (lookup (nat_eq job) attempts)

-- the attempts are those before, and that of a reply
abbrev pub Notes : List (ℕ × ℕ) → Reply → List (ℕ × ℕ) → Type 0
Notes old r new = (job : ℕ) → attempt_in new job ≡ attempt_after job (attempt_in old job) r

-- the attempts are the last ones of these replies
abbrev pub Shows : List (ℕ × ℕ) → List Reply → Type 0
Shows attempts replies = (job : ℕ) → attempt_in attempts job ≡ last_attempt job replies

from_last : (job attempt : ℕ) (rs : List Reply) (r : Reply) → attempt_from job attempt (rs ++ r ∷ []) ≡ attempt_after job (attempt_from job attempt rs) r
from_last job attempt [] r = refl
from_last job attempt (x ∷ xs) r = from_last job (attempt_after job attempt x) xs r

-- they show the replies with one more, once they note it
pub shows_more : (old new : List (ℕ × ℕ)) (rs : List Reply) (r : Reply) → Shows old rs → Notes old r new → Shows new (rs ++ r ∷ [])
shows_more old new rs r s n job = n job ∙ ap (λ a. attempt_after job a r) (s job) ∙ sym (from_last job 0 rs r)
