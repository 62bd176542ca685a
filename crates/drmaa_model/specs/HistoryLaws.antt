-- Laws of histories: what one entry more does, and what is true of the first entries.
use Rattle.std.proofs.Common.{◌≡◌, List, [], ◌∷◌, ◌++◌, refl, sym, ◌∙◌, ap, subst}
use Rattle.drmaa_model.specs.declared.configs.Config.{Config}
use Rattle.drmaa_model.specs.declared.entries.Entry.{Entry}
use Rattle.drmaa_model.specs.History.{world_after, after_entry, replay_from, replay, IsLegalFrom, IsLegal}
use Rattle.drmaa_model.specs.Steps.{IsStep}
use Rattle.drmaa_model.specs.World.{World, opening_world}

pub replay_from-append : (w : World) (xs ys : List Entry) → replay_from w (xs ++ ys) ≡ replay_from (replay_from w xs) ys
replay_from-append w [] ys = refl
replay_from-append w (x ∷ xs) ys = replay_from-append (after_entry w x) xs ys

-- the world after a step is the one that the entry leads to
pub after_step : (w : World) (entry : Entry) (next : World) → IsStep w entry next → after_entry w entry ≡ next
after_step w entry next step = ap (λ a. world_after a w) step.answered

-- one entry more
pub replay-push : (config : Config) (history : List Entry) (entry : Entry) → replay config (history ++ entry ∷ []) ≡ after_entry (replay config history) entry
replay-push config history entry = replay_from-append (opening_world config) history (entry ∷ [])

pub replay-step : (config : Config) (history : List Entry) (entry : Entry) (next : World) → IsStep (replay config history) entry next → replay config (history ++ entry ∷ []) ≡ next
replay-step config history entry next step = replay-push config history entry ∙ after_step (replay config history) entry next step

pub legal_from-append : (w : World) (xs ys : List Entry) → IsLegalFrom w xs → IsLegalFrom (replay_from w xs) ys → IsLegalFrom w (xs ++ ys)
legal_from-append w [] ys front back = back
legal_from-append w (x ∷ xs) ys front back = (front.0, legal_from-append (after_entry w x) xs ys front.1 back)

pub legal_from-front : (w : World) (xs ys : List Entry) → IsLegalFrom w (xs ++ ys) → IsLegalFrom w xs
legal_from-front w [] ys legal = tt
legal_from-front w (x ∷ xs) ys legal = (legal.0, legal_from-front (after_entry w x) xs ys legal.1)

pub legal_from-back : (w : World) (xs ys : List Entry) → IsLegalFrom w (xs ++ ys) → IsLegalFrom (replay_from w xs) ys
legal_from-back w [] ys legal = legal
legal_from-back w (x ∷ xs) ys legal = legal_from-back (after_entry w x) xs ys legal.1

-- a step makes a legal history longer
pub legal-push : (config : Config) (history : List Entry) (entry : Entry) (next : World) → IsLegal config history → IsStep (replay config history) entry next → IsLegal config (history ++ entry ∷ [])
legal-push config history entry next legal step =
    legal_from-append (opening_world config) history (entry ∷ []) legal
    (subst (λ v. IsStep (replay config history) entry v) (sym (after_step (replay config history) entry next step)) step, tt)

-- the first entries of a legal history are legal
pub legal-prefix : (config : Config) (front back : List Entry) → IsLegal config (front ++ back) → IsLegal config front
legal-prefix config front back legal = legal_from-front (opening_world config) front back legal

-- the last entry of a legal history is a step from the world of the others
pub legal-last : (config : Config) (front : List Entry) (entry : Entry) → IsLegal config (front ++ entry ∷ []) → IsStep (replay config front) entry (replay config (front ++ entry ∷ []))
legal-last config front entry legal =
    let last = legal_from-back (opening_world config) front (entry ∷ []) legal in
    subst (IsStep (replay config front) entry) (sym (replay-push config front entry)) last.0

-- What one step keeps is true of the world of each legal history.
pub legal-keeps : (config : Config) (P : World → Type 0) → P (opening_world config) → ((w : World) (entry : Entry) (next : World) → P w → IsStep w entry next → P next)
    → (history : List Entry) → IsLegal config history → P (replay config history)
legal-keeps config P first step history legal = keeps (opening_world config) history first legal where
  keeps : (w : World) (entries : List Entry) → P w → IsLegalFrom w entries → P (replay_from w entries)
  keeps w [] here legal = here
  keeps w (x ∷ xs) here legal = keeps (after_entry w x) xs (step w x (after_entry w x) here legal.0) legal.1
