-- Histories whose worlds are written out: each entry is computed from the world before it alone.
use Rattle.std.proofs.Common.{◌≡◌, List, [], ◌∷◌, ◌++◌, refl, sym, ◌∙◌, ap, subst}
use Rattle.drmaa_model.specs.declared.entries.Entry.{Entry}
use Rattle.drmaa_model.specs.History.{replay_from, IsLegalFrom}
use Rattle.drmaa_model.specs.HistoryLaws.{after_step}
use Rattle.drmaa_model.specs.Steps.{IsStep}
use Rattle.drmaa_model.specs.World.{World}

-- each entry leads to the next of these worlds
abbrev pub IsWalk : World → List Entry → List World → Type 0
IsWalk w [] [] = Unit {0}
IsWalk w [] (next ∷ worlds) = ⊥
IsWalk w (entry ∷ entries) [] = ⊥
IsWalk w (entry ∷ entries) (next ∷ worlds) = IsStep w entry next × IsWalk next entries worlds

pub walk-legal : (w : World) (entries : List Entry) (worlds : List World) → IsWalk w entries worlds → IsLegalFrom w entries
walk-legal w [] [] walk = tt
walk-legal w [] (next ∷ worlds) walk = absurd walk
walk-legal w (entry ∷ entries) [] walk = absurd walk
walk-legal w (entry ∷ entries) (next ∷ worlds) walk =
    let same = sym (after_step w entry next walk.0) in
    (subst (IsStep w entry) same walk.0, subst (λ v. IsLegalFrom v entries) same (walk-legal next entries worlds walk.1))

abbrev pub last : World → List World → World
last w [] = w
last w (next ∷ worlds) = last next worlds

pub walk-ends : (w : World) (entries : List Entry) (worlds : List World) → IsWalk w entries worlds → replay_from w entries ≡ last w worlds
walk-ends w [] [] walk = refl
walk-ends w [] (next ∷ worlds) walk = absurd walk
walk-ends w (entry ∷ entries) [] walk = absurd walk
walk-ends w (entry ∷ entries) (next ∷ worlds) walk =
    ap (λ v. replay_from v entries) (after_step w entry next walk.0) ∙ walk-ends next entries worlds walk.1

pub walk-append : (w : World) (front : List Entry) (worlds : List World) (back : List Entry) (others : List World)
    → IsWalk w front worlds → IsWalk (last w worlds) back others → IsWalk w (front ++ back) (worlds ++ others)
walk-append w [] [] back others first second = second
walk-append w [] (next ∷ worlds) back others first second = absurd first
walk-append w (entry ∷ front) [] back others first second = absurd first
walk-append w (entry ∷ front) (next ∷ worlds) back others first second = (first.0, walk-append next front worlds back others first.1 second)
