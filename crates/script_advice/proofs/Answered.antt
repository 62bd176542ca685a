-- What holds where a function answers.
use Rattle.std.specs.Prelude.{◌≡◌, OnOk, Result}
use Rattle.std.proofs.lemmas.Result.{on_ok_weaker}
use Rattle.std.proofs.Common.{ℕ, List, [], ◌∷◌, ◌++◌, sym, ap, subst, ◌∙◌}
use Rattle.script_advice.specs.declared.warning_kinds.Warning.{Warning}
use Rattle.script_advice.specs.WarningTexts.{warning_line}
use Rattle.script_advice.specs.NameSets.{Set, Extends}
use Rattle.script_advice.specs.NameSetLaws.{extends_new}

pub put_new : {A E : Type 0} (set new : Set) (name copy : List ℕ) (r : Result A E) → copy ≡ name → OnOk r (new ≡ set ++ (copy, tt) ∷ []) → OnOk r (Extends set new (name ∷ []))
put_new set new name copy r same h =
    on_ok_weaker r (λ (e : new ≡ set ++ (copy, tt) ∷ []). subst (λ s. Extends set s (name ∷ [])) (sym (e ∙ ap (λ n. set ++ (n, tt) ∷ []) same)) (extends_new set name)) h

pub line_of : {A E : Type 0} (r : Result A E) (old new : List ℕ) (w v : Warning) → w ≡ v → OnOk r (new ≡ old ++ warning_line v) → OnOk r (new ≡ old ++ warning_line w)
line_of r old new w v e h = subst (λ x. OnOk r (new ≡ old ++ warning_line x)) (sym e) h
