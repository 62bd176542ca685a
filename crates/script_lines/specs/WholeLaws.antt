-- Lines that are read whole by a sum.
use Rattle.std.proofs.Common.{◌≡◌, ℕ, true, List, [], ◌++◌, Some, refl, sym, ap, subst, ◌∙◌, append-nil}
use Rattle.text_codec.specs.Formats.{read_line}
use Rattle.text_codec.specs.Fields.{Fields, IsFormatUpTo, clear}
use Rattle.text_codec.specs.FormatLaws.{whole_found}
use Rattle.text_codec.specs.StepLaws.{bind}

pub sum_found : {A : Type 0} (fs : Fields A) → IsFormatUpTo fs → (line : List ℕ) (x : A) → read_line fs.body line ≡ Some x → fs.body.valid x × (line ≡ fs.body.spell x)
sum_found fs F line x e = bind (fs.body.read line) _ x e (λ p a b.
    let k = whole_found p.0 x p.1 b in
    let h = F.found line p a in
    subst (λ y. fs.body.valid y × (line ≡ fs.body.spell y)) k.0 (h.0, h.1 ∙ ap (λ r. fs.body.spell p.0 ++ r) k.1 ∙ append-nil (fs.body.spell p.0)))

pub sum_again : {A : Type 0} (fs : Fields A) → IsFormatUpTo fs → clear fs.barred [] ≡ true → (x : A) → fs.body.valid x → read_line fs.body (fs.body.spell x) ≡ Some x
sum_again fs F c x v = let h = ap fs.body.read (sym (append-nil (fs.body.spell x))) ∙ F.again x [] v refl c in rw h refl
