use Rattle.std.proofs.Common.{◌≡◌, ◌++◌, ◌∷◌, [], true, ap, sym, subst, ◌∙◌}
use Rattle.script_text.specs.Names.{binds, onto, names_of, is_new}
use Rattle.script_text.specs.BlockTexts.{said, AreLines}
use Rattle.script_text.specs.BlockTextLaws.{said_longer, lines_longer, names_longer}
use Rattle.script_text.proofs.blocks.Block.with.Goals as goal

pub with_binding-requires : goal.with_binding-requires
with_binding-requires c =
    subst (λ b. is_new c.self.inside.names b ≡ true) (sym c.in_ok-binding.ensures)
    (subst (λ ns. is_new ns (binds c.args.line.now) ≡ true) (sym (c.self.invariant.1 ∙ ap names_of c.self.view_is)) c.requires.free)

pub invariant_of-result : goal.invariant_of-result
invariant_of-result c = (
  subst AreLines (sym c.in_ok-texts.ensures) (lines_longer c.self.inside.texts c.args.text.now c.args.line.now c.self.invariant.0 c.requires.spelled),
  c.in_ok-names.ensures ∙ ap (λ b. c.self.inside.names ++ onto b []) c.in_ok-binding.ensures
      ∙ ap (λ ns. ns ++ onto (binds c.args.line.now) []) c.self.invariant.1
      ∙ names_longer c.self.inside.texts c.args.text.now c.args.line.now c.requires.spelled
      ∙ ap (λ ts. names_of (said ts)) (sym c.in_ok-texts.ensures),
)

pub returns : goal.returns
returns c =
    ap said c.in_ok-texts.ensures ∙ said_longer c.self.inside.texts c.args.text.now c.args.line.now c.requires.spelled ∙ ap (λ ls. ls ++ c.args.line.now ∷ []) c.self.view_is
