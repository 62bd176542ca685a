use Rattle.std.proofs.Common.{◌≡◌, ◌+◌, ◌∷◌, ◌∙◌, length, drop, ap, subst, arith}
use Rattle.std.specs.Str.{bytes_eq}
use Rattle.script_text.specs.BlockTextLaws.{length_said}
use Rattle.script_text.specs.RegisterTexts.{registers-there}
use Rattle.script_text.proofs.blocks.Block.registers_at.Goals as goal

pub get-requires : goal.get-requires
get-requires c =
    let same = length_said c.self.inside.texts c.self.invariant.0 in
    omega (arith, ap length c.self.view_is)

pub returns : goal.returns
returns c =
    let there = registers-there c.self.inside.texts c.args.place c.get.result.now c.self.invariant.0 c.get.ensures in (
      there.0,
      subst (λ ls. drop c.args.place ls ≡ there.0 ∷ drop (c.args.place + 1) ls) c.self.view_is there.1,
      c.eq.ensures ∙ ap (bytes_eq c.get.result.now) c.as_slice.ensures ∙ there.2,
    )
