use Rattle.std.proofs.Common.{◌≡◌, ◌+◌, ◌∷◌, length, drop, ap, subst, arith}
use Rattle.std.proofs.lemmas.Result.{IfOk-weaker}
use Rattle.script_text.specs.BlockTextLaws.{length_said, spelled_at, line_at}
use Rattle.script_text.proofs.blocks.Block.line.Goals as goal

pub get-requires : goal.get-requires
get-requires c =
    let same = length_said c.self.inside.texts c.self.invariant.0 in
    omega (arith, ap length c.self.view_is)

pub line_of-requires : goal.line_of-requires
line_of-requires c = spelled_at c.self.inside.texts c.args.place c.get.result.now c.self.invariant.0 c.get.ensures

pub returns : goal.returns
returns c =
    IfOk-weaker _ _ _
    (λ line e. subst (λ ls. drop c.args.place ls ≡ line ∷ drop (c.args.place + 1) ls) c.self.view_is
    (line_at c.self.inside.texts c.args.place c.get.result.now line c.self.invariant.0 c.get.ensures e))
    c.line_of.ensures
