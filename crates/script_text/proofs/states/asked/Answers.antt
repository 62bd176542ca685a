use Rattle.std.proofs.Common.{◌≡◌, ◌∙◌, ◌++◌, true, sym, ap}
use Rattle.text_codec.specs.StepLaws.{both}
use Rattle.script_text.specs.Names.{is_free}
use Rattle.script_text.specs.NameLaws.{free_later}
use Rattle.script_text.specs.Follows.{belongs, lines_of, may_follow, may_stand, refers}
use Rattle.script_text.proofs.states.asked.Goals as goal

pub with-requires-clause-free : goal.with-requires-clause-free
with-requires-clause-free c =
    let earlier = lines_of c.args.script.setup ++ c.args.block in
    let m : may_stand c.args.mode c.args.in_setup c.args.script earlier c.args.line.now ≡ true = ap (λ s. may_stand c.args.mode c.args.in_setup s (lines_of s.setup ++ c.args.block) c.args.line.now) (sym c.get.ensures) ∙ sym c.may_stand.ensures ∙ c.if-may_stand.true in
    let follows = (both (belongs c.args.mode c.args.in_setup c.args.line.now) (may_follow c.args.script earlier c.args.line.now) m).1 in
    free_later (lines_of c.args.script.setup) c.args.block c.args.line.now (both (is_free earlier c.args.line.now) (refers c.args.script earlier c.args.line.now) follows).0
