use Rattle.std.proofs.Common.{◌≡◌, ◌&&◌, nat_le, Bool, true, false, length, refl, sym, ap, subst, ◌∙◌}
use Rattle.std.specs.Prelude.{IsTrue}
use Rattle.continued_text.specs.LimitLaws.{front_is}
use Rattle.continued_text.proofs.limits.within_limit.Goals as goal
use Rattle.continued_text.proofs.limits.within_limit.Goals.{then-whole, else-whole}

is_all : (c : goal.After-first_bytes) → c.if-whole.is_all ≡ (c.args.whole && nat_le (length c.args.front.now) c.limit_of-limit.result)
is_all c = elim c.if-whole.branch [
  | then-whole w ↦ w.is_all-is ∙ sym (ap (λ b. b && nat_le (length c.args.front.now) c.limit_of-limit.result) w.if-whole.true)
  | else-whole w ↦ w.is_all-is ∙ w.if-whole.false ∙ sym (ap (λ b. b && nat_le (length c.args.front.now) c.limit_of-limit.result) w.if-whole.false)
]

pub returns-clause-front : goal.returns-clause-front
returns-clause-front c = λ all f.
    front_is all c.args.front.now c.first_bytes.result.now c.limit_of-limit.result c.args.whole c.if-whole.is_all f c.limit_of-limit.ensures c.first_bytes.ensures (is_all c)

first_true : (a b : Bool) → IsTrue (a && b) → IsTrue a
first_true true b h = refl
first_true false b h = h

pub returns-clause-whole : goal.returns-clause-whole
returns-clause-whole c = λ h. first_true c.args.whole (nat_le (length c.args.front.now) c.limit_of-limit.result) (subst IsTrue (is_all c) h)
