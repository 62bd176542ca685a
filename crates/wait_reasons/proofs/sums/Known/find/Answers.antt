use Rattle.std.proofs.Common.{◌≡◌, subst, rules}
use Rattle.wait_reasons.specs.declared.sums.Share.{Share}
use Rattle.wait_reasons.specs.Sums.{sum_of}
use Rattle.wait_reasons.proofs.sums.Known.find.Goals as goal

pub returns-then-eq : goal.returns-then-eq
returns-then-eq c = λ rows known.
    let same : c.in_ok-made.made.share ≡ c.args.share = search rules in
    subst (λ (s : Share). c.in_ok-made.made.sum ≡ sum_of s rows) same (known c.place_of.result c.in_ok-made.made (search rules))
