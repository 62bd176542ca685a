use Rattle.std.proofs.Common.{◌≡◌, ℕ, subst}
use Rattle.plan_book.specs.Spans.{IsWithin}
use Rattle.plan_book.proofs.spans.put_in_home.Goals as goal

pub returns-in-Some-clause-member : goal.returns-in-Some-clause-member
returns-in-Some-clause-member c = λ home is.
    (let own = c.in-Some.is in
    let same : c.in-Some.home ≡ home = cc in
    subst (λ (n : ℕ). IsWithin n c.args.row.now.job.0 c.put_member.new.self) same c.put_member.ensures.member)

pub returns-in-None-clause-member : goal.returns-in-None-clause-member
returns-in-None-clause-member c = λ home is. (let own = c.in-None.is in absurd (cc))
