use Rattle.std.proofs.Common.{◌≡◌, subst}
use Rattle.drmaa_types.specs.declared.identifiers.ArrayId.{ArrayId}
use Rattle.plan_book.specs.Spans.{IsWithin}
use Rattle.plan_book.proofs.spans.put_in_array.Goals as goal

pub returns-in-Some-clause-member : goal.returns-in-Some-clause-member
returns-in-Some-clause-member c = λ array is.
    (let own = c.in-Some.is in
    let same : c.in-Some.array ≡ array = cc in
    subst (λ (a : ArrayId). IsWithin a.0 c.args.row.now.job.0 c.put_member.new.self) same c.put_member.ensures.member)

pub returns-in-None-clause-member : goal.returns-in-None-clause-member
returns-in-None-clause-member c = λ array is. (let own = c.in-None.is in absurd (cc))
