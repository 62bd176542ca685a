use Rattle.std.proofs.Common.{arith}
use Rattle.plan_book.proofs.spans.SpanList.put_member.Goals as goal

pub returns-then-not-put_number-clause-keeps : goal.returns-then-not-put_number-clause-keeps
returns-then-not-put_number-clause-keeps c = λ other number within above. c.put_number.ensures.keeps other number (within (omega (arith, above, c.max-self.ensures)))

pub returns-then-not-put_number-clause-member : goal.returns-then-not-put_number-clause-member
returns-then-not-put_number-clause-member c = λ above. absurd (omega (arith, above, c.max-self.ensures))

pub returns-else-not-put_number-clause-keeps : goal.returns-else-not-put_number-clause-keeps
returns-else-not-put_number-clause-keeps c = λ other number within above. c.put_number.ensures.keeps other number (within above)

pub returns-else-not-put_number-clause-member : goal.returns-else-not-put_number-clause-member
returns-else-not-put_number-clause-member c = λ above. c.put_number.ensures.member c.if-not-put_number.false
