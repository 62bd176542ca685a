use Rattle.std.proofs.Common.{sym, ◌∙◌}
use Rattle.continued_text.proofs.Steps.{goes_on, found, none_found, smaller}
use Rattle.continued_text.proofs.limits.journal_len.Goals as goal

pub overflow_sub-result : goal.overflow_sub-result
overflow_sub-result c = (found c.args.bytes.now c.loop-line.rest.now c.in-Some.line.now c.in-Some.behind.now c.loop-line.invariant c.in-Some.ensures (sym c.is_last.ensures ∙ c.if-is_last.true)).0

pub returns-then-is_last : goal.returns-then-is_last
returns-then-is_last c = (found c.args.bytes.now c.loop-line.rest.now c.in-Some.line.now c.in-Some.behind.now c.loop-line.invariant c.in-Some.ensures (sym c.is_last.ensures ∙ c.if-is_last.true)).1

pub loop-line-smaller : goal.loop-line-smaller
loop-line-smaller c = smaller c.loop-line.rest.now c.in-Some.line.now c.in-Some.behind.now c.in-Some.ensures

pub loop-line-preserved : goal.loop-line-preserved
loop-line-preserved c = goes_on c.args.bytes.now c.loop-line.rest.now c.in-Some.line.now c.in-Some.behind.now c.loop-line.invariant c.in-Some.ensures (sym c.is_last.ensures ∙ c.if-is_last.false)

pub returns : goal.returns
returns c = none_found c.args.bytes.now c.loop-line.rest.now c.loop-line.invariant c.in_default.ensures
