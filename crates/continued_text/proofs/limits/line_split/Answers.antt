use Rattle.std.proofs.Common.{arith}
use Rattle.text_lines.specs.SplitLaws.{len_within, split_some, split_none}
use Rattle.continued_text.proofs.limits.line_split.Goals as goal

pub split_at-requires : goal.split_at-requires
split_at-requires c = omega (arith, len_within c.args.bytes.now)

pub returns-in-Some : goal.returns-in-Some
returns-in-Some c =
    split_some c.args.bytes.now c.split_at.result.0.now c.split_at.result.1.now c.in-Some.rest.now c.line_len.result c.in-Some.field-0-0.now
    c.line_len.ensures c.split_at.ensures.front c.split_at.ensures.back c.in-Some.ensures.cases.0

pub returns-in-None : goal.returns-in-None
returns-in-None c = split_none c.args.bytes.now c.split_at.result.1.now c.line_len.result c.line_len.ensures c.split_at.ensures.back c.in-None.ensures.cases
