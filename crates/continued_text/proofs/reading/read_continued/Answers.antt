use Rattle.std.proofs.Common.{nat_le, length, refl}
use Rattle.text_lines.specs.Lines.{IsFront}
use Rattle.continued_text.specs.TextLaws.{whole_front}
use Rattle.continued_text.proofs.reading.read_continued.Goals as goal

front : (c : goal.After-read_first) → IsFront 268_435_456 c.args.bytes.now c.first_bytes-front.result.now (nat_le (length c.args.bytes.now) 268_435_456)
front c = whole_front c.args.bytes.now c.first_bytes-front.result.now (nat_le (length c.args.bytes.now) 268_435_456) c.first_bytes-front.ensures refl

pub returns-clause-writable : goal.returns-clause-writable
returns-clause-writable c = c.read_first.ensures.writable

pub returns-clause-serial : goal.returns-clause-serial
returns-clause-serial c = c.read_first.ensures.serial

pub returns-clause-same : goal.returns-clause-same
returns-clause-same c = c.read_first.ensures.same

pub returns-clause-found : goal.returns-clause-found
returns-clause-found c = c.read_first.ensures.found c.args.bytes.now (front c)

pub returns-clause-only : goal.returns-clause-only
returns-clause-only c = λ x t. c.read_first.ensures.only c.args.bytes.now x (front c) t

pub returns-clause-line : goal.returns-clause-line
returns-clause-line c = λ n e. c.read_first.ensures.line c.args.bytes.now n (front c) e
