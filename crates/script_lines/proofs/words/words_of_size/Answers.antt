use Rattle.std.proofs.Common.{refl, nat_le, arith}
use Rattle.script_lines.proofs.Sizes.{at_least, between, by_size}
use Rattle.script_lines.proofs.words.words_of_size.Goals as goal

pub returns-in-0-to-3 : goal.returns-in-0-to-3
returns-in-0-to-3 c = between 0 3 c.args.size _ refl (omega arith) (omega arith)

pub returns-in-4 : goal.returns-in-4
returns-in-4 c = between 4 4 c.args.size _ refl (omega arith) (omega arith)

pub returns-in-5 : goal.returns-in-5
returns-in-5 c = between 5 5 c.args.size _ refl (omega arith) (omega arith)

pub returns-in-6 : goal.returns-in-6
returns-in-6 c = between 6 6 c.args.size _ refl (omega arith) (omega arith)

pub returns-in-7 : goal.returns-in-7
returns-in-7 c = between 7 7 c.args.size _ refl (omega arith) (omega arith)

pub returns-in-8 : goal.returns-in-8
returns-in-8 c = between 8 8 c.args.size _ refl (omega arith) (omega arith)

pub returns-in-9-to-10 : goal.returns-in-9-to-10
returns-in-9-to-10 c = between 9 10 c.args.size _ refl (omega arith) (omega arith)

pub returns-in-11 : goal.returns-in-11
returns-in-11 c = between 11 11 c.args.size _ refl (omega arith) (omega arith)

pub returns-in-12 : goal.returns-in-12
returns-in-12 c = between 12 12 c.args.size _ refl (omega arith) (omega arith)

pub returns-in-13-to-15 : goal.returns-in-13-to-15
returns-in-13-to-15 c = between 13 15 c.args.size _ refl (omega arith) (omega arith)

pub returns-in_default : goal.returns-in_default
returns-in_default c = by_size (λ n. nat_le 16 n) c.args.size _ refl (at_least 16 c.args.size (omega arith))
