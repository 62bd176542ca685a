use Rattle.std.proofs.Common.{arith}
use Rattle.batch_command.proofs.Slots.{found, none, outside}
use Rattle.batch_command.proofs.words.slots_in.Goals as goal

pub returns-in-Some : goal.returns-in-Some
returns-in-Some c =
    let low = c.if-slots-ge1.true in
    let high = c.if-slots-le65535.true in
    (omega (arith, low), omega (arith, high), found c.args.word.now c.in-Some.slots c.in-Some.ensures)

pub returns-in_default : goal.returns-in_default
returns-in_default c =
    let high = c.if-slots-le65535.false in
    outside c.args.word.now c.in-Some.slots c.in-Some.ensures (λ l m. omega (arith, m, high))

pub returns-in_default-2 : goal.returns-in_default-2
returns-in_default-2 c =
    let low = c.if-slots-ge1.false in
    outside c.args.word.now c.in-Some.slots c.in-Some.ensures (λ l m. omega (arith, l, low))

pub returns-in_default-3 : goal.returns-in_default-3
returns-in_default-3 c = none c.args.word.now c.in_default.ensures
