use Rattle.std.proofs.Common.{sym, ◌∙◌, arith}
use Rattle.command_words.proofs.Readings.{number_outside}
use Rattle.command_words.proofs.reading.count_in.Goals as goal

pub returns-in_default : goal.returns-in_default
returns-in_default c =
    let above = c.if-number-from.false in
    number_outside c.args.word.now c.in-Some.number c.args.greatest c.in-Some.ensures.0 (sym c.as_bytes.ensures.value ∙ c.in-Some.ensures.1)
    c.ranges.greatest.fits (λ l m. omega (arith, m, above, c.from.ensures))

pub returns-in_default-2 : goal.returns-in_default-2
returns-in_default-2 c =
    let below = c.if-number-ge1.false in
    number_outside c.args.word.now c.in-Some.number c.args.greatest c.in-Some.ensures.0 (sym c.as_bytes.ensures.value ∙ c.in-Some.ensures.1)
    c.ranges.greatest.fits (λ l m. omega (arith, l, below))
