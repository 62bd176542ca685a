use Rattle.std.proofs.Common.{sym, ◌∙◌, arith}
use Rattle.command_words.proofs.Readings.{number_above}
use Rattle.command_words.proofs.reading.number_up_to.Goals as goal

pub returns-in_default : goal.returns-in_default
returns-in_default c =
    let above = c.if-number-from.false in
    number_above c.args.word.now c.in-Some.number c.args.greatest c.in-Some.ensures.0 (sym c.as_bytes.ensures.value ∙ c.in-Some.ensures.1)
    c.ranges.greatest.fits (λ m. omega (arith, m, above, c.from.ensures))
