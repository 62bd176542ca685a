use Rattle.std.proofs.Common.{sym, ◌∙◌, arith, ap, length, length-append}
use Rattle.std.proofs.lemmas.Option.{same_Some, none-some}
use Rattle.text_codec.specs.Units.{after}
use Rattle.text_codec.specs.Lexical.{escaped}
use Rattle.text_codec.specs.UnitLaws.{escaped_some, one_text}
use Rattle.text_codec.proofs.quotes.units.Goals as goal

pub loop-byte-smaller : goal.loop-byte-smaller
loop-byte-smaller c = omega (arith, escaped_some c.in-Some.byte, ap length c.in-Some.ensures.found, length-append (escaped c.in-Some.byte) c.in-Some.after.now)

pub returns-in-Some-after-clause-only : goal.returns-in-Some-after-clause-only
returns-in-Some-after-clause-only c = λ text rest e.
    let one = one_text c.loop-byte.text.items text c.loop-byte.rest.now rest (sym c.loop-byte.invariant ∙ e) (λ x more h. c.in_default.ensures.only x more h) in
    (one.0, same_Some c.in-Some-after.after.now rest (c.in-Some-after.ensures ∙ ap (after 34) one.1))

pub returns-clause-only : goal.returns-clause-only
returns-clause-only c = λ text rest e.
    let one = one_text c.loop-byte.text.items text c.loop-byte.rest.now rest (sym c.loop-byte.invariant ∙ e) (λ x more h. c.in_default.ensures.only x more h) in
    none-some rest (c.in-None.ensures ∙ ap (after 34) one.1)
