use Rattle.std.proofs.Common.{arith, pos, refl, ◌∙◌}
use Rattle.std.proofs.lemmas.Bool.{false≢true}
use Rattle.jiff_core.proofs.SignedLemmas.{signed_arith}
use Rattle.recurring_reservations.specs.DateLaws.{date_add-months, added-shiftable, many-months, unadded-months, since-months}
use Rattle.recurring_reservations.proofs.Spans.{span-of-months}
use Rattle.recurring_reservations.proofs.dates.months_after.Goals as goal

pub returns-then-months-gt-MOST_MONTHS-clause-beyond : goal.returns-then-months-gt-MOST_MONTHS-clause-beyond
returns-then-months-gt-MOST_MONTHS-clause-beyond c = many-months c.args.date c.args.months c.requires c.if-months-gt-MOST_MONTHS.true

pub returns-in_default-clause-beyond : goal.returns-in_default-clause-beyond
returns-in_default-clause-beyond c =
    unadded-months c.args.date c.args.months c.months.result c.requires (span-of-months c.args.months c.from.result c.months.result c.ranges.months.fits c.from.ensures c.months.ensures) (λ can. false≢true (c.in_default.ensures.succeeds.1 can))

pub returns-clause-found : goal.returns-clause-found
returns-clause-found c = c.in-Ok.ensures.value ∙ date_add-months c.args.date (pos c.args.months) c.months.result (span-of-months c.args.months c.from.result c.months.result c.ranges.months.fits c.from.ensures c.months.ensures)

pub returns-clause-since : goal.returns-clause-since
returns-clause-since c =
    let found = c.in-Ok.ensures.value ∙ date_add-months c.args.date (pos c.args.months) c.months.result (span-of-months c.args.months c.from.result c.months.result c.ranges.months.fits c.from.ensures c.months.ensures) in
    let shiftable = added-shiftable c.args.date (pos c.args.months) c.months.result (span-of-months c.args.months c.from.result c.months.result c.ranges.months.fits c.from.ensures c.months.ensures) (c.in-Ok.ensures.succeeds.0 refl) in
    let later = since-months c.args.date c.args.months shiftable in
    omega (arith, signed_arith, found, c.requires)
