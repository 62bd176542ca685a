use Rattle.recurring_reservations.specs.OccurrenceLaws.{tells-reason}
use Rattle.recurring_reservations.proofs.templates.occurrences.Goals as goal

pub returns-in-Ok-clause-refuses : goal.returns-in-Ok-clause-refuses
returns-in-Ok-clause-refuses c = tells-reason c.args.r.now c.occurrences_from.result c.occurrences_from.ensures.ok c.occurrences_from.ensures.err
