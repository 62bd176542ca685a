use Rattle.recurring_reservations.proofs.Beyond.{beyond-days, beyond-weeks}
use Rattle.recurring_reservations.proofs.starts.occurrence.Goals as goal

pub returns-in-Days-clause-beyond : goal.returns-in-Days-clause-beyond
returns-in-Days-clause-beyond c =
    beyond-days c.args.start c.args.every c.args.index c.in-Days.days c.from.result c.from-in-Days.result c.plus.result c.in-Days.is c.from.ensures c.from-in-Days.ensures c.plus.ensures

pub returns-in-Weeks-clause-beyond : goal.returns-in-Weeks-clause-beyond
returns-in-Weeks-clause-beyond c =
    beyond-weeks c.args.start c.args.every c.args.index c.in-Weeks.weeks c.from-in-Weeks.result c.from-in-Weeks-2.result c.plus-in-Weeks.result c.in-Weeks.is c.from-in-Weeks.ensures c.from-in-Weeks-2.ensures c.plus-in-Weeks.ensures
