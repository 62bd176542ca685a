use Rattle.std.proofs.Common.{subst}
use Rattle.drmaa_model.specs.Load.{is_member}
use Rattle.plan_book.specs.Numbers.{HasNumbersOf}
use Rattle.scheduler_core.specs.View.{View}
use Rattle.scheduler_core.proofs.cores.Core.numbers_of_array.Goals as goal

pub returns : goal.returns
returns c = subst (λ (v : View). HasNumbersOf (is_member c.args.array) v.plan.rows c.numbers_of_array.result) c.self.view_is c.numbers_of_array.ensures
