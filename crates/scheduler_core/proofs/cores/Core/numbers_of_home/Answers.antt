use Rattle.std.proofs.Common.{subst}
use Rattle.drmaa_model.specs.declared.rows.Row.{Row}
use Rattle.drmaa_model.specs.Homes.{is_same_home}
use Rattle.plan_book.specs.Numbers.{HasNumbersOf}
use Rattle.scheduler_core.specs.View.{View}
use Rattle.scheduler_core.proofs.cores.Core.numbers_of_home.Goals as goal

pub returns : goal.returns
returns c =
    subst (λ (v : View). HasNumbersOf (λ (row : Row). is_same_home c.args.home row.home) v.plan.rows c.numbers_of_home.result) c.self.view_is c.numbers_of_home.ensures
