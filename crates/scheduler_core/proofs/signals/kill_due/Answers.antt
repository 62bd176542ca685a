use Rattle.std.proofs.Common.{◌∙◌, ap}
use Rattle.std.specs.Option.{option_map}
use Rattle.drmaa_model.specs.Time.{kill_order}
use Rattle.plan_book.specs.Blocks.{rows_in}
use Rattle.plan_book.specs.Book.{plan_of}
use Rattle.scheduler_core.proofs.DueKills.{due-kills}
use Rattle.scheduler_core.proofs.signals.kill_due.Goals as goal

pub returns : goal.returns
returns c = c.kill_in_blocks.ensures ∙ ap (option_map kill_order) (due-kills c.args.at (plan_of c.args.book.now) (rows_in c.due_blocks.result.now) c.due_blocks.ensures)
