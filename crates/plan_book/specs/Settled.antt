-- Jobs that are over and come to nothing, so that time goes over those behind them alone: our profile.
use Rattle.std.specs.Prelude.{Bool, ◌&&◌, ◌==◌}
use Rattle.drmaa_model.specs.declared.rows.Row.{Row}
use Rattle.drmaa_model.specs.Reporting.{is_idle}
use Rattle.plan_book.specs.Open.{is_over}

-- the job is over, has no process and holds no slots
abbrev pub is_settled : Row → Bool
is_settled row = is_over row && is_idle row.course.phase && (row.course.held == 0)
