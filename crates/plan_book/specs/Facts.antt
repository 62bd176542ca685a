-- What is read of a row before anything changes.
use Rattle.drmaa_model.specs.declared.rows.Row.{Row}
use Rattle.plan_book.specs.declared.rows.Facts.{Facts}

abbrev pub facts_of : Row → Facts
facts_of row = record { job = row.job; home = row.home; course = row.course; rerunnable = row.wants.rerunnable }
