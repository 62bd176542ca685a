use Rattle.std.proofs.Common.{◌≡◌, ◌≤◌, filter, length, take}
use Rattle.drmaa_model.specs.Controlling.{is_controlled}
use Rattle.drmaa_model.specs.Time.{lasts}
use Rattle.drmaa_model.specs.TimeLaws.{timed}
use Rattle.plan_book.proofs.controls.acted_then.Given as goal

abbrev pub invariant-loop-row : goal.invariant-loop-row
invariant-loop-row l = record {
  value : l.acted ≡ length (filter (λ row. is_controlled l.target l.what (timed l.moment (filter (lasts l.moment) l.rs.items) row)) (take l.row-index l.rows));
  few : l.acted ≤ l.row-index;
}
