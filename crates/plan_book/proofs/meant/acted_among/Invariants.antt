use Rattle.std.proofs.Common.{◌≡◌, ◌+◌, Bool, filter, length, drop}
use Rattle.drmaa_model.specs.declared.rows.Row.{Row}
use Rattle.drmaa_model.specs.Controlling.{is_controlled}
use Rattle.drmaa_model.specs.Time.{lasts}
use Rattle.drmaa_model.specs.TimeLaws.{timed}
use Rattle.plan_book.specs.Blocks.{rows_in}
use Rattle.plan_book.specs.Meant.{rows_of}
use Rattle.plan_book.proofs.meant.acted_among.Given as goal

-- those so far and those of the rest are all
abbrev pub invariant-loop-block : goal.invariant-loop-block
invariant-loop-block l =
    let test : Row → Bool = λ (row : Row). is_controlled l.target l.what (timed l.moment (filter (lasts l.moment) l.rs.items) row) in
    l.acted + length (filter test (rows_in (drop l.block-index l.block-items))) ≡ length (filter test (rows_of l.rows))
