use Rattle.std.proofs.Common.{◌≡◌, ◌++◌, drop}
use Rattle.std.specs.Prelude.{string_bytes}
use Rattle.std.specs.List.{flat_map}
use Rattle.monitor_session.specs.Listings.{row, listing_text}
use Rattle.monitor_session.proofs.listings.listed.Given as goal

-- what was written so far, and the lines that are left, are all of it
abbrev pub invariant-loop-info : goal.invariant-loop-info
invariant-loop-info l = string_bytes l.out ++ flat_map row (drop l.info-index l.infos) ≡ listing_text l.infos
