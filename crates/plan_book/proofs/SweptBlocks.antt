-- The blocks that time goes over: the jobs of the others are as they were.
use Rattle.std.proofs.Common.{◌≡◌, ℕ, ◌<◌, ◌≤◌, true, List, length, take, drop, subst, sym}
use Rattle.std.specs.Global.{Vec}
use Rattle.std.specs.List.{AllByRecursion}
use Rattle.drmaa_types.specs.declared.moments.End.{End}
use Rattle.drmaa_model.specs.declared.reservations.Accepted.{Accepted}
use Rattle.drmaa_model.specs.declared.rows.Row.{Row}
use Rattle.drmaa_model.specs.RowLaws.{all-both, all-implied}
use Rattle.plan_book.specs.declared.rows.Places.{Places}
use Rattle.plan_book.specs.Blocks.{AreBlocks, AreFrontSettled, rows_in}
use Rattle.plan_book.specs.Quiet.{block_of, IsOutside, IsSpared}
use Rattle.plan_book.specs.Settled.{is_settled}
use Rattle.plan_book.proofs.BlockLaws.{settled-spared}
use Rattle.plan_book.specs.BlockWalks.{both-parts}
use Rattle.plan_book.proofs.BlockRows.{back-below, back-from}
use Rattle.plan_book.proofs.PartLaws.{all-right}
use Rattle.plan_book.proofs.SumLaws.{all-append}

-- settled jobs at the front need no look
pub spared-blocks : (seat : ℕ) → (m : ℕ) (es : List End) (rs : List Accepted) (blocks : List (Vec Row)) (settled : ℕ) (was now : Places) → AreBlocks seat 0 blocks → AreFrontSettled settled blocks
    → ((b : ℕ) → settled ≤ b → b < length blocks → IsOutside now b → IsOutside was b)
    → AllByRecursion (λ (row : Row). IsOutside was (block_of row.job.0) → IsSpared m es rs row) (rows_in blocks)
    → AllByRecursion (λ (row : Row). IsOutside now (block_of row.job.0) → IsSpared m es rs row) (rows_in blocks)
spared-blocks seat m es rs blocks settled was now are ended out says =
    let Was : Row → Type 0 = λ row. IsOutside was (block_of row.job.0) → IsSpared m es rs row in
    let Now : Row → Type 0 = λ row. IsOutside now (block_of row.job.0) → IsSpared m es rs row in
    let From : Row → Type 0 = λ row. settled ≤ block_of row.job.0 in
    let Below : Row → Type 0 = λ row. block_of row.job.0 < length blocks in
    let front = rows_in (take settled blocks) in
    let back = rows_in (drop settled blocks) in
    let parts = both-parts blocks settled in
    subst (AllByRecursion Now) (sym parts)
    (all-append Now front back
    (all-implied (λ (row : Row). is_settled row ≡ true) Now (λ row is out. settled-spared m es rs row is) front ended.settled)
    (all-implied (λ (row : Row). (From row × Below row) × Was row) Now (λ row (of : (From row × Below row) × Was row) (o : IsOutside now (block_of row.job.0)). of.1 (out (block_of row.job.0) of.0.0 of.0.1 o)) back
    (all-both (λ (row : Row). From row × Below row) Was back (all-both From Below back (back-from seat settled blocks ended.within are) (back-below seat settled blocks are)) (all-right Was front back (subst (AllByRecursion Was) parts says)))))
