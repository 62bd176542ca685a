use Rattle.std.proofs.Common.{◌≡◌, ◌∙◌, ◌+◌, ◌++◌, ℕ, List, append_assoc, drop, ap, sym, arith}
use Rattle.std.specs.Prelude.{string_bytes}
use Rattle.std.specs.List.{flat_map}
use Rattle.drmaa_model.specs.History.{now_of}
use Rattle.plan_book.specs.BlockWalks.{back-none, flat-back}
use Rattle.plan_book.specs.Blocks.{rows_in}
use Rattle.wait_reasons.specs.Texts.{job_line}
use Rattle.wait_reasons.proofs.views.print_why.Goals as goal

pub loop-block-init : goal.loop-block-init
loop-block-init c =
    let p = (now_of c.args.machine.now.ledger).plan in
    record {
      text = ap (λ t. t ++ flat_map (job_line p) (rows_in c.blocks-block-items.result.now)) c.new-out.ensures.bytes;
      rows = c.blocks-block-items.ensures;
      known = c.new-known.ensures p.rows;
    }

pub loop-block-preserved : goal.loop-block-preserved
loop-block-preserved c =
    let line = job_line (now_of c.args.machine.now.ledger).plan in
    let bs = c.blocks-block-items.result.now in
    let i = c.loop-block.block-index in
    let rest = flat_map line (rows_in (drop (i + 1) bs)) in
    let here = flat_map line c.deref.result.now in
    let written : string_bytes c.push_jobs.new.out ≡ string_bytes c.loop-block.out ++ here = (c.in_ok-push_jobs.ensures {u = tt}).text in
    record {
      text = ap (λ (t : List ℕ). t ++ rest) written ∙ append_assoc (string_bytes c.loop-block.out) here rest
          ∙ ap (λ (t : List ℕ). string_bytes c.loop-block.out ++ t) (sym (flat-back line bs i c.block-item.result c.deref.result.now c.loop-block-test.true c.block-item.is c.deref.ensures.value))
          ∙ c.loop-block.invariant.text;
      rows = c.loop-block.invariant.rows;
      known = c.push_jobs.ensures.known;
    }
