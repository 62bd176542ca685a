use Rattle.std.proofs.Common.{◌∙◌, nat_le, Bool, ap, sym, arith}
use Rattle.std.specs.Option.{option_map}
use Rattle.drmaa_types.specs.declared.identifiers.JobId.{JobId}
use Rattle.drmaa_model.specs.declared.rows.Row.{Row}
use Rattle.scheduler_core.proofs.BlockLaws.{rising-block}
use Rattle.scheduler_core.proofs.BlockSearches.{find-behind, find-none, map-none, told-here}
use Rattle.scheduler_core.proofs.facts.first_in_blocks.Goals as goal

pub first_from-requires : goal.first_from-requires
first_from-requires c = record { rising = rising-block c.args.blocks.now c.loop-block.block-index c.block-item.result c.deref.result.now c.loop-block-test.true c.block-item.is c.deref.ensures.value c.requires.rising }

pub loop-block-preserved : goal.loop-block-preserved
loop-block-preserved c =
    let test : Row → Bool = λ (row : Row). nat_le c.args.from.0 row.job.0 in
    let number : Row → JobId = λ (row : Row). row.job in
    c.loop-block.invariant
    ∙ find-behind test c.args.blocks.now c.loop-block.block-index c.block-item.result c.deref.result.now c.loop-block-test.true c.block-item.is c.deref.ensures.value (map-none number _ (c.in_default.ensures {u = tt}))

pub returns-in-Some : goal.returns-in-Some
returns-in-Some c =
    let test : Row → Bool = λ (row : Row). nat_le c.args.from.0 row.job.0 in
    let number : Row → JobId = λ (row : Row). row.job in
    told-here test c.args.blocks.now c.loop-block.block-index c.block-item.result c.deref.result.now c.loop-block-test.true c.block-item.is c.deref.ensures.value number c.in-Some.job (c.in-Some.ensures {u = tt})
    ∙ ap (option_map number) (sym c.loop-block.invariant)

pub returns : goal.returns
returns c =
    let test : Row → Bool = λ (row : Row). nat_le c.args.from.0 row.job.0 in
    let number : Row → JobId = λ (row : Row). row.job in
    sym (ap (option_map number) (c.loop-block.invariant ∙ find-none test c.args.blocks.now c.loop-block.block-index (omega (arith, c.loop-block-test.false))))
