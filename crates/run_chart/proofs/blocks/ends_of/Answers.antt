use Rattle.std.proofs.Common.{◌≡◌, ℕ, suc, ◌+◌, ◌∷◌, drop, ap, sym, ◌∙◌, arith}
use Rattle.std.proofs.Math.Seq.{drop-cons}
use Rattle.drmaa_model.specs.declared.entries.Entry.{Entry}
use Rattle.run_chart.specs.Blocks.{end_in, end_from}
use Rattle.run_chart.specs.BlockLaws.{one_noted}
use Rattle.run_chart.proofs.blocks.ends_of.Goals as goal

pub loop-entry-preserved : goal.loop-entry-preserved
loop-entry-preserved c = λ n.
    let entries = c.args.entries.now in
    let i = c.loop-entry.entry-index in
    let entry = c.entry-item.result in
    let more : suc i ≡ i + 1 = omega arith in
    let left : drop i entries ≡ entry ∷ drop (i + 1) entries =
    drop-cons entries i entry c.loop-entry-test.true
    ∙ ap (λ (e : Entry). e ∷ drop (suc i) entries) (sym c.entry-item.is)
    ∙ ap (λ (k : ℕ). entry ∷ drop k entries) more in
    one_noted n c.loop-entry.now c.later-now.result (end_in c.loop-entry.ends n) (end_in c.in_ok-ends.ends n) c.ended_in.result entry (drop (i + 1) entries)
    c.later-now.ensures c.ended_in.ensures (c.in_ok-ends.ensures {u = tt} n)
    ∙ ap (end_from n c.loop-entry.now (end_in c.loop-entry.ends n)) (sym left)
    ∙ c.loop-entry.invariant n
