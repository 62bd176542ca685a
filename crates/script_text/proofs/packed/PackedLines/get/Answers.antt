use Rattle.std.proofs.Common.{◌≤◌, length, ap, ◌∙◌, add-one, arith}
use Rattle.script_text.specs.Packed.{beginning}
use Rattle.script_text.specs.PackedLaws.{length_strings, found_at}
use Rattle.script_text.proofs.packed.PackedLines.get.Goals as goal

pub beginning-beginning-requires : goal.beginning-beginning-requires
beginning-beginning-requires c =
    let same = length_strings c.self.inside.bytes.items c.self.inside.ends.items c.args.self.now c.self.view_is in
    omega (arith, ap length c.as_slice.ensures.value)

pub index-requires : goal.index-requires
index-requires c =
    let same = length_strings c.self.inside.bytes.items c.self.inside.ends.items c.args.self.now c.self.view_is in
    omega (arith, ap length c.as_slice.ensures.value, c.as_slice.ensures.len)

pub slice_bounds-result-count : goal.slice_bounds-result-count
slice_bounds-result-count c =
    let found = found_at c.self.inside.bytes.items c.self.inside.ends.items c.args.self.now c.args.place c.beginning-beginning.result c.index.result.now c.self.view_is c.self.invariant c.requires
    (c.beginning-beginning.ensures ∙ ap (λ es. beginning es c.args.place) c.as_slice.ensures.value) c.index.ensures in
    found.in_order

pub slice_bounds-result-start : goal.slice_bounds-result-start
slice_bounds-result-start c =
    let found = found_at c.self.inside.bytes.items c.self.inside.ends.items c.args.self.now c.args.place c.beginning-beginning.result c.index.result.now c.self.view_is c.self.invariant c.requires
    (c.beginning-beginning.ensures ∙ ap (λ es. beginning es c.args.place) c.as_slice.ensures.value) c.index.ensures in
    found.in_order

pub slice_bounds-result-end : goal.slice_bounds-result-end
slice_bounds-result-end c =
    let found = found_at c.self.inside.bytes.items c.self.inside.ends.items c.args.self.now c.args.place c.beginning-beginning.result c.index.result.now c.self.view_is c.self.invariant c.requires
    (c.beginning-beginning.ensures ∙ ap (λ es. beginning es c.args.place) c.as_slice.ensures.value) c.index.ensures in
    let inside : c.index.result.now ≤ length c.deref.result.now = omega (arith, found.inside, ap length c.deref.ensures.value) in
    inside

pub returns : goal.returns
returns c =
    let found = found_at c.self.inside.bytes.items c.self.inside.ends.items c.args.self.now c.args.place c.beginning-beginning.result c.index.result.now c.self.view_is c.self.invariant c.requires
    (c.beginning-beginning.ensures ∙ ap (λ es. beginning es c.args.place) c.as_slice.ensures.value) c.index.ensures in
    rw (add-one, c.deref.ensures.value) found.there
