use Rattle.std.proofs.Common.{◌≡◌, length, sym, ◌∙◌, rules}
use Rattle.script_text.specs.PackedLaws.{length_strings}
use Rattle.script_text.proofs.packed.PackedLines.len.Goals as goal

pub returns : goal.returns
returns c =
    let count : c.len.result ≡ length c.self.inside.ends.items = search rules in
    count ∙ sym (length_strings c.self.inside.bytes.items c.self.inside.ends.items c.args.self.now c.self.view_is)
