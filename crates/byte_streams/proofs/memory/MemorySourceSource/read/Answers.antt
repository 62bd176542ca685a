use Rattle.std.proofs.Common.{◌≡◌, ◌∙◌, sym, take, drop}
use Rattle.std.proofs.lemmas.List.{take-append-drop, take_rest, drop-drop}
use Rattle.byte_streams.proofs.memory.MemorySourceSource.read.Goals as goal

-- the front that was copied, and what is left then, are what was left before
pub returns-clause-taken : goal.returns-clause-taken
returns-clause-taken c =
    let bytes = c.self.inside.bytes in
    let position = c.self.inside.position in
    let count = c.copy_front-count.result in
    let viewed : c.args.self.now.left ≡ drop position bytes = cc in
    let same : c.as_slice.result.now ≡ bytes = cc in
    let copied : take count c.copy_front-count.new.into ≡ take count (drop position c.as_slice.result.now) =
    rw take_rest at c.copy_front-count.ensures.copied in
    viewed ∙ sym (rw (copied, same, sym (drop-drop count position bytes)) (take-append-drop count (drop position bytes)))
