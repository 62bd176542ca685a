use Rattle.std.proofs.Common.{sym, subst}
use Rattle.text_codec.specs.Formats.{Says, ◌>>=◌}
use Rattle.continued_text.specs.Reading as states
use Rattle.continued_text.proofs.matching.MatchingReaderLineReader.next.Goals as goal

pub returns-in-Ok : goal.returns-in-Ok
returns-in-Ok c =
    let r = c.args.self in
    subst (λ o. Says (o >>= states.matched r.journal (states.is_full r.journal.config r.reader)) c.matched.result) (sym c.in-Ok.ensures)
    (subst (λ b. Says (states.matched r.journal b c.in-Ok.reader) c.matched.result) c.is_full-full.ensures c.matched.ensures)
