use Rattle.std.proofs.Common.{sym, subst, IsUtf8}
use Rattle.journal_text.proofs.journals.print_journal.Goals as goal

pub unreachable-requires : goal.unreachable-requires
unreachable-requires c =
    let bytes = subst IsUtf8 (sym c.into_vec.ensures) c.in-Ok.ensures.utf8 in
    let contradiction = c.in_default-from_utf8.ensures.succeeds bytes in
    cc
