use Rattle.journal_text.specs.PrintLaws.{entries_recorded}
use Rattle.journal_text.proofs.laws.a_writable_journal_has_recorded_calls.Goals as goal

pub returns : goal.returns
returns c = λ a h w. entries_recorded h w.each
