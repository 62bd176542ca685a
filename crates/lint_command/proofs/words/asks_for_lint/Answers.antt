use Rattle.lint_command.proofs.Asked.{asked}
use Rattle.lint_command.proofs.words.asks_for_lint.Goals as goal

pub returns-in-len1 : goal.returns-in-len1
returns-in-len1 c =
    asked c.args.words.now _ _ _ _ c.as_slice.ensures c.word-item.is c.in-len1.len_at_least c.in-len1.len_below c.as_str.ensures.value c.eq.ensures
