use Rattle.std.proofs.Common.{ap, ◌∙◌}
use Rattle.continued_text.specs.Texts.{limit_behind, byte_limit}
use Rattle.continued_text.proofs.limits.limit_of.Goals as goal

pub returns : goal.returns
unfolding byte_limit
returns c = c.limit_behind.ensures ∙ ap limit_behind c.journal_len.ensures
