use Rattle.std.proofs.lemmas.Result.{on_ok_weaker}
use Rattle.text_codec.specs.Fields.{always}
use Rattle.journal_forms.specs.Calls.{sought}
use Rattle.journal_forms.proofs.job_calls.push_sought.Goals as goal

pub returns-clause-valid : goal.returns-clause-valid
unfolding sought always
returns-clause-valid c = on_ok_weaker c.push_filter.result (λ h. (c.in_ok-push_one.ensures.valid, h)) c.push_filter.ensures.valid
