use Rattle.std.proofs.Common.{ap, subst, ◌∙◌}
use Rattle.std.specs.Io.KnownBytes.{Appends}
use Rattle.soak.specs.Summaries.{summary_text}
use Rattle.drmaa_script.proofs.soaks.write_soak.Goals as goal

pub returns-in-Ok-write_all-clause-ends : goal.returns-in-Ok-write_all-clause-ends
returns-in-Ok-write_all-clause-ends g c = λ words is.
    let same = c.as_bytes.ensures.value ∙ (c.as_str.ensures.value ∙ (c.in-Ok.ensures ∙ ap summary_text is)) in
    subst (Appends (g.W.Sink.written c.args.sink.now) (g.W.Sink.written c.write_all.new.sink)) same c.in-Ok-write_all.ensures.ok
