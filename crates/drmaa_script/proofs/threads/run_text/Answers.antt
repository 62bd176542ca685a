use Rattle.std.proofs.Common.{◌∙◌}
use Rattle.thread_play.specs.Hubs.{HearRun}
use Rattle.drmaa_script.proofs.Texts.{printed_run}
use Rattle.std.proofs.lemmas.Result.{IfOk-weaker}
use Rattle.drmaa_script.proofs.threads.run_text.Goals as goal

pub returns-clause-text : goal.returns-clause-text
returns-clause-text g c =
    let s = c.args.script.now in
    let played = c.in_ok-played.played in
    let run = c.in_ok-played.ensures.run in
    IfOk-weaker c.text_with.result _ _ (λ text t. printed_run g.K.One.Clock.given s played.machine.ledger.history _ _ _ played.clocks played.full (λ history. HearRun s.config history c.play_threads.new.hub)
    c.config.result.now c.entries.result.now c.journal_bytes-bytes.result text.bytes text.clocks text.full (c.config.ensures ∙ c.in_ok-played.ensures.config) c.entries.ensures.entries
    (c.a_run_is_printable.ensures s played.machine.ledger.history _ _ _ played.clocks played.full c.requires.spelled run) c.journal_bytes-bytes.ensures.writable c.journal_bytes-bytes.ensures.written
    t.0 run c.in_ok-played.ensures.hub t.2 t.1) c.text_with.ensures
