use Rattle.script_text.specs.declared.scripts.Mode.TheVariants as mode
use Rattle.thread_play.proofs.Printable.{run-stands}
use Rattle.thread_play.proofs.laws.a_run_is_printable.Goals as goal

pub returns : goal.returns
returns g c s history asked asked_after fate clocks full spelled r =
    c.a_history_is_printable.ensures mode.Threads spelled.0 s history spelled.1
    (c.calls_of_every_caller_may_stand.ensures history
    (run-stands g.K.One.Clock.given s history asked asked_after fate clocks
    (λ names before block es. c.what_a_block_asks_may_stand.ensures.whole mode.Threads spelled.0 s names before block es spelled.1) full c.what_the_attendant_asks_may_stand.ensures r))
    r.run.legal
