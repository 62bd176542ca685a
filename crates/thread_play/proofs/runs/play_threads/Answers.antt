use Rattle.std.proofs.Common.{◌≡◌, ◌+◌, length, List, ap, sym, ◌∙◌, subst, arith}
use Rattle.drmaa_model.specs.declared.configs.Config.{Config}
use Rattle.script_text.specs.declared.scripts.Mode.TheVariants as mode
use Rattle.beside_clients.proofs.Outside.{IsClosed}
use Rattle.thread_play.specs.Runs.{HasRun}
use Rattle.thread_play.proofs.Hearing.{NoneRegisters}
use Rattle.thread_play.proofs.Played.{belongs, all-back, blocks-run, blocks-heard}
use Rattle.thread_play.proofs.Whole.{Laws}
use Rattle.thread_play.proofs.runs.play_threads.Goals as goal

pub play_blocks-requires-clause-size : goal.play_blocks-requires-clause-size
play_blocks-requires-clause-size g c κs within =
    let most = (c.each_script_can_be_played.ensures mode.Threads c.requires.threads.0 c.args.script.now c.requires.threads.1).most_journal in
    let same = ap (λ (f : Config). f.journal) c.in_ok-shared.ensures.config in
    omega (arith, most, same)

pub play_blocks-requires-clause-few : goal.play_blocks-requires-clause-few
play_blocks-requires-clause-few g c κs within = (c.each_script_can_be_played.ensures mode.Threads c.requires.threads.0 c.args.script.now c.requires.threads.1).few

pub close-requires-clause-opener : goal.close-requires-clause-opener
close-requires-clause-opener g c =
    belongs g.B.Callback.counted g.B.Callback.told g.K.One.Clock.given g.S.One.Child.told c.args.script.now c.in_ok-shared.shared c.play_blocks.new.opener
    (g.S.Spawner.asked c.args.spawner.now) (g.S.Spawner.asked c.play_blocks.new.spawner) (g.S.Spawner.fate c.play_blocks.new.spawner) c.play_blocks.new.given.items c.in_ok-full.full c.args.hub.now c.play_blocks.new.hub
    c.in_ok-full.ensures.blocks

pub close-requires-clause-back : goal.close-requires-clause-back
close-requires-clause-back g c =
    all-back g.B.Callback.counted g.B.Callback.told g.K.One.Clock.given g.S.One.Child.told c.args.script.now c.in_ok-shared.shared c.play_blocks.new.opener
    (g.S.Spawner.asked c.args.spawner.now) (g.S.Spawner.asked c.play_blocks.new.spawner) (g.S.Spawner.fate c.play_blocks.new.spawner) c.play_blocks.new.given.items c.in_ok-full.full c.args.hub.now c.play_blocks.new.hub
    c.in_ok-full.ensures.blocks

pub returns : goal.returns
returns g c =
    let s = c.args.script.now in
    let shared = c.in_ok-shared.shared in
    let opener = c.play_blocks.new.opener in
    let history = c.close.result.ledger.history in
    let asked = g.S.Spawner.asked c.args.spawner.now in
    let asked2 = g.S.Spawner.asked c.play_blocks.new.spawner in
    let fate = g.S.Spawner.fate c.play_blocks.new.spawner in
    let clocks = c.play_blocks.new.given.items in
    let full = c.in_ok-full.full in
    let blocks = c.in_ok-full.ensures.blocks in
    let laws : Laws s = record {
      prefix = λ front back. c.each_prefix_is_legal.ensures.legal s.config front back;
      consistent = λ es. c.a_legal_history_leads_to_a_consistent_world.ensures.consistent s.config es;
      quiet = λ entry at p. c.a_settled_plan_is_quiet.ensures.before entry at p;
      whole = λ ns before block es is. c.no_client_asks_what_the_attendant_asks.ensures.whole c.requires.threads.0 s ns before block es c.requires.threads.1 is;
    } in
    let nones : NoneRegisters s = record {
      whole = λ ns before n block es. c.no_client_registers.ensures.whole c.requires.threads.0 s ns before n block es c.requires.threads.1;
      part = λ ns before n block es. c.no_client_registers.ensures.part c.requires.threads.0 s ns before n block es c.requires.threads.1;
    } in
    let config : shared.fixed ≡ s.config = c.in_ok-shared.ensures.config in
    let m = c.close.ensures in
    let closed : IsClosed shared.fixed opener history = record { legal = m.legal; seen = m.seen; lists = m.lists; strangers = m.strangers } in
    let run : HasRun g.K.One.Clock.given s history asked asked2 fate clocks full =
    blocks-run g.B.Callback.counted g.B.Callback.told g.K.One.Clock.given g.S.One.Child.told s shared opener asked asked2 fate clocks full c.args.hub.now c.play_blocks.new.hub history laws config closed
    (λ starts es at hand. c.the_outside_agrees.ensures (length s.clients + 1) (length s.clients + 2) starts fate es at hand) blocks in
    record {
      config = m.config ∙ config;
      fates = c.play_blocks.ensures.fates;
      run = subst (λ (l : List g.row.K-One.Denot). HasRun g.K.One.Clock.given s history asked asked2 fate l full) (sym c.from_vec.ensures) run;
      hub = blocks-heard g.B.Callback.counted g.B.Callback.told g.K.One.Clock.given g.S.One.Child.told s shared opener asked asked2 fate clocks full c.args.hub.now c.play_blocks.new.hub history laws config closed nones run blocks;
      begun = c.play_blocks.ensures.begun;
      heard = c.play_blocks.ensures.heard;
    }
