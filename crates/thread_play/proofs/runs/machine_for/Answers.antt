use Rattle.std.proofs.Common.{◌≡◌, ◌≤◌, true, sym, subst}
use Rattle.drmaa_types.specs.Queues.{are_queues}
use Rattle.drmaa_model.specs.declared.configs.Config.{Config}
use Rattle.script_text.specs.declared.scripts.Mode.TheVariants as mode
use Rattle.thread_play.proofs.runs.machine_for.Goals as goal

pub new-requires-clause-least_slots : goal.new-requires-clause-least_slots
new-requires-clause-least_slots c =
    subst (λ (f : Config). 1 ≤ f.slots) (sym c.in_ok-config.ensures) (c.each_script_can_be_played.ensures mode.Threads c.requires.0 c.args.script.now c.requires.1).least_slots

pub new-requires-clause-most_slots : goal.new-requires-clause-most_slots
new-requires-clause-most_slots c =
    subst (λ (f : Config). f.slots ≤ 65535) (sym c.in_ok-config.ensures) (c.each_script_can_be_played.ensures mode.Threads c.requires.0 c.args.script.now c.requires.1).most_slots

pub new-requires-clause-least_journal : goal.new-requires-clause-least_journal
new-requires-clause-least_journal c =
    subst (λ (f : Config). 1 ≤ f.journal) (sym c.in_ok-config.ensures) (c.each_script_can_be_played.ensures mode.Threads c.requires.0 c.args.script.now c.requires.1).least_journal

pub new-requires-clause-most_journal : goal.new-requires-clause-most_journal
new-requires-clause-most_journal c =
    subst (λ (f : Config). f.journal ≤ 4000000) (sym c.in_ok-config.ensures) (c.each_script_can_be_played.ensures mode.Threads c.requires.0 c.args.script.now c.requires.1).most_journal

pub new-requires-clause-queues : goal.new-requires-clause-queues
new-requires-clause-queues c =
    subst (λ (f : Config). are_queues f.slots f.queues ≡ true) (sym c.in_ok-config.ensures) (c.each_script_can_be_played.ensures mode.Threads c.requires.0 c.args.script.now c.requires.1).queues
