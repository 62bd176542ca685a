use Rattle.std.proofs.Common.{◌≡◌, ℕ, ◌≤◌, ◌&&◌, nat_le, length, true, arith}
use Rattle.std.proofs.lemmas.Bool.{and_parts}
use Rattle.std.proofs.lemmas.Bool.Decides.{nat_tests}
use Rattle.drmaa_types.specs.Queues.{are_queues}
use Rattle.drmaa_model.specs.declared.configs.Config.{Config}
use Rattle.text_codec.specs.Formats.{checked}
use Rattle.journal_text.specs.Journals.{header, title, machine_of, is_machine}
use Rattle.journal_commands.proofs.legal.replayed_journal.Goals as goal

at_most : (n m : ℕ) → nat_le n m ≡ true → n ≤ m
at_most n m h = grind (arith, nat_tests)

record IsMade (c : Config) : Type 0 where
  least : 1 ≤ c.slots
  most : c.slots ≤ 65_535
  journal : c.journal ≡ 4_000_000
  queues : are_queues c.slots c.queues ≡ true

made : (c : Config) → header.valid c → IsMade c
unfolding header title checked
made c v =
    let both = and_parts (is_machine (machine_of c)) (are_queues c.slots c.queues) v.0.1 in
    let first = and_parts (nat_le 1 c.slots) (nat_le c.slots 65535 && (nat_le 1 (length c.name) && nat_le (length c.name) 255)) both.0 in
    let second = and_parts (nat_le c.slots 65535) (nat_le 1 (length c.name) && nat_le (length c.name) 255) first.1 in
    record { least = at_most 1 c.slots first.0; most = at_most c.slots 65535 second.0; journal = v.1; queues = both.1 }

pub replay_history-requires-clause-least_slots : goal.replay_history-requires-clause-least_slots
replay_history-requires-clause-least_slots c = (made c.args.journal.config c.requires.config).least

pub replay_history-requires-clause-most_slots : goal.replay_history-requires-clause-most_slots
replay_history-requires-clause-most_slots c = (made c.args.journal.config c.requires.config).most

pub replay_history-requires-clause-least_journal : goal.replay_history-requires-clause-least_journal
replay_history-requires-clause-least_journal c = let is = (made c.args.journal.config c.requires.config).journal in omega arith

pub replay_history-requires-clause-most_journal : goal.replay_history-requires-clause-most_journal
replay_history-requires-clause-most_journal c = let is = (made c.args.journal.config c.requires.config).journal in omega arith

pub replay_history-requires-clause-queues : goal.replay_history-requires-clause-queues
replay_history-requires-clause-queues c = (made c.args.journal.config c.requires.config).queues

pub replay_history-requires-clause-recorded : goal.replay_history-requires-clause-recorded
replay_history-requires-clause-recorded c = c.a_writable_journal_has_recorded_calls.ensures c.args.journal.config c.args.journal.entries c.requires

pub returns-clause-recorded : goal.returns-clause-recorded
returns-clause-recorded c = c.a_writable_journal_has_recorded_calls.ensures c.args.journal.config c.args.journal.entries c.requires

pub returns-clause-replay : goal.returns-clause-replay
returns-clause-replay c = record {
  replays = c.replay_history.ensures.replays;
  legal = c.replay_history.ensures.only_legal;
  fault = c.replay_history.ensures.only_fault;
}
