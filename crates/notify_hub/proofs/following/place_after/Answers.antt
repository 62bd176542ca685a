use Rattle.std.proofs.Common.{◌≤◌, length, ap, sym, subst, ◌∙◌}
use Rattle.std.specs.List.{prefix_len}
use Rattle.call_history.specs.Clients.{seen_of}
use Rattle.change_callbacks.specs.Places.{is_up_to, changes_of}
use Rattle.notify_hub.proofs.Looking.{so-far-first, so-far-of, looks-then, count-is, counted-none, counted-some, counted-on}
use Rattle.notify_hub.proofs.following.place_after.Goals as goal

pub loop-init : goal.loop-init
loop-init g c = (so-far-first _ _ _ c.requires.client, c.requires.from)

pub changes_from-batch-requires : goal.changes_from-batch-requires
changes_from-batch-requires g c = c.loop.invariant.0.client

pub returns-in_default-clause-looks : goal.returns-in_default-clause-looks
returns-in_default-clause-looks g c = looks-then _ _ _ _ _ _ _ c.loop.invariant.0 c.changes_from-batch.ensures.looks

pub returns-then-count-lt-LOOK-clause-looks : goal.returns-then-count-lt-LOOK-clause-looks
returns-then-count-lt-LOOK-clause-looks g c = looks-then _ _ _ _ _ _ _ c.loop.invariant.0 c.changes_from-batch.ensures.looks

pub returns-in_default-clause-counted : goal.returns-in_default-clause-counted
returns-in_default-clause-counted g c =
    counted-none c.args.shared.now c.args.client.now c.loop.place c.count_up_to-count.result (seen_of c.changes_from-batch.new.client)
    (count-is c.args.shared.now _ _ c.args.client.now c.changes_from-batch.new.client c.args.entry c.loop.place c.count_up_to-count.result c.changes_from-batch.result
    (looks-then _ _ _ _ _ _ _ c.loop.invariant.0 c.changes_from-batch.ensures.looks) c.requires.entry c.loop.invariant.1 c.changes_from-batch.ensures.batch
    (c.count_up_to-count.ensures ∙ ap (prefix_len (is_up_to c.args.entry)) c.as_slice.ensures.value))
    (c.in_default.ensures {u = tt})

pub returns-then-count-lt-LOOK-clause-counted : goal.returns-then-count-lt-LOOK-clause-counted
returns-then-count-lt-LOOK-clause-counted g c =
    (c.in-Some-checked_add.ensures {u = tt}).1
    ∙ counted-some c.args.shared.now c.args.client.now c.loop.place c.count_up_to-count.result (seen_of c.changes_from-batch.new.client)
    (count-is c.args.shared.now _ _ c.args.client.now c.changes_from-batch.new.client c.args.entry c.loop.place c.count_up_to-count.result c.changes_from-batch.result
    (looks-then _ _ _ _ _ _ _ c.loop.invariant.0 c.changes_from-batch.ensures.looks) c.requires.entry c.loop.invariant.1 c.changes_from-batch.ensures.batch
    (c.count_up_to-count.ensures ∙ ap (prefix_len (is_up_to c.args.entry)) c.as_slice.ensures.value))
    c.if-count-lt-LOOK.true

pub loop-preserved : goal.loop-preserved
loop-preserved g c = (
  so-far-of _ _ _ _ _ (looks-then _ _ _ _ _ _ _ c.loop.invariant.0 c.changes_from-batch.ensures.looks),
  subst (λ n. n ≤ length (changes_of c.args.shared.now.fixed (seen_of c.args.client.now))) (sym (c.in-Some-checked_add.ensures {u = tt}).1)
      (counted-on c.args.shared.now c.args.client.now c.loop.place c.count_up_to-count.result (seen_of c.changes_from-batch.new.client)
      (count-is c.args.shared.now _ _ c.args.client.now c.changes_from-batch.new.client c.args.entry c.loop.place c.count_up_to-count.result c.changes_from-batch.result
      (looks-then _ _ _ _ _ _ _ c.loop.invariant.0 c.changes_from-batch.ensures.looks) c.requires.entry c.loop.invariant.1 c.changes_from-batch.ensures.batch
      (c.count_up_to-count.ensures ∙ ap (prefix_len (is_up_to c.args.entry)) c.as_slice.ensures.value))),
)
