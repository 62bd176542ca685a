use Rattle.std.proofs.Common.{◌+◌, ◌<◌, ◌^◌, length, ap, sym, subst, ◌∙◌}
use Rattle.call_history.specs.Clients.{seen_of}
use Rattle.notify_hub.proofs.Looking.{so-far-first, so-far-of, looks-then, begins-of}
use Rattle.notify_hub.proofs.Pumping.{as-batch, Handing, handing-first, handing-step, handing-all, handing-none, handing-later}
use Rattle.notify_hub.proofs.hub.hand_all.Goals as goal

pub loop-init : goal.loop-init
loop-init g c = (so-far-first _ _ _ c.requires.client, handing-first _ _ _ _ c.requires.handed c.requires.begins)

pub changes_from-batch-requires : goal.changes_from-batch-requires
changes_from-batch-requires g c = c.loop.invariant.0.client

pub returns-in_default-clause-looks : goal.returns-in_default-clause-looks
returns-in_default-clause-looks g c = looks-then _ _ _ _ _ _ _ c.loop.invariant.0 c.changes_from-batch.ensures.looks

pub returns-then-count-lt-LOOK-clause-looks : goal.returns-then-count-lt-LOOK-clause-looks
returns-then-count-lt-LOOK-clause-looks g c = looks-then _ _ _ _ _ _ _ c.loop.invariant.0 c.changes_from-batch.ensures.looks

pub returns-in_default-clause-begins : goal.returns-in_default-clause-begins
returns-in_default-clause-begins g c = (handing-later c.args.shared.now.fixed c.args.ears.now c.loop.ears (seen_of c.loop.client) (seen_of c.changes_from-batch.new.client) c.loop.handed c.loop.calls c.loop.invariant.1 c.changes_from-batch.ensures.looks.legal (begins-of c.loop.client c.changes_from-batch.new.client c.changes_from-batch.ensures.looks.more)).begins

pub returns-in_default-clause-all : goal.returns-in_default-clause-all
returns-in_default-clause-all g c = λ few.
    absurd (handing-none c.args.shared.now.fixed c.args.ears.now c.loop.ears (seen_of c.loop.client) (seen_of c.changes_from-batch.new.client) c.loop.handed c.loop.calls c.changes_from-batch.result c.loop.invariant.1 c.changes_from-batch.ensures.looks.legal (begins-of c.loop.client c.changes_from-batch.new.client c.changes_from-batch.ensures.looks.more) c.changes_from-batch.ensures.batch
    (subst (λ n. c.loop.handed + n < 2 ^ 64 → ⊥) (ap length c.as_slice-changes.ensures.value) (c.in_default.ensures {u = tt})) few)

pub returns-then-count-lt-LOOK-clause-begins : goal.returns-then-count-lt-LOOK-clause-begins
returns-then-count-lt-LOOK-clause-begins g c = (handing-step c.args.shared.now.fixed c.args.ears.now c.loop.ears c.hand.new.self (seen_of c.loop.client) (seen_of c.changes_from-batch.new.client) c.loop.handed c.loop.calls c.hand.result c.changes_from-batch.result c.loop.invariant.1 c.changes_from-batch.ensures.looks.legal (begins-of c.loop.client c.changes_from-batch.new.client c.changes_from-batch.ensures.looks.more) c.changes_from-batch.ensures.batch
    (as-batch c.loop.ears c.hand.new.self c.loop.handed c.hand.result c.as_slice-changes.result.now c.changes_from-batch.result c.as_slice-changes.ensures.value c.hand.ensures.handed c.hand.ensures.hears c.hand.ensures.heard c.hand.ensures.answer)).begins

pub returns-then-count-lt-LOOK-clause-all : goal.returns-then-count-lt-LOOK-clause-all
returns-then-count-lt-LOOK-clause-all g c = λ few.
    handing-all c.args.shared.now.fixed c.args.ears.now c.loop.ears c.hand.new.self (seen_of c.loop.client) (seen_of c.changes_from-batch.new.client) c.loop.handed c.loop.calls c.hand.result c.changes_from-batch.result c.loop.invariant.1 c.changes_from-batch.ensures.looks.legal (begins-of c.loop.client c.changes_from-batch.new.client c.changes_from-batch.ensures.looks.more) c.changes_from-batch.ensures.batch
    (as-batch c.loop.ears c.hand.new.self c.loop.handed c.hand.result c.as_slice-changes.result.now c.changes_from-batch.result c.as_slice-changes.ensures.value c.hand.ensures.handed c.hand.ensures.hears c.hand.ensures.heard c.hand.ensures.answer) (subst (λ n. n < 64) (ap length c.as_slice-changes.ensures.value) c.if-count-lt-LOOK.true)

pub returns-then-count-lt-LOOK-clause-answer : goal.returns-then-count-lt-LOOK-clause-answer
returns-then-count-lt-LOOK-clause-answer g c = c.saturating_add-calls.ensures ∙ (handing-step c.args.shared.now.fixed c.args.ears.now c.loop.ears c.hand.new.self (seen_of c.loop.client) (seen_of c.changes_from-batch.new.client) c.loop.handed c.loop.calls c.hand.result c.changes_from-batch.result c.loop.invariant.1 c.changes_from-batch.ensures.looks.legal (begins-of c.loop.client c.changes_from-batch.new.client c.changes_from-batch.ensures.looks.more) c.changes_from-batch.ensures.batch
    (as-batch c.loop.ears c.hand.new.self c.loop.handed c.hand.result c.as_slice-changes.result.now c.changes_from-batch.result c.as_slice-changes.ensures.value c.hand.ensures.handed c.hand.ensures.hears c.hand.ensures.heard c.hand.ensures.answer)).made_is

pub loop-preserved : goal.loop-preserved
loop-preserved g c = (
  so-far-of _ _ _ _ _ (looks-then _ _ _ _ _ _ _ c.loop.invariant.0 c.changes_from-batch.ensures.looks),
  subst (λ n. Handing g.B.Callback.counted g.B.Callback.told c.args.shared.now.fixed c.args.ears.now c.hand.new.self (seen_of c.changes_from-batch.new.client) n c.saturating_add-calls.result)
      (sym ((c.in-Some-checked_add.ensures {u = tt}).1 ∙ ap (λ n. c.loop.handed + n) (ap length c.as_slice-changes.ensures.value)))
      (subst (λ m. Handing g.B.Callback.counted g.B.Callback.told c.args.shared.now.fixed c.args.ears.now c.hand.new.self (seen_of c.changes_from-batch.new.client) (c.loop.handed + length c.changes_from-batch.result) m)
      (sym c.saturating_add-calls.ensures) (handing-step c.args.shared.now.fixed c.args.ears.now c.loop.ears c.hand.new.self (seen_of c.loop.client) (seen_of c.changes_from-batch.new.client) c.loop.handed c.loop.calls c.hand.result c.changes_from-batch.result c.loop.invariant.1 c.changes_from-batch.ensures.looks.legal (begins-of c.loop.client c.changes_from-batch.new.client c.changes_from-batch.ensures.looks.more) c.changes_from-batch.ensures.batch
      (as-batch c.loop.ears c.hand.new.self c.loop.handed c.hand.result c.as_slice-changes.result.now c.changes_from-batch.result c.as_slice-changes.ensures.value c.hand.ensures.handed c.hand.ensures.hears c.hand.ensures.heard c.hand.ensures.answer))),
)
