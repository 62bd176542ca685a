use Rattle.std.proofs.Common.{◌≡◌, inr, Some, sym, subst, ap, ◌∙◌, refl, Option}
use Rattle.std.specs.Prelude.{IsSome, IfSome, Ok, option_map}
use Rattle.std.specs.Option.{option_copied_mut}
use Rattle.drmaa_types.specs.declared.states.Exit.{Exit}
use Rattle.child_spawner.specs.Children.{exit_of, after_poll}
use Rattle.slab.specs.Slab.{get}
use Rattle.slab.proofs.SlabLemmas.{Updates-with_value}
use Rattle.attendant.proofs.Entries.{updates_on}
use Rattle.attendant.proofs.reaping.poll_child.Goals as goal

pub returns-in-Ok-None : goal.returns-in-Ok-None
returns-in-Ok-None g c =
    let there : get c.args.children.now c.args.key ≡ Some c.in-Some.held.now = sym c.get_mut.ensures.value ∙ ap option_copied_mut c.in-Some.is in
    inr (
      c.in-Some.held.now,
      record {
        there = there;
        child = c.poll.new.self;
        told_is = c.in-Ok-None.ensures.told ∙ ap (λ (o : Option Exit). option_map (after_poll (Ok o)) (g.T.Child.told c.in-Some.held.now.child)) c.in-Ok-None.field-0-is;
        updates = Updates-with_value c.args.children.now c.args.key _ (subst IsSome (sym there) refl);
        counted = c.in-Ok-None.ensures.counted;
      },
    )

pub returns-in-Ok-Some : goal.returns-in-Ok-Some
returns-in-Ok-Some g c =
    let there : get c.args.children.now c.args.key ≡ Some c.in-Some.held.now = sym c.get_mut.ensures.value ∙ ap option_copied_mut c.in-Some.is in
    record {
      held = c.in-Some.held.now;
      there = there;
      of_job = refl;
      of_attempt = refl;
      seen = subst (λ (o : Option Exit). IfSome o (λ exit. IfSome (g.T.Child.told c.in-Some.held.now.child) (λ child. exit ≡ exit_of child))) c.in-Ok-Some.field-0-is c.in-Ok-Some.ensures.ended;
      updates = updates_on _ _ _ c.args.key _ _ (Updates-with_value c.args.children.now c.args.key _ (subst IsSome (sym there) refl)) c.try_remove.ensures.updates;
    }

pub returns-in-Err : goal.returns-in-Err
returns-in-Err g c =
    let there : get c.args.children.now c.args.key ≡ Some c.in-Some.held.now = sym c.get_mut.ensures.value ∙ ap option_copied_mut c.in-Some.is in
    record {
      held = c.in-Some.held.now;
      there = there;
      of_job = refl;
      of_attempt = refl;
      seen = record {
        named = c.in-Err.ensures.named;
        after = c.poll.new.self;
        rose = c.in-Err.ensures.cause;
        told_is = c.in-Err.ensures.told;
      };
      updates = updates_on _ _ _ c.args.key _ _ (Updates-with_value c.args.children.now c.args.key _ (subst IsSome (sym there) refl)) c.try_remove-in-Err.ensures.updates;
    }
