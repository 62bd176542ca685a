use Rattle.std.proofs.Common.{◌≡◌, Some, sym, subst, true, ap, ◌∙◌, refl, Bool}
use Rattle.std.proofs.lemmas.Option.{same_Some}
use Rattle.std.specs.Prelude.{IsSome}
use Rattle.std.specs.Option.{option_copied_mut}
use Rattle.slab.specs.Slab.{get}
use Rattle.slab.proofs.SlabLemmas.{Updates-with_value}
use Rattle.attendant.specs.Acts.{is_run}
use Rattle.attendant.specs.declared.reaper.Held.{Held}
use Rattle.attendant.proofs.reaping.signal_at.Goals as goal

pub returns-in-Some : goal.returns-in-Some
returns-in-Some g c =
    let there : get c.args.children.now c.args.key ≡ Some c.in-Some.held.now = sym c.get_mut.ensures.value ∙ ap option_copied_mut c.in-Some.is in
    let same : c.requires.there.0 ≡ c.in-Some.held.now = same_Some _ _ (sym c.requires.there.1 ∙ there) in
    record {
      unanswered = c.requires.unanswered;
      key = c.args.key;
      held = c.in-Some.held.now;
      there = there;
      same = subst (λ (h : Held g.row.T.Denot). is_run c.args.hand.now.signal.job c.args.hand.now.signal.attempt h.job h.attempt ≡ true) same c.requires.there.2;
      answer = c.signal.result;
      child = c.signal.new.self;
      told_is = c.signal.ensures.told;
      named = c.signal.ensures.named;
      cause = c.signal.ensures.cause;
      hand_is = ap (λ (b : Bool). record { signal = c.args.hand.now.signal; answer = Some b }) c.is_ok.ensures.value;
      updates = Updates-with_value c.args.children.now c.args.key _ (subst IsSome (sym there) refl);
      counted = c.signal.ensures.counted;
    }
