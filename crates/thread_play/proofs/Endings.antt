-- How launcher and reaper end a run.
use Rattle.std.proofs.Common.{◌≡◌, inl, inr, ℕ, List, Option, Some, None, refl, sym, ap, subst, ◌∙◌}
use Rattle.std.specs.Prelude.{Result, Ok, Err, IfErr, IsOk, is_some, true, false}
use Rattle.child_spawner.specs.declared.fates.Asked.{Asked}
use Rattle.child_spawner.specs.declared.fates.Fate.{Fate}
use Rattle.child_spawner.specs.Children.{Told}
use Rattle.drmaa_types.specs.Readings.{Readings}
use Rattle.drmaa_types.specs.declared.refusals.Refusal.{Refusal}
use Rattle.drmaa_types.specs.declared.refusals.Refusal.TheVariants.{OutOfResource}
use Rattle.drmaa_types.specs.declared.refusals.Limit.TheVariants as limit
use Rattle.drmaa_model.specs.declared.configs.Config.{Config}
use Rattle.turn_lock.specs.Tokens.{Named}
use Rattle.attendant.specs.declared.pairs.Pair.{Pair}
use Rattle.attendant.specs.declared.reaper.Held.{Held}
use Rattle.attendant.specs.declared.reaper.Hand.{Hand}
use Rattle.attendant.specs.PairLaws.{post-itself}
use Rattle.attendant.specs.Pairs.{launcher_at, reaping_at, ArePlaced, HasAttended, HasSettled}
use Rattle.attendant.specs.Posts.{Post}
use Rattle.attendant.specs.Outside.{IsHeldUp, out_of_memory, full_at_launch, full_at_order, full_at_answer}
use Rattle.block_play.specs.declared.stops.Stopped.{Stopped}
use Rattle.block_play.specs.declared.stops.Stopped.TheVariants as stopped
use Rattle.thread_play.specs.Stages.{EndsAs, worse}
use Rattle.thread_play.specs.Pairs.{HasEnded}

pub some-not : (o : Option Stopped) → is_some o ≡ true → o ≡ None → ⊥
some-not None is none = absurd (cc)
some-not (Some w) is none = absurd (cc)

pub not-some : (o : Option Stopped) → is_some o ≡ false → o ≡ None
not-some None is = refl
not-some (Some w) is = absurd (cc)

-- where the two tended, the order is the one that the reaper took last
pub held-tended : (l0 l1 r0 r1 : Post) (K : Type 0) (why : Refusal) → K → IsHeldUp l0 l1 r0 r1 K why → IsHeldUp l0 l1 r0 r1 (Unit {0}) why
held-tended l0 l1 r0 r1 K why k (out_of_memory w) = out_of_memory w
held-tended l0 l1 r0 r1 K why k (full_at_launch n w f) = full_at_launch n w f
held-tended l0 l1 r0 r1 K why k (full_at_order n w f) = full_at_order n w f
held-tended l0 l1 r0 r1 K why k (full_at_answer n signal answer w f owes) = full_at_answer n signal answer w f (λ any. owes k)

module _ {C T : Type 0} (given : C → Readings) (least : C → ℕ) (told : T → Option Told) (shared : Named Config) where
  -- a run that was stopped before
  pub ended-before : (p : Pair C) (asked : Option (List Asked)) (fate : ℕ → Fate) (at : ℕ → Option (Held T)) (hand : Option Hand) (before : Option Stopped) → ArePlaced shared p → (before ≡ None → ⊥)
      → HasEnded given least told shared p p asked asked fate fate at at hand hand before before
  ended-before p asked fate at hand before placed stopped = record {
    launcher = post-itself (launcher_at given least shared p) placed.launcher;
    reaping = post-itself (reaping_at given least shared p) placed.reaping;
    attending = record { fates = refl; tends = λ t. t; keeps = λ k. k; agrees = λ clean k a. a };
    whole = λ none. absurd (stopped none);
    full = λ size is. inl is;
  }

  worse-ok : (end : Result (Unit {0}) Stopped) → worse None end ≡ None → end ≡ Ok tt
  worse-ok (Ok tt) is = refl
  worse-ok (Err why) is = absurd (cc)

  worse-full : (end : Result (Unit {0}) Stopped) (size : ℕ) → worse None end ≡ Some (stopped.Full size) → end ≡ Err (stopped.Full size)
  worse-full (Ok tt) size is = absurd (cc)
  worse-full (Err why) size is = let alike : why ≡ stopped.Full size = cc in ap (λ (w : Stopped). Err w) alike

  ends-ok : (r : Result (Unit {0}) Refusal) (end : Result (Unit {0}) Stopped) → EndsAs r end → end ≡ Ok tt → IsOk r
  ends-ok (Ok a) end same is = refl
  ends-ok (Err why) (Ok b) same is = absurd same
  ends-ok (Err why) (Err w) same is = absurd (cc)

  ends-full : (r : Result (Unit {0}) Refusal) (end : Result (Unit {0}) Stopped) (size : ℕ) → EndsAs r end → end ≡ Err (stopped.Full size) → r ≡ Err (OutOfResource (limit.Journal size))
  ends-full (Ok a) (Ok b) size same is = absurd (cc)
  ends-full (Ok a) (Err w) size same is = absurd same
  ends-full (Err why) (Ok b) size same is = absurd same
  ends-full (Err why) (Err stopped.Memory) size same is = absurd (cc)
  ends-full (Err why) (Err (stopped.Full n)) size same is = let k : n ≡ size = cc in ap (λ (w : Refusal). Err w) (same ∙ ap (λ (m : ℕ). OutOfResource (limit.Journal m)) k)

  -- why launcher and reaper stopped a run
  pub full-held : (p q : Pair C) (K : Type 0) (r : Result (Unit {0}) Refusal) (end : Result (Unit {0}) Stopped) (size : ℕ) → EndsAs r end → worse None end ≡ Some (stopped.Full size)
      → IfErr r (IsHeldUp (launcher_at given least shared p) (launcher_at given least shared q) (reaping_at given least shared p) (reaping_at given least shared q) K)
      → IsHeldUp (launcher_at given least shared p) (launcher_at given least shared q) (reaping_at given least shared p) (reaping_at given least shared q) K (OutOfResource (limit.Journal size))
  full-held p q K r end size same is held = subst (λ (x : Result (Unit {0}) Refusal). IfErr x (IsHeldUp (launcher_at given least shared p) (launcher_at given least shared q) (reaping_at given least shared p) (reaping_at given least shared q) K))
      (ends-full r end size same (worse-full end size is)) held

  pub whole-ok : (r : Result (Unit {0}) Refusal) (end : Result (Unit {0}) Stopped) → EndsAs r end → worse None end ≡ None → IsOk r
  whole-ok r end same is = ends-ok r end same (worse-ok end is)

  -- launcher and reaper alone
  pub ended-after : (p q : Pair C) (asked asked2 : Option (List Asked)) (fate fate2 : ℕ → Fate) (at at2 : ℕ → Option (Held T)) (hand hand2 : Option Hand) (before after : Option Stopped) (r : Result (Unit {0}) Refusal) (end : Result (Unit {0}) Stopped)
      → HasAttended given least told shared p q asked asked2 fate fate2 at at2 hand hand2 r → (IsOk r → HasSettled given least shared q) → EndsAs r end → before ≡ None → after ≡ worse None end
      → HasEnded given least told shared p q asked asked2 fate fate2 at at2 hand hand2 before after
  ended-after p q asked asked2 fate fate2 at at2 hand hand2 before after r end a settled same none is = record {
    launcher = a.launcher;
    reaping = a.reaping;
    attending = record { fates = a.attending.fates; tends = a.attending.tends; keeps = a.attending.keeps; agrees = λ clean. a.attending.agrees (whole-ok r end same (sym is ∙ clean)) };
    whole = λ clean. (none, settled (whole-ok r end same (sym is ∙ clean)));
    full = λ size full. inr (none, full-held p q _ r end size same (sym is ∙ full) a.held_up);
  }
