-- How launcher and reaper end.
use Rattle.std.proofs.Common.{◌≡◌, ℕ, List, Option, refl, sym, subst}
use Rattle.std.specs.Prelude.{Result, Ok, Err, IfErr, IsOk}
use Rattle.child_spawner.specs.declared.fates.Asked.{Asked}
use Rattle.child_spawner.specs.declared.fates.Fate.{Fate}
use Rattle.child_spawner.specs.Children.{Told}
use Rattle.drmaa_types.specs.declared.refusals.Refusal.{Refusal}
use Rattle.drmaa_types.specs.Readings.{Readings}
use Rattle.drmaa_model.specs.declared.configs.Config.{Config}
use Rattle.turn_lock.specs.Tokens.{Named}
use Rattle.attendant.specs.declared.pairs.Pair.{Pair}
use Rattle.attendant.specs.declared.reaper.Held.{Held}
use Rattle.attendant.specs.declared.reaper.Hand.{Hand}
use Rattle.attendant.specs.Posts.{Post}
use Rattle.attendant.specs.Outside.{IsHeldUp, out_of_memory, full_at_launch, full_at_order, full_at_answer}
use Rattle.attendant.specs.PairLaws.{post-itself}
use Rattle.attendant.specs.Pairs.{launcher_at, reaping_at, ArePlaced, HasAttended, HasSettled}
use Rattle.drmaa.specs.Closed.{IsShort, of_memory, of_journal}
use Rattle.drmaa.specs.Pairs.{HasEnded}

held-short : (l0 l1 r0 r1 : Post) (K : Type 0) (why : Refusal) → IsHeldUp l0 l1 r0 r1 K why → IsShort why
held-short l0 l1 r0 r1 K why (out_of_memory w) = of_memory w
held-short l0 l1 r0 r1 K why (full_at_launch n w f) = of_journal n w
held-short l0 l1 r0 r1 K why (full_at_order n w f) = of_journal n w
held-short l0 l1 r0 r1 K why (full_at_answer n signal answer w f owes) = of_journal n w

-- why launcher and reaper are refused, if they are
pub refused-short : (l0 l1 r0 r1 : Post) (K : Type 0) (r : Result (Unit {0}) Refusal) → IfErr r (IsHeldUp l0 l1 r0 r1 K) → IfErr r IsShort
refused-short l0 l1 r0 r1 K (Ok a) held = tt
refused-short l0 l1 r0 r1 K (Err why) held = held-short l0 l1 r0 r1 K why held

module _ {C T : Type 0} (given : C → Readings) (least : C → ℕ) (told : T → Option Told) (shared : Named Config) where
  -- they were refused before
  pub ended-before : (p : Pair C) (asked : Option (List Asked)) (fate : ℕ → Fate) (at : ℕ → Option (Held T)) (hand : Option Hand) (before : Result (Unit {0}) Refusal) (why : Refusal) → before ≡ Err why → ArePlaced shared p
      → HasEnded given least told shared p p asked asked fate fate at at hand hand before (Err why)
  ended-before p asked fate at hand before why is placed = record {
    launcher = post-itself (launcher_at given least shared p) placed.launcher;
    reaping = post-itself (reaping_at given least shared p) placed.reaping;
    attending = record { fates = refl; tends = λ t. t; keeps = λ k. k; agrees = λ clean k a. a };
    whole = λ ok. absurd (cc);
    short = λ s. subst (λ (r : Result (Unit {0}) Refusal). IfErr r IsShort) is s;
  }

  -- they went on alone
  pub ended-after : (p q : Pair C) (asked asked2 : Option (List Asked)) (fate fate2 : ℕ → Fate) (at at2 : ℕ → Option (Held T)) (hand hand2 : Option Hand) (before after : Result (Unit {0}) Refusal) → before ≡ Ok tt
      → HasAttended given least told shared p q asked asked2 fate fate2 at at2 hand hand2 after → (IsOk after → HasSettled given least shared q)
      → HasEnded given least told shared p q asked asked2 fate fate2 at at2 hand hand2 before after
  ended-after p q asked asked2 fate fate2 at at2 hand hand2 before after is a settled = record {
    launcher = a.launcher;
    reaping = a.reaping;
    attending = a.attending;
    whole = λ ok. (subst (λ (r : Result (Unit {0}) Refusal). IsOk r) (sym is) refl, settled ok);
    short = λ s. refused-short (launcher_at given least shared p) (launcher_at given least shared q) (reaping_at given least shared p) (reaping_at given least shared q) _ after a.held_up;
  }
