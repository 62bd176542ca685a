-- The first round of a loop that is refused.
use Rattle.std.proofs.Common.{◌≡◌, ℕ, List, ◌∷◌, Option, Some, None, sym, ap, ◌∙◌, subst}
use Rattle.std.specs.Prelude.{Result, Ok, Err, IfOk, unwrap_or}
use Rattle.slab.specs.Slab.{Slab}
use Rattle.drmaa_types.specs.declared.refusals.Refusal.{Refusal}
use Rattle.drmaa_model.specs.declared.calls.Call.TheVariants as call
use Rattle.drmaa_model.specs.declared.faults.NoEntry.TheVariants as no
use Rattle.child_spawner.specs.declared.fates.Asked.{Asked}
use Rattle.child_spawner.specs.declared.fates.Fate.{Fate}
use Rattle.child_spawner.specs.Children.{Told}
use Rattle.attendant.specs.declared.launching.Launched.{Launched}
use Rattle.attendant.specs.declared.reaper.Held.{Held}
use Rattle.attendant.specs.declared.reaper.Hand.{Hand}
use Rattle.attendant.specs.Posts.{Post, IsStillAt, Fails}
use Rattle.attendant.specs.Steps.{LaunchSteps, IsNothing}
use Rattle.attendant.specs.Rounds.{ReapSteps}
use Rattle.attendant.specs.Loops.{Stage, stage, refused_for, IsRound, AreServed, IsFirstRefusal, IsFirstBefore, KeepsFirst}
use Rattle.attendant.proofs.Desks.{still-both}
use Rattle.attendant.proofs.Loops.{Looked}

-- where a loop stands: no round was refused so far, or the first that was is kept
abbrev pub Stands : {T : Type 0} → (T → Option Told) → (T → ℕ) → Stage T → Stage T → Option Refusal → Type 0
Stands {T} told faults old now None = (rounds : List (Stage T)) × AreServed told faults rounds old now
Stands told faults old now (Some why) = IsFirstBefore told faults old now why

refused-either : (launched : Result Launched Refusal) (reports : Result ℕ Refusal) (l : Launched) (r : Result ℕ Refusal) → launched ≡ Ok l → reports ≡ r → refused_for (Ok l) r ≡ refused_for launched reports
refused-either launched reports l r a b = ap (λ (x : Result ℕ Refusal). refused_for (Ok l) x) (sym b) ∙ ap (λ (x : Result Launched Refusal). refused_for x reports) (sym a)

pub refused-first : (launched : Result Launched Refusal) (reports : Result ℕ Refusal) (why : Refusal) → launched ≡ Err why → Some why ≡ refused_for launched reports
refused-first launched reports why a = ap (λ (x : Result Launched Refusal). refused_for x reports) (sym a)

pub refused-then : (launched : Result Launched Refusal) (reports : Result ℕ Refusal) (l : Launched) (why : Refusal) → launched ≡ Ok l → reports ≡ Err why → Some why ≡ refused_for launched reports
refused-then launched reports l why a b = refused-either launched reports l (Err why) a b

pub refused-none : (launched : Result Launched Refusal) (reports : Result ℕ Refusal) (l : Launched) (n : ℕ) → launched ≡ Ok l → reports ≡ Ok n → None ≡ refused_for launched reports
refused-none launched reports l n a b = refused-either launched reports l (Ok n) a b

-- a round, by what its two halves answered
pub round_of : {T : Type 0} (told : T → Option Told) (faults : T → ℕ) (l0 l1 r0 r1 : Post) (q0 q1 : Option (List Asked)) (f0 f1 : ℕ → Fate) (c0 c1 c2 : Slab (Held T)) (h0 h h1 : Option Hand)
    (launched : Result Launched Refusal) (reports : Result ℕ Refusal) (refused : Option Refusal)
    → LaunchSteps told l0 l1 q0 q1 f0 f1 c0 c1 launched → IfOk launched (λ l. IsNothing l → Fails l0 call.TakeLaunch no.Nothing l1) → h ≡ h0
    → ReapSteps told faults r0 r1 c1 c2 h h1 reports → refused ≡ refused_for launched reports
    → IsRound told faults (stage l0 r0 q0 f0 c0 h0) (stage l1 r1 q1 f1 c2 h1) refused
round_of told faults l0 l1 r0 r1 q0 q1 f0 f1 c0 c1 c2 h0 h h1 launched reports refused launches nothing same reaps is = record {
  launched = launched;
  children = c1;
  launches = launches;
  nothing = nothing;
  reports = reports;
  reaps = subst (λ (x : Option Hand). ReapSteps told faults r0 r1 c1 c2 x h1 reports) same reaps;
  refused_is = is;
}

pub stands_on : {T : Type 0} (told : T → Option Told) (faults : T → ℕ) (old now : Stage T) (l1 l2 r1 r2 : Post) (asked : Option (List Asked)) (fate : ℕ → Fate) (children : Slab (Held T)) (order : Option Hand) (kept : Option Refusal)
    → Stands told faults old now kept → IsRound told faults now (stage l1 r1 asked fate children order) None → IsStillAt now.launcher l1 → IsStillAt now.reaping r1 → Looked l1 l2 r1 r2
    → Stands told faults old (stage l2 r2 asked fate children order) kept
stands_on told faults old now l1 l2 r1 r2 asked fate children order None s round l r look = (
  now ∷ s.0,
  (
    s.1,
    record {
      after = stage l1 r1 asked fate children order;
      round = round;
      between = look.between;
      same = ap (λ (p : Post). stage l2 p asked fate children order) look.same;
    },
  ),
)
stands_on told faults old now l1 l2 r1 r2 asked fate children order (Some why) s round l r look = record {
  met = s.met;
  first = s.first;
  launcher = still-both s.met.launcher now.launcher l2 s.launcher (still-both now.launcher l1 l2 l look.launcher);
  reaping = still-both s.met.reaping now.reaping r2 s.reaping (still-both now.reaping r1 r2 r look.reaping);
}

pub stands_refused : {T : Type 0} (told : T → Option Told) (faults : T → ℕ) (old now : Stage T) (l1 l2 r1 r2 : Post) (asked : Option (List Asked)) (fate : ℕ → Fate) (children : Slab (Held T)) (order : Option Hand) (kept : Option Refusal) (why : Refusal)
    → Stands told faults old now kept → IsRound told faults now (stage l1 r1 asked fate children order) (Some why) → IsStillAt now.launcher l1 → IsStillAt now.reaping r1 → Looked l1 l2 r1 r2
    → Stands told faults old (stage l2 r2 asked fate children order) (Some (unwrap_or kept why))
stands_refused told faults old now l1 l2 r1 r2 asked fate children order None why s round l r look = record {
  met = stage l1 r1 asked fate children order;
  first = record { earlier = s.0; last = now; served = s.1; refused = round };
  launcher = look.launcher;
  reaping = look.reaping;
}
stands_refused told faults old now l1 l2 r1 r2 asked fate children order (Some first) why s round l r look = record {
  met = s.met;
  first = s.first;
  launcher = still-both s.met.launcher now.launcher l2 s.launcher (still-both now.launcher l1 l2 l look.launcher);
  reaping = still-both s.met.reaping now.reaping r2 s.reaping (still-both now.reaping r1 r2 r look.reaping);
}

-- the first round that is refused, behind rounds that were not
pub first_refused : {T : Type 0} (told : T → Option Told) (faults : T → ℕ) (old now new : Stage T) (why : Refusal) → Stands told faults old now None → IsRound told faults now new (Some why) → IsFirstRefusal told faults old new why
first_refused told faults old now new why s round = record { earlier = s.0; last = now; served = s.1; refused = round }

-- where a loop stands is what it answers
pub ends_ok : {T : Type 0} (told : T → Option Told) (faults : T → ℕ) (old new : Stage T) (kept : Option Refusal) → kept ≡ None → Stands told faults old new kept → KeepsFirst told faults old new (Ok tt)
ends_ok told faults old new kept none s = subst (Stands told faults old new) none s
