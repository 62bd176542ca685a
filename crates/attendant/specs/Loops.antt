-- What the loops of launcher and reaper come to, round by round. Our profile.
use Rattle.std.specs.Prelude.{◌≡◌, ◌⊎◌, ℕ, List, [], ◌∷◌, Option, Some, None, Result, Ok, Err, IfOk}
use Rattle.slab.specs.Slab.{Slab}
use Rattle.drmaa_types.specs.declared.refusals.Refusal.{Refusal}
use Rattle.child_spawner.specs.declared.fates.Asked.{Asked}
use Rattle.child_spawner.specs.declared.fates.Fate.{Fate}
use Rattle.child_spawner.specs.Children.{Told}
use Rattle.drmaa_model.specs.declared.calls.Call.TheVariants as call
use Rattle.drmaa_model.specs.declared.faults.NoEntry.TheVariants as no
use Rattle.drmaa_model.specs.declared.looks.Answer.{Answer}
use Rattle.drmaa_model.specs.declared.looks.Question.TheVariants as question
use Rattle.call_history.specs.Calls.{IsLookedAt}
use Rattle.attendant.specs.declared.launching.Launched.{Launched}
use Rattle.attendant.specs.declared.reaper.Held.{Held}
use Rattle.attendant.specs.declared.reaper.Hand.{Hand}
use Rattle.attendant.specs.Posts.{Post, acts_at, IsStillAt, Fails}
use Rattle.attendant.specs.Steps.{LaunchSteps, IsNothing}
use Rattle.attendant.specs.Rounds.{ReapSteps}

-- what a loop works on: the two desks, what the spawner tells, the children, and the order in hand
pub record Stage (T : Type 0) : Type 0 where
  pub launcher : Post
  pub reaping : Post
  pub asked : Option (List Asked)
  pub fate : ℕ → Fate
  pub children : Slab (Held T)
  pub order : Option Hand

abbrev pub stage : {T : Type 0} → Post → Post → Option (List Asked) → (ℕ → Fate) → Slab (Held T) → Option Hand → Stage T
stage launcher reaping asked fate children order =
    record { launcher = launcher; reaping = reaping; asked = asked; fate = fate; children = children; order = order }

-- what a round is refused for: the launcher's refusal, or else the reaper's
abbrev pub refused_for : Result Launched Refusal → Result ℕ Refusal → Option Refusal
refused_for (Err why) reports = Some why
refused_for (Ok launched) (Err why) = Some why
refused_for (Ok launched) (Ok n) = None

-- A round, from one stage to another: the launcher's, and then the reaper's. It was refused for this, or was not.
pub record IsRound {T : Type 0} (told : T → Option Told) (faults : T → ℕ) (old new : Stage T) (refused : Option Refusal) : Type 0 where
  pub launched : Result Launched Refusal
  pub children : Slab (Held T)
  pub launches : LaunchSteps told old.launcher new.launcher old.asked new.asked old.fate new.fate old.children children launched
  pub nothing : IfOk launched (λ l. IsNothing l → Fails old.launcher call.TakeLaunch no.Nothing new.launcher)
  pub reports : Result ℕ Refusal
  pub reaps : ReapSteps told faults old.reaping new.reaping children new.children old.order new.order reports
  pub refused_is : refused ≡ refused_for launched reports

-- Between two rounds the launcher's client may learn of what the reaper's has seen, and then look whether the machine is settled.
-- No call is asked.
pub record ComesBetween (old new : Post) : Type 0 where
  pub learnt : Post
  pub learns : IsStillAt old learnt
  pub mine_is : acts_at learnt ≡ acts_at old
  pub unread : learnt.clock ≡ old.clock
  pub looks : (new ≡ learnt) ⊎ ((answer : Answer) × IsLookedAt learnt.shared.fixed learnt.clock learnt.client question.Settled answer new.clock new.client)

-- a round that was not refused, and what came between it and the next
pub record IsServed {T : Type 0} (told : T → Option Told) (faults : T → ℕ) (old new : Stage T) : Type 0 where
  pub after : Stage T
  pub round : IsRound told faults old after None
  pub between : ComesBetween after.launcher new.launcher
  pub same : new ≡ record after { launcher = new.launcher }

-- rounds of which none was refused: they began at these stages, the last one of them first
abbrev pub AreServed : {T : Type 0} → (T → Option Told) → (T → ℕ) → List (Stage T) → Stage T → Stage T → Type 0
AreServed told faults [] old new = new ≡ old
AreServed told faults (last ∷ earlier) old new = AreServed told faults earlier old last × IsServed told faults last new

-- A round was refused for this, and no round before it was refused.
pub record IsFirstRefusal {T : Type 0} (told : T → Option Told) (faults : T → ℕ) (old new : Stage T) (why : Refusal) : Type 0 where
  pub earlier : List (Stage T)
  pub last : Stage T
  pub served : AreServed told faults earlier old last
  pub refused : IsRound told faults last new (Some why)

-- what a loop answers that ends with the first round that is refused
abbrev pub EndsAtFirst : {T : Type 0} → (T → Option Told) → (T → ℕ) → Stage T → Stage T → Result (Unit {0}) Refusal → Type 0
EndsAtFirst {T} told faults old new (Ok done) = (rounds : List (Stage T)) × AreServed told faults rounds old new
EndsAtFirst told faults old new (Err why) = IsFirstRefusal told faults old new why

-- the first round that was refused ended so, and others came behind it
pub record IsFirstBefore {T : Type 0} (told : T → Option Told) (faults : T → ℕ) (old new : Stage T) (why : Refusal) : Type 0 where
  pub met : Stage T
  pub first : IsFirstRefusal told faults old met why
  pub launcher : IsStillAt met.launcher new.launcher
  pub reaping : IsStillAt met.reaping new.reaping

-- what a loop answers that goes on behind the first round that is refused, and keeps its refusal
abbrev pub KeepsFirst : {T : Type 0} → (T → Option Told) → (T → ℕ) → Stage T → Stage T → Result (Unit {0}) Refusal → Type 0
KeepsFirst {T} told faults old new (Ok done) = (rounds : List (Stage T)) × AreServed told faults rounds old new
KeepsFirst told faults old new (Err why) = IsFirstBefore told faults old new why
