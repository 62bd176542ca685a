-- What the loops keep, and why they are refused.
use Rattle.std.proofs.Common.{◌≡◌, inl, ℕ, List, Option, Some, None, refl, sym, ap, ◌∙◌}
use Rattle.drmaa_types.specs.declared.refusals.Refusal.{Refusal}
use Rattle.drmaa_model.specs.declared.calls.Call.TheVariants as call
use Rattle.drmaa_model.specs.declared.replies.Reply.TheVariants as reply
use Rattle.drmaa_model.specs.declared.replies.Signal.{Signal}
use Rattle.turn_lock.specs.Tokens.{IsFree}
use Rattle.call_history.specs.Clients.{number_of}
use Rattle.child_spawner.specs.declared.fates.Asked.{Asked}
use Rattle.child_spawner.specs.declared.fates.Fate.{Fate}
use Rattle.child_spawner.specs.Children.{Told}
use Rattle.attendant.specs.declared.reaper.Held.{Held}
use Rattle.attendant.specs.declared.reaper.Hand.{Hand}
use Rattle.attendant.specs.Acts.{Act, TakeSignal}
use Rattle.attendant.specs.Posts.{Post, acts_at, IsStillAt}
use Rattle.attendant.specs.Runs.{owed}
use Rattle.attendant.specs.Steps.{entry_of, IsLaunchRefused, no_memory, no_space}
use Rattle.attendant.specs.Rounds.{IsOrderServed, IsRoundRefused, wants_memory, full_at_take, full_at_report}
use Rattle.attendant.specs.Loops.{ComesBetween}
use Rattle.attendant.specs.Outside.{Tends, Keeping, Attending, IsHeldUp, out_of_memory, full_at_launch, full_at_order, full_at_answer}
use Rattle.attendant.specs.PairLaws.{post-itself}
use Rattle.attendant.proofs.Desks.{still-free, fails-on, fails-from}
use Rattle.attendant.proofs.Entries.{owed_more}
use Rattle.attendant.proofs.Causes.{fails-now}

-- two stretches of rounds
pub attending_on : {T : Type 0} (told : T → Option Told) (q0 q1 q2 : Option (List Asked)) (f0 f1 f2 : ℕ → Fate) (l0 l1 l2 r0 r1 r2 : List Act) (a0 a1 a2 : ℕ → Option (Held T)) (h0 h1 h2 : Option Hand) (C D E : Type 0)
    → (E → C) → (E → D) → Attending told q0 q1 f0 f1 l0 l1 r0 r1 a0 a1 h0 h1 C → Attending told q1 q2 f1 f2 l1 l2 r1 r2 a1 a2 h1 h2 D → Attending told q0 q2 f0 f2 l0 l2 r0 r2 a0 a2 h0 h2 E
attending_on told q0 q1 q2 f0 f1 f2 l0 l1 l2 r0 r1 r2 a0 a1 a2 h0 h1 h2 C D E left right p q = record {
  fates = q.fates ∙ p.fates;
  tends = λ t. q.tends (p.tends t);
  keeps = λ k. q.keeps (p.keeps k);
  agrees = λ clean k a. q.agrees (right clean) (p.keeps k) (p.agrees (left clean) k a);
}

-- a round of the reaper, whether the spawner tells or not
pub reaping_tends : {T : Type 0} (told : T → Option Told) (fate : ℕ → Fate) (launcher r0 r1 : List Act) (a0 a1 : ℕ → Option (Held T)) (h0 h1 : Option Hand)
    → Keeping told r0 r1 a0 a1 h0 h1 → Tends launcher r0 a0 h0 → Tends launcher r1 a1 h1
reaping_tends told fate launcher r0 r1 a0 a1 h0 h1 k t = (k.keeps launcher None fate (record { tends = t; tells = tt })).tends

pub launch_held : (l0 l1 r0 r1 : Post) (K : Type 0) (why : Refusal) → IsFree l0.shared l0.client → IsStillAt l0 l1 → IsLaunchRefused l0 l1 why → IsHeldUp l0 l1 r0 r1 K why
launch_held l0 l1 r0 r1 K why free still (no_memory w) = out_of_memory w
launch_held l0 l1 r0 r1 K why free still (no_space size w f) = full_at_launch size w (fails-now l0 l1 l1 call.TakeLaunch _ free f (post-itself l1 (still-free l0 l1 still)))

served_owes : (hand : Option Hand) (old : Post) (s : Signal) (now : Post) → ((h : Hand) → hand ≡ Some h → owed (acts_at old) ≡ Some h.signal) → IsOrderServed hand old s now → owed (acts_at now) ≡ Some s
served_owes (Some h) old s now owes of = ap owed of.1 ∙ owes h refl ∙ ap Some (sym of.0)
served_owes None old s now owes of = ap owed of ∙ owed_more None (acts_at old) (entry_of (number_of old.client) TakeSignal (reply.Signal s))

pub round_held : (l0 l1 r0 r1 : Post) (hand : Option Hand) (K : Type 0) (why : Refusal) → (K → (h : Hand) → hand ≡ Some h → owed (acts_at r0) ≡ Some h.signal) → IsRoundRefused r0 r1 hand why → IsHeldUp l0 l1 r0 r1 K why
round_held l0 l1 r0 r1 hand K why owes (wants_memory w) = out_of_memory w
round_held l0 l1 r0 r1 hand K why owes (full_at_take size w f) = full_at_order size w f
round_held l0 l1 r0 r1 hand K why owes (full_at_report size s answer w f of) = full_at_answer size s answer w f (λ k. served_owes hand r0 s f.before (owes k) of)

pub held_on : (l0 l1 l2 r0 r1 r2 : Post) (K : Type 0) (why : Refusal) → IsStillAt l1 l2 → IsStillAt r1 r2 → IsHeldUp l0 l1 r0 r1 K why → IsHeldUp l0 l2 r0 r2 K why
held_on l0 l1 l2 r0 r1 r2 K why l r (out_of_memory w) = out_of_memory w
held_on l0 l1 l2 r0 r1 r2 K why l r (full_at_launch size w f) = full_at_launch size w (fails-on l0 l1 l2 _ _ f l)
held_on l0 l1 l2 r0 r1 r2 K why l r (full_at_order size w f) = full_at_order size w (fails-on r0 r1 r2 _ _ f r)
held_on l0 l1 l2 r0 r1 r2 K why l r (full_at_answer size s answer w f o) = full_at_answer size s answer w (fails-on r0 r1 r2 _ _ f r) o

pub held_from : (l0 l1 l2 r0 r1 r2 : Post) (K L : Type 0) (why : Refusal) → IsStillAt l0 l1 → IsStillAt r0 r1 → (K → L) → IsHeldUp l1 l2 r1 r2 L why → IsHeldUp l0 l2 r0 r2 K why
held_from l0 l1 l2 r0 r1 r2 K L why l r tended (out_of_memory w) = out_of_memory w
held_from l0 l1 l2 r0 r1 r2 K L why l r tended (full_at_launch size w f) = full_at_launch size w (fails-from l0 l1 l2 _ _ l f)
held_from l0 l1 l2 r0 r1 r2 K L why l r tended (full_at_order size w f) = full_at_order size w (fails-from r0 r1 r2 _ _ r f)
held_from l0 l1 l2 r0 r1 r2 K L why l r tended (full_at_answer size s answer w f o) = full_at_answer size s answer w (fails-from r0 r1 r2 _ _ r f) (λ k. o (tended k))

-- a look between two rounds, or none
pub record Looked (l1 l2 r1 r2 : Post) : Type 0 where
  pub launcher : IsStillAt l1 l2
  pub reaping : IsStillAt r1 r2
  pub mine : acts_at l2 ≡ acts_at l1
  pub theirs : acts_at r2 ≡ acts_at r1
  pub between : ComesBetween l1 l2
  pub same : r2 ≡ r1

pub between_none : (l : Post) → IsFree l.shared l.client → ComesBetween l l
between_none l free = record { learnt = l; learns = post-itself l free; mine_is = refl; unread = refl; looks = inl refl }

pub looked_none : (l r : Post) → IsFree l.shared l.client → IsFree r.shared r.client → Looked l l r r
looked_none l r fl fr = record { launcher = post-itself l fl; reaping = post-itself r fr; mine = refl; theirs = refl; between = between_none l fl; same = refl }

pub looked_once : (l1 l2 r : Post) → IsStillAt l1 l2 → acts_at l2 ≡ acts_at l1 → IsFree r.shared r.client → ComesBetween l1 l2 → Looked l1 l2 r r
looked_once l1 l2 r l mine fr between = record { launcher = l; reaping = post-itself r fr; mine = mine; theirs = refl; between = between; same = refl }
