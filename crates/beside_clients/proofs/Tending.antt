-- What launcher and reaper keep from their first work on, while the launcher's client is told what others have seen.
use Rattle.std.proofs.Common.{◌≡◌, ℕ, List, [], Option, Some, None, sym, ap, subst}
use Rattle.child_spawner.specs.declared.fates.Asked.{Asked}
use Rattle.child_spawner.specs.declared.fates.Fate.{Fate}
use Rattle.child_spawner.specs.Children.{Told}
use Rattle.drmaa_model.specs.declared.entries.Entry.{Entry}
use Rattle.call_history.specs.Clients.{Seat, mine_of}
use Rattle.attendant.specs.Acts.{Act, acts_of, own_acts}
use Rattle.attendant.specs.declared.reaper.Held.{Held}
use Rattle.attendant.specs.declared.reaper.Hand.{Hand}
use Rattle.attendant.specs.Outside.{Tends, Keeps, AgreesOf, Attending}

-- before the first round all is kept
pub record Nothing {T : Type 0} (told : T → Option Told) (at : ℕ → Option (Held T)) : Type 0 where
  pub untold : (fate : ℕ → Fate) → Keeps told None fate [] [] at None
  pub keeps : (fate : ℕ → Fate) → Keeps told (Some []) fate [] [] at None
  pub agrees : (fate : ℕ → Fate) → AgreesOf (Some []) fate [] []

-- What was kept at the first work, and what is kept behind it.
pub record HaveTended {T : Type 0} (told : T → Option Told) (asked asked_after : Option (List Asked)) (fate_after : ℕ → Fate) (launcher reaping launcher_after reaping_after : List Act)
    (at at_after : ℕ → Option (Held T)) (hand hand_after : Option Hand) (Clean : Type 0) : Type 0 where
  pub first : Tends launcher reaping at hand
  pub tends : Tends launcher_after reaping_after at_after hand_after
  pub keeps : asked ≡ Some [] → Keeps told asked_after fate_after launcher_after reaping_after at_after hand_after
  pub agrees : Clean → asked ≡ Some [] → AgreesOf asked_after fate_after launcher_after reaping_after

module _ {T Clean : Type 0} (told : T → Option Told) (launcher launcher_after launcher_told reaping reaping_after reaping_same : Seat)
    (asked asked_after : Option (List Asked)) (fate fate_after : ℕ → Fate) (at at_after : ℕ → Option (Held T)) (hand hand_after : Option Hand)
    (launcher_new : mine_of launcher ≡ []) (reaping_new : mine_of reaping ≡ []) (start : Nothing told at) (no_hand : hand ≡ None)
    (a : Attending told asked asked_after fate fate_after (own_acts launcher) (own_acts launcher_after) (own_acts reaping) (own_acts reaping_after) at at_after hand hand_after Clean)
    (mine : mine_of launcher_told ≡ mine_of launcher_after) (same : reaping_same ≡ reaping_after) where
  -- from no entries to those that the two began with
  at-start : (P : List Act → List Act → Option Hand → Type 0) → P [] [] None → P (own_acts launcher) (own_acts reaping) hand
  at-start P p =
      let l : own_acts launcher ≡ [] = ap (λ (es : List Entry). acts_of es) launcher_new in
      let r : own_acts reaping ≡ [] = ap (λ (es : List Entry). acts_of es) reaping_new in
      subst (λ (es : List Act). P es (own_acts reaping) hand) (sym l) (subst (λ (es : List Act). P [] es hand) (sym r) (subst (λ (h : Option Hand). P [] [] h) (sym no_hand) p))

  -- from what the two had to what they go on with
  at-end : (P : List Act → List Act → Type 0) → P (own_acts launcher_after) (own_acts reaping_after) → P (own_acts launcher_told) (own_acts reaping_same)
  at-end P p =
      let l : own_acts launcher_told ≡ own_acts launcher_after = ap (λ (es : List Entry). acts_of es) mine in
      let r : own_acts reaping_same ≡ own_acts reaping_after = ap (λ (x : Seat). own_acts x) same in
      subst (λ (es : List Act). P es (own_acts reaping_same)) (sym l) (subst (λ (es : List Act). P (own_acts launcher_after) es) (sym r) p)

  tends-first : Tends (own_acts launcher) (own_acts reaping) at hand
  tends-first = at-start (λ l r h. Tends l r at h) (start.untold fate).tends

  keeps-first : asked ≡ Some [] → Keeps told asked fate (own_acts launcher) (own_acts reaping) at hand
  keeps-first none = subst (λ (q : Option (List Asked)). Keeps told q fate (own_acts launcher) (own_acts reaping) at hand) (sym none) (at-start (λ l r h. Keeps told (Some []) fate l r at h) (start.keeps fate))

  agrees-first : asked ≡ Some [] → AgreesOf asked fate (own_acts launcher) (own_acts reaping)
  agrees-first none = subst (λ (q : Option (List Asked)). AgreesOf q fate (own_acts launcher) (own_acts reaping)) (sym none) (at-start (λ l r h. AgreesOf (Some []) fate l r) (start.agrees fate))

  pub have-tended : HaveTended told asked asked_after fate_after (own_acts launcher) (own_acts reaping) (own_acts launcher_told) (own_acts reaping_same) at at_after hand hand_after Clean
  have-tended = record {
    first = tends-first;
    tends = at-end (λ l r. Tends l r at_after hand_after) (a.tends tends-first);
    keeps = λ none. at-end (λ l r. Keeps told asked_after fate_after l r at_after hand_after) (a.keeps (keeps-first none));
    agrees = λ clean none. at-end (λ l r. AgreesOf asked_after fate_after l r) (a.agrees clean (keeps-first none) (agrees-first none));
  }
