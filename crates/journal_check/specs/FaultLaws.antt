-- The laws of faults.
use Rattle.std.proofs.Common.{◌≡◌, ℕ, ◌+◌, ◌<◌, ◌≤◌, nat_le, Bool, true, false, List, [], ◌∷◌, ◌++◌, length, Option, Some, None, refl, sym, ap, subst, ◌∙◌, arith}
use Rattle.std.specs.Prelude.{if◌then◌else◌}
use Rattle.std.proofs.lemmas.Bool.Decides.{nat_tests}
use Rattle.std.proofs.lemmas.Option.{none-some, same_Some}
use Rattle.drmaa_model.specs.declared.configs.Config.{Config}
use Rattle.drmaa_model.specs.declared.entries.Entry.{Entry}
use Rattle.drmaa_model.specs.declared.replies.Reply.{Reply}
use Rattle.drmaa_model.specs.Effects.{gives, nothing, not_yet}
use Rattle.drmaa_model.specs.History.{IsLegal, IsLegalFrom, replay, replay_from, after_entry}
use Rattle.drmaa_model.specs.HistoryLaws.{legal_from-back}
use Rattle.drmaa_model.specs.Size.{size}
use Rattle.drmaa_model.specs.Steps.{answer, IsStep}
use Rattle.drmaa_model.specs.World.{World, opening_world}
use Rattle.journal_check.specs.Faults.{told_within, machine_reply, IsFault, FirstFault}

-- the reply of an answer that keeps within the journal, and of one that does not
told_kept : (most : ℕ) (reply : Reply) (next : World) → size next ≤ most → told_within most (gives reply next) ≡ Some reply
told_kept most reply next h =
    let fits : nat_le (size next) most ≡ true = grind (arith, nat_tests) in
    ap (λ (b : Bool). if b then Some reply else None) fits

told_above : (most : ℕ) (reply : Reply) (next : World) → most < size next → told_within most (gives reply next) ≡ None
told_above most reply next h =
    let fits : nat_le (size next) most ≡ false = grind (arith, nat_tests) in
    ap (λ (b : Bool). if b then Some reply else None) fits

-- at a step the machine gives the reply of the entry
pub step_told : (w : World) (entry : Entry) (next : World) → IsStep w entry next → machine_reply w entry ≡ Some entry.reply
step_told w entry next step =
    ap (told_within w.config.journal) step.answered ∙ told_kept w.config.journal entry.reply next step.within

-- An entry is at fault where the machine gives another reply, or none.
pub other_told : (w : World) (entry : Entry) (machine : Option Reply) → machine_reply w entry ≡ machine → (machine ≡ Some entry.reply → ⊥) → IsFault w entry entry.reply machine
other_told w entry machine told other = record {
  no_step = λ next step. other (sym told ∙ step_told w entry next step);
  given_is = refl;
  machine_is = sym told;
}

pub none_told : (w : World) (entry : Entry) → machine_reply w entry ≡ None → IsFault w entry entry.reply None
none_told w entry told = other_told w entry None told (λ e. none-some _ e)

-- one reply where another stands
pub other_reply : (w : World) (entry : Entry) (own : Reply) (next : World) → IsStep w (record entry { reply = own }) next → (own ≡ entry.reply → ⊥) → IsFault w entry entry.reply (Some own)
other_reply w entry own next step other =
    other_told w entry (Some own) (step_told w (record entry { reply = own }) next step) (λ e. other (same_Some _ _ e))

-- no entry where one stands
pub waits : (w : World) (entry : Entry) → answer w entry.at entry.call ≡ not_yet → IsFault w entry entry.reply None
waits w entry h = none_told w entry (ap (told_within w.config.journal) h)

pub finds_nothing : (w : World) (entry : Entry) → answer w entry.at entry.call ≡ nothing → IsFault w entry entry.reply None
finds_nothing w entry h = none_told w entry (ap (told_within w.config.journal) h)

pub too_large : (w : World) (entry : Entry) (reply : Reply) (after : World) → answer w entry.at entry.call ≡ gives reply after → w.config.journal < size after → IsFault w entry entry.reply None
too_large w entry reply after h above =
    none_told w entry (ap (told_within w.config.journal) h ∙ told_above w.config.journal reply after above)

-- a history with a fault is not legal
pub fault_not_legal : (config : Config) (entries : List Entry) (number : ℕ) (given : Reply) (machine : Option Reply) → FirstFault config entries number given machine → IsLegal config entries → ⊥
fault_not_legal config entries number given machine f legal =
    let whole = subst (λ (es : List Entry). IsLegal config es) f.placed legal in
    let last = legal_from-back (opening_world config) f.front (f.entry ∷ f.back) whole in
    f.fault.no_step _ last.0

-- lists whose first items are equal, and whose others are
head_same : {A : Type 0} (x y : A) (xs ys : List A) → x ∷ xs ≡ y ∷ ys → x ≡ y
head_same x y xs ys e = cc

tail_same : {A : Type 0} (x y : A) (xs ys : List A) → x ∷ xs ≡ y ∷ ys → xs ≡ ys
tail_same x y xs ys e = cc

-- where the first entry that is no step stands
same_place : (w : World) (xs ys : List Entry) (x y : Entry) (others rest : List Entry) → xs ++ x ∷ others ≡ ys ++ y ∷ rest
    → IsLegalFrom w xs → IsLegalFrom w ys → ((next : World) → IsStep (replay_from w xs) x next → ⊥) → ((next : World) → IsStep (replay_from w ys) y next → ⊥)
    → (xs ≡ ys) × (x ≡ y)
same_place w [] [] x y others rest e p q f g = (refl, head_same x y others rest e)
same_place w [] (b ∷ ys) x y others rest e p q f g =
    absurd (f (after_entry w b) (subst (λ (v : Entry). IsStep w v (after_entry w b)) (sym (head_same x b others (ys ++ y ∷ rest) e)) q.0))
same_place w (a ∷ xs) [] x y others rest e p q f g =
    absurd (g (after_entry w a) (subst (λ (v : Entry). IsStep w v (after_entry w a)) (head_same a y (xs ++ x ∷ others) rest e) p.0))
same_place w (a ∷ xs) (b ∷ ys) x y others rest e p q f g =
    let first = head_same a b (xs ++ x ∷ others) (ys ++ y ∷ rest) e in
    let behind = tail_same a b (xs ++ x ∷ others) (ys ++ y ∷ rest) e in
    let legal = subst (λ (v : Entry). IsLegalFrom (after_entry w v) ys) (sym first) q.1 in
    let stops = subst (λ (v : Entry). (next : World) → IsStep (replay_from (after_entry w v) ys) y next → ⊥) (sym first) g in
    let same = same_place (after_entry w a) xs ys x y others rest behind p.1 legal f stops in
    (cc, same.1)

-- the first fault is one
pub one_fault : (config : Config) (entries : List Entry) (n m : ℕ) (given other : Reply) (machine own : Option Reply)
    → FirstFault config entries n given machine → FirstFault config entries m other own → (n ≡ m) × (given ≡ other) × (machine ≡ own)
one_fault config entries n m given other machine own a b =
    let same = same_place (opening_world config) a.front b.front a.entry b.entry a.back b.back (sym a.placed ∙ b.placed) a.legal b.legal a.fault.no_step b.fault.no_step in
    let place = same.0 in
    let at = same.1 in
    let world : replay config a.front ≡ replay config b.front = ap (replay config) place in
    let told : machine_reply (replay config a.front) a.entry ≡ machine_reply (replay config b.front) b.entry =
    ap (λ (w : World). machine_reply w a.entry) world ∙ ap (λ (e : Entry). machine_reply (replay config b.front) e) at in (
      a.numbered ∙ ap (λ (es : List Entry). length es + 1) place ∙ sym b.numbered,
      a.fault.given_is ∙ ap (λ (e : Entry). e.reply) at ∙ sym b.fault.given_is,
      a.fault.machine_is ∙ told ∙ sym b.fault.machine_is,
    )
