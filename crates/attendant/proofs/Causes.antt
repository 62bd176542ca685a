-- Why a round took no order, and why it is refused.
use Rattle.std.proofs.Common.{◌≡◌, inl, inr, ℕ, Bool, List, ◌++◌, Option, Some, None, refl, sym, ap, ◌∙◌, subst}
use Rattle.std.proofs.lemmas.Option.{same_Some, none-some}
use Rattle.std.specs.Prelude.{Result, Ok, Err, IfErr}
use Rattle.std.proofs.lemmas.List.{map-append}
use Rattle.slab.specs.Slab.{Slab, get}
use Rattle.drmaa_types.specs.declared.refusals.Refusal.{Refusal}
use Rattle.drmaa_model.specs.declared.calls.Call.{Call}
use Rattle.drmaa_model.specs.declared.calls.Call.TheVariants as call
use Rattle.drmaa_model.specs.declared.faults.NoEntry.{NoEntry}
use Rattle.drmaa_model.specs.declared.faults.NoEntry.TheVariants as no
use Rattle.drmaa_model.specs.declared.replies.Signal.{Signal}
use Rattle.turn_lock.specs.Tokens.{IsFree}
use Rattle.call_history.specs.Clients.{mine_of}
use Rattle.child_spawner.specs.Children.{Told}
use Rattle.attendant.specs.declared.reaper.Held.{Held}
use Rattle.attendant.specs.declared.reaper.Hand.{Hand}
use Rattle.attendant.specs.Acts.{Act, act_of, acts_of}
use Rattle.attendant.specs.Posts.{Post, acts_at, IsStillAt, Fails, FailsWithin}
use Rattle.attendant.specs.Steps.{MayFail}
use Rattle.attendant.specs.Rounds.{asked_signal, Took, FindsNone, Serves, ReportSteps, ServesTaken, ServesOrder, PollsAll, RoundAnswer, ReapSteps, IsTaking, takes, keeps, finds_none, finds_full, lacks_memory, IsOrderServed, IsRoundRefused, wants_memory, full_at_take, full_at_report}
use Rattle.attendant.specs.PairLaws.{post-itself}
use Rattle.attendant.proofs.Desks.{still-both, within, fails-on, fails-last}

err_is : (a b : Refusal) (r : Result ℕ Refusal) → r ≡ Err a → r ≡ Err b → a ≡ b
err_is a b r p q = cc

-- a call that made no entry, in the time of a round
pub fails-now : (old now new : Post) (c : Call) (why : NoEntry) → IsFree old.shared old.client → Fails old c why now → IsStillAt now new → FailsWithin old c why new
fails-now old now new c why free f still = within old old now new c why (post-itself old free) f still

-- ---- whether an order was taken

acts_on : (old new : Post) → (s : IsStillAt old new) → acts_at new ≡ acts_at old ++ acts_of s.added
acts_on old new s = ap acts_of s.mine ∙ map-append act_of (mine_of old.client) s.added

took_taking : (old taken new : Post) (hand hand2 : Option Hand) (r : Result ℕ Refusal) → Took old taken hand2 → IsStillAt taken new → IsTaking old new hand r
took_taking old taken new hand hand2 r t still =
    takes t.signal (acts_of still.added) (acts_on taken new still ∙ ap (λ (l : List Act). l ++ acts_of still.added) t.mine_is)

fault_taking : (old taken new : Post) (hand : Option Hand) (r : Result ℕ Refusal) (fault : NoEntry) (why : Refusal) → IsFree old.shared old.client → IsStillAt taken new
    → Fails old call.TakeSignal fault taken → MayFail fault why → r ≡ Err why → IsTaking old new hand r
fault_taking old taken new hand r no.OutOfMemory why free still f m is = lacks_memory (is ∙ ap Err m)
fault_taking old taken new hand r no.NotYet why free still f m is = lacks_memory (is ∙ ap Err m)
fault_taking old taken new hand r no.Nothing why free still f m is = lacks_memory (is ∙ ap Err m)
fault_taking old taken new hand r (no.Journal size) why free still f m is = finds_full size (fails-now old taken new call.TakeSignal _ free f still) (is ∙ ap Err m)

none_taking : {T : Type 0} (told : T → Option Told) (faults : T → ℕ) (old taken served new : Post) (c0 c1 : Slab (Held T)) (hand_taken hand hand2 : Option Hand) (take : Result (Unit {0}) Refusal) (reports ends r : Result ℕ Refusal)
    → IsFree old.shared old.client → IsStillAt taken new → hand_taken ≡ None → FindsNone old taken take
    → ServesTaken told faults taken served hand_taken take c0 c1 hand2 reports → RoundAnswer reports ends r → IsTaking old new hand r
none_taking told faults old taken served new c0 c1 (Some h) hand hand2 take reports ends r free still none found serves answer = absurd (none-some h (sym none))
none_taking told faults old taken served new c0 c1 None hand hand2 (Ok done) reports ends r free still none found serves answer = finds_none (fails-now old taken new call.TakeSignal no.Nothing free found still)
none_taking told faults old taken served new c0 c1 None hand hand2 (Err why) reports ends r free still none found serves answer =
    fault_taking old taken new hand r found.fault why free still found.fails found.stands
    (subst (λ (x : Result ℕ Refusal). RoundAnswer x ends r) serves.1 answer)

pub round_taking : {T : Type 0} (told : T → Option Told) (faults : T → ℕ) (old new : Post) (c0 c2 : Slab (Held T)) (hand hand2 : Option Hand) (r : Result ℕ Refusal)
    → IsFree old.shared old.client → ReapSteps told faults old new c0 c2 hand hand2 r → IsTaking old new hand r
round_taking told faults old new c0 c2 (Some h) hand2 r free s = keeps refl
round_taking told faults old new c0 c2 None hand2 r free s =
    let still = still-both s.order.taken s.served new s.order.to_new s.to_new in
    elim s.order.takes [
      | inl n ↦ none_taking told faults old s.order.taken s.served new c0 s.children_served s.order.hand_taken None s.hand_served s.order.take s.reports s.ends r free still n.1 n.2 s.order.serves s.answer
      | inr t ↦ took_taking old s.order.taken new None s.order.hand_taken r t.0 still
    ]

-- ---- why a round is refused

round_on : (old mid new : Post) (hand : Option Hand) (why : Refusal) → IsStillAt mid new → IsRoundRefused old mid hand why → IsRoundRefused old new hand why
round_on old mid new hand why still (wants_memory w) = wants_memory w
round_on old mid new hand why still (full_at_take size w f) = full_at_take size w (fails-on old mid new _ _ f still)
round_on old mid new hand why still (full_at_report size s answer w f of) = full_at_report size s answer w (fails-on old mid new _ _ f still) of

take_refused : (old taken new : Post) (hand : Option Hand) (fault : NoEntry) (why : Refusal) → IsFree old.shared old.client → IsStillAt taken new
    → Fails old call.TakeSignal fault taken → MayFail fault why → IsRoundRefused old new hand why
take_refused old taken new hand no.OutOfMemory why free still f m = wants_memory m
take_refused old taken new hand no.NotYet why free still f m = wants_memory m
take_refused old taken new hand no.Nothing why free still f m = wants_memory m
take_refused old taken new hand (no.Journal size) why free still f m = full_at_take size m (fails-now old taken new call.TakeSignal _ free f still)

report_refused : (old taken new : Post) (hand : Option Hand) (s : Signal) (answer : Bool) (fault : NoEntry) (why : Refusal) → IsStillAt old taken → IsStillAt taken new
    → IsOrderServed hand old s taken → Fails taken (asked_signal answer s) fault new → MayFail fault why → IsRoundRefused old new hand why
report_refused old taken new hand s answer no.OutOfMemory why first still of f m = wants_memory m
report_refused old taken new hand s answer no.NotYet why first still of f m = wants_memory m
report_refused old taken new hand s answer no.Nothing why first still of f m = wants_memory m
report_refused old taken new hand s answer (no.Journal size) why first still of f m = full_at_report size s answer m
    (fails-last old taken new (asked_signal answer s) _ first still f) of

-- a delivery leaves the order's signal
same_signal : {T : Type 0} (told : T → Option Told) (faults : T → ℕ) (h d : Hand) (c0 c1 : Slab (Held T)) → Serves told faults h d c0 c1 → d.signal ≡ h.signal
same_signal told faults h d c0 c1 (inl w) = ap (λ (x : Hand). x.signal) w.hand_is
same_signal told faults h d c0 c1 (inr e) = ap (λ (x : Hand). x.signal) e.hand_is

reports_refused : (old taken new : Post) (hand : Option Hand) (d : Hand) (answered : Option Bool) (hand2 : Option Hand) (why : Refusal) → IsStillAt old taken → IsStillAt taken new
    → IsOrderServed hand old d.signal taken → ReportSteps taken new d answered hand2 (Err why) → IsRoundRefused old new hand why
reports_refused old taken new hand d None hand2 why first still of r = absurd (cc)
reports_refused old taken new hand d (Some answer) hand2 why first still of r = report_refused old taken new hand d.signal answer r.2.fault why first still of r.2.fails r.2.stands

taken_refused : {T : Type 0} (told : T → Option Told) (faults : T → ℕ) (old taken new : Post) (c0 c1 : Slab (Held T)) (hand_taken hand hand2 : Option Hand) (h : Hand) (take : Result (Unit {0}) Refusal) (why : Refusal)
    → IsStillAt old taken → IsStillAt taken new → hand_taken ≡ Some h → IsOrderServed hand old h.signal taken
    → ServesTaken told faults taken new hand_taken take c0 c1 hand2 (Err why) → IsRoundRefused old new hand why
taken_refused told faults old taken new c0 c1 None hand hand2 h take why first still is of serves = absurd (none-some h is)
taken_refused told faults old taken new c0 c1 (Some g) hand hand2 h take why first still is of serves =
    let same : serves.delivered.signal ≡ h.signal = same_signal told faults g serves.delivered c0 c1 serves.serves ∙ ap (λ (x : Hand). x.signal) (same_Some g h is) in
    reports_refused old taken new hand serves.delivered serves.delivered.answer hand2 why first still (subst (λ (s : Signal). IsOrderServed hand old s taken) (sym same) of) serves.reports

none_refused : {T : Type 0} (told : T → Option Told) (faults : T → ℕ) (old taken new : Post) (c0 c1 : Slab (Held T)) (hand_taken hand hand2 : Option Hand) (take : Result (Unit {0}) Refusal) (why : Refusal)
    → IsFree old.shared old.client → IsStillAt taken new → hand_taken ≡ None → FindsNone old taken take
    → ServesTaken told faults taken new hand_taken take c0 c1 hand2 (Err why) → IsRoundRefused old new hand why
none_refused told faults old taken new c0 c1 (Some h) hand hand2 take why free still none found serves = absurd (none-some h (sym none))
none_refused told faults old taken new c0 c1 None hand hand2 (Ok done) why free still none found serves = absurd (cc)
none_refused told faults old taken new c0 c1 None hand hand2 (Err w) why free still none found serves =
    subst (IsRoundRefused old new hand) (sym (err_is why w (Err why) refl serves.1)) (take_refused old taken new hand found.fault w free still found.fails found.stands)

order_refused : {T : Type 0} (told : T → Option Told) (faults : T → ℕ) (old new : Post) (c0 c1 : Slab (Held T)) (hand hand2 : Option Hand) (why : Refusal)
    → IsFree old.shared old.client → ServesOrder told faults old new c0 c1 hand hand2 (Err why) → IsRoundRefused old new hand why
order_refused told faults old new c0 c1 (Some h) hand2 why free o =
    taken_refused told faults old o.taken new c0 c1 o.hand_taken (Some h) hand2 h o.take why o.to_taken o.to_new o.takes.1 (refl, o.takes.0) o.serves
order_refused told faults old new c0 c1 None hand2 why free o = elim o.takes [
  | inl n ↦ none_refused told faults old o.taken new c0 c1 o.hand_taken None hand2 o.take why free o.to_new n.1 n.2 o.serves
  | inr t ↦ taken_refused told faults old o.taken new c0 c1 o.hand_taken None hand2 _ o.take why o.to_taken o.to_new t.0.hand_is t.0.mine_is o.serves
]

answer_refused : {T : Type 0} (told : T → Option Told) (faults : T → ℕ) (old served new : Post) (c0 c1 c2 : Slab (Held T)) (hand hand1 hand2 : Option Hand) (reports ends r : Result ℕ Refusal)
    → IsFree old.shared old.client → IsStillAt served new → ServesOrder told faults old served c0 c1 hand hand1 reports → PollsAll told faults served new (get c1) (get c2) hand1 hand2 ends
    → RoundAnswer reports ends r → IfErr r (IsRoundRefused old new hand)
answer_refused told faults old served new c0 c1 c2 hand hand1 hand2 (Err why) ends r free still o p a =
    subst (λ (x : Result ℕ Refusal). IfErr x (IsRoundRefused old new hand)) (sym a) (round_on old served new hand why still (order_refused told faults old served c0 c1 hand hand1 why free o))
answer_refused told faults old served new c0 c1 c2 hand hand1 hand2 (Ok n) (Err why) r free still o p a =
    subst (λ (x : Result ℕ Refusal). IfErr x (IsRoundRefused old new hand)) (sym a) (wants_memory p.lost.wants)
answer_refused told faults old served new c0 c1 c2 hand hand1 hand2 (Ok n) (Ok m) r free still o p a =
    subst (λ (x : Result ℕ Refusal). IfErr x (IsRoundRefused old new hand)) (sym a) tt

pub round_refused : {T : Type 0} (told : T → Option Told) (faults : T → ℕ) (old new : Post) (c0 c2 : Slab (Held T)) (hand hand2 : Option Hand) (r : Result ℕ Refusal)
    → IsFree old.shared old.client → ReapSteps told faults old new c0 c2 hand hand2 r → IfErr r (IsRoundRefused old new hand)
round_refused told faults old new c0 c2 hand hand2 r free s =
    answer_refused told faults old s.served new c0 s.children_served c2 hand s.hand_served hand2 s.reports s.ends r free s.to_new s.order s.polls s.answer
