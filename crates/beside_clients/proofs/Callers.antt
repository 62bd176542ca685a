-- What is true of every caller.
use Rattle.std.proofs.Common.{◌≡◌, ℕ, eqb, cond, Bool, true, false, List, [], ◌∷◌, ◌++◌, refl, ap, subst, eq-eqb}
use Rattle.std.specs.List.{AllByRecursion}
use Rattle.std.proofs.lemmas.Bool.{eqb-true}
use Rattle.drmaa_model.specs.declared.entries.Entry.{Entry}
use Rattle.drmaa_model.specs.declared.replies.Reply.{Reply}
use Rattle.call_history.specs.Callers.{calls_of}
use Rattle.attendant.specs.Acts.{Act, Duty, TakeLaunch, Started, StartFailed, Other, act_of, acts_of, duty_of, EachAfter}
use Rattle.attendant.specs.Outside.{IsLaunchersEntry, IsReapersEntry, LauncherCalls, ReaperCalls}
use Rattle.attendant.specs.Whole.{MayCall, AreAlone}

-- ---- from the entries of each caller to all

head-of : (P : Entry → Type 0) (e : Entry) (es : List Entry) → AllByRecursion P (calls_of (e ∷ es) e.caller.0) → P e
head-of P e es all =
    let here : calls_of (e ∷ es) e.caller.0 ≡ e ∷ calls_of es e.caller.0 = ap (λ (b : Bool). cond b (e ∷ calls_of es e.caller.0) (calls_of es e.caller.0)) (eq-eqb e.caller.0 e.caller.0 refl) in
    (subst (AllByRecursion P) here all).0

tail-of : (P : Entry → Type 0) (e : Entry) (es : List Entry) (k : ℕ) → AllByRecursion P (calls_of (e ∷ es) k) → AllByRecursion P (calls_of es k)
tail-of P e es k all = (elim (eqb e.caller.0 k) as (λ b. AllByRecursion P (cond b (e ∷ calls_of es k) (calls_of es k)) → AllByRecursion P (calls_of es k)) [ true ↦ λ a. a.1 | false ↦ λ a. a ]) all

pub all-of-callers : (P : Entry → Type 0) (es : List Entry) → ((k : ℕ) → AllByRecursion P (calls_of es k)) → AllByRecursion P es
all-of-callers P [] each = tt
all-of-callers P (e ∷ es) each = (head-of P e es (each e.caller.0), all-of-callers P es (λ k. tail-of P e es k (each k)))

-- the entries of a caller are its own
IsOf : ℕ → Entry → Type 0
IsOf k e = e.caller.0 ≡ k

own-more : (k : ℕ) (e : Entry) (es : List Entry) (b : Bool) → (b ≡ true → e.caller.0 ≡ k) → AllByRecursion (IsOf k) es → AllByRecursion (IsOf k) (cond b (e ∷ es) es)
unfolding IsOf
own-more k e es true is all = (is refl, all)
own-more k e es false is all = all

own-all : (es : List Entry) (k : ℕ) → AllByRecursion (IsOf k) (calls_of es k)
own-all [] k = tt
own-all (e ∷ es) k = own-more k e (calls_of es k) (eqb e.caller.0 k) (λ h. eqb-true e.caller.0 k h) (own-all es k)

-- ---- whose calls are whose

launcher-may : (l r k : ℕ) (front : List Act) (d : Duty) (reply : Reply) → k ≡ l → LauncherCalls front d reply → MayCall l r k d
launcher-may l r k front TakeLaunch reply is may = is
launcher-may l r k front (Started job attempt) reply is may = is
launcher-may l r k front (StartFailed job attempt) reply is may = is
launcher-may l r k front _ reply is may = absurd may

reaper-may : (l r k : ℕ) (front : List Act) (d : Duty) (reply : Reply) → k ≡ r → ReaperCalls front d reply → MayCall l r k d
reaper-may l r k front TakeLaunch reply is may = absurd may
reaper-may l r k front (Started job attempt) reply is may = absurd may
reaper-may l r k front (StartFailed job attempt) reply is may = absurd may
reaper-may l r k front Other reply is may = absurd may
reaper-may l r k front _ reply is may = is

-- an entry that its caller may make
abbrev pub Permitted : ℕ → ℕ → Entry → Type 0
Permitted l r e = MayCall l r e.caller.0 (duty_of e.call)

-- whoever makes such entries alone makes none that its number may not
permitted : (IsEntry : List Act → Act → Type 0) (l r k : ℕ) → ((e : Entry) (front : List Act) → e.caller.0 ≡ k → IsEntry front (act_of e) → Permitted l r e)
    → (front : List Act) (es : List Entry) → AllByRecursion (IsOf k) es → EachAfter IsEntry front (acts_of es) → AllByRecursion (Permitted l r) es
unfolding IsOf
permitted IsEntry l r k may front [] own each = tt
permitted IsEntry l r k may front (e ∷ es) own each = (may e front own.0 each.0, permitted IsEntry l r k may (front ++ act_of e ∷ []) es own.1 each.1)

pub launcher-permitted : (l r : ℕ) (es : List Entry) → EachAfter IsLaunchersEntry [] (acts_of (calls_of es l)) → AllByRecursion (Permitted l r) (calls_of es l)
launcher-permitted l r es each =
    permitted IsLaunchersEntry l r l (λ e front own calls. launcher-may l r e.caller.0 front (duty_of e.call) e.reply own calls) [] (calls_of es l) (own-all es l) each

pub reaper-permitted : (l r : ℕ) (es : List Entry) → EachAfter IsReapersEntry [] (acts_of (calls_of es r)) → AllByRecursion (Permitted l r) (calls_of es r)
reaper-permitted l r es each =
    permitted IsReapersEntry l r r (λ e front own calls. reaper-may l r e.caller.0 front (duty_of e.call) e.reply own calls) [] (calls_of es r) (own-all es r) each

alone-of : (l r : ℕ) (es : List Entry) → AllByRecursion (Permitted l r) es → AreAlone l r (acts_of es)
alone-of l r [] all = tt
alone-of l r (e ∷ es) all = (all.0, alone-of l r es all.1)

-- nobody else makes the calls of the launcher and of the reaper
pub are-alone : (l r : ℕ) (es : List Entry) → ((k : ℕ) → AllByRecursion (Permitted l r) (calls_of es k)) → AreAlone l r (acts_of es)
are-alone l r es each = alone-of l r es (all-of-callers (Permitted l r) es each)
