-- What is true of every caller of a run.
use Rattle.std.proofs.Common.{◌≡◌, ℕ, zero, suc, Bool, true, false, ◌+◌, ◌<◌, ◌⊎◌, inl, inr, List, [], ◌∷◌, ◌++◌, refl, sym, subst, arith}
use Rattle.std.specs.List.{AllByRecursion}
use Rattle.drmaa_model.specs.declared.calls.Call.{Call}
use Rattle.drmaa_model.specs.declared.calls.Call.TheVariants as call
use Rattle.drmaa_model.specs.declared.entries.Entry.{Entry}
use Rattle.drmaa_model.specs.declared.replies.Reply.{Reply}
use Rattle.call_history.specs.Callers.{calls_of}
use Rattle.call_history.specs.Timed.{begun_in}
use Rattle.attendant.specs.Acts.{Act, Duty, TakeLaunch, Started, StartFailed, Exited, ExitUnknown, TakeSignal, SignalDone, SignalFailed, Other, act_of, acts_of, duty_of, EachAfter}
use Rattle.attendant.specs.Outside.{IsLaunchersEntry, IsReapersEntry, LauncherCalls, ReaperCalls}
use Rattle.attendant.specs.Whole.{MayCall, AreAlone}
use Rattle.beside_clients.proofs.Callers.{Permitted, are-alone, launcher-permitted, reaper-permitted}
use Rattle.script_journals.specs.Calls.{is_attendants, is_registers, IsClientsEntry}

-- ---- numbers

pub where-is : (j n : ℕ) → (j < n) ⊎ ((j ≡ n) ⊎ ((j ≡ n + 1) ⊎ (n + 1 < j)))
where-is zero zero = inr (inl refl)
where-is zero (suc n) = inl (omega arith)
where-is (suc zero) zero = inr (inr (inl refl))
where-is (suc (suc j)) zero = inr (inr (inr (omega arith)))
where-is (suc j) (suc n) = elim (where-is j n) [
  | inl h ↦ inl (omega arith)
  | inr r ↦ elim r [
    | inl h ↦ inr (inl (omega arith))
    | inr q ↦ elim q [ inl h ↦ inr (inr (inl (omega arith))) | inr h ↦ inr (inr (inr (omega arith))) ]
  ]
]

-- setup, each client, the launcher, the reaper, and all others
pub by-caller : (P : ℕ → Type 0) (n : ℕ) → P 0 → ((i : ℕ) → i < n → P (i + 1)) → P (n + 1) → P (n + 2) → ((k : ℕ) → n + 2 < k → P k) → (k : ℕ) → P k
by-caller P n first clients launcher reaper others zero = first
by-caller P n first clients launcher reaper others (suc j) = elim (where-is j n) [
  | inl h ↦ subst P (let e : j + 1 ≡ suc j = omega arith in e) (clients j h)
  | inr r ↦ elim r [
    | inl h ↦ subst P (let e : n + 1 ≡ suc j = omega arith in e) launcher
    | inr q ↦ elim q [
      | inl h ↦ subst P (let e : n + 2 ≡ suc j = omega arith in e) reaper
      | inr h ↦ others (suc j) (omega arith)
    ]
  ]
]

-- ---- the calls of launcher and reaper

-- none of a client's; it registers no callback, and is no wait, which would have begun before
pub record IsOfAttendants (c : Call) : Type 0 where
  pub attends : is_attendants c ≡ true
  pub no_register : is_registers c ≡ false
  pub at_once : begun_in c ≡ []

IsBrief : Duty → Type 0
IsBrief d = (d ≡ Other → ⊥)

of-attendants : (c : Call) → IsBrief (duty_of c) → IsOfAttendants c
unfolding IsBrief
of-attendants call.TakeLaunch brief = record { attends = refl; no_register = refl; at_once = refl }
of-attendants (call.Started job attempt) brief = record { attends = refl; no_register = refl; at_once = refl }
of-attendants (call.StartFailed job attempt) brief = record { attends = refl; no_register = refl; at_once = refl }
of-attendants (call.Exited job attempt exit) brief = record { attends = refl; no_register = refl; at_once = refl }
of-attendants (call.ExitUnknown job attempt) brief = record { attends = refl; no_register = refl; at_once = refl }
of-attendants call.TakeSignal brief = record { attends = refl; no_register = refl; at_once = refl }
of-attendants (call.SignalDone job attempt kind) brief = record { attends = refl; no_register = refl; at_once = refl }
of-attendants (call.SignalFailed job attempt kind) brief = record { attends = refl; no_register = refl; at_once = refl }
of-attendants _ brief = absurd (brief refl)

-- ---- a client makes none of their calls

may-aside : (l r k : ℕ) (d : Duty) (b : Bool) → (IsBrief d → b ≡ true) → b ≡ false → MayCall l r k d
unfolding IsBrief
may-aside l r k Other b so is = tt
may-aside l r k _ b so is = absurd (let t = so (λ o. cc) in cc)

clients-permitted : (l r : ℕ) (es : List Entry) → AllByRecursion IsClientsEntry es → AllByRecursion (Permitted l r) es
clients-permitted l r [] all = tt
clients-permitted l r (e ∷ es) all = (may-aside l r e.caller.0 (duty_of e.call) (is_attendants e.call) (λ brief. (of-attendants e.call brief).attends) all.0, clients-permitted l r es all.1)

-- nobody else makes the calls of the launcher and of the reaper
pub clients-aside : (n : ℕ) (es : List Entry) → ((k : ℕ) → k < n + 1 → AllByRecursion IsClientsEntry (calls_of es k)) → EachAfter IsLaunchersEntry [] (acts_of (calls_of es (n + 1)))
    → EachAfter IsReapersEntry [] (acts_of (calls_of es (n + 2))) → ((k : ℕ) → n + 2 < k → calls_of es k ≡ []) → AreAlone (n + 1) (n + 2) (acts_of es)
clients-aside n es clients launcher reaper others =
    are-alone (n + 1) (n + 2) es (by-caller (λ k. AllByRecursion (Permitted (n + 1) (n + 2)) (calls_of es k)) n
    (clients-permitted (n + 1) (n + 2) (calls_of es 0) (clients 0 (omega arith)))
    (λ i h. clients-permitted (n + 1) (n + 2) (calls_of es (i + 1)) (clients (i + 1) (omega arith)))
    (launcher-permitted (n + 1) (n + 2) es launcher)
    (reaper-permitted (n + 1) (n + 2) es reaper)
    (λ k h. subst (AllByRecursion (Permitted (n + 1) (n + 2))) (sym (others k h)) tt))

launcher-brief : (front : List Act) (d : Duty) (reply : Reply) → LauncherCalls front d reply → IsBrief d
unfolding IsBrief
launcher-brief front TakeLaunch reply may = λ is. cc
launcher-brief front (Started job attempt) reply may = λ is. cc
launcher-brief front (StartFailed job attempt) reply may = λ is. cc
launcher-brief front _ reply may = absurd may

reaper-brief : (front : List Act) (d : Duty) (reply : Reply) → ReaperCalls front d reply → IsBrief d
unfolding IsBrief
reaper-brief front (Exited job attempt exit) reply may = λ is. cc
reaper-brief front (ExitUnknown job attempt) reply may = λ is. cc
reaper-brief front TakeSignal reply may = λ is. cc
reaper-brief front (SignalDone job attempt kind) reply may = λ is. cc
reaper-brief front (SignalFailed job attempt kind) reply may = λ is. cc
reaper-brief front _ reply may = absurd may

-- all calls are the launcher's or the reaper's
abbrev pub IsAttendants : Entry → Type 0
IsAttendants e = IsOfAttendants e.call

pub launcher-attends : (front : List Act) (es : List Entry) → EachAfter IsLaunchersEntry front (acts_of es) → AllByRecursion IsAttendants es
launcher-attends front [] each = tt
launcher-attends front (e ∷ es) each = (of-attendants e.call (launcher-brief front (duty_of e.call) e.reply each.0), launcher-attends (front ++ act_of e ∷ []) es each.1)

pub reaper-attends : (front : List Act) (es : List Entry) → EachAfter IsReapersEntry front (acts_of es) → AllByRecursion IsAttendants es
reaper-attends front [] each = tt
reaper-attends front (e ∷ es) each = (of-attendants e.call (reaper-brief front (duty_of e.call) e.reply each.0), reaper-attends (front ++ act_of e ∷ []) es each.1)

-- no entry's wait has begun before
abbrev pub IsAtOnce : Entry → Type 0
IsAtOnce e = begun_in e.call ≡ []

at-once : (es : List Entry) → AllByRecursion IsAttendants es → AllByRecursion IsAtOnce es
at-once [] all = tt
at-once (e ∷ es) all = (all.0.at_once, at-once es all.1)

pub launcher-at-once : (front : List Act) (es : List Entry) → EachAfter IsLaunchersEntry front (acts_of es) → AllByRecursion IsAtOnce es
launcher-at-once front es each = at-once es (launcher-attends front es each)

pub reaper-at-once : (front : List Act) (es : List Entry) → EachAfter IsReapersEntry front (acts_of es) → AllByRecursion IsAtOnce es
reaper-at-once front es each = at-once es (reaper-attends front es each)
