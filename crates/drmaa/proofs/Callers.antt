-- What is true of every caller.
use Rattle.std.proofs.Common.{◌≡◌, ℕ, zero, suc, ◌+◌, ◌<◌, List, [], ◌∷◌, sym, ap, subst, arith}
use Rattle.std.specs.List.{AllByRecursion}
use Rattle.drmaa_model.specs.declared.entries.Entry.{Entry}
use Rattle.call_history.specs.Callers.{calls_of}
use Rattle.attendant.specs.Acts.{Duty, Other, acts_of, duty_of, EachAfter}
use Rattle.attendant.specs.Outside.{IsLaunchersEntry, IsReapersEntry}
use Rattle.attendant.specs.Whole.{MayCall, AreAlone}
use Rattle.beside_clients.proofs.Callers.{Permitted, are-alone, launcher-permitted, reaper-permitted}
use Rattle.drmaa.specs.Closed.{AsksAsClient, RegistersFrom}

-- the four callers, and all others
pub by-caller : (P : ℕ → Type 0) → P 0 → P 1 → P 2 → P 3 → ((k : ℕ) → 3 < k → P k) → (k : ℕ) → P k
by-caller P own launcher reaper hub others zero = own
by-caller P own launcher reaper hub others (suc zero) = launcher
by-caller P own launcher reaper hub others (suc (suc zero)) = reaper
by-caller P own launcher reaper hub others (suc (suc (suc zero))) = hub
by-caller P own launcher reaper hub others (suc (suc (suc (suc k)))) = others (suc (suc (suc (suc k)))) (omega arith)

-- a call that is none of theirs may be anybody's
other-may : (l r k : ℕ) (d : Duty) → d ≡ Other → MayCall l r k d
other-may l r k d is = subst (MayCall l r k) (sym is) tt

others-permitted : (l r : ℕ) (es : List Entry) → AsksAsClient es → AllByRecursion (Permitted l r) es
others-permitted l r [] all = tt
others-permitted l r (e ∷ es) all = (other-may l r e.caller.0 (duty_of e.call) all.0, others-permitted l r es all.1)

-- what registers callbacks is none of theirs
pub registers-aside : (n : ℕ) (es : List Entry) → RegistersFrom n es → AsksAsClient es
registers-aside n [] all = tt
registers-aside n (e ∷ es) all = (ap duty_of all.0, registers-aside (suc n) es (subst (λ (k : ℕ). RegistersFrom k es) (let h : n + 1 ≡ suc n = omega arith in h) all.2))

-- what is nobody's is none of theirs
pub none-aside : (es : List Entry) → es ≡ [] → AsksAsClient es
none-aside es none = subst AsksAsClient (sym none) tt

-- nobody else makes the calls of the launcher and of the reaper
pub works-aside : (es : List Entry) → AsksAsClient (calls_of es 0) → EachAfter IsLaunchersEntry [] (acts_of (calls_of es 1)) → EachAfter IsReapersEntry [] (acts_of (calls_of es 2)) → AsksAsClient (calls_of es 3)
    → ((k : ℕ) → 3 < k → AsksAsClient (calls_of es k)) → AreAlone 1 2 (acts_of es)
works-aside es own launcher reaper hub others =
    are-alone 1 2 es (by-caller (λ k. AllByRecursion (Permitted 1 2) (calls_of es k))
    (others-permitted 1 2 (calls_of es 0) own)
    (launcher-permitted 1 2 es launcher)
    (reaper-permitted 1 2 es reaper)
    (others-permitted 1 2 (calls_of es 3) hub)
    (λ k h. others-permitted 1 2 (calls_of es k) (others k h)))
