-- Desks of launcher and reaper, over the rounds that they make.
use Rattle.std.proofs.Common.{◌≡◌, inl, inr, ℕ, List, [], ◌∷◌, ◌++◌, map, Option, Some, None, refl, sym, ap, ◌∙◌, subst, append_assoc}
use Rattle.std.specs.Prelude.{IfSome}
use Rattle.std.specs.List.{AllByRecursion}
use Rattle.drmaa_types.specs.Readings.{Readings, Reads, GoesOn}
use Rattle.drmaa_model.specs.declared.configs.Config.{Config}
use Rattle.drmaa_model.specs.declared.entries.Entry.{Entry}
use Rattle.turn_lock.specs.Tokens.{Named}
use Rattle.call_history.specs.ClientLaws.{begins-both}
use Rattle.call_history.specs.Clients.{Seat, seen_of, mine_of, IsStillAt as IsStillThere}
use Rattle.call_history.specs.Clocks.{Dial, HasGiven}
use Rattle.call_history.specs.Timed.{moments_of, StandsIn, HaveStood, IsTimed, StaysTimed}
use Rattle.call_history.specs.TimedLaws.{stands-both, moments-both, timed-added}
use Rattle.attendant.specs.Posts.{Post, AreAmong, IsStillAt}
use Rattle.thread_play.specs.Runs.{HaveReading}
use Rattle.thread_play.proofs.Callers.{IsAtOnce}

-- moments among readings, as lists that are cut behind each
stands-later : (m : ℕ) (ms : List ℕ) (r : ℕ) (rs : List ℕ) → StandsIn (m ∷ ms) rs → StandsIn (m ∷ ms) (r ∷ rs)
stands-later m ms r rs (front, back, is, rest) = (r ∷ front, back, ap (λ (l : List ℕ). r ∷ l) is, rest)

among-stands : (rs ms : List ℕ) → AreAmong rs ms → StandsIn ms rs
among-stands [] [] a = tt
among-stands [] (m ∷ ms) a = absurd a
among-stands (r ∷ rs) [] a = tt
among-stands (r ∷ rs) (m ∷ ms) a = elim a [
  | inl here ↦ ([], rs, ap (λ (k : ℕ). k ∷ rs) (sym here.0), among-stands rs ms here.1)
  | inr later ↦ stands-later m ms r rs (among-stands rs (m ∷ ms) later)
]

moments-at-once : (es : List Entry) → AllByRecursion IsAtOnce es → moments_of es ≡ map (λ (e : Entry). e.at) es
moments-at-once [] all = refl
moments-at-once (e ∷ es) all = ap (λ (l : List ℕ). (l ++ e.at ∷ []) ++ moments_of es) all.0 ∙ ap (λ (l : List ℕ). e.at ∷ l) (moments-at-once es all.1)

front-at-once : (xs ys : List Entry) → AllByRecursion IsAtOnce (xs ++ ys) → AllByRecursion IsAtOnce xs
front-at-once [] ys all = tt
front-at-once (x ∷ xs) ys all = (all.0, front-at-once xs ys all.1)

behind-at-once : (xs ys : List Entry) → AllByRecursion IsAtOnce (xs ++ ys) → AllByRecursion IsAtOnce ys
behind-at-once [] ys all = all
behind-at-once (x ∷ xs) ys all = behind-at-once xs ys all.1

-- the entries that were added stand among the readings that were given meanwhile
added-stands : (old new : Post) (s : IsStillAt old new) → AllByRecursion IsAtOnce s.added → StandsIn (moments_of s.added) s.readings
added-stands old new s added = subst (λ (ms : List ℕ). StandsIn ms s.readings) (sym (moments-at-once s.added added)) (among-stands s.readings (map (λ (e : Entry). e.at) s.added) s.timed)

-- entries that no wait makes go on to be timed
pub still-timed : (old new : Post) → IsStillAt old new → AllByRecursion IsAtOnce (mine_of new.client) → StaysTimed (mine_of old.client) old.clock.given (mine_of new.client) new.clock.given
still-timed old new s all =
    let added = behind-at-once (mine_of old.client) s.added (subst (AllByRecursion IsAtOnce) s.mine all) in
    subst (λ (es : List Entry). StaysTimed (mine_of old.client) old.clock.given es new.clock.given) (sym s.mine) (timed-added old.clock.given new.clock.given s.readings (mine_of old.client) s.added s.gave (added-stands old new s added))

none-stood : (told : Option (List ℕ)) (es : List Entry) → es ≡ [] → HaveStood es told
none-stood None es none = tt
none-stood (Some readings) es none = subst (λ (l : List Entry). StandsIn (moments_of l) readings) (sym none) tt

-- no entry is timed by any clock of its caller
pub none-timed : (caller : Option ℕ) (given : Readings) (es : List Entry) → given.caller ≡ caller → es ≡ [] → IsTimed caller es given
none-timed caller given es whose none = record { caller = whose; moments = none-stood given.told es none }

-- ---- a reading of a call, among all that its clock told

given-between : (before after mid last : Option (List ℕ)) (at : ℕ) (first rest : List Entry) (more most : List ℕ) → GoesOn before at after → HasGiven after more mid → HasGiven mid most last
    → HaveStood first before → StandsIn (moments_of rest) (more ++ most) → IfSome last (HaveReading first rest at)
given-between before after mid None at first rest more most r a b t s = tt
given-between before after None (Some last) at first rest more most r a b t s = absurd b
given-between before None (Some mid) (Some last) at first rest more most r a b t s = absurd a
given-between None (Some after) (Some mid) (Some last) at first rest more most r a b t s = absurd r
given-between (Some before) (Some after) (Some mid) (Some last) at first rest more most r a b t s = record {
  earlier = before;
  later = more ++ most;
  are = b ∙ (ap (λ (l : List ℕ). l ++ most) (a ∙ ap (λ (l : List ℕ). l ++ more) r) ∙ (append_assoc (before ++ at ∷ []) more most ∙ append_assoc before (at ∷ []) (more ++ most)));
  made = t;
  to_come = s;
}

-- it is behind the moments of the entries that its caller had made, and before those of the others
pub read-between : (old mid last before after : Post) (caller : Option ℕ) (at : ℕ) → IsStillAt old before → Reads before.clock.given at after.clock.given → (m : IsStillAt after mid) → (n : IsStillAt mid last)
    → AllByRecursion IsAtOnce (mine_of before.client ++ (m.added ++ n.added)) → IsTimed caller (mine_of old.client) old.clock.given → IfSome last.clock.given.told (HaveReading (mine_of before.client) (m.added ++ n.added) at)
read-between old mid last before after caller at first told m n all t =
    let made = front-at-once (mine_of before.client) (m.added ++ n.added) all in
    let others = behind-at-once (mine_of before.client) (m.added ++ n.added) all in
    let more = added-stands after mid m (front-at-once m.added n.added others) in
    let most = added-stands mid last n (behind-at-once m.added n.added others) in
    given-between before.clock.given.told after.clock.given.told mid.clock.given.told last.clock.given.told at (mine_of before.client) (m.added ++ n.added) m.readings n.readings told.told m.gave.told n.gave.told
    (still-timed old before first made caller t).moments
    (subst (λ (ms : List ℕ). StandsIn ms (m.readings ++ n.readings)) (sym (moments-both m.added n.added)) (stands-both (moments_of m.added) (moments_of n.added) m.readings n.readings more most))

-- a client was told what others had seen, before its desk went on
pub told-on : (shared : Named Config) (a b : Seat) (clock : Dial) (new : Post) → IsStillThere shared a shared b → mine_of b ≡ mine_of a
    → IsStillAt (record { shared = shared; client = b; clock = clock }) new → IsStillAt (record { shared = shared; client = a; clock = clock }) new
told-on shared a b clock new s same m = record {
  shared_is = m.shared_is;
  client = m.client;
  number = m.number ∙ s.number;
  begins = begins-both (seen_of a) (seen_of b) (seen_of new.client) s.begins m.begins;
  own = λ o. m.own (s.own o);
  legal = λ l. m.legal (s.legal l);
  least = m.least;
  readings = m.readings;
  gave = m.gave;
  added = m.added;
  mine = m.mine ∙ ap (λ (es : List Entry). es ++ m.added) same;
  timed = m.timed;
}
