-- How lists of steps are made, one behind another, and where they stop.
use Rattle.std.proofs.Common.{◌≡◌, ℕ, ◌≤◌, List, [], ◌∷◌, ◌++◌, refl, sym, ap, subst, ◌∙◌, append_assoc, append-nil, arith, Result, Ok, Err, IfOk, IfErr}
use Rattle.drmaa_types.specs.declared.refusals.Refusal.{Refusal}
use Rattle.drmaa_types.specs.declared.states.WaitKind.TheVariants as until
use Rattle.drmaa_model.specs.declared.calls.Call.{Call}
use Rattle.drmaa_model.specs.declared.calls.Call.TheVariants as call
use Rattle.drmaa_model.specs.declared.configs.Config.{Config}
use Rattle.drmaa_model.specs.declared.entries.Entry.{Entry}
use Rattle.drmaa_model.specs.declared.replies.Reply.{Reply}
use Rattle.drmaa_model.specs.declared.replies.Reply.TheVariants as reply
use Rattle.turn_lock.specs.Histories.{BeginsWith}
use Rattle.turn_lock.specs.Tokens.{Named}
use Rattle.call_history.specs.Calls.{entry_by, IsServed}
use Rattle.call_history.specs.ClientLaws.{begins-made, begins-more}
use Rattle.call_history.specs.Clients.{Seat, seen_of, mine_of, number_of, StaysAt, IsStillAt}
use Rattle.call_history.specs.Clocks.{Dial, IsReading}
use Rattle.call_history.specs.Refused.{IsRefused}
use Rattle.call_history.specs.Refused.IsRefused.{by_entry as refused_by_entry, by_fault as refused_by_fault}
use Rattle.wait_calls.specs.Waited.{readings_of}
use Rattle.wait_calls.proofs.Waiting.{climbed}
use Rattle.wait_calls.proofs.Seats.{still-stays}
use Rattle.drmaa1_face.specs.Posts.{Post}
use Rattle.drmaa1_face.specs.Steps.{Ask, at_once, waiting, Step, reads, enters, Enters, Takes, Follows, AreEntriesOf, IsMade, Halts, Stops}
use Rattle.drmaa1_face.specs.Steps.Halts.{by_entry, by_fault}

-- ---- chains of steps

follows-both : (config : Config) (old mid new : Post) (xs ys : List Step) → Follows config old xs mid → Follows config mid ys new → Follows config old (xs ++ ys) new
follows-both config old mid new [] ys f g = subst (λ (p : Post). Follows config p ys new) f g
follows-both config old mid new (x ∷ xs) ys (next, same, takes, rest) g = (next, same, takes, follows-both config next mid new xs ys rest g)

follows-number : (config : Config) (old new : Post) (xs : List Step) → Follows config old xs new → number_of new.client ≡ number_of old.client
follows-number config old new [] f = ap (λ (p : Post). number_of p.client) f
follows-number config old new (x ∷ xs) (next, same, takes, rest) = follows-number config next new xs rest ∙ same

entries-both : (number : ℕ) (xs ys : List Step) (es fs : List Entry) → AreEntriesOf number xs es → AreEntriesOf number ys fs → AreEntriesOf number (xs ++ ys) (es ++ fs)
entries-both number [] ys [] fs a b = b
entries-both number [] ys (e ∷ es) fs a b = absurd a
entries-both number (reads at ∷ xs) ys es fs a b = entries-both number xs ys es fs a b
entries-both number (enters q told ∷ xs) ys [] fs a b = absurd a
entries-both number (enters q told ∷ xs) ys (e ∷ es) fs a b = (a.0, entries-both number xs ys es fs a.1 b)

pub made-none : (config : Config) (old : Post) → IsMade config old [] old
made-none config old = record { follows = refl; added = []; entries = tt; mine = sym (append-nil (mine_of old.client)) }

pub made-both : (config : Config) (old mid new : Post) (xs ys : List Step) → IsMade config old xs mid → IsMade config mid ys new → IsMade config old (xs ++ ys) new
made-both config old mid new xs ys a b = record {
  follows = follows-both config old mid new xs ys a.follows b.follows;
  added = a.added ++ b.added;
  entries = entries-both (number_of old.client) xs ys a.added b.added a.entries (subst (λ (n : ℕ). AreEntriesOf n ys b.added) (follows-number config old mid xs a.follows) b.entries);
  mine = b.mine ∙ (ap (λ (l : List Entry). l ++ b.added) a.mine ∙ append_assoc (mine_of old.client) a.added b.added);
}

pub made-read : (config : Config) (old new : Post) (at : ℕ) → new.client ≡ old.client → IsReading old.clock at new.clock → IsMade config old (reads at ∷ []) new
made-read config old new at same read = record {
  follows = (new, ap number_of same, (same, read), refl);
  added = [];
  entries = tt;
  mine = ap mine_of same ∙ sym (append-nil (mine_of old.client));
}

pub made-one : (config : Config) (old new : Post) (a : Ask) (told : Reply) → number_of new.client ≡ number_of old.client → Enters config old a told new → IsMade config old (enters a told ∷ []) new
made-one config old new (at_once c) told same s = record {
  follows = (new, same, s, refl);
  added = entry_by (number_of old.client) s.at c told ∷ [];
  entries = (refl, tt);
  mine = s.made.mine;
}
made-one config old new (waiting session jobs begun timeout) told same w = record {
  follows = (new, same, w, refl);
  added = entry_by (number_of old.client) w.waited.last (call.Wait session jobs until.Terminated w.waited.begun timeout) told ∷ [];
  entries = (ap (λ (b : ℕ). entry_by (number_of old.client) w.waited.last (call.Wait session jobs until.Terminated b timeout) told) w.begins, tt);
  mine = w.waited.decided.mine;
}

-- ---- no reading is below an earlier one

takes-least : (config : Config) (old new : Post) (s : Step) → Takes config old s new → old.clock.least ≤ new.clock.least
takes-least config old new (reads at) t = omega (arith, t.1.least, t.1.rising)
takes-least config old new (enters (at_once c) told) t = omega (arith, t.read.least, t.read.rising)
takes-least config old new (enters (waiting session jobs begun timeout) told) t =
    let d = climbed t.waited.begun t.waited.last (readings_of t.waited.looks) t.waited.climb in
    omega (arith, t.waited.least, d, t.waited.rising)

pub follows-least : (config : Config) (old new : Post) (xs : List Step) → Follows config old xs new → old.clock.least ≤ new.clock.least
follows-least config old new [] f = let e : new.clock.least ≡ old.clock.least = ap (λ (p : Post). p.clock.least) f in omega (arith, e)
follows-least config old new (x ∷ xs) f =
    let a = takes-least config old f.0 x f.2 in
    let b = follows-least config f.0 new xs f.3 in
    omega (arith, a, b)

-- ---- where a list stops

pub halts-behind : (config : Config) (old mid new : Post) (xs front : List Step) (a : Ask) (why : Refusal) → IsMade config old xs mid → Halts config mid front a why new → Halts config old (xs ++ front) a why new
halts-behind config old mid new xs front a why made (by_entry m) =
    by_entry (subst (λ (l : List Step). IsMade config old l new) (sym (append_assoc xs front (enters a (reply.Refused why) ∷ []))) (made-both config old mid new xs (front ++ enters a (reply.Refused why) ∷ []) made m))
halts-behind config old mid new xs front a why made (by_fault at m fails mine) = by_fault at (made-both config old mid at xs front made m) fails mine

pub stops-first : (config : Config) (old new : Post) (a : Ask) (told : Reply) (back : List Step) (why : Refusal) → Halts config old [] a why new → Stops config old (enters a told ∷ back) why new
stops-first config old new a told back why h = record { front = []; a = a; told = told; back = back; split = refl; halts = h }

pub stops-behind : (config : Config) (old mid new : Post) (xs ys : List Step) (why : Refusal) → IsMade config old xs mid → Stops config mid ys why new → Stops config old (xs ++ ys) why new
stops-behind config old mid new xs ys why made s = record {
  front = xs ++ s.front;
  a = s.a;
  told = s.told;
  back = s.back;
  split = ap (λ (l : List Step). xs ++ l) s.split ∙ sym (append_assoc xs s.front (enters s.a s.told ∷ s.back));
  halts = halts-behind config old mid new xs s.front s.a why made s.halts;
}

pub stops-before : (config : Config) (old new : Post) (xs ys : List Step) (why : Refusal) → Stops config old xs why new → Stops config old (xs ++ ys) why new
stops-before config old new xs ys why s = record {
  front = s.front;
  a = s.a;
  told = s.told;
  back = s.back ++ ys;
  split = ap (λ (l : List Step). l ++ ys) s.split ∙ append_assoc s.front (enters s.a s.told ∷ s.back) ys;
  halts = s.halts;
}

-- ---- calls that are answered at once

pub halts-asked : (config : Config) (old new : Post) (c : Call) (why : Refusal) → number_of new.client ≡ number_of old.client → IsRefused config old.clock old.client c why new.clock new.client → Halts config old [] (at_once c) why new
halts-asked config old new c why same (refused_by_entry s) = by_entry (made-one config old new (at_once c) (reply.Refused why) same s)
halts-asked config old new c why same (refused_by_fault f is u) = by_fault old (made-none config old) (f, is, u) u.more.mine

-- what was seen is a beginning of what is seen then
begins-asked : {T : Type 0} (config : Config) (before after : Dial) (old new : Seat) (asked : Call) (tell : T → Reply) (result : Result T Refusal)
    → IfOk result (λ told. IsServed before old asked (tell told) after new) → IfErr result (λ why. IsRefused config before old asked why after new) → BeginsWith (seen_of new) (seen_of old)
begins-asked config before after old new asked tell (Ok told) good bad = begins-made old new (entry_by (number_of old) good.at asked (tell told)) good.made
begins-asked config before after old new asked tell (Err why) good (refused_by_entry s) = begins-made old new (entry_by (number_of old) s.at asked (reply.Refused why)) s.made
begins-asked config before after old new asked tell (Err why) good (refused_by_fault f is u) = begins-more old new u.more

pub still-asked : {T : Type 0} (shared next : Named Config) (before after : Dial) (old new : Seat) (asked : Call) (tell : T → Reply) (result : Result T Refusal) → StaysAt shared old next new
    → IfOk result (λ told. IsServed before old asked (tell told) after new) → IfErr result (λ why. IsRefused shared.fixed before old asked why after new) → IsStillAt shared old next new
still-asked shared next before after old new asked tell result stays good bad = still-stays shared next old new stays (begins-asked shared.fixed before after old new asked tell result good bad)

-- ---- a list behind another, at a desk that is still at its machine

module _ (shared next : Named Config) (same : next ≡ shared) (old mid new : Post) (xs ys : List Step) (made : IsMade shared.fixed old xs mid) where
  pub made-then : IsMade next.fixed mid ys new → IsMade shared.fixed old (xs ++ ys) new
  made-then m = made-both shared.fixed old mid new xs ys made (subst (λ (n : Named Config). IsMade n.fixed mid ys new) same m)

  pub stops-then : (why : Refusal) → Stops next.fixed mid ys why new → Stops shared.fixed old (xs ++ ys) why new
  stops-then why s = stops-behind shared.fixed old mid new xs ys why made (subst (λ (n : Named Config). Stops n.fixed mid ys why new) same s)

  pub halts-then : (a : Ask) (told : Reply) (back : List Step) (why : Refusal) → Halts next.fixed mid [] a why new → Stops shared.fixed old (xs ++ enters a told ∷ back) why new
  halts-then a told back why h =
      stops-behind shared.fixed old mid new xs (enters a told ∷ back) why made (stops-first shared.fixed mid new a told back why (subst (λ (n : Named Config). Halts n.fixed mid [] a why new) same h))
