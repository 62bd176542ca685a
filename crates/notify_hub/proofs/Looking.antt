-- How a hub's client goes on from look to look, and how it learns what was seen before.
use Rattle.std.proofs.Common.{◌≡◌, ℕ, ◌+◌, ◌-◌, ◌<◌, ◌≤◌, ◌^◌, List, [], ◌++◌, length, drop, take, refl, sym, ap, ◌∙◌, arith, append-nil, ◌==◌}
use Rattle.std.specs.Prelude.{min}
use Rattle.std.specs.List.{prefix_len}
use Rattle.std.proofs.lemmas.List.{append_cancel_left}
use Rattle.std.proofs.lemmas.List.Elements.{filter-append}
use Rattle.drmaa_types.specs.declared.changes.Change.{Change}
use Rattle.drmaa_model.specs.declared.configs.Config.{Config}
use Rattle.drmaa_model.specs.declared.entries.Entry.{Entry}
use Rattle.drmaa_model.specs.declared.looks.Answer.{Answer}
use Rattle.drmaa_model.specs.declared.looks.Question.{Question}
use Rattle.drmaa_model.specs.History.{IsLegal}
use Rattle.turn_lock.specs.Histories.{BeginsWith}
use Rattle.turn_lock.specs.Tokens.{Named, IsFree}
use Rattle.call_history.specs.Callers.{calls_of}
use Rattle.call_history.specs.Calls.{IsLookedAt}
use Rattle.call_history.specs.ClientLaws.{more-both}
use Rattle.call_history.specs.Clients.{Seat, seen_of, mine_of, number_of, KnowsItsOwn, SeesMore}
use Rattle.call_history.specs.Clocks.{Dial}
use Rattle.call_history.specs.Timed.{StaysTimed}
use Rattle.call_history.specs.TimedLaws.{timed-look}
use Rattle.notify_hub.specs.Hubs.{LooksOn}
use Rattle.change_callbacks.specs.Places.{changes_of, is_up_to, AreCountable}
use Rattle.notify_hub.proofs.Growing.{changes-begin, begins-length, place-count}

-- the client looked any number of times, or not at all
pub record SoFar (shared : Named Config) (before : Dial) (old : Seat) (now : Dial) (new : Seat) : Type 0 where
  pub client : IsFree shared new
  pub number : number_of new ≡ number_of old
  pub more : SeesMore old new
  pub rises : before.least ≤ now.least
  pub timed : StaysTimed (mine_of old) before.given (mine_of new) now.given

pub so-far-first : (shared : Named Config) (now : Dial) (seat : Seat) → IsFree shared seat → SoFar shared now seat now seat
so-far-first shared now seat free = record {
  client = free;
  number = refl;
  more = record { between = []; seen = sym (append-nil (seen_of seat)); others = refl; mine = refl };
  rises = omega arith;
  timed = λ caller t. t;
}

pub so-far-of : (shared : Named Config) (before now : Dial) (old new : Seat) → LooksOn shared before old now new → SoFar shared before old now new
so-far-of shared before now old new l = record { client = l.client; number = l.number; more = l.more; rises = l.rises; timed = l.timed }

pub looks-then : (shared : Named Config) (before now after : Dial) (old mid new : Seat) → SoFar shared before old now mid → LooksOn shared now mid after new → LooksOn shared before old after new
looks-then shared before now after old mid new s l = record {
  client = l.client;
  number = l.number ∙ s.number;
  more = more-both old mid new s.more s.number l.more;
  own = l.own;
  legal = l.legal;
  rises = (let first = s.rises in let then = l.rises in omega (arith, first, then));
  timed = λ caller t. l.timed caller (s.timed caller t);
}

-- one look
pub looks-once : (shared : Named Config) (before after : Dial) (old new : Seat) (asked : Question) (answer : Answer) → IsFree shared new → number_of new ≡ number_of old → KnowsItsOwn new
    → IsLegal shared.fixed (seen_of new) → IsLookedAt shared.fixed before old asked answer after new → LooksOn shared before old after new
looks-once shared before after old new asked answer free number own legal is = record {
  client = free;
  number = number;
  more = is.more;
  own = own;
  legal = legal;
  rises = (let least = is.read.least in let rising = is.read.rising in omega (arith, least, rising));
  timed = timed-look shared.fixed before after old new asked answer is;
}

pub begins-of : (old new : Seat) → SeesMore old new → BeginsWith (seen_of new) (seen_of old)
begins-of old new m = record { rest = m.between; whole = m.seen }

-- ---- the place of a callback is counted

pub record IsCount (shared : Named Config) (old : Seat) (place count next : ℕ) (seen : List Entry) : Type 0 where
  pub is : count ≡ min 64 (length (changes_of shared.fixed (seen_of old)) - place)
  pub inside : place ≤ length (changes_of shared.fixed (seen_of old))
  pub most : length (changes_of shared.fixed (seen_of old)) ≤ length (changes_of shared.fixed seen)

pub count-is : (shared : Named Config) (before after : Dial) (old new : Seat) (entry place count : ℕ) (batch : List Change) → LooksOn shared before old after new → entry ≡ length (seen_of old)
    → place ≤ length (changes_of shared.fixed (seen_of old)) → batch ≡ take 64 (drop place (changes_of shared.fixed (seen_of new))) → count ≡ prefix_len (is_up_to entry) batch
    → IsCount shared old place count (place + count) (seen_of new)
count-is shared before after old new entry place count batch l entry_is inside batch_is count_is =
    let b = begins-of old new l.more in
    record {
      is = count_is ∙ ap (prefix_len (is_up_to entry)) batch_is ∙ place-count shared.fixed (seen_of old) (seen_of new) entry place l.legal b entry_is inside;
      inside = inside;
      most = begins-length (changes_of shared.fixed (seen_of old)) (changes_of shared.fixed (seen_of new)) (changes-begin shared.fixed (seen_of old) (seen_of new) l.legal b);
    }

pub counted-none : (shared : Named Config) (old : Seat) (place count : ℕ) (seen : List Entry) → IsCount shared old place count (place + count) seen → (place + count < 2 ^ 64 → ⊥) → AreCountable shared.fixed seen → ⊥
counted-none shared old place count seen c high few = (let a = c.is in let b = c.inside in let d = c.most in high (omega (arith, a, b, d, few)))

pub counted-some : (shared : Named Config) (old : Seat) (place count : ℕ) (seen : List Entry) → IsCount shared old place count (place + count) seen → count < 64
    → place + count ≡ length (changes_of shared.fixed (seen_of old))
counted-some shared old place count seen c few = (let a = c.is in let b = c.inside in omega (arith, a, b, few))

pub counted-on : (shared : Named Config) (old : Seat) (place count : ℕ) (seen : List Entry) → IsCount shared old place count (place + count) seen
    → place + count ≤ length (changes_of shared.fixed (seen_of old))
counted-on shared old place count seen c = (let a = c.is in let b = c.inside in omega (arith, a, b))

-- ---- what was seen before is learnt

nothing-more : (n : ℕ) (a b c : List Entry) → c ≡ a ++ b → calls_of c n ≡ calls_of a n → calls_of b n ≡ []
nothing-more n a b c whole same =
    append_cancel_left (calls_of a n) (calls_of b n) [] (sym (filter-append (λ (e : Entry). e.caller.0 == n) a b) ∙ (ap (λ (l : List Entry). calls_of l n) (sym whole) ∙ (same ∙ sym (append-nil (calls_of a n)))))

-- a client that knows its own entries, and has learnt more, has learnt of entries of others alone
pub learnt-more : (old new : Seat) → KnowsItsOwn old → KnowsItsOwn new → number_of new ≡ number_of old → mine_of new ≡ mine_of old → BeginsWith (seen_of new) (seen_of old) → SeesMore old new
learnt-more old new first second number mine b = record {
  between = b.rest;
  seen = b.whole;
  others = nothing-more (number_of old) (seen_of old) b.rest (seen_of new) b.whole
      (ap (calls_of (seen_of new)) (sym number) ∙ (sym second ∙ (mine ∙ first)));
  mine = mine;
}
