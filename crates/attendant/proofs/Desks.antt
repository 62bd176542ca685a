-- What a call of a desk says of its client's own list.
use Rattle.std.proofs.Common.{◌≡◌, inl, inr, ℕ, Bool, true, false, ◌||◌, List, [], ◌∷◌, ◌++◌, map, eqb, Some, None, cond, arith, eq-eqb, refl, sym, ap, ◌∙◌, subst, append_assoc, append-nil}
use Rattle.std.proofs.lemmas.Bool.{false_from_ne_true, or_right}
use Rattle.std.specs.Prelude.{Result, Ok, Err, IfOk, IfErr, is_ok}
use Rattle.std.specs.Option.{option_map_or}
use Rattle.std.proofs.lemmas.List.{map-append, same_from_push}
use Rattle.std.proofs.lemmas.List.Elements.{filter-append}
use Rattle.drmaa_types.specs.declared.identifiers.JobId.{JobId}
use Rattle.drmaa_model.specs.declared.calls.Call.{Call}
use Rattle.drmaa_model.specs.declared.calls.Call.TheVariants as call
use Rattle.drmaa_model.specs.declared.configs.Config.{Config}
use Rattle.drmaa_model.specs.declared.entries.Entry.{Entry}
use Rattle.drmaa_model.specs.declared.replies.Launch.{Launch}
use Rattle.drmaa_model.specs.declared.replies.Signal.{Signal}
use Rattle.drmaa_model.specs.declared.replies.Reply.{Reply}
use Rattle.drmaa_model.specs.declared.replies.Reply.TheVariants as reply
use Rattle.drmaa_model.specs.Effects.{gives}
use Rattle.drmaa_model.specs.History.{IsLegal, replay}
use Rattle.drmaa_model.specs.HistoryLaws.{legal-last, legal-prefix}
use Rattle.drmaa_model.specs.RecordedCalls.{recorded}
use Rattle.drmaa_model.specs.LegalRunLaws.{launch-is-new}
use Rattle.drmaa_model.specs.Launching.{launch_of}
use Rattle.drmaa_model.specs.Runs.{hands_out, is_launched as was_handed_out}
use Rattle.drmaa_model.specs.Steps.{answer}
use Rattle.drmaa_model.specs.Time.{advance}
use Rattle.drmaa_model.specs.WaitLaws.{HandsOut, launch-hands_out, SendsOut, signal-sends_out}
use Rattle.turn_lock.specs.Histories.{BeginsWith}
use Rattle.turn_lock.specs.Tokens.{Named, IsFree}
use Rattle.call_history.specs.Callers.{calls_of}
use Rattle.call_history.specs.Calls.{entry_by, IsServed, IsUnserved, IsLookedAt}
use Rattle.drmaa_model.specs.declared.looks.Answer.{Answer}
use Rattle.drmaa_model.specs.declared.looks.Question.{Question}
use Rattle.drmaa_model.specs.declared.faults.NoEntry.{NoEntry}
use Rattle.call_history.specs.ClientLaws.{begins-both}
use Rattle.call_history.specs.Clients.{Seat, seen_of, mine_of, number_of, KnowsItsOwn, Makes}
use Rattle.call_history.specs.ClockLaws.{gives-none, gives-one, gives-both}
use Rattle.attendant.specs.Acts.{Duty, TakeLaunch, TakeSignal, duty_of, Act, act_of, acts_of, own_acts, launch_reply, signal_reply, launch_in, launches_run, is_run, is_launched, IsNewLaunch, IsSignal, of}
use Rattle.attendant.specs.Posts.{Post, acts_at, AreAmong, IsStillAt, Succeeds, Fails, FailsWithin}
use Rattle.attendant.specs.PairLaws.{post-itself}
use Rattle.attendant.specs.Steps.{entry_of, Takes, Answers, IsLegalReply, Reports, report_call, asked_start}
use Rattle.attendant.proofs.Entries.{or_cases}

-- what is kept of a call is read as the call
pub recorded-duty : (c : Call) → duty_of (recorded c) ≡ duty_of c
recorded-duty call.Register = refl
recorded-duty _ = refl

-- ---- launches

replies-launch : (job : JobId) (attempt : ℕ) (r : Reply) → option_map_or (λ (l : Launch). is_run l.job l.attempt job attempt) (launch_reply r) false ≡ true → hands_out job.0 attempt r ≡ true
replies-launch job attempt (reply.Launch launch) is = is
replies-launch job attempt _ is = absurd (cc)

duty-launch : (job : JobId) (attempt : ℕ) (d : Duty) (r : Reply) → option_map_or (λ (l : Launch). is_run l.job l.attempt job attempt) (launch_in d r) false ≡ true → hands_out job.0 attempt r ≡ true
duty-launch job attempt TakeLaunch r is = replies-launch job attempt r is
duty-launch job attempt _ r is = absurd (cc)

any-launch : (job : JobId) (attempt : ℕ) (n : ℕ) (es : List Entry) → is_launched job attempt (acts_of (calls_of es n)) ≡ true → was_handed_out es job.0 attempt ≡ true
any-launch job attempt n [] is = absurd (cc)
any-launch job attempt n (e ∷ es) is =
    (elim (eqb e.caller.0 n) as (λ b. eqb e.caller.0 n ≡ b → is_launched job attempt (acts_of (calls_of (e ∷ es) n)) ≡ true → was_handed_out (e ∷ es) job.0 attempt ≡ true) [
      | true ↦ λ t is. or_cases (launches_run job attempt (act_of e)) (is_launched job attempt (acts_of (calls_of es n))) (was_handed_out (e ∷ es) job.0 attempt ≡ true)
          (λ here. ap (λ b. b || was_handed_out es job.0 attempt) (duty-launch job attempt (duty_of e.call) e.reply here))
          (λ there. or_right (hands_out job.0 attempt e.reply) (was_handed_out es job.0 attempt) (any-launch job attempt n es there))
          (rw t at is)
      | false ↦ λ f is. or_right (hands_out job.0 attempt e.reply) (was_handed_out es job.0 attempt) (any-launch job attempt n es (rw f at is))
    ]) refl is

own-last : (e : Entry) (n : ℕ) → e.caller.0 ≡ n → calls_of (e ∷ []) n ≡ e ∷ []
own-last e n same = ap (λ b. cond b (e ∷ []) []) (eq-eqb e.caller.0 n same)

-- the client's own entries before its last one are its entries among those that it had seen then
own-before : (old new : Seat) (e : Entry) → (m : Makes old e new) → e.caller.0 ≡ number_of new → KnowsItsOwn new → mine_of old ≡ calls_of (seen_of old ++ m.between) (number_of new)
own-before old new e m same own =
    let last : calls_of (e ∷ []) (number_of new) ≡ e ∷ [] = own-last e (number_of new) same in
    (same_from_push (mine_of old) (calls_of (seen_of old ++ m.between) (number_of new)) e e
    (sym m.mine ∙ own ∙ ap (λ (l : List Entry). calls_of l (number_of new)) m.seen
    ∙ filter-append (λ (x : Entry). eqb x.caller.0 (number_of new)) (seen_of old ++ m.between) (e ∷ [])
    ∙ ap (λ l. calls_of (seen_of old ++ m.between) (number_of new) ++ l) last)).0

-- ---- what a call is answered

legal-launch : (config : Config) (front : List Entry) (n at : ℕ) (r : Reply) (mine : List Entry) → IsLegal config (front ++ entry_by n at call.TakeLaunch r ∷ [])
    → mine ≡ calls_of front n → IsNewLaunch (acts_of mine) (launch_reply r)
legal-launch config front n at r mine legal own =
    let w = replay config front in
    let e = entry_by n at call.TakeLaunch r in
    let step = legal-last config front e legal in
    let out : HandsOut (advance w at) r (replay config (front ++ e ∷ [])) = launch-hands_out (advance w at) at r (replay config (front ++ e ∷ [])) step.answered in
    let l : Launch = launch_of out.row out.slots in
    let is : answer w at call.TakeLaunch ≡ gives (reply.Launch l) (replay config (front ++ e ∷ [])) = step.answered ∙ ap (λ (x : Reply). gives x (replay config (front ++ e ∷ []))) out.replies in
    let new : was_handed_out front l.job.0 l.attempt ≡ false = launch-is-new config front at l (replay config (front ++ e ∷ [])) (legal-prefix config front (e ∷ []) legal) is in
    subst (λ (x : Reply). IsNewLaunch (acts_of mine) (launch_reply x)) (sym out.replies)
    (false_from_ne_true (is_launched l.job l.attempt (acts_of mine)) (λ t.
    (let own-t : is_launched l.job l.attempt (acts_of (calls_of front n)) ≡ true = ap (λ (x : List Entry). is_launched l.job l.attempt (acts_of x)) (sym own) ∙ t in
    let all = any-launch l.job l.attempt n front own-t in
    absurd (cc (all, new)))))

legal-signal : (config : Config) (front : List Entry) (n at : ℕ) (r : Reply) → IsLegal config (front ++ entry_by n at call.TakeSignal r ∷ []) → IsSignal (signal_reply r)
legal-signal config front n at r legal =
    let w = replay config front in
    let e = entry_by n at call.TakeSignal r in
    let step = legal-last config front e legal in
    let out : SendsOut (advance w at) r (replay config (front ++ e ∷ [])) = signal-sends_out (advance w at) at r (replay config (front ++ e ∷ [])) step.answered in
    subst (λ (x : Reply). IsSignal (signal_reply x)) (sym out.replies) tt

legal-reply : (config : Config) (front : List Entry) (n at : ℕ) (c : Call) (r : Reply) (mine : List Entry) → IsLegal config (front ++ entry_by n at c r ∷ [])
    → mine ≡ calls_of front n → IsLegalReply (acts_of mine) (duty_of c) r
legal-reply config front n at call.TakeLaunch r mine legal own = legal-launch config front n at r mine legal own
legal-reply config front n at call.TakeSignal r mine legal own = legal-signal config front n at r legal
legal-reply config front n at _ r mine legal own = tt

-- the entry that a call made, in the client's own list
pub answers : (config : Config) (old new : Seat) (at : ℕ) (c : Call) (r : Reply) → Makes old (entry_by (number_of old) at c r) new → number_of new ≡ number_of old
    → KnowsItsOwn new → IsLegal config (seen_of new) → Answers (number_of old) c r (own_acts old) (own_acts new)
answers config old new at c r m same own legal = record {
  legal = legal-reply config (seen_of old ++ m.between) (number_of old) at c r (mine_of old) (subst (IsLegal config) m.seen legal)
      (own-before old new (entry_by (number_of old) at c r) m (sym same) own ∙ ap (calls_of (seen_of old ++ m.between)) same);
  mine_is = ap acts_of m.mine ∙ map-append act_of (mine_of old) (entry_by (number_of old) at c r ∷ [])
      ∙ ap (λ (d : Duty). own_acts old ++ entry_of (number_of old) d r ∷ []) (recorded-duty c);
}

-- ---- desks

among-none : (readings : List ℕ) → AreAmong readings []
among-none [] = tt
among-none (reading ∷ readings) = tt

among-more : (reading : ℕ) (readings moments : List ℕ) → AreAmong readings moments → AreAmong (reading ∷ readings) moments
among-more reading readings [] a = tt
among-more reading readings (moment ∷ moments) a = inr a

among-both : (first second moments more : List ℕ) → AreAmong first moments → AreAmong second more → AreAmong (first ++ second) (moments ++ more)
among-both [] second [] more a b = b
among-both [] second (moment ∷ moments) more a b = absurd a
among-both (reading ∷ first) second [] more a b = among-more reading (first ++ second) more (among-both first second [] more (among-none first) b)
among-both (reading ∷ first) second (moment ∷ moments) more a b =
    elim a [ inl here ↦ inl (here.0, among-both first second moments more here.1 b) | inr later ↦ inr (among-both first second (moment ∷ moments) more later b) ]

moments-both : (readings : List ℕ) (xs ys : List Entry) → AreAmong readings (map (λ (e : Entry). e.at) xs ++ map (λ (e : Entry). e.at) ys) → AreAmong readings (map (λ (e : Entry). e.at) (xs ++ ys))
moments-both readings xs ys a = subst (AreAmong readings) (sym (map-append (λ (e : Entry). e.at) xs ys)) a

pub still-both : (old mid new : Post) → IsStillAt old mid → IsStillAt mid new → IsStillAt old new
still-both old mid new a b = record {
  shared_is = b.shared_is ∙ a.shared_is;
  client = subst (λ (s : Named Config). IsFree s new.client) a.shared_is b.client;
  number = b.number ∙ a.number;
  begins = begins-both (seen_of old.client) (seen_of mid.client) (seen_of new.client) a.begins b.begins;
  own = λ o. b.own (a.own o);
  legal = λ l. subst (λ (s : Named Config). IsLegal s.fixed (seen_of mid.client) → IsLegal s.fixed (seen_of new.client)) a.shared_is b.legal (a.legal l);
  least = omega arith;
  readings = a.readings ++ b.readings;
  gave = gives-both old.clock.given a.readings mid.clock.given b.readings new.clock.given a.gave b.gave;
  added = a.added ++ b.added;
  mine = b.mine ∙ ap (λ (l : List Entry). l ++ b.added) a.mine ∙ append_assoc (mine_of old.client) a.added b.added;
  timed = moments-both (a.readings ++ b.readings) a.added b.added (among-both a.readings b.readings _ _ a.timed b.timed);
}

-- a desk after a call
pub still-call : (old new : Post) (config : Config) (c : Call) (r : Result Reply NoEntry) → new.shared ≡ old.shared → IsFree old.shared new.client → number_of new.client ≡ number_of old.client
    → KnowsItsOwn new.client → IsLegal old.shared.fixed (seen_of new.client)
    → IfOk r (λ reply. IsServed old.clock old.client c reply new.clock new.client) → IfErr r (λ why. IsUnserved config old.clock old.client c why new.clock new.client) → IsStillAt old new
still-call old new config c (Ok reply) shared free number own legal s err = record {
  shared_is = shared;
  client = free;
  number = number;
  begins = record {
    rest = s.made.between ++ entry_by (number_of old.client) s.at c reply ∷ [];
    whole = s.made.seen ∙ append_assoc (seen_of old.client) s.made.between (entry_by (number_of old.client) s.at c reply ∷ []);
  };
  own = λ o. own;
  legal = λ l. legal;
  least = omega (arith, s.read.least, s.read.rising);
  readings = s.at ∷ [];
  gave = gives-one old.clock.given s.at new.clock.given s.read.told;
  added = entry_by (number_of old.client) s.at c reply ∷ [];
  mine = s.made.mine;
  timed = inl (refl, tt);
}
still-call old new config c (Err why) shared free number own legal ok u = record {
  shared_is = shared;
  client = free;
  number = number;
  begins = record { rest = u.more.between; whole = u.more.seen };
  own = λ o. own;
  legal = λ l. legal;
  least = omega (arith, u.read.least, u.read.rising);
  readings = u.at ∷ [];
  gave = gives-one old.clock.given u.at new.clock.given u.read.told;
  added = [];
  mine = u.more.mine ∙ sym (append-nil _);
  timed = tt;
}

-- a desk after its client learnt of entries, and a look
pub still-look : (old : Post) (mid : Seat) (new : Post) (config : Config) (question : Question) (answer : Answer) → new.shared ≡ old.shared → IsFree old.shared new.client
    → number_of mid ≡ number_of old.client → number_of new.client ≡ number_of mid → mine_of mid ≡ mine_of old.client → BeginsWith (seen_of mid) (seen_of old.client)
    → KnowsItsOwn new.client → IsLegal old.shared.fixed (seen_of new.client) → IsLookedAt config old.clock mid question answer new.clock new.client → IsStillAt old new
still-look old mid new config question answer shared free learnt number mine begins own legal look = record {
  shared_is = shared;
  client = free;
  number = number ∙ learnt;
  begins = begins-both (seen_of old.client) (seen_of mid) (seen_of new.client) begins (record { rest = look.more.between; whole = look.more.seen });
  own = λ o. own;
  legal = λ l. legal;
  least = omega (arith, look.read.least, look.read.rising);
  readings = look.at ∷ [];
  gave = gives-one old.clock.given look.at new.clock.given look.read.told;
  added = [];
  mine = look.more.mine ∙ mine ∙ sym (append-nil _);
  timed = tt;
}

-- what a client learns by a hand-over, and nothing else
pub still-learnt : (old : Post) (seat : Seat) → IsFree old.shared seat → number_of seat ≡ number_of old.client → mine_of seat ≡ mine_of old.client → KnowsItsOwn seat
    → BeginsWith (seen_of seat) (seen_of old.client) → IsLegal old.shared.fixed (seen_of seat) → IsStillAt old (record { shared = old.shared; client = seat; clock = old.clock })
still-learnt old seat free number mine own begins legal = record {
  shared_is = refl;
  client = free;
  number = number;
  begins = begins;
  own = λ o. own;
  legal = λ l. legal;
  least = omega arith;
  readings = [];
  gave = gives-none old.clock.given;
  added = [];
  mine = mine ∙ sym (append-nil _);
  timed = tt;
}

-- where the client stands at the end
pub still-free : (old new : Post) → IsStillAt old new → IsFree new.shared new.client
still-free old new s = subst (λ (n : Named Config). IsFree n new.client) (sym s.shared_is) s.client

-- a call that made no entry between two posts, and its reading among those that were given there
abbrev pub within : (old before after new : Post) (c : Call) (why : NoEntry) → IsStillAt old before → Fails before c why after → IsStillAt after new → FailsWithin old c why new
within old before after new c why a f b = record {
  before = before;
  from_old = a;
  after = after;
  fails = f;
  to_new = b;
  earlier = a.readings;
  later = b.readings;
  read = gives-both old.clock.given a.readings before.clock.given (f.at ∷ b.readings) new.clock.given a.gave
      (gives-both before.clock.given (f.at ∷ []) after.clock.given b.readings new.clock.given (gives-one before.clock.given f.at after.clock.given f.read.told) b.gave);
}

-- a call that made no entry, in a longer time
abbrev pub fails-on : (first old new : Post) (c : Call) (why : NoEntry) → FailsWithin first c why old → IsStillAt old new → FailsWithin first c why new
fails-on first old new c why f b = within first f.before f.after new c why f.from_old f.fails (still-both f.after old new f.to_new b)

abbrev pub fails-from : (first old new : Post) (c : Call) (why : NoEntry) → IsStillAt first old → FailsWithin old c why new → FailsWithin first c why new
fails-from first old new c why a f = within first f.before f.after new c why (still-both first old f.before a f.from_old) f.fails f.to_new

abbrev pub fails-last : (old mid new : Post) (c : Call) (why : NoEntry) → IsStillAt old mid → IsStillAt mid new → Fails mid c why new → FailsWithin old c why new
fails-last old mid new c why a b f = within old mid new new c why a f (post-itself new (still-free mid new b))

-- ---- takes

some_launch : (front : List Act) (r : Reply) (l : Launch) → launch_reply r ≡ Some l → IsNewLaunch front (launch_reply r) → (r ≡ reply.Launch l) × (is_launched l.job l.attempt front ≡ false)
some_launch front (reply.Launch m) l is new =
    let e : m ≡ l = cc in
    (ap reply.Launch e, subst (λ (x : Launch). is_launched x.job x.attempt front ≡ false) e new)
some_launch front _ l is new = absurd (cc)

-- a launch that is taken is of a run that is new among the launcher's own
pub takes : (n : ℕ) (r : Reply) (l : Launch) (mine mine2 : List Act) → launch_reply r ≡ Some l → Answers n call.TakeLaunch r mine mine2 → Takes n mine mine2 l
takes n r l mine mine2 is k =
    let both = some_launch mine r l is k.legal in
    record { is_new = both.1; mine_is = subst (λ (x : Reply). mine2 ≡ mine ++ entry_of n TakeLaunch x ∷ []) both.0 k.mine_is }

pub no_launch : (n : ℕ) (r : Reply) (mine mine2 : List Act) → launch_reply r ≡ None → Answers n call.TakeLaunch r mine mine2 → ⊥
no_launch n r mine mine2 is k = subst (IsNewLaunch mine) is k.legal

some_signal : (r : Reply) (s : Signal) → signal_reply r ≡ Some s → r ≡ reply.Signal s
some_signal (reply.Signal t) s is = (let e : t ≡ s = cc in ap reply.Signal e)
some_signal _ s is = absurd (cc)

pub takes_signal : (n : ℕ) (r : Reply) (s : Signal) (mine mine2 : List Act) → signal_reply r ≡ Some s → Answers n call.TakeSignal r mine mine2
    → mine2 ≡ mine ++ entry_of n TakeSignal (reply.Signal s) ∷ []
takes_signal n r s mine mine2 is k = subst (λ (x : Reply). mine2 ≡ mine ++ entry_of n TakeSignal x ∷ []) (some_signal r s is) k.mine_is

pub serves_launch : (old new : Post) (n : ℕ) (r : Reply) (l : Launch) (mine mine2 : List Act) → launch_reply r ≡ Some l → Answers n call.TakeLaunch r mine mine2 → Succeeds old call.TakeLaunch r new
    → Succeeds old call.TakeLaunch (reply.Launch l) new
serves_launch old new n r l mine mine2 is k s = subst (λ (x : Reply). Succeeds old call.TakeLaunch x new) (some_launch mine r l is k.legal).0 s

pub serves_signal : (old new : Post) (r : Reply) (s : Signal) → signal_reply r ≡ Some s → Succeeds old call.TakeSignal r new → Succeeds old call.TakeSignal (reply.Signal s) new
serves_signal old new r s is x = subst (λ (y : Reply). Succeeds old call.TakeSignal y new) (some_signal r s is) x

pub no_signal : (n : ℕ) (r : Reply) (mine mine2 : List Act) → signal_reply r ≡ None → Answers n call.TakeSignal r mine mine2 → ⊥
no_signal n r mine mine2 is k = subst IsSignal is k.legal

-- whether the report of a start made its entry
pub reports-start : (old new : Post) (began : Bool) (l : Launch) (c : Call) (r : Result Reply NoEntry) → c ≡ asked_start began l → duty_of c ≡ report_call began l
    → IfOk r (λ answer. Answers (number_of old.client) c answer (acts_at old) (acts_at new)) → IfOk r (λ answer. Succeeds old c answer new)
    → IfErr r (λ fault. (acts_at new ≡ acts_at old) × Fails old c fault new) → Reports old began l (is_ok r) new
reports-start old new began l c (Ok answer) is duty made served failed =
    (answer, made.mine_is ∙ ap (λ (d : Duty). acts_at old ++ entry_of (number_of old.client) d answer ∷ []) duty, subst (λ (k : Call). Succeeds old k answer new) is served)
reports-start old new began l c (Err fault) is duty made served failed = failed.0

-- a report of a delivery that made its entry
pub serves-report : (old new : Post) (asked c : Call) (r : Result Reply NoEntry) → c ≡ asked → IfOk r (λ answer. Succeeds old c answer new) → is_ok r ≡ true → (answer : Reply) × Succeeds old asked answer new
serves-report old new asked c (Ok answer) is served good = (answer, subst (λ (k : Call). Succeeds old k answer new) is served)
serves-report old new asked c (Err fault) is served good = absurd (cc)

-- a call that was not answered has a cause
pub err-cause : (old new : Post) (c : Call) (P : Type 0) (r : Result Reply NoEntry) → IfErr r (λ fault. P × Fails old c fault new) → is_ok r ≡ false
    → (fault : NoEntry) × Fails old c fault new
err-cause old new c P (Ok reply) e is = absurd (cc)
err-cause old new c P (Err fault) e is = (fault, e.1)

-- a caller's entries, as launcher and reaper read them
pub own-acts : (es : List Entry) (n : ℕ) → acts_of (calls_of es n) ≡ of (acts_of es) n
own-acts [] n = refl
own-acts (e ∷ es) n =
    elim (eqb e.caller.0 n) as (λ b. acts_of (cond b (e ∷ calls_of es n) (calls_of es n)) ≡ cond b (act_of e ∷ of (acts_of es) n) (of (acts_of es) n)) [
      | true ↦ ap (λ (l : List Act). act_of e ∷ l) (own-acts es n)
      | false ↦ own-acts es n
    ]
