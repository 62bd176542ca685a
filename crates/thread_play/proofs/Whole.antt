-- From what all callers leave to the one history.
use Rattle.std.proofs.Common.{◌≡◌, ◌≢◌, ◌⊎◌, ⊎_elim, inl, inr, ℕ, zero, suc, ◌+◌, ◌<◌, ◌≤◌, true, List, [], ◌∷◌, ◌++◌, map, length, slice_index_or, Option, Some, None, refl, sym, ap, ◌∙◌, subst, append_assoc, append-nil, length-append, arith}
use Rattle.std.specs.Prelude.{IfSome, Result, Ok, Err}
use Rattle.std.specs.List.{slice_get, AllByRecursion}
use Rattle.std.proofs.lemmas.Bool.{cases_eq}
use Rattle.std.proofs.lemmas.List.{get_or_append_left, get_or-map, length-map}
use Rattle.std.proofs.lemmas.Option.{slice_get_within, get_or_from_slice_get, slice_get-get_or}
use Rattle.child_spawner.specs.declared.fates.Asked.{Asked}
use Rattle.child_spawner.specs.declared.fates.Fate.{Fate}
use Rattle.child_spawner.specs.Children.{Told}
use Rattle.drmaa_types.specs.declared.refusals.Refusal.{Refusal}
use Rattle.drmaa_types.specs.declared.refusals.Refusal.TheVariants.{OutOfResource}
use Rattle.drmaa_types.specs.declared.refusals.Limit.TheVariants as limit
use Rattle.drmaa_model.specs.declared.calls.Call.{Call}
use Rattle.drmaa_model.specs.declared.calls.Call.TheVariants as call
use Rattle.drmaa_model.specs.declared.configs.Config.{Config}
use Rattle.drmaa_model.specs.declared.entries.Entry.{Entry}
use Rattle.drmaa_model.specs.declared.faults.NoEntry.TheVariants as no
use Rattle.drmaa_model.specs.declared.looks.Answer.TheVariants as answer
use Rattle.drmaa_model.specs.Consistent.{IsConsistent}
use Rattle.drmaa_model.specs.Fit.{IsFit}
use Rattle.drmaa_model.specs.History.{IsLegal, replay}
use Rattle.drmaa_model.specs.NextLaunch.{settled}
use Rattle.drmaa_model.specs.Plan.{Plan}
use Rattle.drmaa_model.specs.SettledLaws.{IsQuiet}
use Rattle.drmaa_model.specs.Time.{advance, advance_plan}
use Rattle.drmaa_model.specs.RecordedCalls.{recorded}
use Rattle.drmaa_machine.specs.Chronicles.{MakesNone}
use Rattle.attendant.specs.Rounds.{asked_signal}
use Rattle.drmaa_types.specs.Readings.{Readings, GoesOn}
use Rattle.turn_lock.specs.Histories.{BeginsWith, left_of}
use Rattle.turn_lock.specs.Tokens.{Named}
use Rattle.call_history.specs.Callers.{calls_of}
use Rattle.call_history.specs.Clients.{Seat, seen_of, mine_of, number_of, retired_of, KnowsItsOwn, SeesMore}
use Rattle.call_history.specs.ClientLaws.{begins-itself, begins-both}
use Rattle.call_history.specs.Clocks.{dial}
use Rattle.call_history.specs.Timed.{HaveStood, IsTimed}
use Rattle.notify_hub.specs.Hubs.{Following}
use Rattle.change_callbacks.specs.Places.{HavePlaces}
use Rattle.script_lines.specs.declared.lines.Line.{Line}
use Rattle.script_text.specs.declared.scripts.Script.{Script}
use Rattle.script_text.specs.Follows.{lines_of}
use Rattle.script_asks.specs.declared.given.Given.{Given}
use Rattle.script_asks.specs.Plays.{Plays, names_by, setup_names}
use Rattle.attendant.specs.declared.reaper.Held.{Held}
use Rattle.attendant.specs.declared.reaper.Hand.{Hand}
use Rattle.attendant.specs.Acts.{acts_of, Each, is_launched}
use Rattle.attendant.specs.Posts.{Post, IsStillAt, FailsWithin}
use Rattle.attendant.specs.Runs.{is_ended, owed}
use Rattle.attendant.specs.Outside.{Keeps, AgreesOf, IsHeldUp, out_of_memory, full_at_launch, full_at_order, full_at_answer, EndsSettled, IsLaunchersEntry, IsReapersEntry}
use Rattle.attendant.specs.Whole.{AgreesWithOutside, AreAlone}
use Rattle.block_play.specs.declared.stops.Stopped.{Stopped}
use Rattle.block_play.specs.declared.stops.Stopped.TheVariants as stopped
use Rattle.block_play.specs.Played.{IsFullFor, last_moment}
use Rattle.script_journals.specs.Calls.{IsClientsEntry}
use Rattle.beside_clients.specs.HubClients.{FollowsAll}
use Rattle.beside_clients.proofs.Beginnings.{calls-append, calls-begin, begins-shorter, alone, nothing-after}
use Rattle.beside_clients.proofs.Outside.{IsClosed, asked-of, outside-of}
use Rattle.thread_play.specs.declared.firsts.First.{First}
use Rattle.thread_play.specs.declared.workers.Worker.{Worker}
use Rattle.thread_play.specs.Hubs.{HearRun}
use Rattle.thread_play.specs.Stages.{StopsAt, PlaysOn, IsFirst}
use Rattle.thread_play.specs.Others.{HasGoneOn, IsFullAtEnd, by_attendant, by_client, Ends, Others}
use Rattle.thread_play.specs.Runs.{launcher_of, reaper_of, hub_of, names_given, IsRun, PlaysAll, IsSettledAt, IsCutShort, PlaysUpTo, HaveReading, MeetsSize, IsMet, by_block, by_launch, by_order, by_answer, in_setup, behind_setup, EndsBy, HasRun}
use Rattle.thread_play.proofs.Lists.{at-between, some-item}
use Rattle.thread_play.proofs.Clients.{Lists, own_lists}
use Rattle.thread_play.proofs.Callers.{by-caller, clients-aside, IsAtOnce, launcher-at-once, reaper-at-once}
use Rattle.thread_play.proofs.Hearing.{NoneRegisters, hear-run}
use Rattle.thread_play.proofs.Posts.{read-between}

-- what is true of every legal history
pub record Laws (s : Script) : Type 0 where
  pub prefix : (front back : List Entry) → IsLegal s.config (front ++ back) → IsLegal s.config front
  pub consistent : (history : List Entry) → IsLegal s.config history → IsConsistent (replay s.config history)
  pub quiet : (entry at : ℕ) (p : Plan) → IsFit p → settled (advance_plan entry at p) ≡ true → IsQuiet p
  pub whole : (names : List (List ℕ × Given)) (before : ℕ) (block : List Line) (es : List Entry) → ((block ≡ lines_of s.setup) ⊎ ((n : ℕ) × (slice_get s.clients n ≡ Some block)))
      → Plays s names before block es → AllByRecursion IsClientsEntry es

pub fits-all : (s : Script) (history : List Entry) → Laws s → IsLegal s.config history → (front back : List Entry) → history ≡ front ++ back → IsConsistent (replay s.config front)
fits-all s history laws legal front back is = laws.consistent front (laws.prefix front back (subst (IsLegal s.config) is legal))

-- ---- a run that was stopped within setup

cut-first : {C : Type 0} (given : C → Readings) (clocks : List C) (clock : C) (s : Script) (names : List (List ℕ × Given)) (block : List Line) (caller : ℕ) (own seen history : List Entry) (size : ℕ) (config : Config)
    → slice_get clocks caller ≡ Some clock → (given clock).caller ≡ Some caller → config ≡ s.config → BeginsWith history seen
    → calls_of seen caller ≡ own → calls_of history caller ≡ own → StopsAt config s names block own seen (given clock) size → IsCutShort given clocks s names block caller history size
cut-first given clocks clock s names block caller own seen history size config at whose is begins in_seen in_all c = record {
  front = c.front;
  line = c.line;
  back = c.back;
  lines = c.lines;
  played = subst (λ (es : List Entry). Plays s names 0 c.front es) (sym in_all) c.played;
  seen = seen;
  begins = begins;
  own = in_seen ∙ sym in_all;
  clock = clock;
  of_caller = at;
  told = c.told;
  timed = record { caller = sym c.full.read.caller ∙ whose; moments = subst (λ (es : List Entry). HaveStood es c.told.told) (sym in_all) c.timed };
  full = subst (λ (f : Config). IsFullFor f s (names_by s names c.front (calls_of history caller)) (last_moment 0 (calls_of history caller)) c.line seen c.told (given clock) size) is
      (subst (λ (es : List Entry). IsFullFor config s (names_by s names c.front es) (last_moment 0 es) c.line seen c.told (given clock) size) (sym in_all) c.full);
}

each-none : (P : _) (es : List Entry) → es ≡ [] → Each P (acts_of es)
each-none P es none = subst (λ (l : List Entry). Each P (acts_of l)) (sym none) tt

module _ {C : Type 0} (given : C → Readings) (s : Script) (shared : Named Config) (o : Seat) (f : First C) (first : IsFirst given s shared o f) (history : List Entry)
    (laws : Laws s) (config_is : shared.fixed ≡ s.config) (closed : IsClosed shared.fixed o history) where
  first-own : calls_of history 0 ≡ first.own
  first-own = closed.lists 0 first.own (ap (λ (l : Lists). slice_index_or l 0 None) first.retired)

  first-others : (k : ℕ) → 1 ≤ k → calls_of history k ≡ []
  first-others k above = closed.strangers k (subst (λ (l : Lists). length l ≤ k) (sym first.retired) above)

  first-begins : BeginsWith history first.own
  first-begins = begins-both first.own (seen_of o) history first.seen closed.seen

  timed-first : (k : ℕ) (c : C) → slice_get (f.clock ∷ []) k ≡ Some c → IsTimed (Some k) (calls_of history k) (given c)
  timed-first zero c at = let same : f.clock ≡ c = cc in subst (λ (x : C). IsTimed (Some 0) (calls_of history 0) (given x)) same (subst (λ (es : List Entry). IsTimed (Some 0) es (given f.clock)) (sym first-own) first.timed)
  timed-first (suc k) c at = absurd (cc)

  pub stopped-first : (asked : Option (List Asked)) (fate : ℕ → Fate) (size : ℕ) (clocks : List C) → f.played ≡ Err (stopped.Full size) → clocks ≡ f.clock ∷ []
      → HasRun given s history asked asked fate clocks (Some size)
  stopped-first asked fate size clocks is are =
      let legal = subst (λ (c : Config). IsLegal c history) config_is closed.legal in
      let none : (k : ℕ) → 1 ≤ k → calls_of history k ≡ [] = first-others in
      let stops : StopsAt shared.fixed s [] (lines_of s.setup) first.own first.own (given f.clock) size = subst (λ (r : _). PlaysOn shared.fixed s [] (lines_of s.setup) first.own first.own (given f.clock) r) is first.played in
      record {
        run = record {
          legal = legal;
          fits = fits-all s history laws legal;
          setup_first = subst (BeginsWith history) (sym first-own) first-begins;
          launcher = each-none IsLaunchersEntry (calls_of history (launcher_of s)) (none (launcher_of s) (omega arith));
          reaper = each-none IsReapersEntry (calls_of history (reaper_of s)) (none (reaper_of s) (omega arith));
          ended = λ job attempt ends. absurd (let e = none (reaper_of s) (omega arith) in let t = subst (λ (l : List Entry). is_ended job attempt (acts_of l) ≡ true) e ends in cc);
          strangers = λ k above. none k (omega arith);
        };
        timed = λ k c at. timed-first k c (subst (λ (l : List C). slice_get l k ≡ Some c) are at);
        ends = in_setup (cut-first given clocks f.clock s [] (lines_of s.setup) 0 first.own first.own history size shared.fixed (ap (λ (l : List C). slice_get l 0) are) first.timed.caller config_is first-begins first.alone first-own stops)
            (λ k above. none k (omega arith)) refl (ap length are);
      }

  -- the hub that follows setup has followed the run
  pub stopped-heard : {B : Type 0} (hub : Following B) (asked : Option (List Asked)) (fate : ℕ → Fate) (size : ℕ) (clocks : List C) → NoneRegisters s → HasRun given s history asked asked fate clocks (Some size)
      → FollowsAll shared first.own hub → HavePlaces first.own hub.ears.places → HearRun s.config history hub
  stopped-heard hub asked fate size clocks none r follows placed =
      hear-run given s history asked asked fate clocks none shared first.own hub (Some size) r config_is (sym (alone history first-others) ∙ first-own) follows
      (subst (λ (es : List Entry). HavePlaces es hub.ears.places) (sym first-own) placed)

-- ---- a run behind setup

last-of : (config : Config) (history : List Entry) (before : Option (List ℕ)) (at : ℕ) (after : Option (List ℕ)) → GoesOn before at after → settled (advance (replay config history) at).plan ≡ true → IfSome after (IsSettledAt config history)
last-of config history before at None reads now = tt
last-of config history None at (Some readings) reads now = absurd reads
last-of config history (Some earlier) at (Some readings) reads now = record { earlier = earlier; last = at; are = reads; settled_is = now }

record AtRest (config : Config) (history : List Entry) (given : Option (List ℕ)) : Type 0 where
  quiet : IsQuiet (replay config history).plan
  last : IfSome given (IsSettledAt config history)

-- a settled look, as a machine at rest
at-rest : (s : Script) (config : Config) (history : List Entry) (launcher : Post) → Laws s → config ≡ s.config → IsLegal s.config history → history ≡ seen_of launcher.client → EndsSettled config launcher
    → AtRest s.config history launcher.clock.given.told
at-rest s config history launcher laws config_is legal same e =
    let l = e.look in
    let told : answer.Settled true ≡ answer.Settled (settled (advance (replay config (seen_of launcher.client)) l.at).plan) = l.told in
    let here : settled (advance (replay config (seen_of launcher.client)) l.at).plan ≡ true = cc in
    let now : settled (advance (replay s.config history) l.at).plan ≡ true = subst (λ (es : List Entry). settled (advance (replay s.config es) l.at).plan ≡ true) (sym same)
    (subst (λ (c : Config). settled (advance (replay c (seen_of launcher.client)) l.at).plan ≡ true) config_is here) in
    record {
      quiet = laws.quiet ((replay s.config history).entries + 1) l.at (replay s.config history).plan (laws.consistent history legal).fit now;
      last = last-of s.config history e.before.given.told l.at launcher.clock.given.told l.read.told.told now;
    }

-- what a caller that makes no wait left at its last post, as the whole history and the clocks have it
record IsLeftBy {C : Type 0} (given : C → Readings) (clocks : List C) (history : List Entry) (caller : ℕ) (last : Post) : Type 0 where
  begins : BeginsWith history (seen_of last.client)
  own : calls_of history caller ≡ mine_of last.client
  number : number_of last.client ≡ caller
  brief : AllByRecursion IsAtOnce (mine_of last.client)
  clock_is : (clock : C) → slice_get clocks caller ≡ Some clock → given clock ≡ last.clock.given

-- the entries of a caller that made none by its last call
still-own : (old new : Seat) → KnowsItsOwn old → (m : SeesMore old new) → calls_of (seen_of new) (number_of old) ≡ mine_of old
still-own old new own m =
    ap (λ (l : List Entry). calls_of l (number_of old)) m.seen
    ∙ (calls-append (seen_of old) m.between (number_of old)
    ∙ (ap (λ (l : List Entry). calls_of (seen_of old) (number_of old) ++ l) m.others ∙ (append-nil (calls_of (seen_of old) (number_of old)) ∙ sym own)))

-- what a caller had seen where its call met the size has all entries that it had made
seen-own : (old new : Post) (asked : Call) (size caller : ℕ) (f : FailsWithin old asked (no.Journal size) new) → KnowsItsOwn old.client → number_of old.client ≡ caller
    → calls_of (seen_of f.after.client) caller ≡ mine_of f.before.client
seen-own old new asked size caller f own number =
    ap (λ (k : ℕ). calls_of (seen_of f.after.client) k) (sym (f.from_old.number ∙ number)) ∙ still-own f.before.client f.after.client (f.from_old.own own) f.fails.more

-- and it made the others later
mine-later : (old mid last : Post) (asked : Call) (size : ℕ) (f : FailsWithin old asked (no.Journal size) mid) (on : IsStillAt mid last) → mine_of last.client ≡ mine_of f.before.client ++ (f.to_new.added ++ on.added)
mine-later old mid last asked size f on =
    on.mine ∙ (ap (λ (l : List Entry). l ++ on.added) (f.to_new.mine ∙ ap (λ (l : List Entry). l ++ f.to_new.added) f.fails.more.mine) ∙ append_assoc (mine_of f.before.client) f.to_new.added on.added)

-- a call that met the size, as the whole history has it
meets : {C : Type 0} (given : C → Readings) (clocks : List C) (s : Script) (shared : Named Config) (old mid last : Post) (caller : ℕ) (asked : Call) (size : ℕ) (history : List Entry) → shared.fixed ≡ s.config
    → IsLeftBy given clocks history caller last → HasGoneOn shared old mid last → FailsWithin old asked (no.Journal size) mid → MeetsSize given clocks s.config history caller asked size
meets given clocks s shared old mid last caller asked size history config_is left g f =
    let rest : List Entry = f.to_new.added ++ g.on.added in
    let made : calls_of (seen_of f.after.client) caller ≡ mine_of f.before.client = seen-own old mid asked size caller f g.own (sym g.number ∙ left.number) in
    let split : mine_of last.client ≡ mine_of f.before.client ++ rest = mine-later old mid last asked size f g.on in
    let read : IfSome last.clock.given.told (HaveReading (mine_of f.before.client) rest f.fails.at) =
    read-between old mid last f.before f.after (Some (number_of old.client)) f.fails.at f.from_old f.fails.read.told f.to_new g.on (subst (AllByRecursion IsAtOnce) split left.brief) g.timed in
    record {
      seen = seen_of f.after.client;
      begins = begins-both (seen_of f.after.client) (seen_of mid.client) history f.to_new.begins (begins-both (seen_of mid.client) (seen_of last.client) history g.on.begins left.begins);
      rest = rest;
      own = left.own ∙ (split ∙ ap (λ (l : List Entry). l ++ rest) (sym made));
      at = f.fails.at;
      read = λ clock at. subst (λ (o : Readings). IfSome o.told (HaveReading (calls_of (seen_of f.after.client) caller) rest f.fails.at)) (sym (left.clock_is clock at))
          (subst (λ (l : List Entry). IfSome last.clock.given.told (HaveReading l rest f.fails.at)) (sym made) read);
      none = subst (λ (c : Config). MakesNone (replay c (seen_of f.after.client)) f.fails.at (recorded asked) (no.Journal size)) (ap (λ (n : Named Config). n.fixed) (f.from_old.shared_is ∙ g.shared_is) ∙ config_is) f.fails.reason;
    }

held-met : {C : Type 0} (given : C → Readings) (clocks : List C) (s : Script) (shared : Named Config) (l0 l1 r0 r1 launcher reaping : Post) (size : ℕ) (history : List Entry) → shared.fixed ≡ s.config
    → IsLeftBy given clocks history (launcher_of s) launcher → IsLeftBy given clocks history (reaper_of s) reaping → HasGoneOn shared l0 l1 launcher → HasGoneOn shared r0 r1 reaping
    → (why : Refusal) → why ≡ OutOfResource (limit.Journal size) → IsHeldUp l0 l1 r0 r1 (Unit {0}) why → IsMet given clocks s history size
unfolding meets
held-met given clocks s shared l0 l1 r0 r1 launcher reaping size history config_is ll lr gl gr why is (out_of_memory w) = absurd (cc)
held-met given clocks s shared l0 l1 r0 r1 launcher reaping size history config_is ll lr gl gr why is (full_at_launch n w f) =
    let same : n ≡ size = cc in subst (IsMet given clocks s history) same (by_launch (meets given clocks s shared l0 l1 launcher (launcher_of s) call.TakeLaunch n history config_is ll gl f))
held-met given clocks s shared l0 l1 r0 r1 launcher reaping size history config_is ll lr gl gr why is (full_at_order n w f) =
    let same : n ≡ size = cc in subst (IsMet given clocks s history) same (by_order (meets given clocks s shared r0 r1 reaping (reaper_of s) call.TakeSignal n history config_is lr gr f))
held-met given clocks s shared l0 l1 r0 r1 launcher reaping size history config_is ll lr gl gr why is (full_at_answer n signal a w f owes) =
    let same : n ≡ size = cc in
    subst (IsMet given clocks s history) same (by_answer signal a (meets given clocks s shared r0 r1 reaping (reaper_of s) (asked_signal a signal) n history config_is lr gr f)
    (ap (λ (es : List Entry). owed (acts_of es)) (seen-own r0 r1 (asked_signal a signal) n (reaper_of s) f gr.own (sym gr.number ∙ lr.number)) ∙ owes tt))

left-own : {C : Type 0} (ws : List (Worker C)) (rest : Lists) → left_of (own_lists ws ++ rest) ≡ left_of rest
left-own [] rest = refl
left-own (w ∷ ws) rest = left-own ws rest

-- how the play of a client's block stands in the whole history
up-to : {A C : Type 0} (given : C → Readings) (clocks : List C) (clock : C) (s : Script) (shared : Named Config) (names : List (List ℕ × Given)) (block : List Line) (client : Seat) (caller : ℕ) (history : List Entry)
    → slice_get clocks caller ≡ Some clock → (given clock).caller ≡ Some caller → shared.fixed ≡ s.config → BeginsWith history (seen_of client) → calls_of (seen_of client) caller ≡ mine_of client → calls_of history caller ≡ mine_of client
    → (r : Result A Stopped) → r ≢ Err stopped.Memory → PlaysOn shared.fixed s names block (mine_of client) (seen_of client) (given clock) r → PlaysUpTo given clocks s names block caller history
up-to given clocks clock s shared names block client caller history at whose config_is begins in_seen in_all (Ok a) not p = inl (subst (λ (es : List Entry). Plays s names 0 block es) (sym in_all) p)
up-to given clocks clock s shared names block client caller history at whose config_is begins in_seen in_all (Err stopped.Memory) not p = absurd (not refl)
up-to given clocks clock s shared names block client caller history at whose config_is begins in_seen in_all (Err (stopped.Full size)) not p =
    inr (size, cut-first given clocks clock s names block caller (mine_of client) (seen_of client) history size shared.fixed at whose config_is begins in_seen in_all p)

module _ {C T : Type 0} (given : C → Readings) (told : T → Option Told) (s : Script) (names : List (List ℕ × Given)) (shared : Named Config) (o p : Seat) (f : First C)
    (first : IsFirst given s shared o f) (names_are : names ≡ setup_names s first.own) (played : Plays s [] 0 (lines_of s.setup) first.own)
    (asked asked2 : Option (List Asked)) (fate : ℕ → Fate) (clocks : List C) (full : Option ℕ) (x : Others given told s names shared o p asked asked2 fate (f.clock ∷ []) clocks full) where
  front-size : length (Some first.own ∷ own_lists x.ws) ≡ length s.clients + 1
  front-size = let a = length-map x.ws (λ (w : Worker C). Some (mine_of w.client)) in let b = x.count in omega arith

  shape : retired_of p ≡ (Some first.own ∷ own_lists x.ws) ++ Some (mine_of x.launcher.client) ∷ Some (mine_of x.reaping) ∷ Some (mine_of x.hub_seat) ∷ []
  shape = x.retired ∙ ap (λ (l : Lists). l ++ (own_lists x.ws ++ Some (mine_of x.launcher.client) ∷ Some (mine_of x.reaping) ∷ Some (mine_of x.hub_seat) ∷ [])) first.retired

  pub none-left : left_of (retired_of p) ≡ 0
  none-left = ap (λ (l : Lists). left_of l) shape ∙ left-own x.ws (Some (mine_of x.launcher.client) ∷ Some (mine_of x.reaping) ∷ Some (mine_of x.hub_seat) ∷ [])

  module _ (history : List Entry) (laws : Laws s) (config_is : shared.fixed ≡ s.config) (closed : IsClosed shared.fixed p history) where
    -- ---- the entries of each caller

    of-setup : calls_of history 0 ≡ first.own
    of-setup = closed.lists 0 first.own (ap (λ (l : Lists). slice_index_or l 0 None) shape)

    of-client : (i : ℕ) (d : Worker C) → i < length x.ws → calls_of history (i + 1) ≡ mine_of (slice_index_or x.ws i d).client
    of-client i d below =
        let next : i + 1 ≡ suc i = omega arith in
        let size = length-map x.ws (λ (w : Worker C). Some (mine_of w.client)) in
        closed.lists (i + 1) (mine_of (slice_index_or x.ws i d).client)
        (ap (λ (l : Lists). slice_index_or l (i + 1) None) shape
        ∙ (ap (λ (k : ℕ). slice_index_or ((Some first.own ∷ own_lists x.ws) ++ Some (mine_of x.launcher.client) ∷ Some (mine_of x.reaping) ∷ Some (mine_of x.hub_seat) ∷ []) k None) next
        ∙ (get_or_append_left (own_lists x.ws) (Some (mine_of x.launcher.client) ∷ Some (mine_of x.reaping) ∷ Some (mine_of x.hub_seat) ∷ []) None i (omega arith)
        ∙ get_or-map (λ (w : Worker C). Some (mine_of w.client)) x.ws i d None below)))

    of-launcher : calls_of history (length s.clients + 1) ≡ mine_of x.launcher.client
    of-launcher = closed.lists (length s.clients + 1) (mine_of x.launcher.client)
        (ap (λ (l : Lists). slice_index_or l (length s.clients + 1) None) shape
        ∙ at-between (Some first.own ∷ own_lists x.ws) (Some (mine_of x.launcher.client)) None (Some (mine_of x.reaping) ∷ Some (mine_of x.hub_seat) ∷ []) (length s.clients + 1) (sym front-size))

    of-reaper : calls_of history (length s.clients + 2) ≡ mine_of x.reaping
    of-reaper =
        let longer = length-append (Some first.own ∷ own_lists x.ws) (Some (mine_of x.launcher.client) ∷ []) in
        let size = front-size in
        closed.lists (length s.clients + 2) (mine_of x.reaping)
        (ap (λ (l : Lists). slice_index_or l (length s.clients + 2) None) (shape ∙ sym (append_assoc (Some first.own ∷ own_lists x.ws) (Some (mine_of x.launcher.client) ∷ []) (Some (mine_of x.reaping) ∷ Some (mine_of x.hub_seat) ∷ [])))
        ∙ at-between ((Some first.own ∷ own_lists x.ws) ++ Some (mine_of x.launcher.client) ∷ []) (Some (mine_of x.reaping)) None (Some (mine_of x.hub_seat) ∷ []) (length s.clients + 2) (omega arith))

    of-hub_seat : calls_of history (length s.clients + 3) ≡ mine_of x.hub_seat
    of-hub_seat =
        let both : Lists = (Some first.own ∷ own_lists x.ws) ++ Some (mine_of x.launcher.client) ∷ Some (mine_of x.reaping) ∷ [] in
        let size = front-size in
        let longer : length both ≡ length (Some first.own ∷ own_lists x.ws) + 2 = length-append (Some first.own ∷ own_lists x.ws) (Some (mine_of x.launcher.client) ∷ Some (mine_of x.reaping) ∷ []) in
        closed.lists (length s.clients + 3) (mine_of x.hub_seat)
        (ap (λ (l : Lists). slice_index_or l (length s.clients + 3) None)
        (shape ∙ sym (append_assoc (Some first.own ∷ own_lists x.ws) (Some (mine_of x.launcher.client) ∷ Some (mine_of x.reaping) ∷ []) (Some (mine_of x.hub_seat) ∷ [])))
        ∙ at-between both (Some (mine_of x.hub_seat)) None [] (length s.clients + 3) (omega arith))

    -- the hub's client made none
    of-hub : calls_of history (length s.clients + 3) ≡ []
    of-hub = of-hub_seat ∙ x.hub_seat_mine

    beyond-hub : (k : ℕ) → length s.clients + 3 < k → calls_of history k ≡ []
    beyond-hub k above = closed.strangers k (
        let a = ap length shape in
        let b = length-append (Some first.own ∷ own_lists x.ws) (Some (mine_of x.launcher.client) ∷ Some (mine_of x.reaping) ∷ Some (mine_of x.hub_seat) ∷ []) in
        let c = front-size in omega arith)

    of-others : (k : ℕ) → length s.clients + 2 < k → calls_of history k ≡ []
    of-others k above = ⊎_elim
        (λ (is : k ≡ length s.clients + 3). ap (λ (n : ℕ). calls_of history n) is ∙ of-hub)
        (λ (other : k ≡ length s.clients + 3 → ⊥). beyond-hub k (omega arith))
        (cases_eq k (length s.clients + 3))

    -- ---- what stands in beginnings

    known : BeginsWith history (seen_of x.launcher.client)
    known = begins-both (seen_of x.launcher.client) (seen_of p) history x.known closed.seen

    first-known : BeginsWith history first.own
    first-known = begins-both first.own (seen_of p) history (begins-both first.own (seen_of o) (seen_of p) first.seen x.begins) closed.seen

    client-known : (i : ℕ) (d : Worker C) → i < length x.ws → BeginsWith history (seen_of (slice_index_or x.ws i d).client)
    client-known i d below = begins-both (seen_of (slice_index_or x.ws i d).client) (seen_of x.launcher.client) history (x.known_clients i d below) known

    enough : (top : List Entry) (k : ℕ) (seen : List Entry) → BeginsWith top seen → calls_of history k ≡ calls_of seen k → length (calls_of history k) ≤ length (calls_of top k)
    enough top k seen b same = let e = ap length same in let h = begins-shorter (calls_of top k) (calls_of seen k) (calls-begin top seen k b) in omega arith

    -- what the launcher's client and the reaper's have seen is all
    all-within : (top : List Entry) → BeginsWith history top → BeginsWith top (seen_of x.launcher.client) → BeginsWith top (seen_of x.reaping) → history ≡ top
    all-within top within launched reaped = nothing-after history top within
        (by-caller (λ k. length (calls_of history k) ≤ length (calls_of top k)) (length s.clients)
        (enough top 0 first.own (begins-both first.own (seen_of x.launcher.client) top (begins-both first.own (seen_of o) (seen_of x.launcher.client) first.seen x.known_first) launched) (of-setup ∙ sym first.alone))
        (λ i h. let below : i < length x.ws = (let c = x.count in omega arith) in
        let d = some-item x.ws i below in
        let b = (x.clients i d below).back in
        enough top (i + 1) (seen_of (slice_index_or x.ws i d).client) (begins-both (seen_of (slice_index_or x.ws i d).client) (seen_of x.launcher.client) top (x.known_clients i d below) launched)
        (of-client i d below ∙ (b.own ∙ ap (λ (k : ℕ). calls_of (seen_of (slice_index_or x.ws i d).client) k) b.number_is)))
        (enough top (length s.clients + 1) (seen_of x.launcher.client) launched
        (of-launcher ∙ (x.launcher_back.own ∙ ap (λ (k : ℕ). calls_of (seen_of x.launcher.client) k) x.launcher_back.number_is)))
        (enough top (length s.clients + 2) (seen_of x.reaping) reaped
        (of-reaper ∙ (x.reaping_back.own ∙ ap (λ (k : ℕ). calls_of (seen_of x.reaping) k) x.reaping_back.number_is)))
        (λ k above. let e = ap length (of-others k above) in omega arith))

    all-seen : BeginsWith (seen_of x.launcher.client) (seen_of x.reaping) → history ≡ seen_of x.launcher.client
    all-seen reaped = all-within (seen_of x.launcher.client) known (begins-itself (seen_of x.launcher.client)) reaped

    -- ---- the run

    legal : IsLegal s.config history
    legal = subst (λ (c : Config). IsLegal c history) config_is closed.legal

    launches : Each IsLaunchersEntry (acts_of (calls_of history (launcher_of s)))
    launches = subst (λ (es : List Entry). Each IsLaunchersEntry (acts_of es)) (sym of-launcher) x.tends.launches

    reports : Each IsReapersEntry (acts_of (calls_of history (reaper_of s)))
    reports = subst (λ (es : List Entry). Each IsReapersEntry (acts_of es)) (sym of-reaper) x.tends.reports

    is-run : IsRun s history
    is-run = record {
      legal = legal;
      fits = fits-all s history laws legal;
      setup_first = subst (BeginsWith history) (sym of-setup) first-known;
      launcher = launches;
      reaper = reports;
      ended = λ job attempt ends. subst (λ (es : List Entry). is_launched job attempt (acts_of es) ≡ true) (sym of-launcher)
          (x.tends.ended job attempt (subst (λ (es : List Entry). is_ended job attempt (acts_of es) ≡ true) of-reaper ends));
      strangers = of-others;
    }

    -- ---- the clocks

    clocks-size : length clocks ≡ length s.clients + 4
    clocks-size =
        let a = ap length x.clocks_are in
        let b = length-append (map (λ (w : Worker C). w.clock) x.ws) (x.launcher_clock ∷ x.reaping_clock ∷ x.hub_seat_clock ∷ []) in
        let c = length-map x.ws (λ (w : Worker C). w.clock) in
        let d = x.count in omega arith

    -- a clock at a place, as a list that is indexed has it
    at-place : (k : ℕ) (c : C) → slice_get clocks k ≡ Some c → slice_index_or (f.clock ∷ (map (λ (w : Worker C). w.clock) x.ws ++ x.launcher_clock ∷ x.reaping_clock ∷ x.hub_seat_clock ∷ [])) k c ≡ c
    at-place k c at = ap (λ (l : List C). slice_index_or l k c) (sym x.clocks_are) ∙ get_or_from_slice_get clocks k c c at

    launcher-place : (c : C) → slice_get clocks (length s.clients + 1) ≡ Some c → x.launcher_clock ≡ c
    launcher-place c at =
        let size = length-map x.ws (λ (w : Worker C). w.clock) in
        let count = x.count in
        sym (at-between (f.clock ∷ map (λ (w : Worker C). w.clock) x.ws) x.launcher_clock c (x.reaping_clock ∷ x.hub_seat_clock ∷ []) (length s.clients + 1) (omega arith)) ∙ at-place (length s.clients + 1) c at

    reaper-place : (c : C) → slice_get clocks (length s.clients + 2) ≡ Some c → x.reaping_clock ≡ c
    reaper-place c at =
        let size = length-map x.ws (λ (w : Worker C). w.clock) in
        let count = x.count in
        let longer = length-append (f.clock ∷ map (λ (w : Worker C). w.clock) x.ws) (x.launcher_clock ∷ []) in
        sym (ap (λ (l : List C). slice_index_or l (length s.clients + 2) c) (sym (append_assoc (f.clock ∷ map (λ (w : Worker C). w.clock) x.ws) (x.launcher_clock ∷ []) (x.reaping_clock ∷ x.hub_seat_clock ∷ [])))
        ∙ at-between ((f.clock ∷ map (λ (w : Worker C). w.clock) x.ws) ++ x.launcher_clock ∷ []) x.reaping_clock c (x.hub_seat_clock ∷ []) (length s.clients + 2) (omega arith)) ∙ at-place (length s.clients + 2) c at

    hub-place : (c : C) → slice_get clocks (length s.clients + 3) ≡ Some c → x.hub_seat_clock ≡ c
    hub-place c at =
        let size = length-map x.ws (λ (w : Worker C). w.clock) in
        let count = x.count in
        let longer = length-append (f.clock ∷ map (λ (w : Worker C). w.clock) x.ws) (x.launcher_clock ∷ x.reaping_clock ∷ []) in
        sym (ap (λ (l : List C). slice_index_or l (length s.clients + 3) c) (sym (append_assoc (f.clock ∷ map (λ (w : Worker C). w.clock) x.ws) (x.launcher_clock ∷ x.reaping_clock ∷ []) (x.hub_seat_clock ∷ [])))
        ∙ at-between ((f.clock ∷ map (λ (w : Worker C). w.clock) x.ws) ++ x.launcher_clock ∷ x.reaping_clock ∷ []) x.hub_seat_clock c [] (length s.clients + 3) (omega arith)) ∙ at-place (length s.clients + 3) c at

    client-place : (i : ℕ) (d : Worker C) → i < length x.ws → (c : C) → slice_get clocks (i + 1) ≡ Some c → (slice_index_or x.ws i d).clock ≡ c
    client-place i d below c at =
        let next : i + 1 ≡ suc i = omega arith in
        let size = length-map x.ws (λ (w : Worker C). w.clock) in
        sym (ap (λ (k : ℕ). slice_index_or (f.clock ∷ (map (λ (w : Worker C). w.clock) x.ws ++ x.launcher_clock ∷ x.reaping_clock ∷ x.hub_seat_clock ∷ [])) k c) next
        ∙ (get_or_append_left (map (λ (w : Worker C). w.clock) x.ws) (x.launcher_clock ∷ x.reaping_clock ∷ x.hub_seat_clock ∷ []) c i (omega arith)
        ∙ get_or-map (λ (w : Worker C). w.clock) x.ws i d c below)) ∙ at-place (i + 1) c at

    -- the clock of a client stands at its number
    client-clock : (i : ℕ) (d : Worker C) → i < length x.ws → slice_get clocks (i + 1) ≡ Some (slice_index_or x.ws i d).clock
    client-clock i d below =
        let there : i + 1 < length clocks = (let z = clocks-size in let n = x.count in omega arith) in
        let at : slice_get clocks (i + 1) ≡ Some (slice_index_or clocks (i + 1) f.clock) = slice_get-get_or clocks (i + 1) f.clock there in
        at ∙ ap (λ (c : C). Some c) (sym (client-place i d below (slice_index_or clocks (i + 1) f.clock) at))

    timed-by : (k : ℕ) (own : List Entry) (mine c : C) → IsTimed (Some k) own (given mine) → mine ≡ c → calls_of history k ≡ own → IsTimed (Some k) (calls_of history k) (given c)
    timed-by k own mine c t same is = subst (λ (es : List Entry). IsTimed (Some k) es (given c)) (sym is) (subst (λ (y : C). IsTimed (Some k) own (given y)) same t)

    -- behind the reaper comes the hub, and there are no further clocks
    hub-timed : (k : ℕ) → length s.clients + 2 < k → (c : C) → slice_get clocks k ≡ Some c → IsTimed (Some k) (calls_of history k) (given c)
    hub-timed k above c at =
        let here : k ≡ length s.clients + 3 = (let w = slice_get_within clocks k c at in let z = clocks-size in omega arith) in
        subst (λ (n : ℕ). IsTimed (Some n) (calls_of history n) (given c)) (sym here)
        (timed-by (length s.clients + 3) (mine_of x.hub_seat) x.hub_seat_clock c x.hub_seat_timed (hub-place c (subst (λ (n : ℕ). slice_get clocks n ≡ Some c) here at)) of-hub_seat)

    all-timed : (k : ℕ) → (c : C) → slice_get clocks k ≡ Some c → IsTimed (Some k) (calls_of history k) (given c)
    all-timed = by-caller (λ k. (c : C) → slice_get clocks k ≡ Some c → IsTimed (Some k) (calls_of history k) (given c)) (length s.clients)
        (λ c at. timed-by 0 first.own f.clock c first.timed (at-place 0 c at) of-setup)
        (λ i h c at. let below : i < length x.ws = (let n = x.count in omega arith) in
        let d = some-item x.ws i below in
        timed-by (i + 1) (mine_of (slice_index_or x.ws i d).client) (slice_index_or x.ws i d).clock c (x.clients i d below).back.timed (client-place i d below c at) (of-client i d below))
        (λ c at. timed-by (length s.clients + 1) (mine_of x.launcher.client) x.launcher_clock c
        (subst (λ (g : Readings). IsTimed (Some (length s.clients + 1)) (mine_of x.launcher.client) g) (sym x.launcher_given) x.launcher_back.timed) (launcher-place c at) of-launcher)
        (λ c at. timed-by (length s.clients + 2) (mine_of x.reaping) x.reaping_clock c x.reaping_back.timed (reaper-place c at) of-reaper)
        hub-timed

    -- ---- the blocks

    names-given : names ≡ names_given s history
    names-given = names_are ∙ ap (λ (es : List Entry). setup_names s es) (sym of-setup)

    setup-played : Plays s [] 0 (lines_of s.setup) (calls_of history 0)
    setup-played = subst (λ (es : List Entry). Plays s [] 0 (lines_of s.setup) es) (sym of-setup) played

    client-within : (i : ℕ) (block : List Line) → slice_get s.clients i ≡ Some block → i < length x.ws
    client-within i block at = let h = slice_get_within s.clients i block at in let n = x.count in omega arith

    own-seen : (i : ℕ) (d : Worker C) → i < length x.ws → calls_of (seen_of (slice_index_or x.ws i d).client) (i + 1) ≡ mine_of (slice_index_or x.ws i d).client
    own-seen i d below = let b = (x.clients i d below).back in sym (b.own ∙ ap (λ (k : ℕ). calls_of (seen_of (slice_index_or x.ws i d).client) k) b.number_is)

    up-to-all : (i : ℕ) (block : List Line) → slice_get s.clients i ≡ Some block → PlaysUpTo given clocks s (names_given s history) block (i + 1) history
    up-to-all i block at =
        let below = client-within i block at in
        let d = some-item x.ws i below in
        let e = x.clients i d below in
        subst (λ (ns : List (List ℕ × Given)). PlaysUpTo given clocks s ns block (i + 1) history) names-given
        (up-to given clocks (slice_index_or x.ws i d).clock s shared names block (slice_index_or x.ws i d).client (i + 1) history (client-clock i d below) e.back.timed.caller config_is (client-known i d below) (own-seen i d below) (of-client i d below) (slice_index_or x.ws i d).ended e.sufficed (e.played block at))

    whole-client : ((i : ℕ) (d : Worker C) → i < length x.ws → (slice_index_or x.ws i d).ended ≡ Ok tt) → (i : ℕ) (block : List Line) → slice_get s.clients i ≡ Some block
        → Plays s (names_given s history) 0 block (calls_of history (i + 1))
    whole-client well i block at =
        let below = client-within i block at in
        let d = some-item x.ws i below in
        let w = slice_index_or x.ws i d in
        let done : Plays s names 0 block (mine_of w.client) = subst (λ (r : Result (Unit {0}) Stopped). PlaysOn shared.fixed s names block (mine_of w.client) (seen_of w.client) (given w.clock) r) (well i d below) ((x.clients i d below).played block at) in
        subst (λ (ns : List (List ℕ × Given)). Plays s ns 0 block (calls_of history (i + 1))) names-given
        (subst (λ (es : List Entry). Plays s names 0 block es) (sym (of-client i d below)) done)

    -- ---- the outside

    alone-all : PlaysAll s history → AreAlone (length s.clients + 1) (length s.clients + 2) (acts_of history)
    alone-all all = clients-aside (length s.clients) history
        (by-caller (λ k. k < length s.clients + 1 → AllByRecursion IsClientsEntry (calls_of history k)) (length s.clients)
        (λ h. laws.whole [] 0 (lines_of s.setup) (calls_of history 0) (inl refl) all.setup)
        (λ i below h. let block = slice_index_or s.clients i [] in let at = slice_get-get_or s.clients i [] below in
        laws.whole (names_given s history) 0 block (calls_of history (i + 1)) (inr (i, at)) (all.clients i block at))
        (λ h. absurd (omega arith)) (λ h. absurd (omega arith)) (λ k above h. absurd (omega arith)))
        launches reports of-others

    -- ---- the ends

    callers-are : length clocks ≡ hub_of s + 1
    callers-are = let z = clocks-size in omega arith

    cut-client : (size i : ℕ) (d : Worker C) → i < length x.ws → (slice_index_or x.ws i d).ended ≡ Err (stopped.Full size) → IsMet given clocks s history size
    cut-client size i d below is =
        let w = slice_index_or x.ws i d in
        let block = slice_index_or s.clients i [] in
        let at = slice_get-get_or s.clients i [] (let c = x.count in let h = below in omega arith) in
        let stops : StopsAt shared.fixed s names block (mine_of w.client) (seen_of w.client) (given w.clock) size =
        subst (λ (r : Result (Unit {0}) Stopped). PlaysOn shared.fixed s names block (mine_of w.client) (seen_of w.client) (given w.clock) r) is ((x.clients i d below).played block at) in
        by_block i block at (subst (λ (ns : List (List ℕ × Given)). IsCutShort given clocks s ns block (i + 1) history size) names-given
        (cut-first given clocks w.clock s names block (i + 1) (mine_of w.client) (seen_of w.client) history size shared.fixed (client-clock i d below) (x.clients i d below).back.timed.caller config_is (client-known i d below) (own-seen i d below) (of-client i d below) stops))

    -- what launcher and reaper left
    left-launcher : IsLeftBy given clocks history (launcher_of s) x.launcher
    left-launcher = record {
      begins = known;
      own = of-launcher;
      number = x.launcher_back.number_is;
      brief = launcher-at-once [] (mine_of x.launcher.client) x.tends.launches;
      clock_is = λ c at. ap given (sym (launcher-place c at)) ∙ x.launcher_given;
    }

    left-reaper : IsLeftBy given clocks history (reaper_of s) (record { shared = shared; client = x.reaping; clock = dial (given x.reaping_clock) x.reaping_least })
    left-reaper = record {
      begins = begins-both (seen_of x.reaping) (seen_of p) history x.known_reaping closed.seen;
      own = of-reaper;
      number = x.reaping_back.number_is;
      brief = reaper-at-once [] (mine_of x.reaping) x.tends.reports;
      clock_is = λ c at. ap given (sym (reaper-place c at));
    }

    met-by : (size : ℕ) → IsFullAtEnd shared x.ws x.launcher (record { shared = shared; client = x.reaping; clock = dial (given x.reaping_clock) x.reaping_least }) size → IsMet given clocks s history size
    met-by size (by_attendant l0 l1 r0 r1 gl gr held) =
        held-met given clocks s shared l0 l1 r0 r1 x.launcher (record { shared = shared; client = x.reaping; clock = dial (given x.reaping_clock) x.reaping_least }) size history config_is left-launcher left-reaper gl gr
        (OutOfResource (limit.Journal size)) refl held
    met-by size (by_client i d below is) = cut-client size i d below is

    ends-of : ((starts : List Asked) (es : List Entry) (at : ℕ → Option (Held T)) (hand : Option Hand) → AreAlone (length s.clients + 1) (length s.clients + 2) (acts_of es)
        → Keeps told (Some starts) fate (acts_of (calls_of es (length s.clients + 1))) (acts_of (calls_of es (length s.clients + 2))) at hand
        → AgreesOf (Some starts) fate (acts_of (calls_of es (length s.clients + 1))) (acts_of (calls_of es (length s.clients + 2))) → AgreesWithOutside starts fate (acts_of es))
        → (r : Option ℕ) → full ≡ r → Ends shared x.ws x.launcher (record { shared = shared; client = x.reaping; clock = dial (given x.reaping_clock) x.reaping_least }) r → EndsBy given s history asked asked2 fate clocks r
    ends-of law None is e =
        let all : PlaysAll s history = record { setup = setup-played; clients = whole-client e.ended } in
        let rest = at-rest s shared.fixed history x.launcher laws config_is legal (all-seen e.begins) e.settled in
        record {
          plays = all;
          callers = callers-are;
          quiet = rest.quiet;
          rest = λ c at. subst (λ (y : C). IfSome (given y).told (IsSettledAt s.config history)) (launcher-place c at) (subst (λ (g : Readings). IfSome g.told (IsSettledAt s.config history)) (sym x.launcher_given) rest.last);
          outside = λ none. outside-of told fate history (launcher_of s) (reaper_of s) x.launcher.client x.reaping x.at x.hand of-launcher of-reaper (λ starts. law starts history x.at x.hand) (alone-all all) asked2 (x.keeps none) (x.agrees is none);
        }
    ends-of law (Some size) is e = behind_setup setup-played up-to-all (met-by size e)
        (λ none. asked-of told fate history (launcher_of s) (reaper_of s) x.launcher.client x.reaping x.at x.hand of-launcher of-reaper asked2 (x.keeps none)) callers-are

    pub has-run : ((starts : List Asked) (es : List Entry) (at : ℕ → Option (Held T)) (hand : Option Hand) → AreAlone (length s.clients + 1) (length s.clients + 2) (acts_of es)
        → Keeps told (Some starts) fate (acts_of (calls_of es (length s.clients + 1))) (acts_of (calls_of es (length s.clients + 2))) at hand
        → AgreesOf (Some starts) fate (acts_of (calls_of es (length s.clients + 1))) (acts_of (calls_of es (length s.clients + 2))) → AgreesWithOutside starts fate (acts_of es))
        → HasRun given s history asked asked2 fate clocks full
    has-run law = record { run = is-run; timed = all-timed; ends = ends-of law full refl x.ends }

    -- the hub that follows all callers has followed the run
    pub heard-run : {B : Type 0} (before hub : Following B) → NoneRegisters s → HasRun given s history asked asked2 fate clocks full → BeginsWith (seen_of p) (seen_of x.hub_seat) → BeginsWith (seen_of x.hub_seat) (seen_of x.launcher.client)
        → BeginsWith (seen_of x.hub_seat) (seen_of x.reaping) → FollowsAll shared (seen_of x.hub_seat) hub → HavePlaces first.own before.ears.places → hub.ears.places ≡ before.ears.places → HearRun s.config history hub
    heard-run before hub none r seen launched reaped follows placed same =
        let all : history ≡ seen_of x.hub_seat = all-within (seen_of x.hub_seat) (begins-both (seen_of x.hub_seat) (seen_of p) history seen closed.seen) launched reaped in
        hear-run given s history asked asked2 fate clocks none shared (seen_of x.hub_seat) hub full r config_is all follows
        (subst (λ (es : List Entry). HavePlaces es hub.ears.places) (sym of-setup) (subst (λ (ps : List (Option ℕ)). HavePlaces first.own ps) (sym same) placed))
