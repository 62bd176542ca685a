-- The play of a whole script, by a play that has not begun.
use Rattle.std.proofs.Common.{◌≡◌, ℕ, List, [], ◌++◌, length, Option, Result, Ok, Err, refl, sym, ap, subst, ◌∙◌, append-nil}
use Rattle.std.specs.Prelude.{IfOk, OnErr, MatchResult}
use Rattle.std.proofs.Math.Seq.{drop-length}
use Rattle.drmaa_types.specs.declared.changes.Notification.{Notification}
use Rattle.drmaa_model.specs.declared.configs.Config.{Config}
use Rattle.drmaa_model.specs.declared.entries.Entry.{Entry}
use Rattle.drmaa_model.specs.History.{Ledger, now_of}
use Rattle.change_callbacks.specs.Ears.{Listening}
use Rattle.script_text.specs.declared.scripts.Script.{Script}
use Rattle.script_text.specs.Follows.{lines_of}
use Rattle.script_asks.specs.Plays as plays
use Rattle.script_asks.specs.Attempts.{Shows}
use Rattle.script_asks.specs.Plays.{Playing, opening_in, serial_play_from}
use Rattle.script_play.specs.Callbacks.{HaveFrontAfter}
use Rattle.script_play.specs.Looks.{GoesTo}
use Rattle.script_play.specs.View.{Start, View, IsNoted, playing, replies_of, start_of, unplayed}
use Rattle.script_play.specs.Served.{IsServed}

-- the play of all blocks, from here on
all_of : Script → Playing → Playing
all_of s p =
    let first : Playing = plays.play_lines s (plays.crew_of (length s.clients) 0) p (lines_of s.setup) in
    plays.play_clients s first.names 1 first s.clients

-- a play that has not begun is one from its machine's world
pub opens : (v : View) → v ≡ unplayed v.ledger → playing v ≡ opening_in (now_of v.ledger)
opens v is = ap (λ (u : View). playing u) is ∙ ap (λ (es : List Entry). record (opening_in (now_of v.ledger)) { entries = es }) (drop-length v.ledger.history)

served_by : Config → List Entry → Ledger
served_by config history = record { config = config; history = history }

-- what a play has come to that has played all blocks
pub served : (s : Script) (v w : View) → v ≡ unplayed v.ledger
    → GoesTo v (let first : Playing = plays.play_lines s (plays.crew_of (length s.clients) 0) (playing v) (lines_of s.setup) in plays.play_clients s first.names 1 first s.clients) w → IsServed v.ledger s w
unfolding all_of served_by
served s v w is goes =
    let same : playing w ≡ serial_play_from (now_of v.ledger) s = goes.played ∙ ap (all_of s) (opens v is) in
    let start : w.start ≡ start_of v.ledger = goes.start ∙ ap (λ (u : View). u.start) is in
    record {
      ledger = ap (λ (es : List Entry). served_by w.ledger.config es) goes.noted.whole
          ∙ (ap (λ (c : Config). served_by c (w.start.entries ++ (playing w).entries)) goes.config
          ∙ (ap (λ (st : Start). served_by v.ledger.config (st.entries ++ (playing w).entries)) start
          ∙ ap (λ (p : Playing). served_by v.ledger.config (v.ledger.history ++ p.entries)) same));
      world = ap (λ (p : Playing). p.world) same;
      full = ap (λ (p : Playing). p.full) same;
    }

-- before the first line, nothing was added and no attempt was noted
pub noted_first : (v : View) → v ≡ unplayed v.ledger → IsNoted v
noted_first v is = subst (λ (u : View). IsNoted u) (sym is) (record {
  whole = sym (append-nil v.ledger.history) ∙ ap (λ (es : List Entry). v.ledger.history ++ es) (sym (drop-length v.ledger.history));
  callbacks = refl;
  shown = subst (λ (es : List Entry). Shows [] (replies_of es)) (sym (drop-length v.ledger.history)) (λ job. refl);
})

-- a beginning of the play of all blocks is one of the script's
pub whole_front : {B : Type 0} (counted : B → ℕ) (told : B → Option (List Notification)) (s : Script) (v : View) (ears : Listening B) → v ≡ unplayed v.ledger
    → HaveFrontAfter counted told v.ledger.config v.start (let first : Playing = plays.play_lines s (plays.crew_of (length s.clients) 0) (playing v) (lines_of s.setup) in plays.play_clients s first.names 1 first s.clients).entries ears
    → HaveFrontAfter counted told v.ledger.config v.start (serial_play_from (now_of v.ledger) s).entries ears
unfolding all_of
whole_front counted told s v ears is have = subst (λ (p : Playing). HaveFrontAfter counted told v.ledger.config v.start (all_of s p).entries ears) (opens v is) have

-- what holds of a value that was made holds of it unless what was done to it failed
pub made_ok : {A E V : Type 0} (done : Result A E) (r : Result V E) (v : V) (P : Type 0) (Q : V → Type 0) → MatchResult done (λ _. r ≡ Ok v) (λ why. r ≡ Err why) → IfOk done (λ _. P) → (P → Q v) → IfOk r Q
made_ok {E = E} {V = V} (Ok a) r v P Q is p f = subst (λ (x : Result V E). IfOk x Q) (sym is) (f p)
made_ok {E = E} {V = V} (Err why) r v P Q is p f = subst (λ (x : Result V E). IfOk x Q) (sym is) tt

pub made_err : {A E V : Type 0} (done : Result A E) (r : Result V E) (v : V) (P : Type 0) → MatchResult done (λ _. r ≡ Ok v) (λ why. r ≡ Err why) → OnErr done P → OnErr r P
made_err {E = E} {V = V} (Ok a) r v P is p = subst (λ (x : Result V E). OnErr x P) (sym is) tt
made_err {E = E} {V = V} (Err why) r v P is p = subst (λ (x : Result V E). OnErr x P) (sym is) p

-- two things that hold once a call was well
pub both_ok : {A E : Type 0} (r : Result A E) (P Q : Type 0) → IfOk r (λ _. P) → IfOk r (λ _. Q) → IfOk r (λ _. P × Q)
both_ok (Ok a) P Q p q = (p, q)
both_ok (Err why) P Q p q = tt
