-- How a call in a turn follows the wait for the turn.
use Rattle.std.proofs.Common.{◌≡◌, ℕ, List, [], ◌∷◌, ◌++◌, refl, sym, ap, ◌∙◌, subst, append-nil, length, length-append, ◌+◌, Result, Ok, Err, IfOk, IfErr, OnOk, OnErr}
use Rattle.drmaa_model.specs.declared.calls.Call.{Call}
use Rattle.drmaa_model.specs.declared.configs.Config.{Config}
use Rattle.drmaa_model.specs.declared.entries.Entry.{Entry}
use Rattle.drmaa_model.specs.declared.faults.NoEntry.{NoEntry}
use Rattle.drmaa_model.specs.declared.faults.NoEntry.TheVariants as fault
use Rattle.drmaa_model.specs.Effects.{not_yet}
use Rattle.drmaa_model.specs.History.{Ledger, now_of, replay}
use Rattle.drmaa_model.specs.RecordedCalls.{recorded}
use Rattle.drmaa_model.specs.Steps.{answer}
use Rattle.drmaa_model.specs.World.{World}
use Rattle.drmaa_model.specs.declared.looks.Answer.{Answer}
use Rattle.drmaa_model.specs.declared.looks.Question.{Question}
use Rattle.drmaa_model.specs.declared.replies.Reply.{Reply}
use Rattle.drmaa_machine.specs.ChronicleLaws.{history-append}
use Rattle.drmaa_machine.specs.declared.waits.Awaited.{Awaited}
use Rattle.drmaa_machine.specs.Chronicles.{untold, history_of, MakesNone}
use Rattle.drmaa_machine.specs.Waits.{call_of}
use Rattle.drmaa_machine.specs.View.{View}
use Rattle.turn_lock.specs.Tokens.{Enters, GoesOn, Named, Held}
use Rattle.turn_lock.specs.Views.{left, acted}
use Rattle.call_history.specs.declared.tries.TryFault.{TryFault}
use Rattle.call_history.specs.declared.tries.TryFault.TheVariants as tries
use Rattle.call_history.specs.declared.waits.WaitLook.{WaitLook}
use Rattle.call_history.specs.declared.waits.WaitLook.TheVariants as look
use Rattle.call_history.specs.Looks.{IsLookOf}
use Rattle.call_history.specs.Calls.{entry_by, IsServed, IsUnserved, IsLookedAt}
use Rattle.call_history.specs.ClientLaws.{more-both, makes-both}
use Rattle.call_history.specs.Clients.{Seat, seen_of, mine_of, number_of, SeesMore, Makes}
use Rattle.call_history.specs.Clocks.{Dial, IsReading}
use Rattle.call_history.specs.Turns.{entries_of, config_of}
use Rattle.call_history.proofs.Tellings.{LockEntry, calls-history}

-- the wait for a turn: a client that has the turn has seen more
pub sees-more : (old mid : Seat) → GoesOn old.view.seen mid.view.seen old.view.number → mid.view.mine ≡ old.view.mine → SeesMore old mid
sees-more old mid g mine = record {
  between = history_of g.between;
  seen = ap history_of g.whole ∙ history-append old.view.seen g.between;
  others = calls-history g.between old.view.number ∙ ap history_of g.others;
  mine = ap history_of mine;
}

module _ (old mid new : Seat) (more : SeesMore old mid) (same : number_of mid ≡ number_of old) where
  pub served-both : (before after : Dial) (asked : Call) (reply : Reply) → IsServed before mid asked reply after new → IsServed before old asked reply after new
  served-both before after asked reply s = record {
    at = s.at;
    read = s.read;
    made = makes-both old mid new more same (entry_by (number_of old) s.at asked reply) (subst (λ (n : ℕ). Makes mid (entry_by n s.at asked reply) new) same s.made);
  }

  pub unserved-both : (config : Config) (before after : Dial) (asked : Call) (why : NoEntry) → IsUnserved config before mid asked why after new → IsUnserved config before old asked why after new
  unserved-both config before after asked why u = record { at = u.at; read = u.read; more = more-both old mid new more same u.more; reason = u.reason }

  pub looked-both : (config : Config) (before after : Dial) (question : Question) (answer : Answer) → IsLookedAt config before mid question answer after new → IsLookedAt config before old question answer after new
  looked-both config before after question answer l = record { at = l.at; read = l.read; more = more-both old mid new more same l.more; told = l.told }

-- the client that waited for the turn, and has it, has seen more
pub entered : (shared : Named Config) (old mid : Seat) (turn : Held View) → Enters entries_of config_of shared old mid turn → mid.view.seen ≡ entries_of turn.value → mid.view.mine ≡ old.view.mine → SeesMore old mid
entered shared old mid turn e seen mine = sees-more old mid (subst (λ l. GoesOn old.view.seen l old.view.number) (sym seen) e.goes_on) mine

-- what a try came to that had the turn
pub record IsTold (served : Result Reply NoEntry) (r : Result Reply TryFault) : Type 0 where
  pub ok : IfOk served (λ reply. r ≡ Ok reply)
  pub err : IfErr served (λ why. r ≡ Err (tries.Not why))

pub tried-ok : (served : Result Reply NoEntry) (r : Result Reply TryFault) (P : Reply → Type 0) → IsTold served r → IfOk served P → IfOk r P
tried-ok (Ok reply) r P is good = subst (λ (x : Result Reply TryFault). IfOk x P) (sym is.ok) good
tried-ok (Err why) r P is good = subst (λ (x : Result Reply TryFault). IfOk x P) (sym is.err) tt

pub tried-err : (served : Result Reply NoEntry) (r : Result Reply TryFault) (P : TryFault → Type 0) → IsTold served r → IfErr served (λ why. P (tries.Not why)) → IfErr r P
tried-err (Ok reply) r P is bad = subst (λ (x : Result Reply TryFault). IfErr x P) (sym is.ok) tt
tried-err (Err why) r P is bad = subst (λ (x : Result Reply TryFault). IfErr x P) (sym is.err) bad

pub tried-busy : (served : Result Reply NoEntry) (r : Result Reply TryFault) (low high : ℕ) → IsTold served r → r ≡ Err (tries.Busy low high) → ⊥
tried-busy (Ok reply) r low high is e = (let o : r ≡ Ok reply = is.ok in absurd (cc))
tried-busy (Err why) r low high is e = (let o : r ≡ Err (tries.Not why) = is.err in absurd (cc))

-- what an act in a turn leaves, where it made an entry: what the client has seen and made ends with it
pub record Acts (old : Seat) (entry : Entry) (new : Seat) : Type 0 where
  pub seen : seen_of new ≡ seen_of old ++ entry ∷ []
  pub mine : mine_of new ≡ mine_of old ++ entry ∷ []

pub makes-now : (old new : Seat) (entry : Entry) → Acts old entry new → Makes old entry new
makes-now old new entry a = record {
  between = [];
  seen = a.seen ∙ ap (λ l. l ++ entry ∷ []) (sym (append-nil (seen_of old)));
  others = refl;
  mine = a.mine;
}

pub sees-now : (old new : Seat) → seen_of new ≡ seen_of old → mine_of new ≡ mine_of old → SeesMore old new
sees-now old new seen mine = record { between = []; seen = seen ∙ sym (append-nil (seen_of old)); others = refl; mine = mine }

-- no entry was made after this history
pub unserved-now : (config : Config) (before : Dial) (old : Seat) (asked : Call) (why : NoEntry) (after : Dial) (new : Seat) (at : ℕ) (ledger : Ledger) → IsReading before at after → ledger.config ≡ config
    → seen_of new ≡ ledger.history → SeesMore old new → MakesNone (now_of ledger) at (recorded asked) why → IsUnserved config before old asked why after new
unserved-now config before old asked why after new at ledger read same seen more reason = record {
  at = at;
  read = read;
  more = more;
  reason = subst (λ (k : Config). MakesNone (replay k (seen_of new)) at (recorded asked) why) same
      (subst (λ (h : List Entry). MakesNone (replay ledger.config h) at (recorded asked) why) (sym seen) reason);
}

-- a look that is over came to an entry, or to none
pub over-look : (config : Config) (before : Dial) (old : Seat) (awaited : Awaited) (after : Dial) (new : Seat) (r : Result Reply NoEntry) → IfOk r (λ reply. IsServed before old (call_of awaited) reply after new)
    → IfErr r (λ why. IsUnserved config before old (call_of awaited) why after new) → IsLookOf config before old awaited after new (look.Over r)
over-look config before old awaited after new (Ok reply) ok err = ok
over-look config before old awaited after new (Err why) ok err = err

-- a look after the wait for the turn
pub look-both : (config : Config) (before : Dial) (old mid : Seat) (awaited : Awaited) (after : Dial) (new : Seat) (l : WaitLook) → SeesMore old mid → number_of mid ≡ number_of old → IsLookOf config before mid awaited after new l → IsLookOf config before old awaited after new l
look-both config before old mid awaited after new (look.Over (Ok reply)) more same s = served-both old mid new more same before after (call_of awaited) reply s
look-both config before old mid awaited after new (look.Over (Err why)) more same u = unserved-both old mid new more same config before after (call_of awaited) why u
look-both config before old mid awaited after new (look.NotYet back) more same p = (p.0, unserved-both old mid new more same config before after (call_of awaited) fault.NotYet p.1)

pub err-three : {A E : Type 0} (r : Result A E) (P Q : Type 0) (R S : E → Type 0) → OnErr r P → OnErr r Q → IfErr r R → ((e : E) → P → Q → R e → S e) → IfErr r S
err-three (Ok a) P Q R S p q r f = tt
err-three (Err e) P Q R S p q r f = f e p q r

waits-not : (w : World) (at : ℕ) (asked : Call) → MakesNone w at asked fault.NotYet → (answer w at asked ≡ not_yet → ⊥) → ⊥
waits-not w at asked m never = never m.cause

over-same : (r : Result Reply NoEntry) (why : NoEntry) → look.Over r ≡ look.Over (Err why) → r ≡ Err why
over-same r why is = cc

-- a wait that is given back is not over
pub not-over : (awaited : Awaited) (r : Result Reply NoEntry) → look.NotYet awaited ≡ look.Over r → ⊥
not-over awaited r is = cc

-- a call that is not to wait is not left waiting
pub decided-now : (w : World) (at : ℕ) (asked : Call) (r : Result Reply NoEntry) → IfErr r (MakesNone w at asked) → (answer w at asked ≡ not_yet → ⊥) → look.Over r ≡ look.Over (Err fault.NotYet) → ⊥
decided-now w at asked r fails never is = waits-not w at asked (subst (λ (x : Result Reply NoEntry). IfErr x (MakesNone w at asked)) (over-same r fault.NotYet is) fails) never

-- an entry that was added to what the lock has
pub makes-pushed : (old new : Seat) (e : LockEntry) → new.view.seen ≡ old.view.seen ++ e ∷ [] → new.view.mine ≡ old.view.mine ++ e ∷ [] → Makes old (untold e) new
makes-pushed old new e seen mine = makes-now old new (untold e) (record {
  seen = ap history_of seen ∙ history-append old.view.seen (e ∷ []);
  mine = ap history_of mine ∙ history-append old.view.mine (e ∷ []);
})

-- ---- what an act in a turn leaves, as the lock tells it

-- the entry of a caller, as the lock has it
abbrev pub entry_told : ℕ → ℕ → Call → Reply → LockEntry
entry_told number at asked reply = record { caller = record { 0 = number }; ask = record { at = at; call = recorded asked }; answer = reply }

-- the seat that made this entry, and gave the turn away
abbrev pub with_entry : Seat → LockEntry → Seat
with_entry old e = record { lock = old.lock; view = left (acted (old.view.seen ++ e ∷ []) (old.view.mine ++ e ∷ []) old.view) }

-- the seat that gave the turn away
abbrev pub with_none : Seat → Seat
with_none old = record { lock = old.lock; view = left old.view }

module _ (old new : Seat) where
  pub acted-number : (entry : Reply → LockEntry) (r : Result Reply NoEntry) → IfOk r (λ reply. new ≡ with_entry old (entry reply)) → OnErr r (new ≡ with_none old) → number_of new ≡ number_of old
  acted-number entry (Ok reply) ok err = ap number_of ok
  acted-number entry (Err why) ok err = ap number_of err

  pub acted-length : (entry : Reply → LockEntry) (r : Result Reply NoEntry) (h : List Entry) → seen_of old ≡ h → IfOk r (λ reply. new ≡ with_entry old (entry reply)) → OnOk r (length (seen_of new) ≡ length h + 1)
  acted-length entry (Ok reply) h same ok =
      ap (λ (l : List Entry). length l) (ap seen_of ok ∙ history-append old.view.seen (entry reply ∷ []))
      ∙ (length-append (seen_of old) (untold (entry reply) ∷ []) ∙ ap (λ (l : List Entry). length l + 1) same)
  acted-length entry (Err why) h same ok = tt

  pub acted-makes : (entry : Reply → LockEntry) (r : Result Reply NoEntry) → IfOk r (λ reply. new ≡ with_entry old (entry reply)) → IfOk r (λ reply. Makes old (untold (entry reply)) new)
  acted-makes entry (Ok reply) ok = makes-pushed old new (entry reply) (ap (λ t. t.view.seen) ok) (ap (λ t. t.view.mine) ok)
  acted-makes entry (Err why) ok = tt

  pub left-more : (r : Result Reply NoEntry) → OnErr r (new ≡ with_none old) → OnErr r (SeesMore old new)
  left-more (Ok reply) err = tt
  left-more (Err why) err = sees-now old new (ap seen_of err) (ap mine_of err)

  pub left-same : (r : Result Reply NoEntry) (h : List Entry) → seen_of old ≡ h → OnErr r (new ≡ with_none old) → OnErr r (seen_of new ≡ h)
  left-same (Ok reply) h same err = tt
  left-same (Err why) h same err = ap seen_of err ∙ same
