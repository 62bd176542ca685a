-- What a look at the machine comes to.
use mathlib.Core.Path.{fun_ext}
use Rattle.std.proofs.Common.{◌≡◌, ℕ, ◌≤◌, ◌<◌, nat_le, true, false, List, [], ◌∷◌, ◌++◌, drop, length, Option, Some, None, Result, Err, refl, sym, ap, subst, ◌∙◌, append_assoc, arith}
use Rattle.std.proofs.lemmas.Bool.Decides.{nat_tests}
use Rattle.std.proofs.lemmas.List.{map-append}
use Rattle.std.proofs.Math.Seq.{drop-append_seam}
use Rattle.drmaa_types.specs.declared.identifiers.CallerId.{CallerId}
use Rattle.drmaa_model.specs.declared.calls.Call.{Call}
use Rattle.drmaa_model.specs.declared.entries.Entry.{Entry}
use Rattle.drmaa_model.specs.declared.replies.Reply.{Reply}
use Rattle.drmaa_model.specs.Effects.{nothing, not_yet}
use Rattle.drmaa_model.specs.History.{Ledger, now_of}
use Rattle.drmaa_model.specs.RecordedCalls.{recorded}
use Rattle.drmaa_model.specs.Size.{size}
use Rattle.drmaa_model.specs.Steps.{IsStep, answer}
use Rattle.drmaa_model.specs.World.{World}
use Rattle.drmaa_machine.specs.Applying.{served, IsTooLarge}
use Rattle.change_callbacks.specs.Places.{registrations_of}
use Rattle.text_codec.specs.Formats.{choose}
use Rattle.script_lines.specs.declared.lines.Line.{Line}
use Rattle.script_text.specs.declared.scripts.Script.{Script}
use Rattle.script_asks.specs.declared.given.Given.{Given}
use Rattle.script_asks.specs.Asks.{asks}
use Rattle.script_asks.specs.Attempts.{attempt_in, Notes, Shows, shows_more}
use Rattle.script_asks.specs.Plays.{Playing, after_answer, entered}
use Rattle.script_asks.specs.Replies.{names_after}
use Rattle.script_play.specs.Looks.{IsLook, Learns, asks_from}
use Rattle.script_play.specs.View.{Start, View, AreNotes, IsNoted, added_to, playing, replies_of}
use Rattle.script_play.specs.declared.players.Looked.TheVariants.{Done, NotYet}

-- A line asks the same by the table of attempts and by the replies that it shows.
pub asks_same : (s : Script) (v : View) (begun : ℕ) (l : Line) → IsNoted v → asks s v.names (attempt_in v.attempts) begun l ≡ asks_from s v begun l
asks_same s v begun l noted = ap (λ f. asks s v.names f begun l) (fun_ext noted.shown)

-- A step that is made.
within : (p : Playing) (caller : CallerId) (l : Line) (c : Call) (r : Reply) (next : World) → size next ≤ p.world.config.journal
    → entered p caller l c r next ≡ record p {
      world = next;
      names = names_after l r p.names;
      entries = p.entries ++ record { caller = caller; at = p.moment; call = recorded c; reply = r } ∷ [];
    }
within p caller l c r next h =
    let test : nat_le (size next) p.world.config.journal ≡ true = grind (arith, nat_tests) in
    rw test refl

-- A step that would be too large.
above : (p : Playing) (caller : CallerId) (l : Line) (c : Call) (r : Reply) (next : World) → p.world.config.journal < size next → entered p caller l c r next ≡ record p { full = Some (size next) }
above p caller l c r next h =
    let test : nat_le (size next) p.world.config.journal ≡ false = grind (arith, nat_tests) in
    rw test refl

-- ---- one entry more

-- it is the last of those that the play has added
added-more : (start : Start) (old new : List Entry) (e : Entry) → old ≡ start.entries ++ added_to start old → new ≡ old ++ e ∷ [] → added_to start new ≡ added_to start old ++ e ∷ []
added-more start old new e whole more =
    ap (drop (length start.entries)) (more ∙ ap (λ (es : List Entry). es ++ e ∷ []) whole ∙ append_assoc start.entries (added_to start old) (e ∷ []))
    ∙ drop-append_seam start.entries (added_to start old ++ e ∷ [])

-- the attempts are those of the replies with its own
shows_after : (old new : List (ℕ × ℕ)) (before after : List Entry) (e : Entry) → Shows old (replies_of before) → Notes old e.reply new → after ≡ before ++ e ∷ [] → Shows new (replies_of after)
shows_after old new before after e shows notes more =
    let replies : replies_of after ≡ replies_of before ++ e.reply ∷ [] = ap replies_of more ∙ map-append (λ (x : Entry). x.reply) before (e ∷ []) in
    subst (Shows new) (sym replies) (shows_more old new (replies_of before) e.reply shows notes)

notes-more : (start : Start) (old new : List (ℕ × ℕ)) (before after : Ledger) (e : Entry) → AreNotes before start old → Notes old e.reply new → after ≡ served before e → AreNotes after start new
notes-more start old new before after e noted notes more =
    let longer : after.history ≡ before.history ++ e ∷ [] = ap (λ (k : Ledger). k.history) more in
    let added : added_to start after.history ≡ added_to start before.history ++ e ∷ [] = added-more start before.history after.history e noted.whole longer in
    record {
      whole = longer ∙ ap (λ (es : List Entry). es ++ e ∷ []) noted.whole ∙ append_assoc start.entries (added_to start before.history) (e ∷ []) ∙ ap (λ (es : List Entry). start.entries ++ es) (sym added);
      callbacks = noted.callbacks ∙ ap (λ (k : Ledger). registrations_of k.config start.entries) (sym more);
      shown = shows_after old new (added_to start before.history) (added_to start after.history) e noted.shown notes added;
    }

made-of : (v next : View) (caller : CallerId) (l : Line) (c : Call) (reply : Reply)
    → IsStep (now_of v.ledger) (record { caller = caller; at = v.moment; call = recorded c; reply = reply }) (now_of next.ledger)
    → next.ledger ≡ served v.ledger (record { caller = caller; at = v.moment; call = recorded c; reply = reply })
    → next.start ≡ v.start → next.moment ≡ v.moment → next.names ≡ names_after l reply v.names → next.full ≡ v.full → Notes v.attempts reply next.attempts → IsNoted v → IsLook v caller l c Done next
made-of v next caller l c reply step entry start moment names full notes noted =
    let e : Entry = record { caller = caller; at = v.moment; call = recorded c; reply = reply } in
    let added : added_to next.start next.ledger.history ≡ added_to v.start v.ledger.history ++ e ∷ [] =
    ap (λ (st : Start). added_to st next.ledger.history) start ∙ added-more v.start v.ledger.history next.ledger.history e noted.whole (ap (λ (k : Ledger). k.history) entry) in
    record {
      comes = λ second.
          ap (λ a. after_answer (playing v) caller l c a second) step.answered
          ∙ within (playing v) caller l c reply (now_of next.ledger) step.within
          ∙ ap (λ (es : List Entry). record { world = now_of next.ledger; moment = v.moment; names = names_after l reply v.names; entries = es; full = v.full }) (sym added)
          ∙ ap (λ (m : ℕ). record { world = now_of next.ledger; moment = m; names = names_after l reply v.names; entries = added_to next.start next.ledger.history; full = v.full }) (sym moment)
          ∙ ap (λ (ns : List (List ℕ × Given)). record { world = now_of next.ledger; moment = next.moment; names = ns; entries = added_to next.start next.ledger.history; full = v.full }) (sym names)
          ∙ ap (λ (f : Option ℕ). record { world = now_of next.ledger; moment = next.moment; names = next.names; entries = added_to next.start next.ledger.history; full = f }) (sym full);
      config = ap (λ (k : Ledger). k.config) entry;
      start = start;
      noted = subst (λ (st : Start). AreNotes next.ledger st next.attempts) (sym start) (notes-more v.start v.attempts next.attempts v.ledger next.ledger e noted notes entry);
    }

-- A step, and then what its reply tells.
pub look_made : (v mid next : View) (caller : CallerId) (l : Line) (c : Call) (reply : Reply)
    → IsStep (now_of v.ledger) (record { caller = caller; at = v.moment; call = recorded c; reply = reply }) (now_of mid.ledger)
    → mid.ledger ≡ served v.ledger (record { caller = caller; at = v.moment; call = recorded c; reply = reply })
    → mid ≡ record v { ledger = mid.ledger } → Learns mid l reply next → IsNoted v → IsLook v caller l c Done next
look_made v mid next caller l c reply step entry same learns noted =
    let e : Entry = record { caller = caller; at = v.moment; call = recorded c; reply = reply } in
    let ledger : next.ledger ≡ mid.ledger = ap (λ (u : View). u.ledger) learns.same in
    let start : next.start ≡ v.start = ap (λ (u : View). u.start) learns.same ∙ ap (λ (u : View). u.start) same in
    let moment : next.moment ≡ v.moment = ap (λ (u : View). u.moment) learns.same ∙ ap (λ (u : View). u.moment) same in
    let full : next.full ≡ v.full = ap (λ (u : View). u.full) learns.same ∙ ap (λ (u : View). u.full) same in
    let names : next.names ≡ names_after l reply v.names = learns.names ∙ ap (λ (u : View). names_after l reply u.names) same in
    made-of v next caller l c reply (subst (λ (k : Ledger). IsStep (now_of v.ledger) e (now_of k)) (sym ledger) step) (ledger ∙ entry) start moment names full
    (subst (λ (u : View). Notes u.attempts reply next.attempts) same learns.attempts) noted

-- A step that would be too large stops the play.
pub look_full : (v next : View) (caller : CallerId) (l : Line) (c : Call) (n : ℕ) → IsTooLarge (now_of v.ledger) v.moment (recorded c) n → next ≡ record v { full = Some n } → IsNoted v
    → IsLook v caller l c Done next
look_full v next caller l c n large same noted = record {
  comes = λ second.
      ap (λ a. after_answer (playing v) caller l c a second) large.answered
      ∙ above (playing v) caller l c large.reply large.after (subst (λ k. (now_of v.ledger).config.journal < k) large.size_is large.above)
      ∙ ap (λ (k : ℕ). record (playing v) { full = Some k }) (sym large.size_is)
      ∙ ap (λ (u : View). playing u) (sym same);
  config = ap (λ (u : View). u.ledger.config) same;
  start = ap (λ (u : View). u.start) same;
  noted = subst (λ (u : View). IsNoted u) (sym same) noted;
}

pub look_nothing : (v next : View) (caller : CallerId) (l : Line) (c : Call) → answer (now_of v.ledger) v.moment (recorded c) ≡ nothing → next ≡ v → IsNoted v → IsLook v caller l c Done next
look_nothing v next caller l c e same noted = record {
  comes = λ second. ap (λ a. after_answer (playing v) caller l c a second) e ∙ ap (λ (u : View). playing u) (sym same);
  config = ap (λ (u : View). u.ledger.config) same;
  start = ap (λ (u : View). u.start) same;
  noted = subst (λ (u : View). IsNoted u) (sym same) noted;
}

pub look_waits : (v next : View) (caller : CallerId) (l : Line) (c : Call) → answer (now_of v.ledger) v.moment (recorded c) ≡ not_yet → next ≡ v → IsNoted v → IsLook v caller l c NotYet next
look_waits v next caller l c e same noted = record {
  comes = (ap (λ (u : View). playing u) same, λ second. ap (λ a. after_answer (playing v) caller l c a second) e);
  config = ap (λ (u : View). u.ledger.config) same;
  start = ap (λ (u : View). u.start) same;
  noted = subst (λ (u : View). IsNoted u) (sym same) noted;
}

-- an error, by what it is
pub as_err : {A E : Type 0} (x y : E) → x ≡ y → ◌≡◌ {A = Result A E} (Err x) (Err y)
as_err x y e = ap (λ z. Err z) e

-- choices
pub chosen_none : {A B : Type 0} (o : Option A) (f : A → B) (other : B) → o ≡ None → choose o f other ≡ other
chosen_none o f other e = ap (λ x. choose x f other) e

pub chosen_some : {A B : Type 0} (o : Option A) (f : A → B) (other : B) (x : A) → o ≡ Some x → choose o f other ≡ f x
chosen_some o f other x e = ap (λ y. choose y f other) e
