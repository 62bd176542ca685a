-- A line's one look at the machine, and a wait's two.
use Rattle.std.proofs.Common.{◌≡◌, ℕ, ◌+◌, min, Option, Some, None, refl, sym, ap, subst, ◌∙◌}
use Rattle.drmaa_types.specs.Moments.{greatest}
use Rattle.drmaa_types.specs.declared.identifiers.CallerId.{CallerId}
use Rattle.drmaa_model.specs.declared.calls.Call.{Call}
use Rattle.text_codec.specs.Formats.{choose}
use Rattle.script_lines.specs.declared.lines.Line.{Line}
use Rattle.script_text.specs.declared.scripts.Script.{Script}
use Rattle.script_asks.specs.Plays as plays
use Rattle.script_play.specs.Looks.{GoesTo, IsLook, asks_from}
use Rattle.script_play.specs.View.{View, IsNoted, playing}
use Rattle.script_play.specs.declared.players.Looked.{Looked}
use Rattle.script_play.specs.declared.players.Looked.TheVariants.{Done, NotYet}
use Rattle.script_play.proofs.Looking.{chosen_none, chosen_some}

-- a look that is the only one
once : (v w : View) (caller : CallerId) (l : Line) (c : Call) (looked : Looked) → IsLook v caller l c looked w → playing w ≡ plays.after_look (playing v) caller l c (playing v)
once v w caller l c Done h = sym (h.comes (playing v))
once v w caller l c NotYet h = h.comes.0 ∙ sym (h.comes.1 (playing v))

asked_now : (s : Script) (v : View) (begun : ℕ) (l : Line) (asked : Option Call) → begun ≡ v.moment → asked ≡ asks_from s v begun l → plays.asks_now s (playing v) l ≡ asked
asked_now s v begun l asked b a = ap (λ (m : ℕ). asks_from s v m l) (sym b) ∙ sym a

-- A line that asks a call, and one that asks nothing.
pub called : (s : Script) (v w : View) (begun : ℕ) (caller : CallerId) (l : Line) (asked : Option Call) (c : Call) (looked : Looked)
    → begun ≡ v.moment → asked ≡ asks_from s v begun l → asked ≡ Some c → IsLook v caller l c looked w
    → GoesTo v (choose (plays.asks_now s (playing v) l) (λ x. plays.after_look (playing v) caller l x (playing v)) (playing v)) w
called s v w begun caller l asked c looked b a is look = record {
  played = once v w caller l c looked look
      ∙ sym (chosen_some (plays.asks_now s (playing v) l) (λ x. plays.after_look (playing v) caller l x (playing v)) (playing v) c (asked_now s v begun l asked b a ∙ is));
  config = look.config;
  start = look.start;
  noted = look.noted;
}

pub uncalled : (s : Script) (v : View) (begun : ℕ) (l : Line) (asked : Option Call) (f : Call → plays.Playing) → begun ≡ v.moment → asked ≡ asks_from s v begun l → asked ≡ None → IsNoted v
    → GoesTo v (choose (plays.asks_now s (playing v) l) f (playing v)) v
uncalled s v begun l asked f b a is noted = record {
  played = sym (chosen_none (plays.asks_now s (playing v) l) f (playing v) (asked_now s v begun l asked b a ∙ is));
  config = refl;
  start = refl;
  noted = noted;
}

-- the play at the end of the timeout, and what is asked then
later_is : (v w : View) (begun m timeout : ℕ) → begun ≡ v.moment → m ≡ min (begun + timeout) greatest → w ≡ record v { moment = m } → playing w ≡ plays.come_later (playing v) timeout
later_is v w begun m timeout b e is =
    ap (λ (u : View). playing u) is ∙ ap (λ (k : ℕ). playing (record v { moment = k })) (e ∙ ap (λ (k : ℕ). min (k + timeout) greatest) b)

pub later_noted : (v w : View) (m : ℕ) → w ≡ record v { moment = m } → IsNoted v → IsNoted w
later_noted v w m is noted = subst (λ (u : View). IsNoted u) (sym is) noted

later_asked : (s : Script) (v w : View) (begun m : ℕ) (l : Line) (asked : Option Call) → begun ≡ v.moment → w ≡ record v { moment = m } → asked ≡ asks_from s w begun l → plays.asks_now s (playing v) l ≡ asked
later_asked s v w begun m l asked b is a = ap (λ (k : ℕ). asks_from s v k l) (sym b) ∙ ap (λ (u : View). asks_from s u begun l) (sym is) ∙ sym a

-- The second look of a wait that began before the play moved on.
pub called_later : (s : Script) (v w result : View) (begun m timeout : ℕ) (caller : CallerId) (l : Line) (asked : Option Call) (c : Call) (looked : Looked)
    → begun ≡ v.moment → m ≡ min (begun + timeout) greatest → w ≡ record v { moment = m } → asked ≡ asks_from s w begun l → asked ≡ Some c → IsLook w caller l c looked result
    → GoesTo v (choose (plays.asks_now s (playing v) l) (λ x. plays.second_look (plays.come_later (playing v) timeout) caller l x) (plays.come_later (playing v) timeout)) result
called_later s v w result begun m timeout caller l asked c looked b e at a is look = record {
  played = once w result caller l c looked look ∙ ap (λ (q : plays.Playing). plays.second_look q caller l c) (later_is v w begun m timeout b e at)
      ∙ sym (chosen_some (plays.asks_now s (playing v) l) (λ x. plays.second_look (plays.come_later (playing v) timeout) caller l x) (plays.come_later (playing v) timeout) c (later_asked s v w begun m l asked b at a ∙ is));
  config = look.config ∙ ap (λ (u : View). u.ledger.config) at;
  start = look.start ∙ ap (λ (u : View). u.start) at;
  noted = look.noted;
}

pub uncalled_later : (s : Script) (v w : View) (begun m timeout : ℕ) (l : Line) (asked : Option Call) (f : Call → plays.Playing)
    → begun ≡ v.moment → m ≡ min (begun + timeout) greatest → w ≡ record v { moment = m } → asked ≡ asks_from s w begun l → asked ≡ None → IsNoted v
    → GoesTo v (choose (plays.asks_now s (playing v) l) f (plays.come_later (playing v) timeout)) w
uncalled_later s v w begun m timeout l asked f b e at a is noted = record {
  played = later_is v w begun m timeout b e at
      ∙ sym (chosen_none (plays.asks_now s (playing v) l) f (plays.come_later (playing v) timeout) (later_asked s v w begun m l asked b at a ∙ is));
  config = ap (λ (u : View). u.ledger.config) at;
  start = ap (λ (u : View). u.start) at;
  noted = later_noted v w m at noted;
}

-- A wait that is answered at once, and one that looks again.
pub answered : (s : Script) (v w : View) (begun timeout : ℕ) (caller : CallerId) (l : Line) (asked : Option Call) (c : Call) (looked : Looked)
    → begun ≡ v.moment → asked ≡ asks_from s v begun l → asked ≡ Some c → IsLook v caller l c looked w → looked ≡ Done
    → GoesTo v (choose (plays.asks_now s (playing v) l) (λ x. plays.after_look (playing v) caller l x (plays.second_look (plays.come_later (playing v) timeout) caller l x)) (playing v)) w
answered s v w begun timeout caller l asked c looked b a is look d =
    let done : IsLook v caller l c Done w = subst (λ (x : Looked). IsLook v caller l c x w) d look in
    record {
      played = sym (done.comes (plays.second_look (plays.come_later (playing v) timeout) caller l c))
          ∙ sym (chosen_some (plays.asks_now s (playing v) l) (λ x. plays.after_look (playing v) caller l x (plays.second_look (plays.come_later (playing v) timeout) caller l x)) (playing v) c (asked_now s v begun l asked b a ∙ is));
      config = look.config;
      start = look.start;
      noted = look.noted;
    }

pub again : (s : Script) (v w result : View) (begun timeout : ℕ) (caller : CallerId) (l : Line) (asked : Option Call) (c : Call) (looked : Looked)
    → begun ≡ v.moment → asked ≡ asks_from s v begun l → asked ≡ Some c → IsLook v caller l c looked w → looked ≡ NotYet
    → GoesTo w (choose (plays.asks_now s (playing w) l) (λ x. plays.second_look (plays.come_later (playing w) timeout) caller l x) (plays.come_later (playing w) timeout)) result
    → GoesTo v (choose (plays.asks_now s (playing v) l) (λ x. plays.after_look (playing v) caller l x (plays.second_look (plays.come_later (playing v) timeout) caller l x)) (playing v)) result
again s v w result begun timeout caller l asked c looked b a is look d goes =
    let waits : IsLook v caller l c NotYet w = subst (λ (x : Looked). IsLook v caller l c x w) d look in
    let call : plays.asks_now s (playing v) l ≡ Some c = asked_now s v begun l asked b a ∙ is in
    record {
      played = goes.played
          ∙ ap (λ (p : plays.Playing). choose (plays.asks_now s p l) (λ x. plays.second_look (plays.come_later p timeout) caller l x) (plays.come_later p timeout)) waits.comes.0
          ∙ chosen_some (plays.asks_now s (playing v) l) (λ x. plays.second_look (plays.come_later (playing v) timeout) caller l x) (plays.come_later (playing v) timeout) c call
          ∙ sym (waits.comes.1 (plays.second_look (plays.come_later (playing v) timeout) caller l c))
          ∙ sym (chosen_some (plays.asks_now s (playing v) l) (λ x. plays.after_look (playing v) caller l x (plays.second_look (plays.come_later (playing v) timeout) caller l x)) (playing v) c call);
      config = goes.config ∙ look.config;
      start = goes.start ∙ look.start;
      noted = goes.noted;
    }
