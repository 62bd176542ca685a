-- What playing a line does.
use Rattle.std.proofs.Common.{◌≡◌, ℕ, true, false, Option, Some, None, is_some, refl, sym, ap, subst, ◌∙◌}
use Rattle.text_codec.specs.Formats.{choose}
use Rattle.script_lines.specs.declared.lines.Line.{Line}
use Rattle.script_text.specs.declared.scripts.Script.{Script}
use Rattle.script_asks.specs.Plays as plays
use Rattle.script_play.specs.Crews.{performer_meant}
use Rattle.script_play.specs.Looks.{GoesTo}
use Rattle.script_play.specs.View.{View, IsNoted, playing}
use Rattle.script_play.specs.declared.crews.Performer.{Performer}
use Rattle.script_play.specs.declared.crews.Performer.TheVariants as performer

there : {A B : Type 0} (o : Option A) (x y : B) → is_some o ≡ true → choose o (λ _. x) y ≡ x
there None x y h = cc
there (Some a) x y h = refl

not_there : {A B : Type 0} (o : Option A) (x y : B) → is_some o ≡ false → choose o (λ _. x) y ≡ y
not_there None x y h = refl
not_there (Some a) x y h = cc

-- a play that was stopped stays as it is
pub stopped : (s : Script) (crew : plays.Crew) (v : View) (l : Line) → is_some v.full ≡ true → IsNoted v → GoesTo v (plays.play_line s crew (playing v) l) v
stopped s crew v l h noted = record {
  played = sym (there v.full (playing v) (plays.play_by s crew (playing v) l (plays.performer_of l)) h);
  config = refl;
  start = refl;
  noted = noted;
}

-- another goes on by who plays the line
pub performed : (s : Script) (crew : plays.Crew) (p : plays.Playing) (l : Line) (performer told : Performer) → is_some p.full ≡ false → performer_meant performer ≡ plays.performer_of l → performer ≡ told
    → plays.play_by s crew p l (performer_meant told) ≡ plays.play_line s crew p l
performed s crew p l performer told h meant is =
    ap (λ t. plays.play_by s crew p l (performer_meant t)) (sym is) ∙ ap (λ t. plays.play_by s crew p l t) meant
    ∙ sym (not_there p.full p (plays.play_by s crew p l (plays.performer_of l)) h)

-- a line that sets the moment
pub set_to : (s : Script) (crew : plays.Crew) (v w : View) (l : Line) (told : Performer) (moment : ℕ) → is_some v.full ≡ false → performer_meant told ≡ plays.performer_of l → told ≡ performer.Sets moment → w ≡ record v { moment = moment } → IsNoted v
    → GoesTo v (plays.play_line s crew (playing v) l) w
set_to s crew v w l told moment h meant is same noted = record {
  played = ap (λ (u : View). playing u) same ∙ performed s crew (playing v) l told (performer.Sets moment) h meant is;
  config = ap (λ (u : View). u.ledger.config) same;
  start = ap (λ (u : View). u.start) same;
  noted = subst (λ (u : View). IsNoted u) (sym same) noted;
}
