-- The program's part of a parse by `clap`: the first word names a command, which takes the others.
use Rattle.std.proofs.Common.{◌≡◌, ℕ, ◌||◌, Bool, true, false, List, [], ◌∷◌, ◌++◌, length, Option, Some, None, option_map, refl, sym, ap, ap₂, subst, ◌∙◌, append_assoc, append-nil, arith, is_some}
use Rattle.std.specs.Prelude.{fold, find}
use Rattle.std.specs.Str.{bytes_eq}
use Rattle.std.specs.List.{list_any}
use Rattle.std.specs.Option.{option_map_or}
use Rattle.clap.specs.Words.{App, Rule, Shape, Text, Kinds, fault_of, is_simple_and_free, is_simple, built}
use Rattle.clap.specs.Kinds.{or_else}
use Rattle.clap.specs.Lexer.{long_of, short_of}
use Rattle.clap.specs.Walk.{Held, Names, Walk, value, idle, walk, walk_from, walked, nothing_held, subcommand_met, answers_to, finished, settled}
use Rattle.clap.specs.Faults.{turn_fault, step_fault, walk_fault, level_fault, entered_fault, check_fault, settle_fault, defaults_fault}
use Rattle.clap.specs.Simple.{names_of, label_of, entered, rows_at}
use Rattle.clap.proofs.OnLiterals.{clap_on_literals}
use Rattle.clap.proofs.FaultLemmas.{stopped_fault}
use Rattle.command_words.specs.Commands.{begins_dash, IsPlain}
use Rattle.command_words.specs.Grammar.{program}

abbrev pub app : App
app = built program

abbrev pub names : Names
names = names_of app

pub is_free : is_simple_and_free program ≡ true
unfolding clap_on_literals
is_free = refl

pub is_simple_app : is_simple program ≡ true
unfolding clap_on_literals
is_simple_app = refl

-- ---- faults in turn

pub not_nil : {A : Type 0} (x : A) (xs : List A) → x ∷ xs ≡ [] → ⊥
not_nil x xs e = let bad : length (x ∷ xs) ≡ 0 = ap length e in absurd (omega arith)

pub or_else_none : (a b : Kinds) → or_else a b ≡ [] → (a ≡ []) × (b ≡ [])
or_else_none [] b h = (refl, h)
or_else_none (k ∷ ks) b h = absurd (not_nil k ks h)

pub neither : (a b : Kinds) → a ≡ [] → b ≡ [] → or_else a b ≡ []
neither a b e f = ap₂ or_else e f

pub by_test : {C : Type 0} (b : Bool) → (b ≡ true → C) → (b ≡ false → C) → C
by_test true f g = f refl
by_test false f g = g refl

or_false : (a b : Bool) → a || b ≡ false → (a ≡ false) × (b ≡ false)
or_false true b h = cc
or_false false b h = (refl, h)

-- ---- words that begin with no `-`

pub record IsPlainWord (w : Text) : Type 0 where
  pub long : long_of w ≡ None
  pub short : short_of w ≡ None
  pub pair : bytes_eq w (45 ∷ 45 ∷ []) ≡ false

plain_word_is : (w : Text) → begins_dash w ≡ false → IsPlainWord w
plain_word_is [] h = record { long = refl; short = refl; pair = refl }
plain_word_is (b ∷ bs) h = record { long = rw h refl; short = rw h refl; pair = rw h refl }

pub first_plain : (w : Text) (ws : List Text) → IsPlain (w ∷ ws) → IsPlainWord w
first_plain w ws h = plain_word_is w (or_false (begins_dash w) (list_any begins_dash ws) h).0

pub others_plain : (w : Text) (ws : List Text) → IsPlain (w ∷ ws) → IsPlain ws
others_plain w ws h = (or_false (begins_dash w) (list_any begins_dash ws) h).1

-- where the walk stands, with nothing waiting
abbrev pub standing : Held → ℕ → Walk
standing h position = record { held = h; waiting = idle; position = position; is_trailing = false; stopped = None }

pub plain_turn : (s : Shape) (ns : Names) (h : Held) (position : ℕ) (w : Text) → IsPlainWord w → subcommand_met ns idle w ≡ None
    → turn_fault s ns (standing h position) w ≡ step_fault s position h value
plain_turn s ns h position w p m = rw (m, p.pair, p.long, p.short) refl

-- ---- a walk that has stopped takes the other words along

abbrev stopped_with : Text → List Text → Walk
stopped_with name ws = record (walk_from nothing_held) { stopped = Some (name, ws) }

goes_on : (c : List Rule) (ns : Names) (name : Text) (before rest : List Text)
    → fold (walked c ns) (stopped_with name before) rest ≡ stopped_with name (before ++ rest)
unfolding clap_on_literals
goes_on c ns name before [] = ap (stopped_with name) (sym (append-nil before))
goes_on c ns name before (w ∷ rest) = goes_on c ns name (before ++ w ∷ []) rest ∙ ap (stopped_with name) (append_assoc before (w ∷ []) rest)

-- the walk stops at this word, which is a command's name
abbrev pub StopsAt : Text → Type 0
StopsAt name = walked app.top.rules names (walk_from nothing_held) name ≡ stopped_with name []

pub stops : (name : Text) (rest : List Text) → StopsAt name → walk app.top.rules names nothing_held (name ∷ rest) ≡ stopped_with name rest
stops name rest first = ap (λ (w : Walk). fold (walked app.top.rules names) w rest) first ∙ goes_on app.top.rules names name [] rest

-- the command of that name, as it is built
abbrev pub Enters : Text → Shape → Type 0
Enters name s = find (λ s. answers_to name (label_of s)) app.subs ≡ Some s

-- its part of the parse
abbrev pub level : Shape → List Text → Kinds
level s rest = level_fault s [] nothing_held rest false []

-- the program takes a command's name only where the command takes the words behind it
pub below_none : (name : Text) (s : Shape) (rest : List Text) → StopsAt name → Enters name s → fault_of program (name ∷ rest) ≡ [] → level s rest ≡ []
below_none name s rest first found h =
    let below = (or_else_none _ _ (or_else_none _ _ h).1).0 in
    let stop = ap (λ (w : Walk). w.stopped) (stops name rest first) in
    let inside : entered_fault app (Some (name, rest)) ≡ [] = subst (λ (st : Option (Text × List Text)). entered_fault app st ≡ []) stop below in
    subst (λ (o : Option Shape). option_map_or (λ s. level s rest) o [] ≡ []) found inside

-- and wherever it does: what follows the walk of the program
abbrev behind_walk : Walk → Kinds
behind_walk w =
    or_else (entered_fault app w.stopped) (or_else (settle_fault app.top.rules app.top.args_override_self w.held)
    (or_else (defaults_fault (settled app.top.rules w.held).rows app.top.rules)
    (check_fault app.top (finished app.top.rules w.held) (is_some (entered app w.stopped)))))

abbrev behind_level : Kinds → Option Shape → List Text → Kinds
behind_level below o rest =
    or_else below (or_else (settle_fault app.top.rules app.top.args_override_self nothing_held)
    (or_else (defaults_fault (settled app.top.rules nothing_held).rows app.top.rules)
    (check_fault app.top (finished app.top.rules nothing_held) (is_some (option_map (λ s. rows_at s rest) o)))))

level_passes : (s : Shape) (rest : List Text) → behind_level [] (Some s) rest ≡ []
unfolding clap_on_literals
level_passes s rest = refl

pub takes : (name : Text) (s : Shape) (rest : List Text) → StopsAt name → Enters name s → turn_fault app.top names (walk_from nothing_held) name ≡ []
    → level s rest ≡ [] → fault_of program (name ∷ rest) ≡ []
unfolding clap_on_literals
takes name s rest first found turn inside =
    let along : walk_fault app.top names (walked app.top.rules names (walk_from nothing_held) name) rest ≡ [] =
    ap (λ (w : Walk). walk_fault app.top names w rest) first ∙ stopped_fault app.top names (walk_from nothing_held) (name, []) rest in
    let after : behind_walk (walk app.top.rules names nothing_held (name ∷ rest)) ≡ [] =
    ap behind_walk (stops name rest first)
    ∙ ap (λ (o : Option Shape). behind_level (option_map_or (λ s. level s rest) o []) o rest) found
    ∙ ap (λ (k : Kinds). behind_level k (Some s) rest) inside ∙ level_passes s rest in
    neither _ _ (neither _ _ turn along) after
