-- Which words `clap` takes, and that its matches hold them.
use Rattle.std.proofs.Common.{◌≡◌, List, [], ◌∷◌, map, codes, Some, None, option_map, refl, ap, subst, ◌∙◌}
use Rattle.std.specs.Prelude.{find}
use Rattle.std.specs.Str.{bytes_eq}
use Rattle.std.specs.List.{AllByRecursion}
use Rattle.std.proofs.lemmas.Slice.Eq.{bytes_eq-Decides}
use Rattle.clap.specs.Words.{Shape, Text, fault_of, subcommand_of}
use Rattle.clap.specs.Walk.{Walk, idle, walk_from, nothing_held, subcommand_met, answers_to, stop_after}
use Rattle.clap.specs.Faults.{turn_fault, walk_fault}
use Rattle.clap.specs.Simple.{entered, rows_at}
use Rattle.clap.proofs.OnLiterals.{clap_on_literals}
use Rattle.command_words.specs.declared.commands.Command.{Command}
use Rattle.command_words.specs.declared.commands.Command.TheVariants.{Serial, Threads, Table, Check, Migrate, Json, Forecast, Continue, Recur, Soak}
use Rattle.command_words.specs.Commands.{IsPlain, recur_values, soak_values, words_of}
use Rattle.command_words.specs.Grammar.{program, words_in}
use Rattle.command_words.proofs.Entering.{app, names, Enters, IsPlainWord, StopsAt, below_none, by_test, first_plain, level, not_nil, or_else_none, others_plain, standing, stops, takes}
use Rattle.command_words.proofs.Subcommands.{held_at, no_place, taking, values_hold, values_taken, word, word_holds}

-- ---- the words that pass are held

abbrev Holds : Text → Type 0
Holds name = (rest : List Text) → IsPlain rest → fault_of program (name ∷ rest) ≡ [] → words_in (subcommand_of program (name ∷ rest)) ≡ name ∷ rest

holds_by : (name : Text) (s : Shape) → StopsAt name → Enters name s → ((rest : List Text) → IsPlain rest → level s rest ≡ [] → held_at s rest ≡ name ∷ rest)
    → Holds name
holds_by name s first found inside rest p h =
    let stop : stop_after app.top.rules names (name ∷ rest) ≡ Some (name, rest) = ap (λ (w : Walk). w.stopped) (stops name rest first) in
    let sub : subcommand_of program (name ∷ rest) ≡ Some (rows_at s rest) = ap (entered app) stop ∙ ap (option_map (λ s. rows_at s rest)) found in
    ap words_in sub ∙ inside rest p (below_none name s rest first found h)

word_by : (name : Text) → StopsAt name → Enters name (word name) → Holds name
word_by name first found = holds_by name (word name) first found (word_holds name)

-- the names of all commands
abbrev command_names : List Text
command_names =
    codes "serial" ∷ codes "threads" ∷ codes "table" ∷ codes "check" ∷ codes "migrate" ∷ codes "json" ∷ codes "forecast" ∷ codes "continue" ∷ codes "recur"
    ∷ codes "soak" ∷ []

each_holds : AllByRecursion Holds command_names
unfolding clap_on_literals
each_holds = (
  word_by (codes "serial") refl refl,
  (
    word_by (codes "threads") refl refl,
    (
      word_by (codes "table") refl refl,
      (
        word_by (codes "check") refl refl,
        (
          word_by (codes "migrate") refl refl,
          (
            word_by (codes "json") refl refl,
            (
              word_by (codes "forecast") refl refl,
              (
                word_by (codes "continue") refl refl,
                (
                  holds_by (codes "recur") (taking (codes "recur") 7) refl refl (values_hold 7 refl refl (codes "recur")),
                  (holds_by (codes "soak") (taking (codes "soak") 2) refl refl (values_hold 2 refl refl (codes "soak")), tt),
                ),
              ),
            ),
          ),
        ),
      ),
    ),
  ),
)

-- a word is one of these names, or it answers to none
dispatch : {C : Type 0} (P : Text → Type 0) (ns : List Text) (w : Text) → AllByRecursion P ns → (P w → C)
    → (find (answers_to w) (map (λ name. (name, [])) ns) ≡ None → C) → C
dispatch P [] w all here else_none = else_none refl
dispatch P (name ∷ ns) w all here else_none =
    by_test (bytes_eq name w) (λ t. here (subst P ((bytes_eq-Decides name w).0 t) all.0))
    (λ f. dispatch P ns w all.1 here (λ e. else_none (rw f e)))

other_word : (w : Text) (rest : List Text) → IsPlainWord w → subcommand_met names idle w ≡ None → fault_of program (w ∷ rest) ≡ [] → ⊥
unfolding clap_on_literals
other_word w rest p m h =
    let walks : walk_fault app.top names (walk_from nothing_held) (w ∷ rest) ≡ [] = (or_else_none _ _ h).0 in
    let turn : turn_fault app.top names (standing nothing_held 1) w ≡ [] = (or_else_none _ _ walks).0 in
    no_place app.top names nothing_held 1 w p m refl turn

no_words : fault_of program [] ≡ [] → ⊥
unfolding clap_on_literals
no_words h = not_nil _ _ h

pub held : (ws : List Text) → IsPlain ws → fault_of program ws ≡ [] → words_in (subcommand_of program ws) ≡ ws
held [] p h = absurd (no_words h)
held (w ∷ rest) p h =
    dispatch Holds command_names w each_holds (λ holds. holds rest (others_plain w rest p) h)
    (λ e. absurd (other_word w rest (first_plain w rest p) (ap (option_map (λ s. s.0)) e) h))

-- ---- and the words of each command pass

pub passes : (command : Command) → IsPlain (words_of command) → fault_of program (words_of command) ≡ []
unfolding clap_on_literals
passes Serial p = refl
passes Threads p = refl
passes Table p = refl
passes Check p = refl
passes Migrate p = refl
passes Json p = refl
passes Forecast p = refl
passes Continue p = refl
passes (Recur r) p =
    takes (codes "recur") (taking (codes "recur") 7) (recur_values r) refl refl refl
    (values_taken 7 refl refl (codes "recur") (recur_values r) (others_plain (codes "recur") (recur_values r) p) refl)
passes (Soak s) p =
    takes (codes "soak") (taking (codes "soak") 2) (soak_values s) refl refl refl
    (values_taken 2 refl refl (codes "soak") (soak_values s) (others_plain (codes "soak") (soak_values s) p) refl)
