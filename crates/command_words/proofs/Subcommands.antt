-- The command's part of a parse: which words behind its name it takes, and that its matches hold them.
use Rattle.std.proofs.Common.{◌≡◌, ℕ, suc, ◌==◌, ◌&&◌, nat_lt, Bool, true, false, List, [], ◌∷◌, ◌++◌, length, codes, Some, None, refl, sym, ap, subst, ◌∙◌, append_assoc, append-nil, arith}
use Rattle.std.specs.Prelude.{fold, if◌then◌else◌}
use Rattle.std.proofs.lemmas.Bool.Decides.{nat_tests}
use Rattle.clap.specs.declared.builder.action.ArgAction.TheVariants.{Set}
use Rattle.clap.specs.declared.builder.value_parser.ValueParser.TheVariants as vp
use Rattle.clap.specs.declared.error.kind.ErrorKind.TheVariants as kind
use Rattle.clap.specs.Words.{Rule, Shape, Text, Kinds, new_rule}
use Rattle.clap.specs.Kinds.{or_else, values_kinds}
use Rattle.clap.specs.Walk.{Held, Names, Walk, value, idle, positional, walk, walk_from, walked, nothing_held, subcommand_met, arg_by_index, finished, settled, rows_after}
use Rattle.clap.specs.Faults.{turn_fault, step_fault, walk_fault, stray_fault, check_fault, settle_fault, defaults_fault}
use Rattle.clap.specs.Simple.{built_leaf, inherited, on_top, new_shape, with_leaf_noted, marked_built}
use Rattle.clap.proofs.OnLiterals.{clap_on_literals}
use Rattle.command_words.specs.Commands.{IsPlain}
use Rattle.command_words.specs.Grammar.{program, values_in}
use Rattle.command_words.proofs.Entering.{IsPlainWord, first_plain, level, neither, not_nil, or_else_none, others_plain, plain_turn, standing}

-- ---- a command of one word

stray_by : (leaf : Bool) → (if leaf then kind.UnknownArgument ∷ [] else kind.UnknownArgument ∷ kind.InvalidSubcommand ∷ []) ≡ [] → ⊥
stray_by true h = not_nil _ _ h
stray_by false h = not_nil _ _ h

-- a plain word where no positional is left
pub no_place : (s : Shape) (ns : Names) (h : Held) (position : ℕ) (w : Text) → IsPlainWord w → subcommand_met ns idle w ≡ None
    → arg_by_index s.rules position ≡ None → turn_fault s ns (standing h position) w ≡ [] → ⊥
no_place s ns h position w p m place turn =
    let step : step_fault s position h value ≡ [] = sym (plain_turn s ns h position w p m) ∙ turn in
    let stray : stray_fault s ≡ [] = rw place at step in
    stray_by s.is_leaf stray

leaf_rest : (s : Shape) (rest : List Text) → arg_by_index s.rules 1 ≡ None → IsPlain rest → level s rest ≡ [] → rest ≡ []
unfolding clap_on_literals
leaf_rest s [] place p h = refl
leaf_rest s (r ∷ rs) place p h =
    let walks : walk_fault s [] (walk_from nothing_held) (r ∷ rs) ≡ [] = (or_else_none _ _ h).0 in
    let turn : turn_fault s [] (standing nothing_held 1) r ≡ [] = (or_else_none _ _ walks).0 in
    absurd (no_place s [] nothing_held 1 r (first_plain r rs p) refl place turn)

-- a command as the program builds it
abbrev built_sub : Shape → Shape
built_sub s = built_leaf (inherited (on_top with_leaf_noted (on_top marked_built program)).top s)

abbrev pub word : Text → Shape
word name = built_sub (new_shape name)

-- what the matches of a command hold
abbrev pub held_at : Shape → List Text → List Text
held_at s rest = s.name ∷ values_in (rows_after s.rules [] rest)

pub word_holds : (name : Text) (rest : List Text) → IsPlain rest → level (word name) rest ≡ [] → held_at (word name) rest ≡ name ∷ rest
word_holds name rest p h =
    let ends : rest ≡ [] = leaf_rest (word name) rest refl p h in
    subst (λ (x : List Text). held_at (word name) x ≡ name ∷ x) (sym ends) refl

-- ---- a command with n values

-- its values, as they are built
abbrev value_rule : ℕ → Rule
value_rule n = record (new_rule (codes "values")) {
  index = Some 1;
  action = Some Set;
  range = Some (record { start_inclusive = n; end_inclusive = n });
  value_names = n;
  parser = Some vp.String;
  required = true;
}

abbrev pub taking : Text → ℕ → Shape
taking name n = record (word name) { rules = value_rule n ∷ [] }

-- where the walk stands behind these values
abbrev filling : List Text → Walk
filling vs = record {
  held = record { rows = []; pending = Some (codes "values", vs); skip = 0 };
  waiting = positional;
  position = 1;
  is_trailing = false;
  stopped = None;
}

-- what follows the walk of the command
abbrev behind_values : ℕ → Text → Walk → Kinds
behind_values n name w =
    or_else (settle_fault (value_rule n ∷ []) (taking name n).args_override_self w.held)
    (or_else (defaults_fault (settled (value_rule n ∷ []) w.held).rows (value_rule n ∷ []))
    (check_fault (taking name n) (finished (value_rule n ∷ []) w.held) false))

any_text : (vs : List Text) → values_kinds false vp.String vs ≡ []
any_text [] = refl
any_text (v ∷ vs) = any_text vs

not_zero : (k : ℕ) → (suc k == 0) ≡ false
not_zero k = grind (arith, nat_tests)

and_false : (b : Bool) → b && false ≡ false
and_false true = refl
and_false false = refl

-- where there are values, the matches hold them
filling_holds : (n : ℕ) (name v : Text) (vs : List Text) → name ∷ values_in (finished (value_rule n ∷ []) (filling (v ∷ vs)).held) ≡ name ∷ v ∷ vs
filling_holds n name v vs = refl

module _ (n : ℕ) (same : (n == n) ≡ true) (several : nat_lt 1 n ≡ true) where
  first_walked : (v : Text) → IsPlainWord v → walked (value_rule n ∷ []) [] (walk_from nothing_held) v ≡ filling (v ∷ [])
  unfolding clap_on_literals
  first_walked v p = rw (p.pair, p.long, p.short, same, several) refl

  next_walked : (vs : List Text) (v : Text) → IsPlainWord v → walked (value_rule n ∷ []) [] (filling vs) v ≡ filling (vs ++ v ∷ [])
  unfolding clap_on_literals
  next_walked vs v p = rw (p.pair, p.long, p.short, same, several) refl

  others_walked : (vs ws : List Text) → IsPlain ws → fold (walked (value_rule n ∷ []) []) (filling vs) ws ≡ filling (vs ++ ws)
  others_walked vs [] p = ap filling (sym (append-nil vs))
  others_walked vs (w ∷ ws) p =
      ap (λ (x : Walk). fold (walked (value_rule n ∷ []) []) x ws) (next_walked vs w (first_plain w ws p))
      ∙ others_walked (vs ++ w ∷ []) ws (others_plain w ws p) ∙ ap filling (append_assoc vs (w ∷ []) ws)

  all_walked : (v : Text) (vs : List Text) → IsPlain (v ∷ vs) → walk (value_rule n ∷ []) [] nothing_held (v ∷ vs) ≡ filling (v ∷ vs)
  all_walked v vs p =
      ap (λ (x : Walk). fold (walked (value_rule n ∷ []) []) x vs) (first_walked v (first_plain v vs p))
      ∙ others_walked (v ∷ []) vs (others_plain v vs p)

  pub values_hold : (name : Text) (rest : List Text) → IsPlain rest → level (taking name n) rest ≡ [] → held_at (taking name n) rest ≡ name ∷ rest
  unfolding clap_on_literals
  values_hold name [] p h = absurd (not_nil _ _ h)
  values_hold name (v ∷ vs) p h =
      ap (λ (x : Walk). name ∷ values_in (finished (value_rule n ∷ []) x.held)) (all_walked v vs p) ∙ filling_holds n name v vs

  -- as many values as it has are taken
  first_turn : (name v : Text) → IsPlainWord v → turn_fault (taking name n) [] (walk_from nothing_held) v ≡ []
  first_turn name v p = plain_turn (taking name n) [] nothing_held 1 v p refl

  next_turn : (name : Text) (vs : List Text) (v : Text) → IsPlainWord v → turn_fault (taking name n) [] (filling vs) v ≡ []
  next_turn name vs v p = rw (p.pair, p.long, p.short, same, several) refl

  others_turn : (name : Text) (vs ws : List Text) → IsPlain ws → walk_fault (taking name n) [] (filling vs) ws ≡ []
  unfolding clap_on_literals
  others_turn name vs [] p = refl
  others_turn name vs (w ∷ ws) p =
      neither _ _ (next_turn name vs w (first_plain w ws p))
      (ap (λ (x : Walk). walk_fault (taking name n) [] x ws) (next_walked vs w (first_plain w ws p))
      ∙ others_turn name (vs ++ w ∷ []) ws (others_plain w ws p))

  all_turn : (name v : Text) (vs : List Text) → IsPlain (v ∷ vs) → walk_fault (taking name n) [] (walk_from nothing_held) (v ∷ vs) ≡ []
  unfolding clap_on_literals
  all_turn name v vs p =
      neither _ _ (first_turn name v (first_plain v vs p))
      (ap (λ (x : Walk). walk_fault (taking name n) [] x vs) (first_walked v (first_plain v vs p))
      ∙ others_turn name (v ∷ []) vs (others_plain v vs p))

  filling_passes : (name v : Text) (vs : List Text) → (n == length (v ∷ vs)) ≡ true → behind_values n name (filling (v ∷ vs)) ≡ []
  unfolding clap_on_literals
  filling_passes name v vs as_many = rw (same, as_many, any_text vs, not_zero (length vs), and_false (nat_lt 0 n)) refl

  pub values_taken : (name : Text) (rest : List Text) → IsPlain rest → (n == length rest) ≡ true → level (taking name n) rest ≡ []
  values_taken name [] p as_many = let zero : nat_lt 1 n ≡ false = grind (arith, nat_tests) in cc
  values_taken name (v ∷ vs) p as_many =
      neither _ _ (all_turn name v vs p) (ap (behind_values n name) (all_walked v vs p) ∙ filling_passes name v vs as_many)
