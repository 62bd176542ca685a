use Rattle.std.proofs.Common.{◌≡◌, ℕ, List, [], ◌∷◌, map, IfOk, Option, Some, unwrap_or, codes, sym, ap, subst, ◌∙◌}
use Rattle.clap.specs.Words.{found_of, rows_of, subcommand_rows_of}
use Rattle.clap.proofs.WalkLemmas.{raw_values-rows}
use Rattle.command_words.specs.Commands.{AsksFor, Finds, IsPlain}
use Rattle.command_words.specs.Grammar.{values_in, words_in}
use Rattle.command_words.proofs.Readings.{pair_by}
use Rattle.command_words.proofs.asking.command_in.Goals as goal
use Rattle.command_words.proofs.asking.command_in.Goals.{In-Some-get_strs}

-- the matches hold the name and the values
same_words : (c : In-Some-get_strs) → c.in-Some.name.now ∷ map (λ v. v.now) c.in-Some-get_strs.values.now ≡ words_in (subcommand_rows_of c.args.matches.now)
same_words c =
    let name = c.in-Some.name.now in
    let found = found_of c.in-Some.found.now in
    let is : subcommand_rows_of c.args.matches.now ≡ Some (name, rows_of found) = pair_by _ _ _ name (rows_of found) c.in-Some.ensures.name c.in-Some.ensures.rows in
    let values : map (λ v. v.now) c.in-Some-get_strs.values.now ≡ values_in (rows_of found) =
    ap (λ (o : Option (List (List ℕ))). unwrap_or o []) (c.in-Some-get_strs.ensures ∙ raw_values-rows found (codes "values")) in
    ap (λ (vs : List (List ℕ)). name ∷ vs) values ∙ sym (ap words_in is)

pub read_command-requires : goal.read_command-requires
read_command-requires c = subst IsPlain (sym (same_words (goal.at.read_command-requires c).In-Some-get_strs)) c.requires

pub returns-in-Some-get_strs : goal.returns-in-Some-get_strs
returns-in-Some-get_strs c =
    let words = same_words (goal.at.returns-in-Some-get_strs c).In-Some-get_strs in
    subst (λ (x : List (List ℕ)). IfOk c.read_command.result (Finds (AsksFor x))) words c.read_command.ensures

-- or the name alone
pub returns-in-None-get_strs : goal.returns-in-None-get_strs
returns-in-None-get_strs c =
    let name = c.in-Some.name.now in
    let found = found_of c.in-Some.found.now in
    let is : subcommand_rows_of c.args.matches.now ≡ Some (name, rows_of found) = pair_by _ _ _ name (rows_of found) c.in-Some.ensures.name c.in-Some.ensures.rows in
    let values : [] ≡ values_in (rows_of found) =
    ap (λ (o : Option (List (List ℕ))). unwrap_or o []) (c.in-None-get_strs.ensures ∙ raw_values-rows found (codes "values")) in
    subst (λ (x : List (List ℕ)). IfOk c.read_command-in-None-get_strs.result (Finds (AsksFor x)))
    (ap (λ (vs : List (List ℕ)). name ∷ vs) values ∙ sym (ap words_in is)) c.read_command-in-None-get_strs.ensures
