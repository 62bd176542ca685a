use Rattle.std.proofs.Common.{◌≡◌, ℕ, List, [], IfOk, map, sym, ap, subst, ◌∙◌, inl, inr}
use Rattle.clap.specs.Words.{Kinds, HasKind, fault_of, subcommand_of, subcommand_rows_of, is_simple_and_free, is_simple}
use Rattle.command_words.specs.Commands.{AsksFor, Finds, IsPlain}
use Rattle.command_words.specs.Grammar.{program, words_in}
use Rattle.command_words.proofs.Entering.{is_free, is_simple_app}
use Rattle.command_words.proofs.Walks.{held, passes}
use Rattle.command_words.proofs.asking.asked.Goals as goal
use Rattle.command_words.proofs.asking.asked.Goals.{In-Ok}

-- the matches hold the words
same_words : (c : In-Ok) → words_in (subcommand_rows_of c.in-Ok.matches) ≡ map (λ w. w.now) c.args.words.now
same_words c =
    let ws = map (λ w. w.now) c.args.words.now in
    let is = c.in_ok-program.ensures in
    let faultless : fault_of program ws ≡ [] = ap (λ a. fault_of a ws) (sym is) ∙ c.in-Ok.ensures.kinds (ap is_simple_and_free is ∙ is_free) in
    let rows = (c.in-Ok.ensures.matches (ap is_simple is ∙ is_simple_app)).1 ∙ ap (λ a. subcommand_of a ws) is in
    ap words_in rows ∙ held ws c.requires faultless

pub command_in-requires : goal.command_in-requires
command_in-requires c = subst IsPlain (sym (same_words (goal.at.command_in-requires c).In-Ok)) c.requires

pub returns-in-Ok : goal.returns-in-Ok
returns-in-Ok c =
    subst (λ (x : List (List ℕ)). IfOk c.command_in.result (Finds (AsksFor x))) (same_words (goal.at.returns-in-Ok c).In-Ok) c.command_in.ensures

pub returns : goal.returns
returns c =
    let ws = map (λ w. w.now) c.args.words.now in
    let is = c.in_ok-program.ensures in
    let kinds = c.in-Err.ensures.kinds (ap is_simple_and_free is ∙ is_free) in
    λ command asks.
    let faultless : fault_of program ws ≡ [] = ap (fault_of program) asks.1 ∙ passes command (subst IsPlain asks.1 c.requires) in
    elim (subst (λ (ks : Kinds). HasKind ks c.in-Err.error) (ap (λ a. fault_of a ws) is ∙ faultless) kinds) [
      | inl memory ↦ c.in_default.not-OutOfMemory (c.kind.ensures ∙ memory)
      | inr among ↦ among
    ]
