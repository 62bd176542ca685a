use Rattle.std.proofs.Common.{◌≡◌, ℕ, Option, Some, sym, ap, subst, codes, ◌∙◌}
use Rattle.text_codec.specs.Formats.{strip}
use Rattle.command_words.specs.Commands.{Finds}
use Rattle.command_words.proofs.Readings.{Moments, moment_finds, no_moment}
use Rattle.command_words.proofs.reading.moment_in.Goals as goal

pub returns-in_err-number_in : goal.returns-in_err-number_in
returns-in_err-number_in c =
    let w = c.args.word.now in
    let digits = c.in_ok-behind_key.field-0.now in
    let mark : Some digits ≡ strip (codes "@") w = c.in_ok-behind_key.ensures ∙ ap (strip (codes "@")) c.as_bytes.ensures.value in
    subst (λ (o : Option ℕ). Finds (Moments w) o) (sym c.from_residual-in_err-number_in.ensures) (no_moment w digits mark c.in_err-number_in.ensures)

pub returns : goal.returns
returns c =
    let w = c.args.word.now in
    let digits = c.in_ok-behind_key.field-0.now in
    let mark : Some digits ≡ strip (codes "@") w = c.in_ok-behind_key.ensures ∙ ap (strip (codes "@")) c.as_bytes.ensures.value in
    moment_finds w digits c.in_ok-number_in.field-0 c.new.result mark c.in_ok-number_in.ensures c.new.ensures
