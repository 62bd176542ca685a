use Rattle.std.proofs.Common.{◌≡◌, ℕ, min, length, take, ap, ◌∙◌, arith}
use Rattle.std.proofs.lemmas.List.{take_min}
use Rattle.script_play.proofs.players.first_64.Goals as goal

pub returns-clause-value : goal.returns-clause-value
returns-clause-value c =
    let all = c.args.changes.now in
    let fewer : c.min.result ≡ min 64 (length all) = omega (arith, c.min.ensures) in
    ap (λ (n : ℕ). take n all) fewer ∙ take_min 64 all
