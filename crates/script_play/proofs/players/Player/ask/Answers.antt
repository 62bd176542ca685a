use Rattle.std.proofs.Common.{◌≡◌, ℕ, List, Option, IfOk, sym, ap, subst, ◌∙◌}
use Rattle.drmaa_model.specs.declared.calls.Call.{Call}
use Rattle.script_asks.specs.declared.given.Given.{Given}
use Rattle.script_asks.specs.Asks.{asks}
use Rattle.script_asks.specs.Attempts.{attempt_in}
use Rattle.script_play.specs.Looks.{asks_from}
use Rattle.script_play.specs.View.{View, IsNoted, start_of}
use Rattle.script_play.proofs.Looking.{asks_same}
use Rattle.script_play.proofs.players.Player.ask.Goals as goal

pub returns : goal.returns
returns c =
    (let script = c.args.script.now in
    let line = c.args.line.now in
    let v : View = record {
      ledger = c.self.inside.machine.ledger;
      start = start_of c.self.inside.before.value.ledger;
      moment = c.self.inside.moment;
      names = c.self.inside.names;
      attempts = c.self.inside.attempts;
      full = c.self.inside.full;
    } in
    subst (λ (x : Option Call). IfOk c.ask.result (λ call. call ≡ x))
    (ap (λ (names : List (List ℕ × Given)). asks script names (attempt_in c.self.inside.attempts) c.args.begun line) c.given.ensures
    ∙ asks_same script v c.args.begun line (subst (λ (u : View). IsNoted u) (sym c.self.view_is) c.requires)
    ∙ ap (λ (u : View). asks_from script u c.args.begun line) c.self.view_is)
    c.ask.ensures)
