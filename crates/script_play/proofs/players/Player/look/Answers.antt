use Rattle.std.proofs.Common.{Some, refl, sym, ap, subst}
use Rattle.drmaa_model.specs.declared.faults.NoEntry.TheVariants.{Nothing, NotYet as Waits, Journal}
use Rattle.drmaa_model.specs.declared.replies.Reply.{Reply}
use Rattle.drmaa_model.specs.History.{Ledger}
use Rattle.script_play.specs.Looks.{IsLook}
use Rattle.script_play.specs.View.{View, IsNoted, start_of}
use Rattle.script_play.specs.declared.players.Looked.TheVariants.{Done, NotYet}
use Rattle.script_play.proofs.Looking.{as_err, look_made, look_full, look_nothing, look_waits}
use Rattle.script_play.proofs.players.Player.look.Goals as goal

pub returns-in_ok-learn-in-Ok : goal.returns-in_ok-learn-in-Ok
returns-in_ok-learn-in-Ok c =
    (let v : View = record {
      ledger = c.self.inside.machine.ledger;
      start = start_of c.self.inside.before.value.ledger;
      moment = c.self.inside.moment;
      names = c.self.inside.names;
      attempts = c.self.inside.attempts;
      full = c.self.inside.full;
    } in
    let noted : IsNoted v = subst (λ (u : View). IsNoted u) (sym c.self.view_is) c.requires in
    let mid : View = record v { ledger = c.apply.new.self.ledger } in
    subst (λ (u : View). IsLook u c.args.caller c.args.line.now c.args.call Done c.learn.new.self) c.self.view_is
    (look_made v mid c.learn.new.self c.args.caller c.args.line.now c.args.call c.in-Ok.reply c.in-Ok.ensures.step c.in-Ok.ensures.entry refl c.in_ok-learn-in-Ok.ensures noted))

pub returns-in-Err-Nothing : goal.returns-in-Err-Nothing
returns-in-Err-Nothing c =
    (let v : View = record {
      ledger = c.self.inside.machine.ledger;
      start = start_of c.self.inside.before.value.ledger;
      moment = c.self.inside.moment;
      names = c.self.inside.names;
      attempts = c.self.inside.attempts;
      full = c.self.inside.full;
    } in
    let noted : IsNoted v = subst (λ (u : View). IsNoted u) (sym c.self.view_is) c.requires in
    let none = c.in-Err-Nothing in
    subst (λ (u : View). IsLook u c.args.caller c.args.line.now c.args.call Done (record v { ledger = c.apply.new.self.ledger })) c.self.view_is
    (look_nothing v (record v { ledger = c.apply.new.self.ledger }) c.args.caller c.args.line.now c.args.call (none.ensures.finds_nothing.0 (as_err {A = Reply} none.field-0 Nothing none.field-0-is))
    (ap (λ (k : Ledger). record v { ledger = k }) none.ensures.err) noted))

pub returns-in-Err-NotYet : goal.returns-in-Err-NotYet
returns-in-Err-NotYet c =
    (let v : View = record {
      ledger = c.self.inside.machine.ledger;
      start = start_of c.self.inside.before.value.ledger;
      moment = c.self.inside.moment;
      names = c.self.inside.names;
      attempts = c.self.inside.attempts;
      full = c.self.inside.full;
    } in
    let noted : IsNoted v = subst (λ (u : View). IsNoted u) (sym c.self.view_is) c.requires in
    let waits = c.in-Err-NotYet in
    subst (λ (u : View). IsLook u c.args.caller c.args.line.now c.args.call NotYet (record v { ledger = c.apply.new.self.ledger })) c.self.view_is
    (look_waits v (record v { ledger = c.apply.new.self.ledger }) c.args.caller c.args.line.now c.args.call (waits.ensures.waits.0 (as_err {A = Reply} waits.field-0 Waits waits.field-0-is))
    (ap (λ (k : Ledger). record v { ledger = k }) waits.ensures.err) noted))

pub returns-in-Err-Journal : goal.returns-in-Err-Journal
returns-in-Err-Journal c =
    (let v : View = record {
      ledger = c.self.inside.machine.ledger;
      start = start_of c.self.inside.before.value.ledger;
      moment = c.self.inside.moment;
      names = c.self.inside.names;
      attempts = c.self.inside.attempts;
      full = c.self.inside.full;
    } in
    let noted : IsNoted v = subst (λ (u : View). IsNoted u) (sym c.self.view_is) c.requires in
    let over = c.in-Err-Journal in
    subst (λ (u : View). IsLook u c.args.caller c.args.line.now c.args.call Done (record v { ledger = c.apply.new.self.ledger; full = Some over.size })) c.self.view_is
    (look_full v (record v { ledger = c.apply.new.self.ledger; full = Some over.size }) c.args.caller c.args.line.now c.args.call over.size (over.ensures.full over.size (as_err {A = Reply} over.field-0 (Journal over.size) over.field-0-is))
    (ap (λ (k : Ledger). record v { ledger = k; full = Some over.size }) over.ensures.err) noted))
