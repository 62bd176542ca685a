use Rattle.std.proofs.lemmas.Result.{err_from_is_err_and}
use Rattle.drmaa.proofs.Registering.{cannot, registered-one}
use Rattle.drmaa.proofs.hub_clients.register_number.Goals as goal

pub returns-in_err-given-clause-err : goal.returns-in_err-given-clause-err
returns-in_err-given-clause-err g c =
    let p = err_from_is_err_and c.from_residual.result c.from_residual.ensures.1 in
    rw (p.1, p.2) (cannot _ _ _ _ _ _ c.in_err-given.ensures.err)

pub returns-then-given-number-clause-ok : goal.returns-then-given-number-clause-ok
returns-then-given-number-clause-ok g c =
    let r = c.in_ok-given.ensures in
    registered-one g.B.Callback.counted g.B.Callback.told c.args.shared.now _ _ c.args.hub.now c.register.new.self c.args.hub_seat.now.client c.register.new.client c.in_ok-given.given c.args.number
    c.if-given-number.true c.requires.size r.client r.number r.own r.legal r.note r.ok r.place r.follows r.heard
