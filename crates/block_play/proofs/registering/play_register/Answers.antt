use Rattle.std.proofs.Common.{rules, ◌≡◌, refl}
use Rattle.std.proofs.lemmas.Result.{IfErr-at_err}
use Rattle.drmaa_types.specs.declared.refusals.Limit.TheVariants as limit
use Rattle.drmaa_types.specs.declared.refusals.Refusal.TheVariants.{OutOfResource}
use Rattle.block_play.proofs.Made.{still-at}
use Rattle.block_play.proofs.Registered.{register-on, registers-line, refuses-line, fills-line, lacks-line}
use Rattle.block_play.proofs.registering.play_register.Goals as goal

pub returns-in-Ok : goal.returns-in-Ok
returns-in-Ok g c =
    let old = c.args.desk.now in
    let client = c.register.new.client in
    let r = c.register.ensures in
    record {
      line = λ script. record {
        desk = still-at old.shared.now old.shared.now old.client client refl r.client r.number r.begins r.own r.legal;
        timed = r.timed;
        ok = λ before early. registers-line script c.args.names before old.shared.now.fixed _ _ old.client client c.in-Ok.field-0 c.in-Ok.ensures.ok;
        err = tt;
      };
      hub = register-on old.shared.now _ _ c.args.hub.now c.register.new.self old.client client c.register.result c.requires.size r.ok r.err r.note r.place r.unplaced r.follows r.heard r.legal;
    }

pub returns-in-Err-OutOfResource-Callbacks : goal.returns-in-Err-OutOfResource-Callbacks
returns-in-Err-OutOfResource-Callbacks g c =
    let old = c.args.desk.now in
    let client = c.register.new.client in
    let r = c.register.ensures in
    let why = c.in-Err-OutOfResource-Callbacks in
    let same : why.field-0 ≡ OutOfResource limit.Callbacks = search rules in
    record {
      line = λ script. record {
        desk = still-at old.shared.now old.shared.now old.client client refl r.client r.number r.begins r.own r.legal;
        timed = r.timed;
        ok = λ before early. refuses-line script c.args.names before old.shared.now.fixed _ _ old.client client why.field-0 same (IfErr-at_err _ why.is r.err);
        err = tt;
      };
      hub = register-on old.shared.now _ _ c.args.hub.now c.register.new.self old.client client c.register.result c.requires.size r.ok r.err r.note r.place r.unplaced r.follows r.heard r.legal;
    }

pub returns-in-Err-OutOfResource-Journal : goal.returns-in-Err-OutOfResource-Journal
returns-in-Err-OutOfResource-Journal g c =
    let old = c.args.desk.now in
    let client = c.register.new.client in
    let r = c.register.ensures in
    let why = c.in-Err-OutOfResource-Journal in
    let same : why.field-0 ≡ OutOfResource (limit.Journal why.size) = search rules in
    record {
      line = λ script. record {
        desk = still-at old.shared.now old.shared.now old.client client refl r.client r.number r.begins r.own r.legal;
        timed = r.timed;
        ok = tt;
        err = λ before early. fills-line script c.args.names before old.shared.now.fixed _ _ old.client client why.field-0 why.size early same (IfErr-at_err _ why.is r.err);
      };
      hub = register-on old.shared.now _ _ c.args.hub.now c.register.new.self old.client client c.register.result c.requires.size r.ok r.err r.note r.place r.unplaced r.follows r.heard r.legal;
    }

pub returns-in-Err : goal.returns-in-Err
returns-in-Err g c =
    let old = c.args.desk.now in
    let client = c.register.new.client in
    let r = c.register.ensures in
    record {
      line = λ script. record {
        desk = still-at old.shared.now old.shared.now old.client client refl r.client r.number r.begins r.own r.legal;
        timed = r.timed;
        ok = tt;
        err = λ before early. lacks-line script c.args.names before old.shared.now.fixed _ _ old.client client c.in-Err.field-0 (IfErr-at_err _ c.in-Err.is r.err);
      };
      hub = register-on old.shared.now _ _ c.args.hub.now c.register.new.self old.client client c.register.result c.requires.size r.ok r.err r.note r.place r.unplaced r.follows r.heard r.legal;
    }
