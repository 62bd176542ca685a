use Rattle.std.proofs.Common.{refl}
use Rattle.std.proofs.lemmas.Result.{IfErr-at_err}
use Rattle.drmaa_types.specs.declared.refusals.Refusal.TheVariants as why
use Rattle.drmaa1_face.proofs.Timely.{reaping-never}
use Rattle.drmaa1_face.proofs.waiting.reap.Goals as goal

pub returns-clause-timely : goal.returns-clause-timely
returns-clause-timely g c is = reaping-never _ _ _ c.args.session c.args.job why.Timeout c.ask_for.ensures.legal (IfErr-at_err _ is c.ask_for.ensures.err) refl
