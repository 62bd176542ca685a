use Rattle.std.proofs.Common.{List, sym, subst}
use Rattle.script_commands.specs.Registers.{AreReturned}
use Rattle.script_commands.proofs.Returned.{returned_same}
use Rattle.drmaa_script.proofs.commands.run_deaf.Goals as goal

pub returns-clause-returned : goal.returns-clause-returned
returns-clause-returned g c =
    subst (λ (bs : List g.row.B.Denot). AreReturned g.B.Callback.counted g.B.Callback.told c.args.callbacks bs) (sym c.without_clocks.ensures.callbacks) (returned_same g.B.Callback.counted g.B.Callback.told c.args.callbacks)
