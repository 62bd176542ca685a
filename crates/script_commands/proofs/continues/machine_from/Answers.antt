use Rattle.std.proofs.Common.{Result, Ok, Err, subst}
use Rattle.std.specs.Prelude.{IfOk, OnOk}
use Rattle.drmaa_model.specs.History.{Ledger, IsLegal}
use Rattle.script_text.specs.declared.scripts.Mode.TheVariants as mode
use Rattle.journal_commands.specs.Replays.{AreRecorded}
use Rattle.script_commands.proofs.Continuing.{continued_printable}
use Rattle.script_commands.proofs.continues.machine_from.Goals as goal

-- what three things that are true of a value that was made say together
on_three : {A E : Type 0} (r : Result A E) (P Q R : A → Type 0) (W : Type 0) → ((a : A) → P a → Q a → R a → W) → IfOk r P → IfOk r Q → IfOk r R → OnOk r W
on_three (Ok a) P Q R W f p q s = f a p q s
on_three (Err e) P Q R W f p q s = tt

pub returns-clause-few : goal.returns-clause-few
returns-clause-few c = (c.each_script_can_be_played.ensures mode.Serial c.requires.spelled.0 c.args.script.now c.requires.spelled.1).few

pub returns-clause-printable : goal.returns-clause-printable
returns-clause-printable c =
    let j = c.args.journal in
    on_three c.revive.result _ _ _ _ (λ m is legal keep.
    continued_printable j c.args.script.now c.requires.spelled.0 c.requires.spelled.1 c.requires.same c.requires.writable
    (subst (λ (l : Ledger). IsLegal l.config l.history) is legal) (subst (λ (l : Ledger). AreRecorded l.history) is keep)) c.revive.ensures.ok c.revive.ensures.legal_still c.revive.ensures.recorded
