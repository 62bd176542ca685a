use Rattle.script_text.specs.declared.scripts.Mode.TheVariants as mode
use Rattle.script_commands.proofs.plays.machine_for.Goals as goal

pub new_machine-requires : goal.new_machine-requires
new_machine-requires c = c.each_script_can_be_played.ensures mode.Serial c.requires.0 c.args.script.now c.requires.1

pub returns-clause-few : goal.returns-clause-few
returns-clause-few c = (c.each_script_can_be_played.ensures mode.Serial c.requires.0 c.args.script.now c.requires.1).few

pub returns-clause-printable : goal.returns-clause-printable
returns-clause-printable c = c.a_play_is_printable.ensures mode.Serial c.requires.0 c.args.script.now c.requires.1
