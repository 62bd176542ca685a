use Rattle.std.proofs.Common.{◌≡◌, sym, ap, subst, ◌∙◌}
use Rattle.change_callbacks.specs.Ears.{silent}
use Rattle.script_text.specs.declared.scripts.Mode.TheVariants as mode
use Rattle.soak.proofs.soaks.played.Goals as goal

pub play-requires-clause-playable : goal.play-requires-clause-playable
play-requires-clause-playable c = c.each_script_can_be_played.ensures mode.Serial c.requires.0 c.args.script.now c.requires.1
