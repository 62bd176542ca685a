use Rattle.command_words.proofs.Readings.{number_finds}
use Rattle.command_words.proofs.reading.number_in.Goals as goal

pub returns : goal.returns
returns c = number_finds c.args.word.now c.number_of.result c.number_of.ensures
