use Rattle.std.proofs.Common.{rules}
use Rattle.text_codec.proofs.Readers.{number_exact}
use Rattle.text_codec.proofs.cursor.number_of.Goals as goal

pub returns : goal.returns
returns c = number_exact c.args.word.now c.number_in.result (search rules) c.number_in.ensures.found c.number_in.ensures.only
