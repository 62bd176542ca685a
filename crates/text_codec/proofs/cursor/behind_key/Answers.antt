use Rattle.std.proofs.lemmas.Slice.Eq.{strip_prefix_is}
use Rattle.std.proofs.lemmas.Bool.Decides.{Decides-eqb}
use Rattle.text_codec.proofs.Readers.{strip_is}
use Rattle.text_codec.proofs.cursor.behind_key.Goals as goal

pub returns : goal.returns
returns c = strip_is c.args.bytes.now c.args.key.now c.strip_prefix.result (strip_prefix_is Decides-eqb c.args.bytes.now c.args.key.now c.strip_prefix.result c.strip_prefix.ensures.cases)
