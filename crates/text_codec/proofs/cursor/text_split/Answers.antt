use Rattle.text_codec.proofs.Readers.{text_answer}
use Rattle.text_codec.proofs.cursor.text_split.Goals as goal

pub returns : goal.returns
returns c = text_answer c.args.bytes.now c.text_at.result c.text_at.ensures.found c.text_at.ensures.only
