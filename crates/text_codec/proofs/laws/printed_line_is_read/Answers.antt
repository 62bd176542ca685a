use Rattle.text_codec.specs.FormatLaws.{line_again}
use Rattle.text_codec.proofs.laws.printed_line_is_read.Goals as goal

pub returns : goal.returns
returns g c = λ x v. line_again g.T.Form.form g.met.T.Form.laws x v
