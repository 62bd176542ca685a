use Rattle.text_codec.proofs.laws.printed_is_read.Goals as goal

pub returns : goal.returns
returns g c = λ x rest v p. g.met.T.Form.laws.again x rest v p
