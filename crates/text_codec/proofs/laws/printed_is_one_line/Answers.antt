use Rattle.text_codec.proofs.laws.printed_is_one_line.Goals as goal

pub returns-clause-utf8 : goal.returns-clause-utf8
returns-clause-utf8 g c = λ x v. (g.met.T.Form.laws.clean x v).utf8

pub returns-clause-one : goal.returns-clause-one
returns-clause-one g c = λ x v. (g.met.T.Form.laws.clean x v).one_line
