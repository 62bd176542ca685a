use Rattle.text_codec.specs.FormatLaws.{line_found, one_spelled}
use Rattle.text_codec.proofs.laws.one_spelling.Goals as goal

pub returns-clause-line : goal.returns-clause-line
returns-clause-line g c = λ line x e. (line_found g.T.Form.form g.met.T.Form.laws line x e).1

pub returns-clause-value : goal.returns-clause-value
returns-clause-value g c = λ x y v w e. one_spelled g.T.Form.form g.met.T.Form.laws x y v w e
