use Rattle.script_text.proofs.reading.read_first.Goals as goal

pub returns-clause-whole : goal.returns-clause-whole
returns-clause-whole c = c.read_lines.ensures.whole

pub returns-clause-found : goal.returns-clause-found
returns-clause-found c = λ all f. c.read_lines.ensures.found 16_777_216 all f

pub returns-clause-only : goal.returns-clause-only
returns-clause-only c = λ all script f t. c.read_lines.ensures.only 16_777_216 all script f t

pub returns-clause-line : goal.returns-clause-line
returns-clause-line c = λ all n f e. c.read_lines.ensures.line 16_777_216 all n f e
