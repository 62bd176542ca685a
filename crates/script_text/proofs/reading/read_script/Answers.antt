use Rattle.script_text.proofs.reading.read_script.Goals as goal

pub returns-clause-found : goal.returns-clause-found
returns-clause-found c = c.read_text.ensures.found

pub returns-clause-only : goal.returns-clause-only
returns-clause-only c = c.read_text.ensures.only

pub returns-clause-line : goal.returns-clause-line
returns-clause-line c = c.read_text.ensures.line
