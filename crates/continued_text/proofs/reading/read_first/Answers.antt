use Rattle.std.proofs.Common.{Result, Ok, Err, OnOk}
use Rattle.std.specs.Prelude.{IfOk}
use Rattle.text_lines.specs.Lines.{unskipped_lines, whole_lines}
use Rattle.continued_text.specs.Texts.{Spells, byte_limit}
use Rattle.continued_text.specs.TextLaws.{text_lines_are, spelled_so, if_ok}
use Rattle.continued_text.proofs.reading.read_first.Goals as goal

pub returns-clause-whole : goal.returns-clause-whole
returns-clause-whole c = on_true c.read_lines.result c.within_limit-is_all.ensures.whole c.read_lines.ensures.whole
  where
    on_true : {A E : Type 0} {P Q : Type 0} (r : Result A E) → (P → Q) → OnOk r P → OnOk r Q
    on_true (Ok x) f h = f h
    on_true (Err e) f h = tt

spelled : (c : goal.After-read_lines) → IfOk c.read_lines.result (λ x. Spells (whole_lines c.within_limit-is_all.result.0.now) x)
spelled c = spelled_so c.within_limit-is_all.result.0.now c.within_limit-is_all.result.1 c.read_lines.result c.read_lines.ensures.whole c.read_lines.ensures.found

pub returns-clause-writable : goal.returns-clause-writable
returns-clause-writable c = if_ok _ _ c.read_lines.result (λ x s. s.journal.writable) (spelled c)

pub returns-clause-serial : goal.returns-clause-serial
returns-clause-serial c = if_ok _ _ c.read_lines.result (λ x s. (unskipped_lines s.script_lines, s.script.spelled)) (spelled c)

pub returns-clause-same : goal.returns-clause-same
returns-clause-same c = if_ok _ _ c.read_lines.result (λ x s. s.same) (spelled c)

pub returns-clause-found : goal.returns-clause-found
returns-clause-found c = λ all f. if_ok _ _ c.read_lines.result (λ x t. (text_lines_are all x).1 t) (c.read_lines.ensures.found (byte_limit all) all (c.within_limit-is_all.ensures.front all f))

pub returns-clause-only : goal.returns-clause-only
returns-clause-only c = λ all x f t. c.read_lines.ensures.only (byte_limit all) all x (c.within_limit-is_all.ensures.front all f) ((text_lines_are all x).0 t)

pub returns-clause-line : goal.returns-clause-line
returns-clause-line c = λ all n f e. c.read_lines.ensures.line (byte_limit all) all n (c.within_limit-is_all.ensures.front all f) e
