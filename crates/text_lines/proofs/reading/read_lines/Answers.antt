use Rattle.std.proofs.Common.{◌≡◌, ◌<◌, List, ℕ, true, false, length, sym, ap, ◌∙◌, subst, inl, Ok, arith}
use Rattle.std.proofs.lemmas.Bool.Decides.{nat_tests}
use Rattle.std.proofs.lemmas.Option.{none-some}
use Rattle.text_lines.specs.Lines.{IsFront, IsTextOf, IsFirstBad}
use Rattle.text_lines.specs.Automata.{from}
use Rattle.text_lines.proofs.Steps.{stop_at_line, cut_off, unfinished, too_early, done, refused_line, one_line_more, smaller}
use Rattle.text_lines.proofs.reading.read_lines.Goals as goal
use Rattle.text_lines.proofs.reading.read_lines.Given as given

bad_line : (g : given.Over) (c : goal.In_default-2 g) (limit : ℕ) (all : List ℕ) → IsFront limit all c.args.front.now c.args.whole → IsFirstBad (g.R.LineReader.stepping.Spells c.args.first) limit all c.loop-line.number
bad_line g c limit all f =
    stop_at_line (from g.R.LineReader.stepping c.args.first) (g.met.R.LineReader.reads c.args.first c.requires.first) c.args.front.now c.loop-line.rest.now c.in-Some.line.now c.in-Some.behind.now c.loop-line.reader c.loop-line.number c.args.whole c.loop-line.invariant c.in-Some.ensures
    (λ to g. none-some to (sym c.in_default-2.is ∙ c.in_ok-next.ensures.only to g)) limit all f

pub returns-in_default-2-clause-only : goal.returns-in_default-2-clause-only
returns-in_default-2-clause-only g c = λ limit all text f t. absurd ((bad_line g c limit all f).none text t)

pub returns-in_default-2-clause-line : goal.returns-in_default-2-clause-line
returns-in_default-2-clause-line g c = λ limit all n f e. refused_line (from g.R.LineReader.stepping c.args.first) (g.met.R.LineReader.reads c.args.first c.requires.first) c.loop-line.number n limit all (bad_line g c limit all f) e

pub loop-line-smaller : goal.loop-line-smaller
loop-line-smaller g c = smaller c.loop-line.rest.now c.in-Some.line.now c.in-Some.behind.now c.in-Some.ensures

pub loop-line-preserved : goal.loop-line-preserved
loop-line-preserved g c =
    one_line_more (from g.R.LineReader.stepping c.args.first) (g.met.R.LineReader.reads c.args.first c.requires.first) c.args.front.now c.loop-line.rest.now c.in-Some.line.now c.in-Some.behind.now c.loop-line.reader c.in-Some-2.next c.loop-line.number c.loop-line.invariant c.in-Some.ensures
    (rw c.in-Some-2.is at c.in_ok-next.ensures.goes) (λ to g. sym c.in-Some-2.is ∙ c.in_ok-next.ensures.only to g)

pub returns-then-not-whole-clause-line : goal.returns-then-not-whole-clause-line
returns-then-not-whole-clause-line g c = λ limit all n f e.
    let cut : IsFront limit all c.args.front.now false = subst (IsFront limit all c.args.front.now) c.if-not-whole.true f in
    refused_line (from g.R.LineReader.stepping c.args.first) (g.met.R.LineReader.reads c.args.first c.requires.first) c.loop-line.number n limit all (cut_off (from g.R.LineReader.stepping c.args.first) (g.met.R.LineReader.reads c.args.first c.requires.first) c.args.front.now c.loop-line.rest.now c.loop-line.reader c.loop-line.number c.loop-line.invariant c.in_default.ensures limit all cut) e

bad_piece : (g : given.Over) (c : goal.After-drop-reader-then-not-is_empty g) (limit : ℕ) (all : List ℕ) → IsFront limit all c.args.front.now c.args.whole → IsFirstBad (g.R.LineReader.stepping.Spells c.args.first) limit all c.loop-line.number
bad_piece g c limit all f =
    let some : 0 < length c.loop-line.rest.now = grind (arith, nat_tests) in
    unfinished (from g.R.LineReader.stepping c.args.first) (g.met.R.LineReader.reads c.args.first c.requires.first) c.args.front.now c.loop-line.rest.now c.loop-line.reader c.loop-line.number c.args.whole c.loop-line.invariant c.in_default.ensures some limit all f

pub returns-then-not-is_empty-clause-only : goal.returns-then-not-is_empty-clause-only
returns-then-not-is_empty-clause-only g c = λ limit all text f t. absurd ((bad_piece g c limit all f).none text t)

pub returns-then-not-is_empty-clause-line : goal.returns-then-not-is_empty-clause-line
returns-then-not-is_empty-clause-line g c = λ limit all n f e. refused_line (from g.R.LineReader.stepping c.args.first) (g.met.R.LineReader.reads c.args.first c.requires.first) c.loop-line.number n limit all (bad_piece g c limit all f) e

read_whole : (g : given.Over) (c : goal.In-Some-ends g) (limit : ℕ) (all : List ℕ) → IsFront limit all c.args.front.now c.args.whole → IsTextOf (g.R.LineReader.stepping.Spells c.args.first) limit all c.in-Some-ends.text × ((s : _) → IsTextOf (g.R.LineReader.stepping.Spells c.args.first) limit all s → s ≡ c.in-Some-ends.text)
read_whole g c limit all f =
    let no_bytes : length c.loop-line.rest.now ≡ 0 = grind (arith, nat_tests) in
    let whole : IsFront limit all c.args.front.now true = subst (IsFront limit all c.args.front.now) c.if-not-whole.false f in
    done (from g.R.LineReader.stepping c.args.first) (g.met.R.LineReader.reads c.args.first c.requires.first) c.args.front.now c.loop-line.rest.now c.loop-line.reader c.loop-line.number c.in-Some-ends.text c.loop-line.invariant c.in_default.ensures no_bytes c.in-Some-ends.ensures limit all whole

pub returns-in-Some-ends-clause-found : goal.returns-in-Some-ends-clause-found
returns-in-Some-ends-clause-found g c = λ limit all f. (read_whole g c limit all f).0

pub returns-in-Some-ends-clause-only : goal.returns-in-Some-ends-clause-only
returns-in-Some-ends-clause-only g c = λ limit all text f t. inl (ap (λ s. Ok s) (sym ((read_whole g c limit all f).1 text t)))

bad_end : (g : given.Over) (c : goal.In-None g) (limit : ℕ) (all : List ℕ) → IsFront limit all c.args.front.now c.args.whole → IsFirstBad (g.R.LineReader.stepping.Spells c.args.first) limit all c.loop-line.number
bad_end g c limit all f = too_early (from g.R.LineReader.stepping c.args.first) (g.met.R.LineReader.reads c.args.first c.requires.first) c.args.front.now c.loop-line.rest.now c.loop-line.reader c.loop-line.number c.args.whole c.loop-line.invariant c.in_default.ensures c.in-None.ensures limit all f

pub returns-in-None-clause-only : goal.returns-in-None-clause-only
returns-in-None-clause-only g c = λ limit all text f t. absurd ((bad_end g c limit all f).none text t)

pub returns-in-None-clause-line : goal.returns-in-None-clause-line
returns-in-None-clause-line g c = λ limit all n f e. refused_line (from g.R.LineReader.stepping c.args.first) (g.met.R.LineReader.reads c.args.first c.requires.first) c.loop-line.number n limit all (bad_end g c limit all f) e
