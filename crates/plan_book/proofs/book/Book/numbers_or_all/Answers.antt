use Rattle.std.proofs.Common.{◌≡◌, Option, Some, subst}
use Rattle.std.specs.Prelude.{IfSome}
use Rattle.plan_book.specs.declared.spans.NumberRange.{NumberRange}
use Rattle.plan_book.specs.Book.{plan_of}
use Rattle.plan_book.specs.Numbers.{HasNumbersOf}
use Rattle.plan_book.proofs.SpanLaws.{numbers-of_all}
use Rattle.plan_book.proofs.book.Book.numbers_or_all.Goals as goal

pub returns-in-Some : goal.returns-in-Some
returns-in-Some c = λ test has.
    (let is = c.in-Some.is in
    let some : c.args.range ≡ Some c.in-Some.range = cc in
    subst (λ (o : Option NumberRange). IfSome o (HasNumbersOf test (plan_of c.args.self.now).rows)) some has)

pub returns-in-None : goal.returns-in-None
returns-in-None c = λ test has. numbers-of_all c.args.self.now.next_job (plan_of c.args.self.now).rows c.requires.book.fit.jobs.below test
