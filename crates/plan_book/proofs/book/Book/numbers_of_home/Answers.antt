use Rattle.std.proofs.Common.{◌≡◌, ℕ, Option, Some, None, sym, subst}
use Rattle.drmaa_model.specs.declared.rows.Row.{Row}
use Rattle.drmaa_model.specs.Homes.{is_same_home}
use Rattle.plan_book.specs.Book.{plan_of}
use Rattle.plan_book.specs.Numbers.{HasNumbersOf}
use Rattle.plan_book.proofs.SpanLaws.{numbers-of_none}
use Rattle.plan_book.proofs.book.Book.numbers_of_home.Goals as goal

pub returns-in-Some : goal.returns-in-Some
returns-in-Some c =
    (let is = c.in-Some.is in
    let some : c.args.home ≡ Some c.in-Some.home = cc in
    subst (λ (o : Option ℕ). HasNumbersOf (λ (row : Row). is_same_home o row.home) (plan_of c.args.self.now).rows c.numbers_or_all.result) (sym some)
    (c.numbers_or_all.ensures (λ (row : Row). is_same_home (Some c.in-Some.home) row.home) c.numbers_of_home.ensures))

pub returns-in-None : goal.returns-in-None
returns-in-None c =
    (let is = c.in-None.is in
    let none : c.args.home ≡ None = cc in
    subst (λ (o : Option ℕ). HasNumbersOf (λ (row : Row). is_same_home o row.home) (plan_of c.args.self.now).rows c.no_numbers.result) (sym none)
    (numbers-of_none (plan_of c.args.self.now).rows c.no_numbers.result))
