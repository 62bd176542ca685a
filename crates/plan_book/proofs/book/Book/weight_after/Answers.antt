use Rattle.std.proofs.Common.{arith}
use Rattle.plan_book.proofs.book.Book.weight_after.Goals as goal

pub overflow_sub-result : goal.overflow_sub-result
overflow_sub-result c = omega (arith, c.requires.promised, c.weight.ensures, c.room_of-2.ensures.value)

pub returns : goal.returns
returns c = omega (arith, c.weight.ensures, c.room_of.ensures.value, c.room_of-2.ensures.value, c.changed.ensures.value)
